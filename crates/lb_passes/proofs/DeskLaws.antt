-- A call of a desk over pass books, told as that of any desk.
use Rattle.std.proofs.Common.{◌≡◌, ℕ, ◌<◌, ◌≤◌, false, List, [], ◌∷◌, ◌++◌, length, Some, None, Result, Ok, Err, refl, sym, ap, ◌∙◌, subst, inl, inr, arith, length-append}
use Rattle.std.specs.Prelude.{IfOk, IfErr, OnOk, slice_index}
use Rattle.std.specs.List.{All}
use Rattle.std.proofs.lemmas.List.{append-nil}
use Rattle.std.proofs.lemmas.List.Elements.{All-nil}
use Rattle.lb_model.specs.Free.{is_in}
use Rattle.lb_model.specs.Journal.{members}
use Rattle.lb_model.specs.declared.ask.Ask.{Ask}
use Rattle.lb_model.specs.declared.change.Command.{Command}
use Rattle.lb_model.specs.declared.journal.Answer.{Answer}
use Rattle.lb_model.specs.declared.journal.Answer.TheVariants as answer
use Rattle.lb_model.specs.declared.journal.Entry.{Entry}
use Rattle.lb_model.specs.declared.journal.Outcome.{Outcome}
use Rattle.lb_model.specs.declared.refusal.AdminError.{AdminError}
use Rattle.lb_model.specs.declared.refusal.AdminError.TheVariants as admin
use Rattle.lb_model.specs.declared.refusal.FullMark.{FullMark}
use Rattle.lb_model.specs.declared.refusal.RoomError.{RoomError}
use Rattle.lb_model.specs.declared.refusal.RoomError.TheVariants as room
use Rattle.lb_model.specs.declared.view.View.{View}
use Rattle.jk_io.specs.declared.failures.NoMemory.{NoMemory}
use Rattle.lb_book.specs.Commanded.{IsKnown}
use Rattle.lb_book.proofs.PlainLaws.{own_one}
use Rattle.lb_book.specs.Desks.{Chooses, Commands, Gains, GainsDue, GainsLast, IsAskRefusal, IsChoice, IsCommandRefusal, IsOwn, KeepsDesk, RefusesChoice, RefusesCommand, Shows, TakesBack}
use Rattle.lb_book.specs.Journal.{Journal}
use Rattle.lb_book.specs.PlainDesks.{BookGainsDue, BookGainsLast, CountsFull, CountsRefusal, Picks, receipt_of}
use Rattle.lb_book.specs.PlainLeases.{IsChosenFor, note_of, pairs_in}
use Rattle.lb_book.specs.ToldBooks.{AreSound, IsFound}
use Rattle.lb_book.specs.declared.desk.Choice.{Choice}
use Rattle.lb_book.specs.declared.desk.Choice.TheVariants as choice
use Rattle.lb_book.specs.declared.plain_desk.PlainLease.{PlainLease}
use Rattle.lb_book.specs.declared.receipt.Receipt.{Receipt}
use Rattle.lb_passes.specs.declared.pass_view.PassView.{PassView}
use Rattle.lb_book.proofs.HistoryLaws.{whole_members}
use Rattle.lb_passes.specs.Calls.{CallChooses, CallCommands, CallDenies, CallRefuses}
use Rattle.lb_passes.specs.Holds.{Looks, ReturnsInTurn, TakesTurn, gained_in}
use Rattle.lb_passes.specs.PassDesks.{pass_state}
use Rattle.lb_passes.specs.declared.desk_lists.DeskLists.{DeskLists}

none_told : {X : Type 0} (b : Journal) → None ≡ Some b → X
none_told b never = absurd cc

pub none_sound : (sizes : List ℕ) → AreSound sizes None
none_sound sizes = record { sound = λ lb b never. none_told b never; sized = λ told never. absurd cc }

-- A desk after a call that counted what it refused.
pub keeps_desk : (number : ℕ) (sizes sizes' : List ℕ) (r r' : List Receipt) (h h' : List (ℕ × ℕ)) (f f' w w' : ℕ) → sizes' ≡ sizes → f ≤ f' → w ≤ w'
    → KeepsDesk (pass_state number sizes r h f w) (pass_state number sizes' r' h' f' w')
keeps_desk number sizes sizes' r r' h h' f f' w w' same fulls wides = record {
  caller = refl;
  sizes = same;
  parts = refl;
  strays = omega arith;
  fulls = fulls;
  wides = wides;
  met = λ stray is. is;
  sound_before = none_sound sizes;
  sound = none_sound sizes';
}

module _ (number : ℕ) (sizes sizes' : List ℕ) (lb : ℕ) (v w : PassView) (size : slice_index sizes lb ≡ members v.origin.opening) where
  found_taken : (b : Journal) (gained : List Receipt) → TakesTurn v w b gained → IsFound sizes None lb b
  found_taken b gained turn = record {
    sound = turn.stands.sound;
    rules = turn.stands.whole.rules;
    size = whole_members v.origin.opening turn.log b turn.stands.whole ∙ sym size;
    told = λ x never. none_told x never;
  }

  gains_taken : (r r' : List Receipt) (h h' : List (ℕ × ℕ)) (f f' x x' session at : ℕ) (gained : List Receipt) → r' ≡ r ++ gained → All (IsOwn lb session at) gained
      → Gains (pass_state number sizes r h f x) (pass_state number sizes' r' h' f' x') lb session at gained
  gains_taken r r' h h' f f' x x' session at gained receipts own = record {
    receipts = receipts;
    own = own;
    added = ap (λ (xs : List Receipt). length xs) receipts ∙ length-append r gained;
    books = refl;
  }

  last_taken : (b new : Journal) (r r' : List Receipt) (h h' : List (ℕ × ℕ)) (f f' x x' session at : ℕ) (last : Receipt) → TakesTurn v w b (gained_in r r')
      → BookGainsLast b new r r' lb session at last
      → GainsLast (pass_state number sizes r h f x) (pass_state number sizes' r' h' f' x') lb session at last
  last_taken b new r r' h h' f f' x x' session at last turn gains = record {
    due = gains.due;
    is_due = gains.is_due;
    gains = gains_taken r r' h h' f f' x x' session at (gains.due ++ last ∷ []) gains.gains.receipts gains.gains.own;
    follows = record { book = b; found = found_taken b (gained_in r r') turn; next = gains.gains.next };
    maintained = gains.done;
  }

  due_taken : (b new : Journal) (r r' : List Receipt) (h h' : List (ℕ × ℕ)) (f f' x x' session at : ℕ) (wanting : Type 0) (account : Journal → List Receipt → Type 0)
      → TakesTurn v w b (gained_in r r') → BookGainsDue b new r r' lb session at (account b)
      → GainsDue (pass_state number sizes r h f x) (pass_state number sizes' r' h' f' x') lb session at wanting account
  due_taken b new r r' h h' f f' x x' session at wanting account turn gains = record {
    due = gains.due;
    is_due = gains.is_due;
    gains = gains_taken r r' h h' f f' x x' session at gains.due gains.gains.receipts gains.gains.own;
    why = inl (record { book = b; found = found_taken b (gained_in r r') turn; next = gains.gains.next }, gains.account);
  }

  due_wanted : (r r' : List Receipt) (h h' : List (ℕ × ℕ)) (f f' x x' session at : ℕ) (wanting : Type 0) (account : Journal → List Receipt → Type 0)
      → r' ≡ r → wanting → GainsDue (pass_state number sizes r h f x) (pass_state number sizes' r' h' f' x') lb session at wanting account
  due_wanted r r' h h' f f' x x' session at wanting account same wants = record {
    due = [];
    is_due = tt;
    gains = gains_taken r r' h h' f f' x x' session at [] (same ∙ sym (append-nil r)) (All-nil (IsOwn lb session at));
    why = inr (refl, wants);
  }

  choice_taken : (b new : Journal) (gained r r' : List Receipt) (h h' : List (ℕ × ℕ)) (f f' x x' : ℕ) (ask : Ask) (e : Entry) (a : Answer) (c : Choice PlainLease)
      → TakesTurn v w b gained → e.answer ≡ a → Picks b new ask e.seq a → IsChosenFor lb a c → h' ≡ h ++ pairs_in lb a
      → IsChoice note_of (pass_state number sizes r h f x) (pass_state number sizes' r' h' f' x') lb ask e c
  choice_taken b new gained r r' h h' f f' x x' ask e (answer.Chosen m t how probe) (choice.Chosen member lease) turn is picks for tickets =
      let ticket : t ≡ e.seq = picks.0 in
      let named : note_of lease ≡ record { lb = lb; member = member; ticket = e.seq } =
      ap (λ (n : ℕ). record { lb = n; member = lease.lease.member; ticket = lease.lease.ticket }) for.1
      ∙ ap (λ (n : ℕ). record { lb = lb; member = n; ticket = lease.lease.ticket }) (for.2 ∙ sym for.0)
      ∙ ap (λ (n : ℕ). record { lb = lb; member = member; ticket = n }) (for.3 ∙ ticket) in
      let within : m < slice_index sizes lb = subst (λ (n : ℕ). m < n) (whole_members v.origin.opening turn.log b turn.stands.whole ∙ sym size) picks.1.member in (
        how,
        probe,
        is ∙ ap (λ (n : ℕ). answer.Chosen n t how probe) (sym for.0) ∙ ap (λ (n : ℕ). answer.Chosen member n how probe) ticket,
        named,
        tickets ∙ ap (λ (n : ℕ). h ++ (lb, n) ∷ []) ticket,
        subst (λ (n : ℕ). n < slice_index sizes lb) (sym for.0) within,
        subst (λ (n : ℕ). is_in ask.tried n ≡ false) (sym for.0) picks.1.untried,
      )
  choice_taken b new gained r r' h h' f f' x x' ask e (answer.Chosen m t how probe) choice.NoMember turn is picks for tickets = absurd for
  choice_taken b new gained r r' h h' f f' x x' ask e (answer.Chosen m t how probe) choice.Forced turn is picks for tickets = absurd for
  choice_taken b new gained r r' h h' f f' x x' ask e answer.NoMember c turn is picks for tickets =
      subst (λ (y : Choice PlainLease). IsChoice note_of (pass_state number sizes r h f x) (pass_state number sizes' r' h' f' x') lb ask e y) (sym for)
      (is, tickets ∙ append-nil h)
  choice_taken b new gained r r' h h' f f' x x' ask e answer.Forced c turn is picks for tickets =
      subst (λ (y : Choice PlainLease). IsChoice note_of (pass_state number sizes r h f x) (pass_state number sizes' r' h' f' x') lb ask e y) (sym for)
      (is, tickets ∙ append-nil h)
  choice_taken b new gained r r' h h' f f' x x' ask e answer.Done c turn is picks for tickets = absurd for

  -- The desk chose, or refused.
  pub desk_chooses : (old new : DeskLists) (f f' x session at : ℕ) (ask : Ask) (result : Result (Choice PlainLease) (RoomError FullMark))
      → IfOk result (CallChooses v w old new (record { lb = lb; session = session; at = at }) ask) → CountsFull f f' result
      → IfOk result (λ c. Chooses note_of (pass_state number sizes old.receipts.items old.held.items f x) (pass_state number sizes' new.receipts.items new.held.items f' x) lb session at ask c)
  desk_chooses old new f f' x session at ask (Ok c) told counts =
      let s = told.selects in
      let e = told.picked.entry in
      record {
        last = receipt_of (record { lb = lb; session = session; at = at }) e;
        gains =
            last_taken s.book s.new old.receipts.items new.receipts.items old.held.items new.held.items f f' x x session at
            (receipt_of (record { lb = lb; session = session; at = at }) e) s.turn s.gains;
        asked = s.asked;
        answered =
            choice_taken s.book s.new (gained_in old.receipts.items new.receipts.items) old.receipts.items new.receipts.items old.held.items new.held.items f f' x x ask e e.answer c
            s.turn refl s.picks told.choice told.held;
        full = counts;
        stray = refl;
        wide = refl;
        met = refl;
      }
  desk_chooses old new f f' x session at ask (Err e) told counts = tt

  denial : (old new : DeskLists) (f f' x session at : ℕ) (e : RoomError FullMark) → CallDenies v w old new (record { lb = lb; session = session; at = at }) e
      → GainsDue (pass_state number sizes old.receipts.items old.held.items f x) (pass_state number sizes' new.receipts.items new.held.items f' x) lb session at (e ≡ room.NoMemory)
      (IsAskRefusal (λ mark. mark) at e)
  denial old new f f' x session at e told =
      elim told.why [
        | inl d ↦
            due_taken d.book d.new old.receipts.items new.receipts.items old.held.items new.held.items f f' x x session at (e ≡ room.NoMemory) (IsAskRefusal (λ mark. mark) at e) d.turn d.gains
        | inr n ↦
            due_wanted old.receipts.items new.receipts.items old.held.items new.held.items f f' x x session at (e ≡ room.NoMemory) (IsAskRefusal (λ mark. mark) at e) n.0.receipts n.1
      ]

  pub desk_denies : (old new : DeskLists) (f f' x session at : ℕ) (result : Result (Choice PlainLease) (RoomError FullMark))
      → IfErr result (CallDenies v w old new (record { lb = lb; session = session; at = at })) → CountsFull f f' result
      → IfErr result (λ e. RefusesChoice (λ mark. mark) (pass_state number sizes old.receipts.items old.held.items f x) (pass_state number sizes' new.receipts.items new.held.items f' x) lb session at e)
  desk_denies old new f f' x session at (Ok c) told counts = tt
  desk_denies old new f f' x session at (Err (room.Full mark)) told counts = record {
    gains = denial old new f f' x session at (room.Full mark) told;
    held = told.held;
    full = λ m is. counts;
    wanted = λ never. absurd cc;
    stray = refl;
    wide = refl;
    met = refl;
  }
  desk_denies old new f f' x session at (Err room.NoMemory) told counts = record {
    gains = denial old new f f' x session at room.NoMemory told;
    held = told.held;
    full = λ m never. absurd cc;
    wanted = λ is. counts;
    stray = refl;
    wide = refl;
    met = refl;
  }

  -- It did a command, or refused it.
  pub desk_commands : (old new : DeskLists) (f f' x x' session at : ℕ) (command : Command) (result : Result (Unit {0}) (AdminError FullMark))
      → OnOk result (CallCommands v w old new (record { lb = lb; session = session; at = at }) command) → CountsRefusal f f' x x' result
      → IfOk result (λ _. Commands (pass_state number sizes old.receipts.items old.held.items f x) (pass_state number sizes' new.receipts.items new.held.items f' x') lb session at command)
  desk_commands old new f f' x x' session at command (Ok done) told counts =
      let s = told.commands in
      let e = s.gains.0 in
      record {
        last = receipt_of (record { lb = lb; session = session; at = at }) e;
        gains =
            last_taken s.book s.new old.receipts.items new.receipts.items old.held.items new.held.items f f' x x' session at
            (receipt_of (record { lb = lb; session = session; at = at }) e) s.turn s.gains.3;
        commanded = s.gains.1;
        done = s.gains.2;
        named = subst (λ (n : ℕ). IsKnown n command) (whole_members v.origin.opening s.turn.log s.book s.turn.stands.whole ∙ sym size) s.named.0;
        values = s.named.1;
        full = counts.0;
        wide = counts.1;
      }
  desk_commands old new f f' x x' session at command (Err e) told counts = tt

  refusal : (old new : DeskLists) (f f' x x' session at : ℕ) (command : Command) (e : AdminError FullMark)
      → CallRefuses v w old new (record { lb = lb; session = session; at = at }) command e
      → GainsDue (pass_state number sizes old.receipts.items old.held.items f x) (pass_state number sizes' new.receipts.items new.held.items f' x') lb session at (e ≡ admin.NoMemory)
      (IsCommandRefusal (λ mark. mark) at command e)
  refusal old new f f' x x' session at command e told =
      elim told.why [
        | inl d ↦
            due_taken d.book d.new old.receipts.items new.receipts.items old.held.items new.held.items f f' x x' session at (e ≡ admin.NoMemory) (IsCommandRefusal (λ mark. mark) at command e) d.turn
            d.gains
        | inr n ↦
            due_wanted old.receipts.items new.receipts.items old.held.items new.held.items f f' x x' session at (e ≡ admin.NoMemory) (IsCommandRefusal (λ mark. mark) at command e) n.0.receipts n.1
      ]

  pub desk_refuses : (old new : DeskLists) (f f' x x' session at : ℕ) (command : Command) (result : Result (Unit {0}) (AdminError FullMark))
      → IfErr result (CallRefuses v w old new (record { lb = lb; session = session; at = at }) command) → CountsRefusal f f' x x' result
      → IfErr result (λ e. RefusesCommand (λ mark. mark) (pass_state number sizes old.receipts.items old.held.items f x) (pass_state number sizes' new.receipts.items new.held.items f' x') lb session at command e)
  desk_refuses old new f f' x x' session at command (Ok done) told counts = tt
  desk_refuses old new f f' x x' session at command (Err admin.UnknownMember) told counts = record { gains = refusal old new f f' x x' session at command admin.UnknownMember told; counted = counts }
  desk_refuses old new f f' x x' session at command (Err admin.BadValue) told counts = record { gains = refusal old new f f' x x' session at command admin.BadValue told; counted = counts }
  desk_refuses old new f f' x x' session at command (Err (admin.TooWide mark)) told counts = record { gains = refusal old new f f' x x' session at command (admin.TooWide mark) told; counted = counts }
  desk_refuses old new f f' x x' session at command (Err (admin.Full mark)) told counts = record { gains = refusal old new f f' x x' session at command (admin.Full mark) told; counted = counts }
  desk_refuses old new f f' x x' session at command (Err admin.NoMemory) told counts = record { gains = refusal old new f f' x x' session at command admin.NoMemory told; counted = counts }

  -- It took a ticket back.
  pub desk_returns : (r r' : List Receipt) (h h' : List (ℕ × ℕ)) (f x session at member ticket : ℕ) (outcome : Outcome)
      → ReturnsInTurn v w r r' (record { lb = lb; session = session; at = at }) ticket outcome
      → TakesBack (pass_state number sizes r h f x) (pass_state number sizes' r' h' f x) session at (record { lb = lb; member = member; ticket = ticket }) outcome
  desk_returns r r' h h' f x session at member ticket outcome back =
      let last : Receipt = receipt_of (record { lb = lb; session = session; at = at }) back.entry in
      record {
        last = last;
        gains = gains_taken r r' h h' f f x x session at (last ∷ []) back.receipts (own_one lb session at last (record { balancer = refl; given = refl; caller = back.adds.caller }));
        follows = record {
          book = back.book;
          found = found_taken back.book (gained_in r r') back.turn;
          next = (record { next = back.next; moment = back.adds.moment }, tt);
        };
        returned = back.adds.asked;
        done = back.done;
        stray = refl;
        met = refl;
      }

  -- It looked.
  pub desk_shows : (r : List Receipt) (h : List (ℕ × ℕ)) (f x : ℕ) (result : Result View NoMemory) → Looks v w result
      → IfOk result (λ view. Shows (pass_state number sizes r h f x) lb view)
  desk_shows r h f x (Ok view) looks = record {
    book = looks.book;
    found = found_taken looks.book [] looks.turn;
    rows = looks.present.rows.count ∙ whole_members v.origin.opening looks.turn.log looks.book looks.turn.stands.whole ∙ sym size;
    present = looks.present;
    sound = none_sound sizes;
  }
  desk_shows r h f x (Err e) looks = tt
