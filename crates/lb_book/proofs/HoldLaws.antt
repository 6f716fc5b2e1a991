-- One call on the Book at a place, told of a desk of one thread.
use Rattle.std.proofs.Common.{◌≡◌, ℕ, ◌+◌, ◌<◌, ◌≤◌, false, List, [], ◌∷◌, ◌++◌, length, Some, get_or, refl, sym, ap, ◌∙◌, subst, arith}
use Rattle.std.specs.Prelude.{slice_get, slice_set, slice_index, Result, Ok, Err, IfErr, IfOk, IsErrAnd, OnOk}
use Rattle.std.proofs.lemmas.List.{append-nil, length-map}
use Rattle.std.proofs.lemmas.Option.{slice_get-get_or}
use Rattle.lb_model.specs.declared.ask.Ask.{Ask}
use Rattle.lb_model.specs.declared.change.Command.{Command}
use Rattle.lb_model.specs.declared.journal.Answer.{Answer}
use Rattle.lb_model.specs.declared.journal.Answer.TheVariants as answer
use Rattle.lb_model.specs.declared.journal.Call.TheVariants as call
use Rattle.lb_model.specs.declared.journal.Entry.{Entry}
use Rattle.lb_model.specs.declared.journal.Outcome.{Outcome}
use Rattle.lb_model.specs.declared.refusal.AdminError.{AdminError}
use Rattle.lb_model.specs.declared.refusal.AdminError.TheVariants as admin
use Rattle.lb_model.specs.declared.refusal.FullMark.{FullMark}
use Rattle.lb_model.specs.declared.refusal.RoomError.{RoomError}
use Rattle.lb_model.specs.declared.refusal.RoomError.TheVariants as room
use Rattle.lb_model.specs.Free.{is_in}
use Rattle.lb_model.specs.Journal.{members}
use Rattle.lb_model.specs.Legal.{HasValues, IsNext}
use Rattle.lb_model.specs.Present.{IsPresent}
use Rattle.lb_model.specs.declared.view.View.{View}
use Rattle.lb_book.specs.Commanded.{IsCommanded, IsKnown}
use Rattle.lb_book.specs.Journal.{AddsEntry, IsFullUnless, Journal, next_number, past_of, tickets_out}
use Rattle.lb_book.specs.Refused.{IsFullAt, RefusesAsk, RefusesChange}
use Rattle.lb_book.specs.Desks.{Chooses, Commands, GainsDue, IsChoice, IsCommandRefusal, Shows, TakesBack}
use Rattle.lb_book.specs.PlainDesks.{AreLegal, AreModern, BookGainsDue, BookGainsLast, IsPlain, Picks, plain_state}
use Rattle.lb_book.specs.ToldBooks.{sizes_of}
use Rattle.lb_book.specs.PlainLeases.{IsChosenFor, note_of, pairs_in}
use Rattle.lb_book.specs.declared.desk.Choice.{Choice}
use Rattle.lb_book.specs.declared.desk.Choice.TheVariants as choice
use Rattle.lb_book.specs.declared.plain_desk.PlainLease.{PlainLease}
use Rattle.lb_book.specs.declared.receipt.Receipt.{Receipt}
use Rattle.lb_book.proofs.ToldLaws.{some_is}
use Rattle.lb_book.proofs.PlainLaws.{due-hold, follows-hold, found-hold, gains-hold, last-hold, own_one, plain-due, plain-last, size-at, sizes-hold}

-- A fact of the only error that there may be.
pub of_error : {T E : Type 0} (r : Result T E) (only : E) (P : E → Type 0) → IsErrAnd r (λ e. e ≡ only) → P only → IfErr r P
of_error (Ok x) only P is p = tt
of_error (Err e) only P is p = subst P (sym is) p

pub sizes-due : (books : List Journal) (lb : ℕ) (old new : Journal) (before now : List Receipt) (session at : ℕ)
    (account : List Receipt → Type 0) → slice_get books lb ≡ Some old → BookGainsDue old new before now lb session at account → sizes_of (slice_set books lb new) ≡ sizes_of books
sizes-due books lb old new before now session at account here due =
    sizes-hold books lb old new here (ap (λ (b : Journal). b.opening) due.gains.grown)

pub sizes-last : (books : List Journal) (lb : ℕ) (old new : Journal) (before now : List Receipt) (session at : ℕ) (r : Receipt) → slice_get books lb ≡ Some old
    → BookGainsLast old new before now lb session at r → sizes_of (slice_set books lb new) ≡ sizes_of books
sizes-last books lb old new before now session at r here last =
    sizes-hold books lb old new here (ap (λ (b : Journal). b.opening) last.gains.grown)

-- A choice.
choice_is : (books books' : List Journal) (receipts receipts' : List Receipt) (held held' : List (ℕ × ℕ)) (f w : ℕ) (lb : ℕ) (old new : Journal)
    (ask : Ask) (e : Entry) (a : Answer) (c : Choice PlainLease) → e.answer ≡ a → slice_get books lb ≡ Some old → Picks old new ask e.seq a
    → IsChosenFor lb a c → held' ≡ held ++ pairs_in lb a
    → IsChoice note_of (plain_state books receipts held 0 f w) (plain_state books' receipts' held' 0 f w) lb ask e c
choice_is books books' receipts receipts' held held' f w lb old new ask e (answer.Chosen m t how probe) (choice.Chosen member lease) is here picks for tickets =
    let ticket : t ≡ e.seq = picks.0 in
    let named : note_of lease ≡ record { lb = lb; member = member; ticket = e.seq } =
    ap (λ (n : ℕ). record { lb = n; member = lease.lease.member; ticket = lease.lease.ticket }) for.1
    ∙ ap (λ (n : ℕ). record { lb = lb; member = n; ticket = lease.lease.ticket }) (for.2 ∙ sym for.0)
    ∙ ap (λ (n : ℕ). record { lb = lb; member = member; ticket = n }) (for.3 ∙ ticket) in
    let within : m < slice_index (sizes_of books) lb = subst (λ (n : ℕ). m < n) (sym (size-at books lb old here)) picks.1.member in (
      how,
      probe,
      is ∙ ap (λ (n : ℕ). answer.Chosen n t how probe) (sym for.0) ∙ ap (λ (n : ℕ). answer.Chosen member n how probe) ticket,
      named,
      tickets ∙ ap (λ (n : ℕ). held ++ (lb, n) ∷ []) ticket,
      subst (λ (n : ℕ). n < slice_index (sizes_of books) lb) (sym for.0) within,
      subst (λ (n : ℕ). is_in ask.tried n ≡ false) (sym for.0) picks.1.untried,
    )
choice_is books books' receipts receipts' held held' f w lb old new ask e (answer.Chosen m t how probe) choice.NoMember is here picks for tickets = absurd for
choice_is books books' receipts receipts' held held' f w lb old new ask e (answer.Chosen m t how probe) choice.Forced is here picks for tickets = absurd for
choice_is books books' receipts receipts' held held' f w lb old new ask e answer.NoMember c is here picks for tickets =
    subst (λ (x : Choice PlainLease). IsChoice note_of (plain_state books receipts held 0 f w) (plain_state books' receipts' held' 0 f w) lb ask e x) (sym for)
    (is, tickets ∙ append-nil held)
choice_is books books' receipts receipts' held held' f w lb old new ask e answer.Forced c is here picks for tickets =
    subst (λ (x : Choice PlainLease). IsChoice note_of (plain_state books receipts held 0 f w) (plain_state books' receipts' held' 0 f w) lb ask e x) (sym for)
    (is, tickets ∙ append-nil held)
choice_is books books' receipts receipts' held held' f w lb old new ask e answer.Done c is here picks for tickets = absurd for

pub chooses : (books : List Journal) (lb : ℕ) (old new : Journal) (before now : List Receipt) (held held' : List (ℕ × ℕ)) (session at : ℕ) (ask : Ask) (e : Entry) (c : Choice PlainLease)
    → AreModern books → AreLegal books → slice_get books lb ≡ Some old
    → BookGainsLast old new before now lb session at (record { lb = lb; given = at; entry = e }) → e.call ≡ call.Select ask
    → Picks old new ask e.seq e.answer → IsChosenFor lb e.answer c → held' ≡ held ++ pairs_in lb e.answer → (f w : ℕ)
    → Chooses note_of (plain_state books before held 0 f w) (plain_state (slice_set books lb new) now held' 0 f w) lb session at ask c
chooses books lb old new before now held held' session at ask e c modern legal here last asked picks for tickets f w = record {
  last = record { lb = lb; given = at; entry = e };
  gains = last-hold books lb old new before now held held' session at f w f w (record { lb = lb; given = at; entry = e }) modern legal here last;
  asked = asked;
  answered = choice_is books (slice_set books lb new) before now held held' f w lb old new ask e e.answer c refl here picks for tickets;
  full = refl;
  stray = refl;
  wide = refl;
  met = refl;
}

-- A command.
pub command_plain : {T E : Type 0} (r : Result T E) (account : E → List Receipt → Type 0) (books : List Journal) (lb : ℕ) (old new : Journal) (before now : List Receipt) (held : List (ℕ × ℕ)) (session at room room' : ℕ) (command : Command)
    → IsPlain books before held room → slice_get books lb ≡ Some old
    → OnOk r ((e : Entry) × (e.call ≡ call.Admin command) × (e.answer ≡ answer.Done) × BookGainsLast old new before now lb session at (record { lb = lb; given = at; entry = e }))
    → IfErr r (λ e. BookGainsDue old new before now lb session at (account e))
    → length before + length held + 2 ≤ room' → IsPlain (slice_set books lb new) now held room'
command_plain (Ok x) account books lb old new before now held session at room room' command is here ok err fits =
    plain-last books lb old new before now held held session at room room' (record { lb = lb; given = at; entry = ok.0 }) is here ok.3 refl fits
command_plain (Err e) account books lb old new before now held session at room room' command is here ok err fits =
    plain-due books lb old new before now held held session at room room' (account e) is here err refl (omega arith)

pub command_sizes : {T E : Type 0} (r : Result T E) (account : E → List Receipt → Type 0) (books : List Journal) (lb : ℕ) (old new : Journal) (before now : List Receipt) (session at : ℕ) (command : Command)
    → slice_get books lb ≡ Some old
    → OnOk r ((e : Entry) × (e.call ≡ call.Admin command) × (e.answer ≡ answer.Done) × BookGainsLast old new before now lb session at (record { lb = lb; given = at; entry = e }))
    → IfErr r (λ e. BookGainsDue old new before now lb session at (account e))
    → sizes_of (slice_set books lb new) ≡ sizes_of books
command_sizes (Ok x) account books lb old new before now session at command here ok err =
    sizes-last books lb old new before now session at (record { lb = lb; given = at; entry = ok.0 }) here ok.3
command_sizes (Err e) account books lb old new before now session at command here ok err = sizes-due books lb old new before now session at (account e) here err

pub command_ok : {T E : Type 0} (r : Result T E) (books : List Journal) (lb : ℕ) (old new : Journal) (before now : List Receipt) (held : List (ℕ × ℕ)) (session at : ℕ) (command : Command)
    → AreModern books → AreLegal books → slice_get books lb ≡ Some old
    → OnOk r ((e : Entry) × (e.call ≡ call.Admin command) × (e.answer ≡ answer.Done) × BookGainsLast old new before now lb session at (record { lb = lb; given = at; entry = e }))
    → OnOk r (IsKnown (members old.opening) command × HasValues command)
    → OnOk r ((f w : ℕ) → Commands (plain_state books before held 0 f w) (plain_state (slice_set books lb new) now held 0 f w) lb session at command)
command_ok (Ok x) books lb old new before now held session at command modern legal here ok named = λ f w. record {
  last = record { lb = lb; given = at; entry = ok.0 };
  gains = last-hold books lb old new before now held held session at f w f w (record { lb = lb; given = at; entry = ok.0 }) modern legal here ok.3;
  commanded = ok.1;
  done = ok.2;
  named = subst (λ (n : ℕ). IsKnown n command) (sym (size-at books lb old here)) named.0;
  values = named.1;
  full = refl;
  wide = refl;
}
command_ok (Err e) books lb old new before now held session at command modern legal here ok named = tt

pub command_err : {T : Type 0} (r : Result T (AdminError FullMark)) (books : List Journal) (lb : ℕ) (old new : Journal) (before now : List Receipt) (held : List (ℕ × ℕ)) (session at : ℕ) (command : Command)
    → AreModern books → AreLegal books → slice_get books lb ≡ Some old
    → IfErr r (λ e. BookGainsDue old new before now lb session at (IsCommandRefusal (λ mark. mark) at command e old))
    → IfErr r (λ e. (f w f' w' : ℕ) → GainsDue (plain_state books before held 0 f w) (plain_state (slice_set books lb new) now held 0 f' w') lb session at
    (e ≡ admin.NoMemory) (IsCommandRefusal (λ mark. mark) at command e))
command_err (Ok x) books lb old new before now held session at command modern legal here err = tt
command_err (Err e) books lb old new before now held session at command modern legal here err =
    λ f w f' w'. due-hold books lb old new before now held held session at f w f' w' (e ≡ admin.NoMemory)
    (IsCommandRefusal (λ mark. mark) at command e) modern legal here err

-- A Return.
pub takes_back : (books : List Journal) (lb : ℕ) (old new : Journal) (before now : List Receipt) (held held' : List (ℕ × ℕ)) (session at t : ℕ) (outcome : Outcome) (e : Entry)
    → AreModern books → AreLegal books → slice_get books lb ≡ Some old
    → AddsEntry old new session at (call.Return t outcome) e → e.answer ≡ answer.Done → IsNext old.rules old.opening (past_of old) e
    → now ≡ before ++ record { lb = lb; given = at; entry = e } ∷ [] → (m f w : ℕ)
    → TakesBack (plain_state books before held 0 f w) (plain_state (slice_set books lb new) now held' 0 f w) session at (record { lb = lb; member = m; ticket = t }) outcome
takes_back books lb old new before now held held' session at t outcome e modern legal here adds done next noted m f w = record {
  last = record { lb = lb; given = at; entry = e };
  gains = gains-hold books lb old new before now held held' session at (record { lb = lb; given = at; entry = e } ∷ []) 0 f w 0 f w here noted
      (own_one lb session at (record { lb = lb; given = at; entry = e }) (record { balancer = refl; given = refl; caller = adds.caller })) adds.grown;
  follows = follows-hold books lb at old (record { lb = lb; given = at; entry = e } ∷ []) modern legal here
      (record { next = next; moment = adds.moment }, tt);
  returned = adds.asked;
  done = done;
  stray = refl;
  met = refl;
}

-- The numbers of a refusal after a Maintain are those of the journal with it.
pub ask_after : (T : Type 0) (mid grown : Journal) (e : RoomError FullMark) → mid ≡ grown
    → IsFullUnless {T = T} (next_number mid) (tickets_out mid) 2 (Err e) → RefusesAsk (λ mark. mark) grown e
ask_after T mid grown (room.Full mark) same full = subst (λ (b : Journal). IsFullAt 2 b mark) same full
ask_after T mid grown room.NoMemory same full = tt

refused_change : (b : Journal) (command : Command) (e : AdminError FullMark) → IsCommanded b command (Err e) → RefusesChange (λ mark. mark) b command e
refused_change b command admin.UnknownMember is = is
refused_change b command admin.BadValue is = is
refused_change b command (admin.TooWide mark) is = is
refused_change b command (admin.Full mark) is = (is.0, (is.1, is.2))
refused_change b command admin.NoMemory is = tt

pub change_after : (mid grown : Journal) (command : Command) (e : AdminError FullMark) → mid ≡ grown
    → IsCommanded mid command (Err e) → RefusesChange (λ mark. mark) grown command e
change_after mid grown command e same is =
    subst (λ (b : Journal). RefusesChange (λ mark. mark) b command e) same (refused_change mid command e is)

-- The Book that is looked at.
pub plain_here : (books : List Journal) (lb : ℕ) (b : Journal) → lb < length (sizes_of books) → b ≡ get_or books lb b → slice_get books lb ≡ Some b
plain_here books lb b within is =
    slice_get-get_or books lb b (subst (λ (n : ℕ). lb < n) (length-map books (λ (x : Journal). members x.opening)) within)
    ∙ ap (λ (x : Journal). Some x) (sym is)

pub shows_plain : {E : Type 0} (books : List Journal) (receipts : List Receipt) (held : List (ℕ × ℕ)) (f w lb : ℕ) (b : Journal) (r : Result View E) → AreModern books → AreLegal books
    → slice_get books lb ≡ Some b → IfOk r (λ v. IsPresent b.rules b.opening (past_of b) v) → IfOk r (λ v. Shows (plain_state books receipts held 0 f w) lb v)
shows_plain books receipts held f w lb b (Ok view) modern legal here present = record {
  book = b;
  found = found-hold books lb b modern legal here;
  rows = present.rows.count ∙ sym (size-at books lb b here);
  present = present;
  sound = record {
    sound = legal;
    sized = λ told is. ap (λ (xs : List Journal). sizes_of xs) (some_is books told is);
  };
}
shows_plain books receipts held f w lb b (Err e) modern legal here present = tt
