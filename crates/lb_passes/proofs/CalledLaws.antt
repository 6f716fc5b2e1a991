-- A desk after a call: the tickets that it holds, the numbers given, and the entries that its passes have seen.
use Rattle.std.proofs.Common.{◌≡◌, ℕ, zero, suc, ◌+◌, ◌<◌, ◌≤◌, Bool, true, false, List, [], ◌∷◌, ◌++◌, length, map, set, reverse, Result, Ok, Err, refl, sym, ap, ◌∙◌, subst, inl, inr, arith, eq-eqb}
use Rattle.std.specs.Prelude.{◌==◌, ◌||◌, IfOk, IfErr, OnOk}
use Rattle.std.proofs.lemmas.Bool.{cases_Bool}
use Rattle.std.proofs.lemmas.List.{append-nil}
use mathlib.Core.Option.{some, some-injective, some-ne-none}
use lib.ListN.{get_elem?}
use Rattle.atomic_table.proofs.Lists.{set_here}
use Rattle.lb_model.specs.Journal.{next_of}
use Rattle.lb_model.specs.Tickets.{gives_back, is_returned}
use Rattle.lb_model.specs.declared.ask.Ask.{Ask}
use Rattle.lb_model.specs.declared.change.Command.{Command}
use Rattle.lb_model.specs.declared.journal.Answer.{Answer}
use Rattle.lb_model.specs.declared.journal.Answer.TheVariants as answer
use Rattle.lb_model.specs.declared.journal.Call.{Call}
use Rattle.lb_model.specs.declared.journal.Call.TheVariants as call
use Rattle.lb_model.specs.declared.journal.Entry.{Entry}
use Rattle.lb_model.specs.declared.journal.Outcome.{Outcome}
use Rattle.lb_model.specs.declared.refusal.AdminError.{AdminError}
use Rattle.lb_model.specs.declared.refusal.FullMark.{FullMark}
use Rattle.lb_model.specs.declared.refusal.RoomError.{RoomError}
use Rattle.lb_book.specs.Desks.{IsDue, holds}
use Rattle.lb_book.specs.Journal.{Journal, next_number, past_of}
use Rattle.lb_book.specs.PlainDesks.{BookGainsDue, BookGainsLast, Picks, receipt_of}
use Rattle.lb_book.specs.PlainLeases.{pairs_in}
use Rattle.lb_book.specs.ToldBooks.{AreNextAt, grown_by}
use Rattle.lb_book.specs.declared.desk.Choice.{Choice}
use Rattle.lb_book.specs.declared.desk.Occasion.{Occasion}
use Rattle.lb_book.specs.declared.plain_desk.PlainLease.{PlainLease}
use Rattle.lb_book.specs.declared.receipt.Receipt.{Receipt}
use Rattle.lb_book.proofs.PlainLaws.{ticket_differs, without}
use Rattle.lb_book.proofs.ToldLaws.{past-one}
use Rattle.lb_book.specs.Histories.{has_made}
use Rattle.lb_passes.specs.declared.pass_view.PassView.{PassView}
use Rattle.lb_book.proofs.HistoryLaws.{whole_next, whole_of}
use Rattle.lb_book.proofs.OwnLaws.{made-append, own_below, returned-append}
use Rattle.lb_passes.specs.Calls.{CallChooses, CallCommands, CallDenies, CallRefuses, CallWants}
use Rattle.lb_passes.specs.Holds.{ReturnsInTurn, TakesTurn, entries_in, gained_in, own_in}
use Rattle.lb_passes.specs.PassDesks.{AreGot, IsGot, MaySee, PassDeskState, SeesAt, view_of}
use Rattle.lb_passes.specs.declared.desk_lists.DeskLists.{DeskLists}
use Rattle.lb_passes.specs.declared.pass.Pass.{Pass}
use Rattle.lb_passes.proofs.GainLaws.{gained_is, none_due, none_last}
use Rattle.lb_passes.proofs.GotLaws.{got_all, got_found, got_more, got_turn, got_without, sees_more, sees_set, within_at}

-- A Maintain, and a call that is no Return, give nothing back.
due_none : (b new : Journal) (r r' : List Receipt) (lb session at t : ℕ) (account : List Receipt → Type 0) → BookGainsDue b new r r' lb session at account
    → is_returned t (entries_in (gained_in r r')) ≡ false
due_none b new r r' lb session at t account gains =
    ap (λ (g : List Receipt). is_returned t (entries_in g)) (gained_is r r' gains.due gains.gains.receipts) ∙ none_due gains.due t gains.is_due

last_none : (b new : Journal) (r r' : List Receipt) (lb session at t : ℕ) (last : Receipt) → BookGainsLast b new r r' lb session at last
    → gives_back t last.entry.call ≡ false → is_returned t (entries_in (gained_in r r')) ≡ false
last_none b new r r' lb session at t last gains other =
    ap (λ (g : List Receipt). is_returned t (entries_in g)) (gained_is r r' (gains.due ++ last ∷ []) gains.gains.receipts) ∙ none_last gains.due last t gains.is_due other

pub views_set : (passes : List Pass) (lb : ℕ) (p q : Pass) → get_elem? passes lb ≡ some p → view_of q ≡ view_of p → map view_of (set passes lb q) ≡ map view_of passes
views_set [] lb p q at same = refl
views_set (x ∷ xs) zero p q at same = ap (λ (v : PassView). v ∷ map view_of xs) (same ∙ sym (ap view_of (some-injective x p at)))
views_set (x ∷ xs) (suc lb) p q at same = ap (λ (vs : List PassView). view_of x ∷ vs) (views_set xs lb p q at same)

-- A pass that didn't change has what it had.
pub got_same : (passes : List Pass) (lb : ℕ) (p q : Pass) (x : ℕ × ℕ) → get_elem? passes lb ≡ some p → own_in (view_of q) ≡ own_in (view_of p)
    → IsGot passes x → IsGot (set passes lb q) x
got_same passes lb p q x at same got =
    let same_at = own_at passes lb p q x.0 got.pass at same got.found in
    record {
      pass = same_at.0;
      found = same_at.1;
      made = ap (λ (es : List Entry). has_made x.1 es) same_at.2 ∙ got.made;
      still = ap (λ (es : List Entry). is_returned x.1 es) same_at.2 ∙ got.still;
    }
  where
    own_at : (passes : List Pass) (lb : ℕ) (p q : Pass) (j : ℕ) (r : Pass) → get_elem? passes lb ≡ some p → own_in (view_of q) ≡ own_in (view_of p)
        → get_elem? passes j ≡ some r → (s : Pass) × (get_elem? (set passes lb q) j ≡ some s) × (own_in (view_of s) ≡ own_in (view_of r))
    own_at [] lb p q j r at same found = absurd (some-ne-none r (sym found))
    own_at (y ∷ ys) zero p q zero r at same found =
        (q, refl, same ∙ ap (λ (z : Pass). own_in (view_of z)) (sym (some-injective y p at) ∙ some-injective y r found))
    own_at (y ∷ ys) zero p q (suc j) r at same found = (r, found, refl)
    own_at (y ∷ ys) (suc lb) p q zero r at same found = (r, found, refl)
    own_at (y ∷ ys) (suc lb) p q (suc j) r at same found = own_at ys lb p q j r at same found

module _ (passes : List Pass) (lb : ℕ) (p q : Pass) (at : get_elem? passes lb ≡ some p) where
  -- A turn that gave nothing back.
  got_none : (b : Journal) (r r' : List Receipt) (held : List (ℕ × ℕ)) → TakesTurn (view_of p) (view_of q) b (gained_in r r')
      → ((t : ℕ) → is_returned t (entries_in (gained_in r r')) ≡ false) → AreGot passes held → AreGot (set passes lb q) held
  got_none b r r' held turn none are = got_all passes (set passes lb q) held (λ x got. got_turn passes lb p q b (gained_in r r') x at turn (λ here. none x.1) got) are

  got_wanted : (held : List (ℕ × ℕ)) → view_of q ≡ view_of p → AreGot passes held → AreGot (set passes lb q) held
  got_wanted held same are = got_all passes (set passes lb q) held (λ x got. got_same passes lb p q x at (ap own_in same) got) are

  pub command_got_all : (old new : DeskLists) (on : Occasion) (command : Command) (result : Result (Unit {0}) (AdminError FullMark))
      → OnOk result (CallCommands (view_of p) (view_of q) old new on command) → IfErr result (CallRefuses (view_of p) (view_of q) old new on command)
      → AreGot passes old.held.items → AreGot (set passes lb q) old.held.items
  command_got_all old new on command (Ok done) ok err are =
      let s = ok.commands in
      got_none s.book old.receipts.items new.receipts.items old.held.items s.turn
      (λ t. last_none s.book s.new old.receipts.items new.receipts.items on.lb on.session on.at t (receipt_of on s.gains.0) s.gains.3 (ap (λ (c : Call). gives_back t c) s.gains.1)) are
  command_got_all old new on command (Err e) ok err are =
      elim err.why [
        | inl d ↦
            got_none d.book old.receipts.items new.receipts.items old.held.items d.turn
            (λ t. due_none d.book d.new old.receipts.items new.receipts.items on.lb on.session on.at t _ d.gains) are
        | inr n ↦ got_wanted old.held.items n.0.view are
      ]

pub command_held : (v w : PassView) (old new : DeskLists) (on : Occasion) (command : Command) (result : Result (Unit {0}) (AdminError FullMark))
    → OnOk result (CallCommands v w old new on command) → IfErr result (CallRefuses v w old new on command) → new.held.items ≡ old.held.items
command_held v w old new on command (Ok done) ok err = ok.held
command_held v w old new on command (Err e) ok err = err.held

pub command_origin : (v w : PassView) (old new : DeskLists) (on : Occasion) (command : Command) (result : Result (Unit {0}) (AdminError FullMark))
    → OnOk result (CallCommands v w old new on command) → IfErr result (CallRefuses v w old new on command) → w.origin ≡ v.origin
command_origin v w old new on command (Ok done) ok err = ap (λ (x : PassView). x.origin) ok.commands.turn.after
command_origin v w old new on command (Err e) ok err =
    elim err.why [ inl d ↦ ap (λ (x : PassView). x.origin) d.turn.after | inr n ↦ ap (λ (x : PassView). x.origin) n.0.view ]

pub command_given : (v w : PassView) (old new : DeskLists) (on : Occasion) (command : Command) (result : Result (Unit {0}) (AdminError FullMark))
    → OnOk result (CallCommands v w old new on command) → IfErr result (CallRefuses v w old new on command) → w.given ≡ v.given
command_given v w old new on command (Ok done) ok err = ap (λ (x : PassView). x.given) ok.commands.turn.after
command_given v w old new on command (Err e) ok err =
    elim err.why [ inl d ↦ ap (λ (x : PassView). x.given) d.turn.after | inr n ↦ ap (λ (x : PassView). x.given) n.0.view ]

pub command_got : (passes : List Pass) (lb : ℕ) (p q : Pass) (old new : DeskLists) (on : Occasion) (command : Command) (result : Result (Unit {0}) (AdminError FullMark))
    → get_elem? passes lb ≡ some p → OnOk result (CallCommands (view_of p) (view_of q) old new on command)
    → IfErr result (CallRefuses (view_of p) (view_of q) old new on command) → AreGot passes old.held.items → AreGot (set passes lb q) new.held.items
command_got passes lb p q old new on command result at ok err are =
    subst (λ (hs : List (ℕ × ℕ)). AreGot (set passes lb q) hs) (sym (command_held (view_of p) (view_of q) old new on command result ok err))
    (command_got_all passes lb p q at old new on command result ok err are)

-- The entries that are then seen.
pub turn_sees : (old' new' : PassDeskState) (lb : ℕ) (p q : Pass) (r r' : List Receipt) (b : Journal) → get_elem? old'.passes lb ≡ some p → new'.passes ≡ set old'.passes lb q
    → old'.desk.receipts ≡ r → new'.desk.receipts ≡ r' → TakesTurn (view_of p) (view_of q) b (gained_in r r') → SeesAt old' new' lb
turn_sees old' new' lb p q r r' b at is was now turn =
    sees_set old' new' lb p q at is
    (sees_more (view_of p) (view_of q) b (gained_in old'.desk.receipts new'.desk.receipts)
    (subst (λ (x : List Receipt). TakesTurn (view_of p) (view_of q) b (gained_in x new'.desk.receipts)) (sym was)
    (subst (λ (x : List Receipt). TakesTurn (view_of p) (view_of q) b (gained_in r x)) (sym now) turn)))

wants_sees : (old' new' : PassDeskState) (lb : ℕ) (p q : Pass) (old new : DeskLists) → get_elem? old'.passes lb ≡ some p → new'.passes ≡ set old'.passes lb q
    → old'.desk.receipts ≡ old.receipts.items → new'.desk.receipts ≡ new.receipts.items → CallWants (view_of p) (view_of q) old new → MaySee old' new' lb
wants_sees old' new' lb p q old new at is was now wants =
    inr (ap (λ (xs : List Pass). map view_of xs) is ∙ views_set old'.passes lb p q at wants.view, now ∙ wants.receipts ∙ sym was)

pub command_sees : (old' new' : PassDeskState) (lb : ℕ) (p q : Pass) (old new : DeskLists) (on : Occasion) (command : Command) (result : Result (Unit {0}) (AdminError FullMark))
    → get_elem? old'.passes lb ≡ some p → new'.passes ≡ set old'.passes lb q → old'.desk.receipts ≡ old.receipts.items → new'.desk.receipts ≡ new.receipts.items
    → OnOk result (CallCommands (view_of p) (view_of q) old new on command) → IfErr result (CallRefuses (view_of p) (view_of q) old new on command) → MaySee old' new' lb
command_sees old' new' lb p q old new on command (Ok done) at is was now ok err =
    inl (turn_sees old' new' lb p q old.receipts.items new.receipts.items ok.commands.book at is was now ok.commands.turn)
command_sees old' new' lb p q old new on command (Err e) at is was now ok err =
    elim err.why [
      | inl d ↦ inl (turn_sees old' new' lb p q old.receipts.items new.receipts.items d.book at is was now d.turn)
      | inr n ↦ wants_sees old' new' lb p q old new at is was now n.0
    ]

-- A choice.
pub choose_origin : (v w : PassView) (old new : DeskLists) (on : Occasion) (ask : Ask) (result : Result (Choice PlainLease) (RoomError FullMark))
    → IfOk result (CallChooses v w old new on ask) → IfErr result (CallDenies v w old new on) → w.origin ≡ v.origin
choose_origin v w old new on ask (Ok c) ok err = ap (λ (x : PassView). x.origin) ok.selects.turn.after
choose_origin v w old new on ask (Err e) ok err =
    elim err.why [ inl d ↦ ap (λ (x : PassView). x.origin) d.turn.after | inr n ↦ ap (λ (x : PassView). x.origin) n.0.view ]

pub choose_given : (v w : PassView) (old new : DeskLists) (on : Occasion) (ask : Ask) (result : Result (Choice PlainLease) (RoomError FullMark))
    → IfOk result (CallChooses v w old new on ask) → IfErr result (CallDenies v w old new on) → w.given ≡ v.given
choose_given v w old new on ask (Ok c) ok err = ap (λ (x : PassView). x.given) ok.selects.turn.after
choose_given v w old new on ask (Err e) ok err =
    elim err.why [ inl d ↦ ap (λ (x : PassView). x.given) d.turn.after | inr n ↦ ap (λ (x : PassView). x.given) n.0.view ]

pub choose_sees : (old' new' : PassDeskState) (lb : ℕ) (p q : Pass) (old new : DeskLists) (on : Occasion) (ask : Ask) (result : Result (Choice PlainLease) (RoomError FullMark))
    → get_elem? old'.passes lb ≡ some p → new'.passes ≡ set old'.passes lb q → old'.desk.receipts ≡ old.receipts.items → new'.desk.receipts ≡ new.receipts.items
    → IfOk result (CallChooses (view_of p) (view_of q) old new on ask) → IfErr result (CallDenies (view_of p) (view_of q) old new on) → MaySee old' new' lb
choose_sees old' new' lb p q old new on ask (Ok c) at is was now ok err =
    inl (turn_sees old' new' lb p q old.receipts.items new.receipts.items ok.selects.book at is was now ok.selects.turn)
choose_sees old' new' lb p q old new on ask (Err e) at is was now ok err =
    elim err.why [
      | inl d ↦ inl (turn_sees old' new' lb p q old.receipts.items new.receipts.items d.book at is was now d.turn)
      | inr n ↦ wants_sees old' new' lb p q old new at is was now n.0
    ]

seq_above : (b : Journal) (at : ℕ) (due : List Receipt) (r : Receipt) → IsDue due → AreNextAt b at (due ++ r ∷ []) → next_number b ≤ r.entry.seq
seq_above b at [] r is next = let seq : r.entry.seq ≡ next_number b = next.0.next.number in omega arith
seq_above b at (d ∷ []) r is next =
    let seq : r.entry.seq ≡ b.opening.next + length (past_of (grown_by b (d ∷ []))) = next.1.0.next.number in
    let longer : length (past_of (grown_by b (d ∷ []))) ≡ length (d.entry ∷ past_of b) = ap (λ (es : List Entry). length es) (past-one b d) in
    omega (arith, seq, longer)
seq_above b at (d ∷ e ∷ more) r is next = absurd is

made_last : (t m : ℕ) (how : _) (probe : Bool) (due : List Receipt) (r : Receipt) → r.entry.answer ≡ answer.Chosen m t how probe → r.entry.seq ≡ t
    → has_made t (entries_in (due ++ r ∷ [])) ≡ true
made_last t m how probe [] r is seq =
    ap (λ (a : Answer). has_made t (record r.entry { answer = a } ∷ [])) is ∙ ap (λ (b : Bool). b || false) (eq-eqb r.entry.seq t seq)
made_last t m how probe (d ∷ due) r is seq =
    made-append t (d.entry ∷ []) (entries_in (due ++ r ∷ []))
    ∙ ap (λ (b : Bool). has_made t (d.entry ∷ []) || b) (made_last t m how probe due r is seq) ∙ or_true (has_made t (d.entry ∷ []))
  where
    or_true : (b : Bool) → (b || true) ≡ true
    or_true true = refl
    or_true false = refl

module _ (passes : List Pass) (lb : ℕ) (p q : Pass) (at : get_elem? passes lb ≡ some p) where
  -- a ticket with a later number is none that was got
  not_made : (b : Journal) (gained : List Receipt) (t : ℕ) → TakesTurn (view_of p) (view_of q) b gained → next_number b ≤ t → has_made t (own_in (view_of p)) ≡ true → ⊥
  not_made b gained t turn above made =
      let v = view_of p in
      let whole = whole_of v.origin.opening turn.log b turn.stands.whole turn.stands.sound in
      let below : t < next_of v.origin.opening (reverse turn.log) =
      own_below 2 v.origin.opening turn.log v.number t turn.before.legal (subst (λ (es : List Entry). has_made t es ≡ true) turn.own made) in
      omega (arith, below, above, whole_next v.origin.opening turn.log b whole)

  picked_got : (b new : Journal) (r r' : List Receipt) (held held' : List (ℕ × ℕ)) (session at' : ℕ) (ask : Ask) (e : Entry) (a : Answer) → e.answer ≡ a
      → TakesTurn (view_of p) (view_of q) b (gained_in r r') → BookGainsLast b new r r' lb session at' (receipt_of (record { lb = lb; session = session; at = at' }) e)
      → e.call ≡ call.Select ask → Picks b new ask e.seq a → held' ≡ held ++ pairs_in lb a → AreGot passes held → AreGot (set passes lb q) held'
  picked_got b new r r' held held' session at' ask e (answer.Chosen m t how probe) is turn gains asked picks tickets are =
      let last : Receipt = receipt_of (record { lb = lb; session = session; at = at' }) e in
      let seq : e.seq ≡ t = sym picks.0 in
      let above : next_number b ≤ t = let le : next_number b ≤ e.seq = seq_above b at' gains.due last gains.is_due gains.gains.next in omega arith in
      let none : (u : ℕ) → is_returned u (entries_in (gained_in r r')) ≡ false =
      λ u. last_none b new r r' lb session at' u last gains (ap (λ (c : Call). gives_back u c) asked) in
      let kept : AreGot (set passes lb q) held = got_none passes lb p q at b r r' held turn none are in
      let own : own_in (view_of q) ≡ own_in (view_of p) ++ entries_in (gained_in r r') = ap own_in turn.after in
      let gained : gained_in r r' ≡ gains.due ++ last ∷ [] = gained_is r r' (gains.due ++ last ∷ []) gains.gains.receipts in
      let made_new : has_made t (entries_in (gained_in r r')) ≡ true =
      ap (λ (g : List Receipt). has_made t (entries_in g)) gained ∙ made_last t m how probe gains.due last is seq in
      let fresh : is_returned t (own_in (view_of p)) ≡ false =
      elim (cases_Bool (is_returned t (own_in (view_of p)))) [
        | inl back ↦
            absurd (not_made b (gained_in r r') t turn above
            (subst (λ (es : List Entry). has_made t es ≡ true) (sym turn.own)
            (turn.before.returns (view_of p).number t (subst (λ (es : List Entry). is_returned t es ≡ true) turn.own back))))
        | inr not_back ↦ not_back
      ] in
      let free : holds held (lb, t) ≡ false =
      elim (cases_Bool (holds held (lb, t))) [
        | inl had ↦
            let got : IsGot passes (lb, t) = got_found passes held (lb, t) had are in
            let same : got.pass ≡ p = some-injective got.pass p (sym got.found ∙ at) in
            absurd (not_made b (gained_in r r') t turn above (subst (λ (y : Pass). has_made t (own_in (view_of y)) ≡ true) same got.made))
        | inr not_had ↦ not_had
      ] in
      subst (λ (hs : List (ℕ × ℕ)). AreGot (set passes lb q) hs) (sym tickets)
      (got_more (set passes lb q) held (lb, t) kept free (record {
        pass = q;
        found = set_here passes lb q (within_at passes lb p at);
        made = ap (λ (es : List Entry). has_made t es) own ∙ made-append t (own_in (view_of p)) (entries_in (gained_in r r'))
            ∙ ap (λ (c : Bool). has_made t (own_in (view_of p)) || c) made_new ∙ or_true (has_made t (own_in (view_of p)));
        still = ap (λ (es : List Entry). is_returned t es) own ∙ returned-append t (own_in (view_of p)) (entries_in (gained_in r r'))
            ∙ ap (λ (c : Bool). c || is_returned t (entries_in (gained_in r r'))) fresh ∙ none t;
      }))
    where
      or_true : (b : Bool) → (b || true) ≡ true
      or_true true = refl
      or_true false = refl
  picked_got b new r r' held held' session at' ask e answer.NoMember is turn gains asked picks tickets are =
      subst (λ (hs : List (ℕ × ℕ)). AreGot (set passes lb q) hs) (sym (tickets ∙ append-nil held))
      (got_none passes lb p q at b r r' held turn
      (λ u. last_none b new r r' lb session at' u (receipt_of (record { lb = lb; session = session; at = at' }) e) gains (ap (λ (c : Call). gives_back u c) asked)) are)
  picked_got b new r r' held held' session at' ask e answer.Forced is turn gains asked picks tickets are =
      subst (λ (hs : List (ℕ × ℕ)). AreGot (set passes lb q) hs) (sym (tickets ∙ append-nil held))
      (got_none passes lb p q at b r r' held turn
      (λ u. last_none b new r r' lb session at' u (receipt_of (record { lb = lb; session = session; at = at' }) e) gains (ap (λ (c : Call). gives_back u c) asked)) are)
  picked_got b new r r' held held' session at' ask e answer.Done is turn gains asked picks tickets are = absurd picks

  pub choose_got : (old new : DeskLists) (session at' : ℕ) (ask : Ask) (result : Result (Choice PlainLease) (RoomError FullMark))
      → IfOk result (CallChooses (view_of p) (view_of q) old new (record { lb = lb; session = session; at = at' }) ask)
      → IfErr result (CallDenies (view_of p) (view_of q) old new (record { lb = lb; session = session; at = at' }))
      → AreGot passes old.held.items → AreGot (set passes lb q) new.held.items
  choose_got old new session at' ask (Ok c) ok err are =
      let s = ok.selects in
      picked_got s.book s.new old.receipts.items new.receipts.items old.held.items new.held.items session at' ask ok.picked.entry ok.picked.entry.answer refl s.turn s.gains s.asked
      s.picks ok.held are
  choose_got old new session at' ask (Err e) ok err are =
      subst (λ (hs : List (ℕ × ℕ)). AreGot (set passes lb q) hs) (sym err.held)
      (elim err.why [
        | inl d ↦
            got_none passes lb p q at d.book old.receipts.items new.receipts.items old.held.items d.turn
            (λ t. due_none d.book d.new old.receipts.items new.receipts.items lb session at' t _ d.gains) are
        | inr n ↦ got_wanted passes lb p q at old.held.items n.0.view are
      ])

  -- A Return: every other ticket is still had.
  pub return_got : (r r' : List Receipt) (held : List (ℕ × ℕ)) (session at' ticket : ℕ) (outcome : Outcome)
      → ReturnsInTurn (view_of p) (view_of q) r r' (record { lb = lb; session = session; at = at' }) ticket outcome → AreGot passes held
      → AreGot (set passes lb q) (without held (lb, ticket))
  return_got r r' held session at' ticket outcome back are =
      let last : Receipt = receipt_of (record { lb = lb; session = session; at = at' }) back.entry in
      let gained : gained_in r r' ≡ last ∷ [] = gained_is r r' (last ∷ []) back.receipts in
      got_without passes (set passes lb q) held (lb, ticket)
      (λ x other got.
      got_turn passes lb p q back.book (gained_in r r') x at back.turn
      (λ here.
      let differs : (x.1 == ticket) ≡ false = ticket_differs lb ticket x here other in
      ap (λ (g : List Receipt). is_returned x.1 (entries_in g)) gained
      ∙ ap (λ (c : Call). gives_back x.1 c || false) back.adds.asked ∙ ap (λ (c : Bool). c || false) differs)
      got)
      are
