-- The numbers that are left after a turn, over all that its caller has then seen.
use Rattle.std.proofs.Common.{◌≡◌, ℕ, zero, suc, ◌+◌, ◌^◌, ◌<◌, ◌≤◌, List, [], ◌∷◌, ◌++◌, length, set, reverse, Result, Ok, Err, refl, sym, ap, ◌∙◌, subst, inl, inr, arith, append_assoc}
use Rattle.std.specs.Prelude.{IfOk, IfErr, OnOk}
use Rattle.std.proofs.lemmas.List.{map-append}
use mathlib.Core.Option.{some, some-injective}
use lib.ListN.{get_elem?}
use Rattle.atomic_table.proofs.Lists.{set_here}
use Rattle.lb_model.specs.Journal.{each, members, next_of}
use Rattle.lb_model.specs.Legal.{IsAnswered, IsLegal, IsLegalPast, IsNext, taken_by}
use Rattle.lb_model.specs.Multiple.{multiple_of}
use Rattle.lb_model.specs.Settings.{Setting, called, common_after, setting_of}
use Rattle.lb_model.specs.Tickets.{out}
use Rattle.lb_model.proofs.ListFacts.{reverse_snoc}
use Rattle.lb_model.specs.declared.ask.Ask.{Ask}
use Rattle.lb_model.specs.declared.change.Command.{Command}
use Rattle.lb_model.specs.declared.journal.Call.{Call}
use Rattle.lb_model.specs.declared.journal.Call.TheVariants as call
use Rattle.lb_model.specs.declared.journal.Entry.{Entry}
use Rattle.lb_model.specs.declared.opening.Opening.{Opening}
use Rattle.lb_model.specs.declared.refusal.AdminError.{AdminError}
use Rattle.lb_model.specs.declared.refusal.AdminError.TheVariants as admin
use Rattle.lb_model.specs.declared.refusal.FullMark.{FullMark}
use Rattle.lb_model.specs.declared.refusal.RoomError.{RoomError}
use Rattle.lb_model.specs.declared.refusal.RoomError.TheVariants as room
use Rattle.lb_book.specs.Desks.{refused_first}
use Rattle.lb_book.specs.Journal.{IsMarked, Journal, next_number, past_of, tickets_out}
use Rattle.lb_book.specs.PlainDesks.{receipt_of}
use Rattle.lb_book.specs.Refused.{IsFullAt, RefusesMaintain}
use Rattle.lb_book.specs.ToldBooks.{AreNextAt, grown_by}
use Rattle.lb_book.specs.declared.desk.Choice.{Choice}
use Rattle.lb_book.specs.declared.desk.Occasion.{Occasion}
use Rattle.lb_book.specs.declared.plain_desk.PlainLease.{PlainLease}
use Rattle.lb_book.specs.declared.receipt.Receipt.{Receipt}
use Rattle.lb_book.proofs.ToldLaws.{grown-nil}
use Rattle.lb_passes.specs.Turns.{IsBookOf}
use Rattle.lb_passes.specs.declared.pass_view.Origin.{Origin}
use Rattle.lb_passes.specs.declared.pass_view.PassView.{PassView}
use Rattle.lb_passes.proofs.BookLaws.{book_grown}
use Rattle.lb_book.proofs.HistoryLaws.{IsWhole, whole_next, whole_of, whole_tickets}
use Rattle.lb_passes.specs.Calls.{CallChooses, CallCommands, CallDenies, CallRefuses}
use Rattle.lb_passes.specs.Holds.{TakesTurn, entries_in, gained_in}
use Rattle.lb_passes.specs.PassDesks.{view_of}
use Rattle.lb_passes.specs.Rooms.{AskFits, CommandFits, HadRoom, HadRoomFor, HasRoomAfter, LacksRoom, next_after, out_after}
use Rattle.lb_passes.specs.declared.desk_lists.DeskLists.{DeskLists}
use Rattle.lb_passes.specs.declared.pass.Pass.{Pass}
use Rattle.lb_passes.proofs.GainLaws.{gained_is}
use Rattle.lb_passes.proofs.GotLaws.{within_at}

-- The newest entry of a legal history may follow those before it.
newest_next : (o : Opening) (h : List Entry) (e : Entry) → IsLegal 2 o (h ++ e ∷ []) → IsNext 2 o (reverse h) e
newest_next o h e legal =
    let both : IsNext 2 o (reverse h) e × IsLegalPast 2 o (reverse h) = subst (λ (p : List Entry). IsLegalPast 2 o p) (reverse_snoc h e) legal in both.0

-- The call's own entry, and what was seen before it.
pub record EndsWith (w : PassView) (last : Entry) : Type 0 where
  pub before : List Entry
  pub seen : w.seen ≡ before ++ last ∷ []
  pub next : IsNext 2 w.origin.opening (reverse before) last

ends_with : (v w : PassView) (b : Journal) (r r' due : List Receipt) (last : Receipt) → TakesTurn v w b (gained_in r r') → r' ≡ r ++ (due ++ last ∷ [])
    → EndsWith w last.entry
ends_with v w b r r' due last turn receipts =
    let gained : gained_in r r' ≡ due ++ last ∷ [] = gained_is r r' (due ++ last ∷ []) receipts in
    let entries : entries_in (gained_in r r') ≡ entries_in due ++ last.entry ∷ [] =
    ap (λ (g : List Receipt). entries_in g) gained ∙ map-append (λ (x : Receipt). x.entry) due (last ∷ []) in
    let all : turn.log ++ entries_in (gained_in r r') ≡ (turn.log ++ entries_in due) ++ last.entry ∷ [] =
    ap (λ (es : List Entry). turn.log ++ es) entries ∙ sym (append_assoc turn.log (entries_in due) (last.entry ∷ [])) in
    let legal : IsLegal 2 v.origin.opening ((turn.log ++ entries_in due) ++ last.entry ∷ []) =
    subst (λ (h : List Entry). IsLegal 2 v.origin.opening h) all turn.history.legal in
    record {
      before = turn.log ++ entries_in due;
      seen = ap (λ (x : PassView). x.seen) turn.after ∙ all;
      next =
          subst (λ (o : Origin). IsNext 2 o.opening (reverse (turn.log ++ entries_in due)) last.entry) (sym (ap (λ (x : PassView). x.origin) turn.after))
          (newest_next v.origin.opening (turn.log ++ entries_in due) last.entry legal);
    }

one_left : (more : ℕ) (w : PassView) (last : Entry) (ends : EndsWith w last) → taken_by last.call ≡ more → HasRoomAfter more w.origin.opening ends.before
one_left more w last ends takes =
    let number : last.seq ≡ next_of w.origin.opening (reverse ends.before) = ends.next.number in
    let left : last.seq + length (out w.origin.opening (reverse ends.before)) + taken_by last.call ≤ 2 ^ 48 = ends.next.room in
    omega (arith, number, left, takes)

had_room : (more : ℕ) (w : PassView) (last : Entry) → EndsWith w last → taken_by last.call ≡ more → HadRoom more w
had_room more w last ends takes = record { before = ends.before; newest = last; seen = ends.seen; room = one_left more w last ends takes }

had_room_for : (command : Command) (w : PassView) (last : Entry) → EndsWith w last → last.call ≡ call.Admin command → HadRoomFor command w
had_room_for command w last ends called =
    let answered : IsAnswered 2 w.origin.opening (reverse ends.before) last (call.Admin command) =
    subst (λ (k : Call). IsAnswered 2 w.origin.opening (reverse ends.before) last k) called ends.next.answered in
    record {
      before = ends.before;
      newest = last;
      seen = ends.seen;
      room = one_left 1 w last ends (ap (λ (k : Call). taken_by k) called);
      narrow = answered.0.narrow;
    }

-- The Book that a turn left, by its whole history.
left_whole : (v w : PassView) (b : Journal) (at : ℕ) (gained : List Receipt) → TakesTurn v w b gained → AreNextAt b at gained → IsWhole w.origin.opening w.seen (grown_by b gained)
left_whole v w b at gained turn next =
    let stands : IsBookOf v.origin (turn.log ++ entries_in gained) (grown_by b gained) = book_grown v.origin turn.log b at gained turn.stands next in
    let whole : IsWhole v.origin.opening (turn.log ++ entries_in gained) (grown_by b gained) =
    whole_of v.origin.opening (turn.log ++ entries_in gained) (grown_by b gained) stands.whole stands.sound in
    subst (λ (x : PassView). IsWhole x.origin.opening x.seen (grown_by b gained)) (sym turn.after) whole

marked : (v : PassView) (b : Journal) (mark : FullMark) → IsWhole v.origin.opening v.seen b → IsMarked (next_number b) (tickets_out b) mark
    → IsMarked (next_after v.origin.opening v.seen) (out_after v.origin.opening v.seen) mark
marked v b mark whole is = (is.0 ∙ whole_next v.origin.opening v.seen b whole, is.1 ∙ whole_tickets v.origin.opening v.seen b whole)

lacks : (more : ℕ) (v : PassView) (b : Journal) (mark : FullMark) → IsWhole v.origin.opening v.seen b → IsFullAt more b mark → LacksRoom more v.origin.opening v.seen mark
lacks more v b mark whole is =
    let past : 2 ^ 48 < next_number b + tickets_out b + more = is.0 in
    (omega (arith, past, whole_next v.origin.opening v.seen b whole, whole_tickets v.origin.opening v.seen b whole), marked v b mark whole is.1)

-- One number isn't left, so two aren't.
lacks_two : (v : PassView) (mark : FullMark) → LacksRoom 1 v.origin.opening v.seen mark → LacksRoom 2 v.origin.opening v.seen mark
lacks_two v mark is =
    let past : 2 ^ 48 < next_after v.origin.opening v.seen + out_after v.origin.opening v.seen + 1 = is.0 in (omega (arith, past), is.1)

each_agree : (n : ℕ) (f g : ℕ → ℕ) → ((j : ℕ) → j < n → f j ≡ g j) → each n f ≡ each n g
each_agree zero f g same = refl
each_agree (suc n) f g same =
    ap (λ (xs : List ℕ). xs ++ f n ∷ []) (each_agree n f g (λ j lt. same j (omega arith))) ∙ ap (λ (x : ℕ). each n g ++ x ∷ []) (same n (omega arith))

whole_common : (o : Opening) (h : List Entry) (b : Journal) (c : Call) → IsWhole o h b → common_after b.opening (past_of b) c ≡ common_after o (reverse h) c
whole_common o h b c whole =
    ap (λ (n : ℕ). multiple_of (each n (λ m. (called m c (setting_of b.opening (past_of b) m)).factor))) whole.alike.count
    ∙ ap multiple_of (each_agree (members o) (λ m. (called m c (setting_of b.opening (past_of b) m)).factor) (λ m. (called m c (setting_of o (reverse h) m)).factor)
    (λ m lt. ap (λ (s : Setting). (called m c s).factor) (whole.alike.setting m lt)))

-- A Maintain that was refused.
lacks_first : (v w : PassView) (b : Journal) (r r' due : List Receipt) (at : ℕ) (mark : FullMark) → TakesTurn v w b (gained_in r r') → r' ≡ r ++ due
    → AreNextAt b at due → due ≡ [] → IsFullAt 1 b mark → LacksRoom 1 w.origin.opening w.seen mark
lacks_first v w b r r' due at mark turn receipts next none is =
    let gained : gained_in r r' ≡ due = gained_is r r' due receipts in
    let left : IsWhole w.origin.opening w.seen (grown_by b due) = left_whole v w b at due (subst (λ (g : List Receipt). TakesTurn v w b g) gained turn) next in
    let same : b ≡ grown_by b due = grown-nil b ∙ ap (λ (g : List Receipt). grown_by b g) (sym none) in
    lacks 1 w (grown_by b due) mark left (subst (λ (x : Journal). IsFullAt 1 x mark) same is)

-- An ask that was answered or refused.
pub ask_fits : (v w : PassView) (old new : DeskLists) (on : Occasion) (ask : Ask) (result : Result (Choice PlainLease) (RoomError FullMark))
    → IfOk result (CallChooses v w old new on ask) → IfErr result (CallDenies v w old new on) → AskFits w result
ask_fits v w old new on ask (Ok c) ok err =
    let s = ok.selects in
    had_room 2 w ok.picked.entry (ends_with v w s.book old.receipts.items new.receipts.items s.gains.due (receipt_of on ok.picked.entry) s.turn s.gains.gains.receipts)
    (ap (λ (k : Call). taken_by k) s.asked)
ask_fits v w old new on ask (Err (room.Full mark)) ok err =
    elim err.why [
      | inl d ↦
          let gained : gained_in old.receipts.items new.receipts.items ≡ d.gains.due = gained_is old.receipts.items new.receipts.items d.gains.due d.gains.gains.receipts in
          let left : IsWhole w.origin.opening w.seen (grown_by d.book d.gains.due) =
          left_whole v w d.book on.at d.gains.due (subst (λ (g : List Receipt). TakesTurn v w d.book g) gained d.turn) d.gains.gains.next in
          elim d.gains.account [
            | inl after ↦ lacks 2 w (grown_by d.book d.gains.due) mark left after.1
            | inr first ↦
                lacks_two w mark
                (lacks_first v w d.book old.receipts.items new.receipts.items d.gains.due on.at mark d.turn d.gains.gains.receipts d.gains.gains.next first.0 first.1.1)
          ]
      | inr n ↦ absurd (no_memory mark n.1)
    ]
  where
    no_memory : (mark : FullMark) → room.Full mark ≡ room.NoMemory → ⊥
    no_memory mark is = absurd cc
ask_fits v w old new on ask (Err room.NoMemory) ok err = tt

-- A command that was done or refused.
refused_full : (b : Journal) (at : ℕ) (mark : FullMark) (first : RoomError FullMark) → admin.Full mark ≡ refused_first first → RefusesMaintain (λ mark. mark) b at first → IsFullAt 1 b mark
refused_full b at mark (room.Full other) is refused =
    let same : other ≡ mark = cc in subst (λ (m : FullMark). IsFullAt 1 b m) same refused.1
refused_full b at mark room.NoMemory is refused = absurd cc

wide_first : {X : Type 0} (mark : FullMark) (first : RoomError FullMark) → admin.TooWide mark ≡ refused_first first → X
wide_first mark (room.Full other) is = absurd cc
wide_first mark room.NoMemory is = absurd cc

pub command_fits : (v w : PassView) (old new : DeskLists) (on : Occasion) (command : Command) (result : Result (Unit {0}) (AdminError FullMark))
    → OnOk result (CallCommands v w old new on command) → IfErr result (CallRefuses v w old new on command) → CommandFits command w result
command_fits v w old new on command (Ok done) ok err =
    let s = ok.commands in
    let e : Entry = s.gains.0 in
    let ends : EndsWith w e = ends_with v w s.book old.receipts.items new.receipts.items s.gains.3.due (receipt_of on e) s.turn s.gains.3.gains.receipts in
    had_room_for command w e ends s.gains.1
command_fits v w old new on command (Err admin.UnknownMember) ok err = tt
command_fits v w old new on command (Err admin.BadValue) ok err = tt
command_fits v w old new on command (Err (admin.TooWide mark)) ok err =
    elim err.why [
      | inl d ↦
          let gained : gained_in old.receipts.items new.receipts.items ≡ d.gains.due = gained_is old.receipts.items new.receipts.items d.gains.due d.gains.gains.receipts in
          let left : IsWhole w.origin.opening w.seen (grown_by d.book d.gains.due) =
          left_whole v w d.book on.at d.gains.due (subst (λ (g : List Receipt). TakesTurn v w d.book g) gained d.turn) d.gains.gains.next in
          elim d.gains.account [
            | inl after ↦
                let wide : 2 ^ 32 ≤ common_after (grown_by d.book d.gains.due).opening (past_of (grown_by d.book d.gains.due)) (call.Admin command) = after.1.2 in (
                  omega (arith, wide, whole_common w.origin.opening w.seen (grown_by d.book d.gains.due) (call.Admin command) left),
                  marked w (grown_by d.book d.gains.due) mark left after.1.3,
                )
            | inr first ↦ wide_first mark first.0 first.1
          ]
      | inr n ↦ absurd (no_memory mark n.1)
    ]
  where
    no_memory : (mark : FullMark) → admin.TooWide mark ≡ admin.NoMemory → ⊥
    no_memory mark is = absurd cc
command_fits v w old new on command (Err (admin.Full mark)) ok err =
    elim err.why [
      | inl d ↦
          let gained : gained_in old.receipts.items new.receipts.items ≡ d.gains.due = gained_is old.receipts.items new.receipts.items d.gains.due d.gains.gains.receipts in
          let left : IsWhole w.origin.opening w.seen (grown_by d.book d.gains.due) =
          left_whole v w d.book on.at d.gains.due (subst (λ (g : List Receipt). TakesTurn v w d.book g) gained d.turn) d.gains.gains.next in
          elim d.gains.account [
            | inl after ↦ lacks 1 w (grown_by d.book d.gains.due) mark left after.1.1
            | inr first ↦
                lacks_first v w d.book old.receipts.items new.receipts.items d.gains.due on.at mark d.turn d.gains.gains.receipts d.gains.gains.next first.2
                (refused_full d.book on.at mark first.0 first.1 first.3)
          ]
      | inr n ↦ absurd (no_memory mark n.1)
    ]
  where
    no_memory : (mark : FullMark) → admin.Full mark ≡ admin.NoMemory → ⊥
    no_memory mark is = absurd cc
command_fits v w old new on command (Err admin.NoMemory) ok err = tt

-- The pass in its place.
pub fits_set : (passes : List Pass) (lb : ℕ) (p q : Pass) (P : PassView → Type 0) → get_elem? passes lb ≡ some p → P (view_of q)
    → (r : Pass) → get_elem? (set passes lb q) lb ≡ some r → P (view_of r)
fits_set passes lb p q P at is r there =
    subst (λ (x : Pass). P (view_of x)) (some-injective q r (sym (set_here passes lb q (within_at passes lb p at)) ∙ there)) is
