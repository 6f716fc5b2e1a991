use Rattle.std.proofs.Common.{◌≡◌, ◌+◌, ◌≤◌, ◌<◌, ◌^◌, ℕ, List, [], ◌∷◌, ◌++◌, length, reverse, Option, None, refl, sym, ◌∙◌, ap, subst}
use Rattle.std.specs.Prelude.{vec_capacity}
use Rattle.std.proofs.lemmas.Bool.{false≢true}
use Rattle.std.proofs.lemmas.List.{length-reverse}
use Rattle.std.proofs.lemmas.Result.{IfOk-from_err}
use Rattle.lb_model.specs.Legal.{IsLegal, IsNext}
use Rattle.lb_model.specs.Tickets.{out}
use Rattle.lb_model.specs.declared.journal.Answer.TheVariants as answer
use Rattle.lb_model.specs.declared.journal.Call.TheVariants as call
use Rattle.lb_model.specs.declared.journal.Entry.{Entry}
use Rattle.lb_model.specs.declared.opening.Opening.{Opening}
use Rattle.lb_rules.specs.RuleNumbers.{rules_number}
use Rattle.lb_book.specs.Due.{due_moment, entry_moment}
use Rattle.lb_book.specs.Journal.{AddsEntry, IsMarked, IsSound, Journal, next_number, past_of, tickets_out}
use Rattle.lb_book.specs.Kept.{IsKept, IsNow}
use Rattle.lb_book.proofs.AdminLaws.{journal_of}
use Rattle.lb_book.proofs.CallLaws.{kept-called}
use Rattle.lb_book.proofs.KeptLaws.{kept-moved}
use Rattle.lb_book.proofs.MaintainLaws.{maintain_entry, next_maintained, now-maintained}
use Rattle.lb_book.proofs.NumberLaws.{number_of_next, not_before, room_taken, room_beside, room_for_one, no_less}
use Rattle.lb_book.proofs.RoomLaws.{anyway, due_past, early_past, entry_added, full_marked, full_past, maintenance_by, room_left}
use Rattle.lb_book.proofs.book.Book.maintain_if_due.Goals as goal

pub invariant_of-self : goal.invariant_of-self
invariant_of-self c =
    kept-moved (rules_number c.self.inside.rules) c.self.inside.opening c.self.inside.entries.items c.take_room.new.entries.items c.self.inside.present
    c.self.inside.returned.items c.take_room.new.returned.items c.self.inside.early.items c.self.inside.added (vec_capacity c.self.inside.entries)
    (vec_capacity c.self.inside.returned) (vec_capacity c.take_room.new.entries) (vec_capacity c.take_room.new.returned) c.self.invariant
    c.take_room.ensures.items c.take_room.ensures.places c.take_room.ensures.no_less c.take_room.ensures.places_no_less

pub invariant_of-self-2 : goal.invariant_of-self-2
invariant_of-self-2 c =
    let v : ℕ = rules_number c.self.inside.rules in
    let o : Opening = c.self.inside.opening in
    let h : List Entry = c.self.inside.entries.items in
    let seq : ℕ = c.self.inside.opening.next + c.len.result in
    let e : Entry = maintain_entry seq c.args.session c.max-moment.result in
    let number : seq ≡ c.self.inside.opening.next + length h = number_of_next c.self.inside.opening.next _ _ _ c.len.ensures c.self.inside.entries.ok.0 in
    let items : c.add.new.entries.items ≡ h ++ e ∷ [] = c.add.ensures.items ∙ ap (λ (xs : List Entry). xs ++ e ∷ []) c.take_room.ensures.items in
    let places : c.add.new.returned.items ≡ c.self.inside.returned.items ++ None ∷ [] = c.add.ensures.places ∙ ap (λ (xs : List (Option ℕ)). xs ++ None ∷ []) c.take_room.ensures.places in
    let fits : length h + (length (out o (reverse h)) + 1) ≤ vec_capacity c.add.new.entries =
    room_taken (length h) c.self.inside.present.out (length (out o (reverse h))) 1 (vec_capacity c.take_room.new.entries) (vec_capacity c.add.new.entries)
    c.in_ok-take_room.ensures.room c.add.ensures.no_less c.self.invariant.present.tickets in
    let fits_too : length h + (length (out o (reverse h)) + 1) ≤ vec_capacity c.add.new.returned =
    room_beside (length c.self.inside.returned.items) (length (reverse h)) (length h) c.self.inside.present.out (length (out o (reverse h))) 1
    (vec_capacity c.take_room.new.returned) (vec_capacity c.add.new.returned) c.in_ok-take_room.ensures.places_room c.add.ensures.places_no_less
    c.self.invariant.present.tickets c.self.invariant.returns.whole (length-reverse h) in
    let next : IsNext v o (reverse h) e =
    next_maintained v o h c.self.inside.present seq c.args.session c.max-moment.result c.self.invariant.present number
    (not_before c.args.at c.self.inside.present.at c.max-moment.result c.max-moment.ensures) (c.if-not-is_due.ensures.0 refl) c.if-next-out-gt-MOST_NUMBERS.false in
    let present : IsNow v o (e ∷ reverse h) c.maintain.new.self =
    now-maintained v o (reverse h) c.self.inside.present c.maintain.new.self seq c.args.session c.max-moment.result c.self.invariant.present
    (record {
      rows = c.maintain.ensures.rows;
      tickets = c.maintain.ensures.tickets;
      moment = c.maintain.ensures.moment;
      maintained = c.maintain.ensures.maintained;
      chosen = c.maintain.ensures.chosen;
    }) in
    let kept : IsKept v o (h ++ e ∷ []) c.maintain.new.self (c.self.inside.returned.items ++ None ∷ []) c.self.inside.early.items
    (c.self.inside.added + 1) (vec_capacity c.add.new.entries) (vec_capacity c.add.new.returned) =
    kept-called v o h c.self.inside.present c.maintain.new.self c.self.inside.returned.items c.self.inside.early.items c.self.inside.added
    (vec_capacity c.self.inside.entries) (vec_capacity c.self.inside.returned) (vec_capacity c.add.new.entries) (vec_capacity c.add.new.returned)
    e c.self.invariant next present refl (λ t. refl) fits fits_too in
    kept-moved v o (h ++ e ∷ []) c.add.new.entries.items c.maintain.new.self (c.self.inside.returned.items ++ None ∷ []) c.add.new.returned.items
    c.self.inside.early.items (c.self.inside.added + 1) (vec_capacity c.add.new.entries) (vec_capacity c.add.new.returned)
    (vec_capacity c.add.new.entries) (vec_capacity c.add.new.returned) kept items places (no_less _) (no_less _)

-- It is due; a number is left for it, or it is refused.
pub returns-then-next-out-gt-MOST_NUMBERS-clause-due : goal.returns-then-next-out-gt-MOST_NUMBERS-clause-due
returns-then-next-out-gt-MOST_NUMBERS-clause-due c =
    subst (λ (b : Journal). (due_moment b ≤ entry_moment b c.args.at) × (2 ^ 48 < next_number b + tickets_out b + 1)
    × IsMarked (next_number b) (tickets_out b) (record { next = c.self.inside.opening.next + c.len.result; out = c.self.inside.present.out })) c.self.view_is (
      (due_past (rules_number c.self.inside.rules) c.self.inside.opening c.self.inside.entries.items c.self.inside.present c.self.inside.added c.args.at c.max-moment.result
          c.self.invariant.present c.max-moment.ensures (c.if-not-is_due.ensures.0 refl)),
      full_past (rules_number c.self.inside.rules) c.self.inside.opening c.self.inside.entries.items c.self.inside.present c.self.inside.added (c.self.inside.opening.next + c.len.result) 1 c.self.invariant.present
          (number_of_next c.self.inside.opening.next _ _ _ c.len.ensures c.self.inside.entries.ok.0) c.if-next-out-gt-MOST_NUMBERS.true,
      full_marked (rules_number c.self.inside.rules) c.self.inside.opening c.self.inside.entries.items c.self.inside.present c.self.inside.added (c.self.inside.opening.next + c.len.result) 1 c.self.invariant.present
          (number_of_next c.self.inside.opening.next _ _ _ c.len.ensures c.self.inside.entries.ok.0),
    )

pub returns-in_err-take_room-clause-due : goal.returns-in_err-take_room-clause-due
returns-in_err-take_room-clause-due c =
    maintenance_by c.args.self.now c.args.at c.from_residual.result c.from_residual.ensures.0 c.from_residual.ensures.1
    (subst (λ (b : Journal). due_moment b ≤ entry_moment b c.args.at) c.self.view_is (due_past (rules_number c.self.inside.rules) c.self.inside.opening c.self.inside.entries.items c.self.inside.present c.self.inside.added c.args.at c.max-moment.result
    c.self.invariant.present c.max-moment.ensures (c.if-not-is_due.ensures.0 refl)))
    (subst (λ (b : Journal). next_number b + tickets_out b + 1 ≤ 2 ^ 48) c.self.view_is
    (room_left (rules_number c.self.inside.rules) c.self.inside.opening c.self.inside.entries.items c.self.inside.present c.self.inside.added (c.self.inside.opening.next + c.len.result) 1 c.self.invariant.present
    (number_of_next c.self.inside.opening.next _ _ _ c.len.ensures c.self.inside.entries.ok.0) c.if-next-out-gt-MOST_NUMBERS.false))

pub returns-clause-due : goal.returns-clause-due
returns-clause-due c =
    subst (λ (b : Journal). (due_moment b ≤ entry_moment b c.args.at) × (next_number b + tickets_out b + 1 ≤ 2 ^ 48)) c.self.view_is (
      (due_past (rules_number c.self.inside.rules) c.self.inside.opening c.self.inside.entries.items c.self.inside.present c.self.inside.added c.args.at c.max-moment.result
          c.self.invariant.present c.max-moment.ensures (c.if-not-is_due.ensures.0 refl)),
      room_left (rules_number c.self.inside.rules) c.self.inside.opening c.self.inside.entries.items c.self.inside.present c.self.inside.added (c.self.inside.opening.next + c.len.result) 1 c.self.invariant.present
          (number_of_next c.self.inside.opening.next _ _ _ c.len.ensures c.self.inside.entries.ok.0) c.if-next-out-gt-MOST_NUMBERS.false,
    )

pub returns-clause-next : goal.returns-clause-next
returns-clause-next c =
    let seq : ℕ = c.self.inside.opening.next + c.len.result in
    subst (λ (b : Journal). IsNext b.rules b.opening (past_of b) (maintain_entry seq c.args.session c.max-moment.result)) c.self.view_is
    (next_maintained (rules_number c.self.inside.rules) c.self.inside.opening c.self.inside.entries.items c.self.inside.present seq c.args.session c.max-moment.result
    c.self.invariant.present (number_of_next c.self.inside.opening.next _ _ _ c.len.ensures c.self.inside.entries.ok.0)
    (not_before c.args.at c.self.inside.present.at c.max-moment.result c.max-moment.ensures) (c.if-not-is_due.ensures.0 refl) c.if-next-out-gt-MOST_NUMBERS.false)

pub returns-clause-sound : goal.returns-clause-sound
returns-clause-sound c = (invariant_of-self-2 c).legal

-- nothing is done without memory
pub returns-in_err-take_room-clause-ok : goal.returns-in_err-take_room-clause-ok
returns-in_err-take_room-clause-ok c = IfOk-from_err c.from_residual.result _ c.from_residual.ensures.0

pub returns-in_err-take_room-clause-done : goal.returns-in_err-take_room-clause-done
returns-in_err-take_room-clause-done c = IfOk-from_err c.from_residual.result _ c.from_residual.ensures.0

pub returns-in_err-take_room-clause-next : goal.returns-in_err-take_room-clause-next
returns-in_err-take_room-clause-next c = IfOk-from_err c.from_residual.result _ c.from_residual.ensures.0

pub maintain-requires : goal.maintain-requires
maintain-requires c = c.if-not-is_due.ensures.0 refl

pub add-requires : goal.add-requires
add-requires c =
    let entries : length c.take_room.new.entries.items ≡ length c.self.inside.entries.items = ap (λ (xs : List Entry). length xs) c.take_room.ensures.items in
    let places : length c.take_room.new.returned.items ≡ length c.self.inside.returned.items = ap (λ (xs : List (Option ℕ)). length xs) c.take_room.ensures.places in
    record {
      room = room_for_one _ _ c.self.inside.present.out _ entries c.in_ok-take_room.ensures.room;
      places_room = room_for_one _ _ c.self.inside.present.out _ places c.in_ok-take_room.ensures.places_room;
    }

pub returns-then-not-is_due-clause-due : goal.returns-then-not-is_due-clause-due
returns-then-not-is_due-clause-due c =
    subst (λ (b : Journal). entry_moment b c.args.at < due_moment b) c.self.view_is
    (early_past (rules_number c.self.inside.rules) c.self.inside.opening c.self.inside.entries.items c.self.inside.present c.self.inside.added c.args.at c.max-moment.result
    c.self.invariant.present c.max-moment.ensures (λ late. false≢true (sym c.if-not-is_due.true ∙ c.is_due.ensures.1 late)))

pub returns-then-not-is_due-clause-sound : goal.returns-then-not-is_due-clause-sound
returns-then-not-is_due-clause-sound c = subst (λ (b : Journal). IsSound b) c.self.view_is c.self.invariant.legal

pub returns-then-next-out-gt-MOST_NUMBERS-clause-sound : goal.returns-then-next-out-gt-MOST_NUMBERS-clause-sound
returns-then-next-out-gt-MOST_NUMBERS-clause-sound c = subst (λ (b : Journal). IsSound b) c.self.view_is c.self.invariant.legal

pub returns-in_err-take_room-clause-sound : goal.returns-in_err-take_room-clause-sound
returns-in_err-take_room-clause-sound c =
    subst (λ (xs : List Entry). IsLegal (rules_number c.self.inside.rules) c.self.inside.opening xs) (sym c.take_room.ensures.items) c.self.invariant.legal

pub returns-in_err-take_room-clause-err : goal.returns-in_err-take_room-clause-err
returns-in_err-take_room-clause-err c =
    anyway c.from_residual.result _
    (ap (λ (xs : List Entry). journal_of (rules_number c.self.inside.rules) c.self.inside.opening xs c.self.inside.added) c.take_room.ensures.items ∙ c.self.view_is)

pub returns-clause-ok : goal.returns-clause-ok
returns-clause-ok c =
    let seq : ℕ = c.self.inside.opening.next + c.len.result in
    let e : Entry = maintain_entry seq c.args.session c.max-moment.result in
    let items : c.add.new.entries.items ≡ c.self.inside.entries.items ++ e ∷ [] = c.add.ensures.items ∙ ap (λ (xs : List Entry). xs ++ e ∷ []) c.take_room.ensures.items in
    subst (λ (b : Journal). AddsEntry b (journal_of (rules_number c.self.inside.rules) c.self.inside.opening c.add.new.entries.items (c.self.inside.added + 1)) c.args.session c.args.at call.Maintain e) c.self.view_is
    (entry_added (rules_number c.self.inside.rules) c.self.inside.opening c.self.inside.entries.items c.add.new.entries.items c.self.inside.present c.self.inside.added seq c.args.session c.args.at c.max-moment.result call.Maintain answer.Done
    c.self.invariant.present (number_of_next c.self.inside.opening.next _ _ _ c.len.ensures c.self.inside.entries.ok.0) c.max-moment.ensures items)
