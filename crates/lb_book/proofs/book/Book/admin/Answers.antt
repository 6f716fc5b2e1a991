use Rattle.std.proofs.Common.{◌≡◌, ◌+◌, ◌≤◌, ◌<◌, ℕ, List, [], ◌∷◌, ◌++◌, length, reverse, get_or, Option, None, Ok, Err, refl, sym, subst, ◌∙◌, ap, arith}
use Rattle.std.specs.Prelude.{vec_capacity}
use Rattle.std.proofs.lemmas.List.{length-reverse}
use Rattle.lb_model.specs.Legal.{IsDoable, IsNext, IsLegal}
use Rattle.lb_model.specs.Settings.{common_after}
use Rattle.lb_model.specs.Tickets.{out}
use Rattle.lb_model.specs.declared.journal.Call.{Call}
use Rattle.lb_model.specs.declared.journal.Entry.{Entry}
use Rattle.lb_model.specs.declared.opening.Opening.{Opening}
use Rattle.lb_model.specs.declared.refusal.AdminError.TheVariants as Admin
use Rattle.lb_rules.specs.declared.standing.Standing.{Standing}
use Rattle.lb_book.specs.Commanded.{IsCommanded}
use Rattle.lb_book.specs.Journal.{Journal, past_of, AddsEntry, IsSound}
use Rattle.lb_rules.specs.RuleNumbers.{rules_number}
use Rattle.lb_book.specs.Kept.{IsKept, IsNow}
use Rattle.lb_book.proofs.AdminLaws.{commanded_by, judged_common, judged_doable, judged_full, judged_refused, judged_room, journal_of}
use Rattle.lb_book.proofs.CallLaws.{kept-called}
use Rattle.lb_book.proofs.CommandLaws.{admin_entry, factors_commanded, factors_divide, factors_now, next_commanded, now-commanded}
use Rattle.lb_book.proofs.KeptLaws.{kept-moved}
use Rattle.lb_book.proofs.NumberLaws.{number_of_next, not_before, room_taken, room_beside, no_less}
use Rattle.lb_model.specs.declared.journal.Call.TheVariants as call
use Rattle.lb_model.specs.declared.journal.Answer.TheVariants as answer
use Rattle.lb_book.proofs.RoomLaws.{anyway, entry_added}
use Rattle.std.proofs.lemmas.Result.{IfOk-from_err}
use Rattle.lb_book.proofs.book.Book.admin.Goals as goal

pub judge-requires-clause-some : goal.judge-requires-clause-some
judge-requires-clause-some c =
    subst (λ (rows : List Standing). (m : ℕ) (d : Standing) → m < length rows → 0 < (get_or rows m d).factor) (sym c.as_slice.ensures.value)
    (factors_now (rules_number c.self.inside.rules) c.self.inside.opening (reverse c.self.inside.entries.items) c.self.inside.present
    c.self.invariant.present c.self.invariant.legal)

pub returns-in_err-common-clause-commanded : goal.returns-in_err-common-clause-commanded
returns-in_err-common-clause-commanded c =
    commanded_by c.args.self.now c.args.command.now c.from_residual.result c.in_err-common.field-0.0 c.from_residual.ensures.0 c.from_residual.ensures.1
    (subst (λ (b : Journal). IsCommanded b c.args.command.now (Err c.in_err-common.field-0.0)) c.self.view_is
    (judged_refused (rules_number c.self.inside.rules) c.self.inside.opening c.self.inside.entries.items c.self.inside.present
    c.self.inside.returned.items c.self.inside.early.items c.self.inside.added (vec_capacity c.self.inside.entries)
    (vec_capacity c.self.inside.returned) c.self.invariant c.args.command.now (c.self.inside.opening.next + c.len.result)
    (number_of_next c.self.inside.opening.next _ _ _ c.len.ensures c.self.inside.entries.ok.0) c.as_slice.result.now c.as_slice.ensures.value c.in_err-common.field-0.0 c.in_err-common.ensures))

pub returns-then-next-out-gt-MOST_NUMBERS-clause-commanded :
    goal.returns-then-next-out-gt-MOST_NUMBERS-clause-commanded
returns-then-next-out-gt-MOST_NUMBERS-clause-commanded c =
    subst (λ (b : Journal). IsCommanded b c.args.command.now (Err (Admin.Full (record { next = c.self.inside.opening.next + c.len.result; out = c.self.inside.present.out }))))
    c.self.view_is
    (judged_full (rules_number c.self.inside.rules) c.self.inside.opening c.self.inside.entries.items c.self.inside.present
    c.self.inside.returned.items c.self.inside.early.items c.self.inside.added (vec_capacity c.self.inside.entries)
    (vec_capacity c.self.inside.returned) c.self.invariant c.args.command.now (c.self.inside.opening.next + c.len.result)
    (number_of_next c.self.inside.opening.next _ _ _ c.len.ensures c.self.inside.entries.ok.0) c.as_slice.result.now c.as_slice.ensures.value c.in_ok-common.common
    c.in_ok-common.ensures c.if-next-out-gt-MOST_NUMBERS.true)

pub returns-in_err-take_room-clause-commanded : goal.returns-in_err-take_room-clause-commanded
returns-in_err-take_room-clause-commanded c =
    commanded_by c.args.self.now c.args.command.now c.from_residual-in_err-take_room.result Admin.NoMemory
    c.from_residual-in_err-take_room.ensures.0 c.from_residual-in_err-take_room.ensures.1
    (subst (λ (b : Journal). IsCommanded b c.args.command.now (Err Admin.NoMemory)) c.self.view_is
    (judged_room (rules_number c.self.inside.rules) c.self.inside.opening c.self.inside.entries.items c.self.inside.present
    c.self.inside.returned.items c.self.inside.early.items c.self.inside.added (vec_capacity c.self.inside.entries)
    (vec_capacity c.self.inside.returned) c.self.invariant c.args.command.now (c.self.inside.opening.next + c.len.result)
    (number_of_next c.self.inside.opening.next _ _ _ c.len.ensures c.self.inside.entries.ok.0) c.as_slice.result.now c.as_slice.ensures.value c.in_ok-common.common
    c.in_ok-common.ensures c.if-next-out-gt-MOST_NUMBERS.false))

pub command-requires-clause-some : goal.command-requires-clause-some
command-requires-clause-some c =
    let doable : IsDoable c.self.inside.opening (reverse c.self.inside.entries.items) c.args.command.now = judged_doable (rules_number c.self.inside.rules) c.self.inside.opening c.self.inside.entries.items c.self.inside.present
    c.self.inside.returned.items c.self.inside.early.items c.self.inside.added (vec_capacity c.self.inside.entries)
    (vec_capacity c.self.inside.returned) c.self.invariant c.args.command.now (c.self.inside.opening.next + c.len.result)
    (number_of_next c.self.inside.opening.next _ _ _ c.len.ensures c.self.inside.entries.ok.0) c.as_slice.result.now c.as_slice.ensures.value c.in_ok-common.common
    c.in_ok-common.ensures in
    factors_commanded (rules_number c.self.inside.rules) c.self.inside.opening (reverse c.self.inside.entries.items) c.self.inside.present
    c.self.invariant.present c.args.command.now doable.values c.self.invariant.legal

pub command-requires-clause-divides : goal.command-requires-clause-divides
command-requires-clause-divides c =
    factors_divide (rules_number c.self.inside.rules) c.self.inside.opening (reverse c.self.inside.entries.items) c.self.inside.present
    c.self.invariant.present c.args.command.now c.in_ok-common.common
    (judged_common (rules_number c.self.inside.rules) c.self.inside.opening c.self.inside.entries.items c.self.inside.present
    c.self.inside.returned.items c.self.inside.early.items c.self.inside.added (vec_capacity c.self.inside.entries)
    (vec_capacity c.self.inside.returned) c.self.invariant c.args.command.now (c.self.inside.opening.next + c.len.result)
    (number_of_next c.self.inside.opening.next _ _ _ c.len.ensures c.self.inside.entries.ok.0) c.as_slice.result.now c.as_slice.ensures.value c.in_ok-common.common
    c.in_ok-common.ensures)

pub returns-clause-next : goal.returns-clause-next
returns-clause-next c =
    let next : IsNext (rules_number c.self.inside.rules) c.self.inside.opening (reverse c.self.inside.entries.items)
    (admin_entry (c.self.inside.opening.next + c.len.result) c.args.session c.max.result c.args.command.now) =
    next_commanded (rules_number c.self.inside.rules) c.self.inside.opening c.self.inside.entries.items c.self.inside.present
    (c.self.inside.opening.next + c.len.result) c.args.session c.max.result c.args.command.now c.self.invariant.present
    (number_of_next c.self.inside.opening.next _ _ _ c.len.ensures c.self.inside.entries.ok.0) (not_before c.args.at c.self.inside.present.at c.max.result c.max.ensures)
    c.if-next-out-gt-MOST_NUMBERS.false
    (judged_doable (rules_number c.self.inside.rules) c.self.inside.opening c.self.inside.entries.items c.self.inside.present
    c.self.inside.returned.items c.self.inside.early.items c.self.inside.added (vec_capacity c.self.inside.entries)
    (vec_capacity c.self.inside.returned) c.self.invariant c.args.command.now (c.self.inside.opening.next + c.len.result)
    (number_of_next c.self.inside.opening.next _ _ _ c.len.ensures c.self.inside.entries.ok.0) c.as_slice.result.now c.as_slice.ensures.value c.in_ok-common.common
    c.in_ok-common.ensures) in
    subst (λ (b : Journal). IsNext b.rules b.opening (past_of b)
    (admin_entry (c.self.inside.opening.next + c.len.result) c.args.session c.max.result c.args.command.now)) c.self.view_is next

pub invariant_of-self : goal.invariant_of-self
invariant_of-self c =
    kept-moved (rules_number c.self.inside.rules) c.self.inside.opening c.self.inside.entries.items c.take_room.new.entries.items c.self.inside.present
    c.self.inside.returned.items c.take_room.new.returned.items c.self.inside.early.items c.self.inside.added (vec_capacity c.self.inside.entries)
    (vec_capacity c.self.inside.returned) (vec_capacity c.take_room.new.entries) (vec_capacity c.take_room.new.returned) c.self.invariant
    c.take_room.ensures.items c.take_room.ensures.places c.take_room.ensures.no_less c.take_room.ensures.places_no_less

pub invariant_of-self-2 : goal.invariant_of-self-2
invariant_of-self-2 c =
    let v : ℕ = rules_number c.self.inside.rules in
    let o : Opening = c.self.inside.opening in
    let h : List Entry = c.self.inside.entries.items in
    let seq : ℕ = c.self.inside.opening.next + c.len.result in
    let e : Entry = admin_entry seq c.args.session c.max.result c.args.command.now in
    let number : seq ≡ c.self.inside.opening.next + length h = number_of_next c.self.inside.opening.next _ _ _ c.len.ensures c.self.inside.entries.ok.0 in
    let items : c.add.new.entries.items ≡ h ++ e ∷ [] = c.add.ensures.items ∙ ap (λ (xs : List Entry). xs ++ e ∷ []) c.take_room.ensures.items in
    let places : c.add.new.returned.items ≡ c.self.inside.returned.items ++ None ∷ [] = c.add.ensures.places ∙ ap (λ (xs : List (Option ℕ)). xs ++ None ∷ []) c.take_room.ensures.places in
    let fits : length h + (length (out o (reverse h)) + 1) ≤ vec_capacity c.add.new.entries =
    room_taken (length h) c.self.inside.present.out (length (out o (reverse h))) 1 (vec_capacity c.take_room.new.entries) (vec_capacity c.add.new.entries)
    c.in_ok-take_room.ensures.room c.add.ensures.no_less c.self.invariant.present.tickets in
    let fits_too : length h + (length (out o (reverse h)) + 1) ≤ vec_capacity c.add.new.returned =
    room_beside (length c.self.inside.returned.items) (length (reverse h)) (length h) c.self.inside.present.out (length (out o (reverse h))) 1
    (vec_capacity c.take_room.new.returned) (vec_capacity c.add.new.returned) c.in_ok-take_room.ensures.places_room c.add.ensures.places_no_less
    c.self.invariant.present.tickets c.self.invariant.returns.whole (length-reverse h) in
    let doable : IsDoable o (reverse h) c.args.command.now = judged_doable (rules_number c.self.inside.rules) c.self.inside.opening c.self.inside.entries.items c.self.inside.present
    c.self.inside.returned.items c.self.inside.early.items c.self.inside.added (vec_capacity c.self.inside.entries)
    (vec_capacity c.self.inside.returned) c.self.invariant c.args.command.now (c.self.inside.opening.next + c.len.result)
    (number_of_next c.self.inside.opening.next _ _ _ c.len.ensures c.self.inside.entries.ok.0) c.as_slice.result.now c.as_slice.ensures.value c.in_ok-common.common
    c.in_ok-common.ensures in
    let common_is : c.in_ok-common.common ≡ common_after o (reverse h) (Call.Admin c.args.command.now) =
    judged_common (rules_number c.self.inside.rules) c.self.inside.opening c.self.inside.entries.items c.self.inside.present
    c.self.inside.returned.items c.self.inside.early.items c.self.inside.added (vec_capacity c.self.inside.entries)
    (vec_capacity c.self.inside.returned) c.self.invariant c.args.command.now (c.self.inside.opening.next + c.len.result)
    (number_of_next c.self.inside.opening.next _ _ _ c.len.ensures c.self.inside.entries.ok.0) c.as_slice.result.now c.as_slice.ensures.value c.in_ok-common.common
    c.in_ok-common.ensures in
    let next : IsNext v o (reverse h) e =
    next_commanded v o h c.self.inside.present seq c.args.session c.max.result c.args.command.now c.self.invariant.present number
    (not_before c.args.at c.self.inside.present.at c.max.result c.max.ensures) c.if-next-out-gt-MOST_NUMBERS.false doable in
    let present : IsNow v o (e ∷ reverse h) c.command.new.self =
    now-commanded v o (reverse h) c.self.inside.present c.command.new.self seq c.args.session c.max.result c.args.command.now
    c.in_ok-common.common c.self.invariant.present c.self.invariant.legal next common_is (omega (arith, common_is, doable.narrow))
    (record {
      rows = c.command.ensures.rows;
      tickets = c.command.ensures.tickets;
      moment = c.command.ensures.moment;
      maintained = c.command.ensures.maintained;
      chosen = c.command.ensures.chosen;
    }) in
    let kept : IsKept v o (h ++ e ∷ []) c.command.new.self (c.self.inside.returned.items ++ None ∷ []) c.self.inside.early.items
    (c.self.inside.added + 1) (vec_capacity c.add.new.entries) (vec_capacity c.add.new.returned) =
    kept-called v o h c.self.inside.present c.command.new.self c.self.inside.returned.items c.self.inside.early.items c.self.inside.added
    (vec_capacity c.self.inside.entries) (vec_capacity c.self.inside.returned) (vec_capacity c.add.new.entries) (vec_capacity c.add.new.returned)
    e c.self.invariant next present refl (λ t. refl) fits fits_too in
    kept-moved v o (h ++ e ∷ []) c.add.new.entries.items c.command.new.self (c.self.inside.returned.items ++ None ∷ []) c.add.new.returned.items
    c.self.inside.early.items (c.self.inside.added + 1) (vec_capacity c.add.new.entries) (vec_capacity c.add.new.returned)
    (vec_capacity c.add.new.entries) (vec_capacity c.add.new.returned) kept items places (no_less _) (no_less _)

pub returns-clause-sound : goal.returns-clause-sound
returns-clause-sound c = (invariant_of-self-2 c).legal

pub returns-clause-commanded : goal.returns-clause-commanded
returns-clause-commanded c =
    subst (λ (b : Journal). IsCommanded b c.args.command.now (Ok (admin_entry (c.self.inside.opening.next + c.len.result) c.args.session c.max.result c.args.command.now)))
    c.self.view_is
    (judged_room (rules_number c.self.inside.rules) c.self.inside.opening c.self.inside.entries.items c.self.inside.present
    c.self.inside.returned.items c.self.inside.early.items c.self.inside.added (vec_capacity c.self.inside.entries)
    (vec_capacity c.self.inside.returned) c.self.invariant c.args.command.now (c.self.inside.opening.next + c.len.result)
    (number_of_next c.self.inside.opening.next _ _ _ c.len.ensures c.self.inside.entries.ok.0) c.as_slice.result.now c.as_slice.ensures.value c.in_ok-common.common
    c.in_ok-common.ensures c.if-next-out-gt-MOST_NUMBERS.false)

pub returns-clause-ok : goal.returns-clause-ok
returns-clause-ok c =
    let seq : ℕ = c.self.inside.opening.next + c.len.result in
    let e : Entry = admin_entry seq c.args.session c.max.result c.args.command.now in
    let items : c.add.new.entries.items ≡ c.self.inside.entries.items ++ e ∷ [] = c.add.ensures.items ∙ ap (λ (xs : List Entry). xs ++ e ∷ []) c.take_room.ensures.items in
    subst (λ (b : Journal). AddsEntry b (journal_of (rules_number c.self.inside.rules) c.self.inside.opening c.add.new.entries.items (c.self.inside.added + 1))
    c.args.session c.args.at (call.Admin c.args.command.now) e) c.self.view_is
    (entry_added (rules_number c.self.inside.rules) c.self.inside.opening c.self.inside.entries.items c.add.new.entries.items c.self.inside.present c.self.inside.added
    seq c.args.session c.args.at c.max.result (call.Admin c.args.command.now) answer.Done c.self.invariant.present
    (number_of_next c.self.inside.opening.next _ _ _ c.len.ensures c.self.inside.entries.ok.0) c.max.ensures items)

pub returns-then-next-out-gt-MOST_NUMBERS-clause-sound : goal.returns-then-next-out-gt-MOST_NUMBERS-clause-sound
returns-then-next-out-gt-MOST_NUMBERS-clause-sound c = subst (λ (b : Journal). IsSound b) c.self.view_is c.self.invariant.legal

pub returns-in_err-common-clause-sound : goal.returns-in_err-common-clause-sound
returns-in_err-common-clause-sound c = subst (λ (b : Journal). IsSound b) c.self.view_is c.self.invariant.legal

-- nothing is done without memory
pub returns-in_err-take_room-clause-ok : goal.returns-in_err-take_room-clause-ok
returns-in_err-take_room-clause-ok c = IfOk-from_err c.from_residual-in_err-take_room.result _ c.from_residual-in_err-take_room.ensures.0

pub returns-in_err-take_room-clause-done : goal.returns-in_err-take_room-clause-done
returns-in_err-take_room-clause-done c = IfOk-from_err c.from_residual-in_err-take_room.result _ c.from_residual-in_err-take_room.ensures.0

pub returns-in_err-take_room-clause-next : goal.returns-in_err-take_room-clause-next
returns-in_err-take_room-clause-next c = IfOk-from_err c.from_residual-in_err-take_room.result _ c.from_residual-in_err-take_room.ensures.0

pub returns-in_err-take_room-clause-sound : goal.returns-in_err-take_room-clause-sound
returns-in_err-take_room-clause-sound c =
    subst (λ (xs : List Entry). IsLegal (rules_number c.self.inside.rules) c.self.inside.opening xs) (sym c.take_room.ensures.items) c.self.invariant.legal

pub returns-in_err-take_room-clause-err : goal.returns-in_err-take_room-clause-err
returns-in_err-take_room-clause-err c =
    anyway c.from_residual-in_err-take_room.result _
    (ap (λ (xs : List Entry). journal_of (rules_number c.self.inside.rules) c.self.inside.opening xs c.self.inside.added) c.take_room.ensures.items ∙ c.self.view_is)
