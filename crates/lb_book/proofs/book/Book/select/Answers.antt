use Rattle.std.proofs.Common.{◌≡◌, ◌+◌, ◌≤◌, ◌<◌, ◌^◌, ℕ, List, [], ◌∷◌, ◌++◌, length, reverse, Option, None, sym, ◌∙◌, subst, ap}
use Rattle.std.specs.Prelude.{vec_capacity}
use Rattle.std.proofs.lemmas.List.{length-reverse}
use Rattle.lb_model.specs.Tickets.{out}
use Rattle.lb_model.specs.Choice.{IsPick}
use Rattle.lb_model.specs.Legal.{IsNext, KnowsTerms, IsLegal}
use Rattle.lb_model.specs.declared.journal.Entry.{Entry}
use Rattle.lb_book.specs.Journal.{IsMarked, Journal, next_number, past_of, tickets_out, AddsEntry, IsSound}
use Rattle.lb_rules.specs.RuleNumbers.{rules_number}
use Rattle.lb_book.specs.Kept.{IsKept}
use Rattle.lb_rules.proofs.PickLaws.{revives-none}
use Rattle.lb_book.proofs.ChoiceLaws.{nobody}
use Rattle.lb_book.proofs.KeptLaws.{next_is, next_selected, kept-moved, kept-selected}
use Rattle.lb_book.proofs.NumberLaws.{number_of_next, not_before, numbers_left, room_taken, room_beside}
use Rattle.lb_book.proofs.RoomLaws.{full_by, full_marked, full_past, room_left, anyway, entry_added}
use Rattle.lb_book.proofs.StepLaws.{select_entry}
use Rattle.lb_book.proofs.AdminLaws.{journal_of}
use Rattle.lb_model.specs.declared.journal.Call.TheVariants as call
use Rattle.std.proofs.lemmas.Result.{IfOk-from_err}
use Rattle.lb_book.proofs.book.Book.select.Goals as goal

pub select-requires-clause-revival : goal.select-requires-clause-revival
select-requires-clause-revival c = λ none_chosen.
    c.pick-choice.ensures.revives nobody
    ∙ revives-none c.self.inside.present.rows.items c.args.ask.now (rules_number c.self.inside.rules) nobody
    c.pick-choice.result.answer none_chosen

pub invariant_of-self : goal.invariant_of-self
invariant_of-self c =
    kept-moved (rules_number c.self.inside.rules) c.self.inside.opening c.self.inside.entries.items c.take_room.new.entries.items c.self.inside.present
    c.self.inside.returned.items c.take_room.new.returned.items c.self.inside.early.items c.self.inside.added (vec_capacity c.self.inside.entries)
    (vec_capacity c.self.inside.returned) (vec_capacity c.take_room.new.entries) (vec_capacity c.take_room.new.returned) c.self.invariant
    c.take_room.ensures.items c.take_room.ensures.places c.take_room.ensures.no_less c.take_room.ensures.places_no_less

pub invariant_of-self-2 : goal.invariant_of-self-2
invariant_of-self-2 c =
    let h : List Entry = c.self.inside.entries.items in
    let seq : ℕ = c.self.inside.opening.next + c.len.result in
    let number : seq ≡ c.self.inside.opening.next + length h = number_of_next c.self.inside.opening.next _ _ _ c.len.ensures c.self.inside.entries.ok.0 in
    let e : Entry = select_entry seq c.args.session c.max.result c.args.ask.now c.pick-choice.result.answer in
    let items : c.add.new.entries.items ≡ h ++ e ∷ [] = c.add.ensures.items ∙ ap (λ (xs : List Entry). xs ++ e ∷ []) c.take_room.ensures.items in
    let places : c.add.new.returned.items ≡ c.self.inside.returned.items ++ None ∷ [] = c.add.ensures.places ∙ ap (λ (xs : List (Option ℕ)). xs ++ None ∷ []) c.take_room.ensures.places in
    let terms : KnowsTerms (rules_number c.self.inside.rules) c.args.ask.now =
    subst (λ (b : Journal). KnowsTerms b.rules c.args.ask.now) (sym c.self.view_is) c.requires in
    let room : seq + length (out c.self.inside.opening (reverse h)) + 2 ≤ 2 ^ 48 =
    numbers_left seq c.self.inside.present.out (length (out c.self.inside.opening (reverse h))) 2 c.self.invariant.present.tickets c.if-next-out-gt-MOST_NUMBERS.false in
    let fits : length h + (length (out c.self.inside.opening (reverse h)) + 2) ≤ vec_capacity c.add.new.entries =
    room_taken (length h) c.self.inside.present.out (length (out c.self.inside.opening (reverse h))) 2 (vec_capacity c.take_room.new.entries) (vec_capacity c.add.new.entries)
    c.in_ok-take_room.ensures.room c.add.ensures.no_less c.self.invariant.present.tickets in
    let fits_too : length h + (length (out c.self.inside.opening (reverse h)) + 2) ≤ vec_capacity c.add.new.returned =
    room_beside (length c.self.inside.returned.items) (length (reverse h)) (length h) c.self.inside.present.out (length (out c.self.inside.opening (reverse h))) 2
    (vec_capacity c.take_room.new.returned) (vec_capacity c.add.new.returned) c.in_ok-take_room.ensures.places_room c.add.ensures.places_no_less
    c.self.invariant.present.tickets c.self.invariant.returns.whole (length-reverse h) in
    subst (λ (xs : List Entry). IsKept (rules_number c.self.inside.rules) c.self.inside.opening xs c.select.new.self
    c.add.new.returned.items c.self.inside.early.items (c.self.inside.added + 1) (vec_capacity c.add.new.entries) (vec_capacity c.add.new.returned))
    (sym items)
    (subst (λ (ys : List (Option ℕ)). IsKept (rules_number c.self.inside.rules) c.self.inside.opening (h ++ e ∷ []) c.select.new.self
    ys c.self.inside.early.items (c.self.inside.added + 1) (vec_capacity c.add.new.entries) (vec_capacity c.add.new.returned))
    (sym places)
    (kept-selected (rules_number c.self.inside.rules) c.self.inside.opening h c.self.inside.present c.self.inside.returned.items
    c.self.inside.early.items c.self.inside.added (vec_capacity c.self.inside.entries) (vec_capacity c.self.inside.returned) c.self.invariant
    seq c.args.session c.max.result c.args.ask.now c.pick-choice.result.answer c.pick-choice.result.revives c.select.new.self
    (vec_capacity c.add.new.entries) (vec_capacity c.add.new.returned) number (not_before c.args.at c.self.inside.present.at c.max.result c.max.ensures) room
    (c.pick-choice.ensures.pick (reverse h) c.self.invariant.present (number ∙ next_is c.self.inside.opening h)) terms
    (c.pick-choice.ensures.revives nobody) c.pick-choice.ensures.room
    (record {
      whole = c.select.ensures.whole;
      rows = c.select.ensures.rows;
      tickets = c.select.ensures.tickets;
      moment = c.select.ensures.moment;
      maintained = c.select.ensures.maintained;
      chosen = c.select.ensures.chosen;
    })
    fits fits_too))

pub returns-clause-sound : goal.returns-clause-sound
returns-clause-sound c = (invariant_of-self-2 c).legal

-- A number for the entry, and one for its Return.
pub returns-then-next-out-gt-MOST_NUMBERS-clause-full : goal.returns-then-next-out-gt-MOST_NUMBERS-clause-full
returns-then-next-out-gt-MOST_NUMBERS-clause-full c =
    subst (λ (b : Journal). (2 ^ 48 < next_number b + tickets_out b + 2) × IsMarked (next_number b) (tickets_out b)
    (record { next = c.self.inside.opening.next + c.len.result; out = c.self.inside.present.out })) c.self.view_is (
      full_past (rules_number c.self.inside.rules) c.self.inside.opening c.self.inside.entries.items c.self.inside.present c.self.inside.added (c.self.inside.opening.next + c.len.result) 2 c.self.invariant.present
          (number_of_next c.self.inside.opening.next _ _ _ c.len.ensures c.self.inside.entries.ok.0) c.if-next-out-gt-MOST_NUMBERS.true,
      full_marked (rules_number c.self.inside.rules) c.self.inside.opening c.self.inside.entries.items c.self.inside.present c.self.inside.added (c.self.inside.opening.next + c.len.result) 2 c.self.invariant.present
          (number_of_next c.self.inside.opening.next _ _ _ c.len.ensures c.self.inside.entries.ok.0),
    )

pub returns-in_err-take_room-clause-full : goal.returns-in_err-take_room-clause-full
returns-in_err-take_room-clause-full c =
    full_by (next_number c.args.self.now) (tickets_out c.args.self.now) 2 c.from_residual.result c.from_residual.ensures.0 c.from_residual.ensures.1
    (subst (λ (b : Journal). next_number b + tickets_out b + 2 ≤ 2 ^ 48) c.self.view_is
    (room_left (rules_number c.self.inside.rules) c.self.inside.opening c.self.inside.entries.items c.self.inside.present c.self.inside.added (c.self.inside.opening.next + c.len.result) 2 c.self.invariant.present
    (number_of_next c.self.inside.opening.next _ _ _ c.len.ensures c.self.inside.entries.ok.0) c.if-next-out-gt-MOST_NUMBERS.false))

pub returns-clause-full : goal.returns-clause-full
returns-clause-full c =
    subst (λ (b : Journal). next_number b + tickets_out b + 2 ≤ 2 ^ 48) c.self.view_is
    (room_left (rules_number c.self.inside.rules) c.self.inside.opening c.self.inside.entries.items c.self.inside.present c.self.inside.added (c.self.inside.opening.next + c.len.result) 2 c.self.invariant.present
    (number_of_next c.self.inside.opening.next _ _ _ c.len.ensures c.self.inside.entries.ok.0) c.if-next-out-gt-MOST_NUMBERS.false)

pub returns-clause-pick : goal.returns-clause-pick
returns-clause-pick c =
    let h : List Entry = c.self.inside.entries.items in
    let number : (c.self.inside.opening.next + c.len.result) ≡ c.self.inside.opening.next + length h = number_of_next c.self.inside.opening.next _ _ _ c.len.ensures c.self.inside.entries.ok.0 in
    subst (λ (b : Journal). IsPick b.rules b.opening (past_of b) c.args.ask.now c.pick-choice.result.answer) c.self.view_is
    (c.pick-choice.ensures.pick (reverse h) c.self.invariant.present (number ∙ next_is c.self.inside.opening h))

pub returns-clause-next : goal.returns-clause-next
returns-clause-next c =
    let h : List Entry = c.self.inside.entries.items in
    let seq : ℕ = c.self.inside.opening.next + c.len.result in
    let number : seq ≡ c.self.inside.opening.next + length h = number_of_next c.self.inside.opening.next _ _ _ c.len.ensures c.self.inside.entries.ok.0 in
    let terms : KnowsTerms (rules_number c.self.inside.rules) c.args.ask.now =
    subst (λ (b : Journal). KnowsTerms b.rules c.args.ask.now) (sym c.self.view_is) c.requires in
    let room : seq + length (out c.self.inside.opening (reverse h)) + 2 ≤ 2 ^ 48 =
    numbers_left seq c.self.inside.present.out (length (out c.self.inside.opening (reverse h))) 2 c.self.invariant.present.tickets c.if-next-out-gt-MOST_NUMBERS.false in
    let next : IsNext (rules_number c.self.inside.rules) c.self.inside.opening (reverse h)
    (select_entry seq c.args.session c.max.result c.args.ask.now c.pick-choice.result.answer) =
    next_selected (rules_number c.self.inside.rules) c.self.inside.opening h c.self.inside.present c.self.inside.returned.items
    c.self.inside.early.items c.self.inside.added (vec_capacity c.self.inside.entries) (vec_capacity c.self.inside.returned) c.self.invariant
    seq c.args.session c.max.result c.args.ask.now c.pick-choice.result.answer number (not_before c.args.at c.self.inside.present.at c.max.result c.max.ensures) room
    (c.pick-choice.ensures.pick (reverse h) c.self.invariant.present (number ∙ next_is c.self.inside.opening h)) terms in
    subst (λ (b : Journal). IsNext b.rules b.opening (past_of b)
    (select_entry seq c.args.session c.max.result c.args.ask.now c.pick-choice.result.answer)) c.self.view_is next

pub returns-clause-ok : goal.returns-clause-ok
returns-clause-ok c =
    let seq : ℕ = c.self.inside.opening.next + c.len.result in
    let e : Entry = select_entry seq c.args.session c.max.result c.args.ask.now c.pick-choice.result.answer in
    let items : c.add.new.entries.items ≡ c.self.inside.entries.items ++ e ∷ [] = c.add.ensures.items ∙ ap (λ (xs : List Entry). xs ++ e ∷ []) c.take_room.ensures.items in
    subst (λ (b : Journal). AddsEntry b (journal_of (rules_number c.self.inside.rules) c.self.inside.opening c.add.new.entries.items (c.self.inside.added + 1))
    c.args.session c.args.at (call.Select c.args.ask.now) e) c.self.view_is
    (entry_added (rules_number c.self.inside.rules) c.self.inside.opening c.self.inside.entries.items c.add.new.entries.items c.self.inside.present c.self.inside.added
    seq c.args.session c.args.at c.max.result (call.Select c.args.ask.now) c.pick-choice.result.answer c.self.invariant.present
    (number_of_next c.self.inside.opening.next _ _ _ c.len.ensures c.self.inside.entries.ok.0) c.max.ensures items)

pub returns-then-next-out-gt-MOST_NUMBERS-clause-sound : goal.returns-then-next-out-gt-MOST_NUMBERS-clause-sound
returns-then-next-out-gt-MOST_NUMBERS-clause-sound c = subst (λ (b : Journal). IsSound b) c.self.view_is c.self.invariant.legal

-- nothing is done without memory
pub returns-in_err-take_room-clause-ok : goal.returns-in_err-take_room-clause-ok
returns-in_err-take_room-clause-ok c = IfOk-from_err c.from_residual.result _ c.from_residual.ensures.0

pub returns-in_err-take_room-clause-pick : goal.returns-in_err-take_room-clause-pick
returns-in_err-take_room-clause-pick c = IfOk-from_err c.from_residual.result _ c.from_residual.ensures.0

pub returns-in_err-take_room-clause-lease : goal.returns-in_err-take_room-clause-lease
returns-in_err-take_room-clause-lease c = IfOk-from_err c.from_residual.result _ c.from_residual.ensures.0

pub returns-in_err-take_room-clause-next : goal.returns-in_err-take_room-clause-next
returns-in_err-take_room-clause-next c = IfOk-from_err c.from_residual.result _ c.from_residual.ensures.0

pub returns-in_err-take_room-clause-sound : goal.returns-in_err-take_room-clause-sound
returns-in_err-take_room-clause-sound c =
    subst (λ (xs : List Entry). IsLegal (rules_number c.self.inside.rules) c.self.inside.opening xs) (sym c.take_room.ensures.items) c.self.invariant.legal

pub returns-in_err-take_room-clause-err : goal.returns-in_err-take_room-clause-err
returns-in_err-take_room-clause-err c =
    anyway c.from_residual.result _
    (ap (λ (xs : List Entry). journal_of (rules_number c.self.inside.rules) c.self.inside.opening xs c.self.inside.added) c.take_room.ensures.items ∙ c.self.view_is)
