use Rattle.std.proofs.Common.{◌≡◌, ◌+◌, ℕ, true, false, List, [], ◌∷◌, ◌++◌, reverse, Option, None, refl, sym, ◌∙◌, subst, ap, arith}
use Rattle.std.specs.Prelude.{vec_capacity}
use Rattle.std.proofs.lemmas.Bool.{true≢false}
use Rattle.lb_model.specs.Legal.{IsLegal, IsNext}
use Rattle.lb_model.specs.Tickets.{is_out}
use Rattle.lb_model.specs.declared.journal.Entry.{Entry}
use Rattle.lb_rules.specs.Returns.{IsReturnedAt}
use Rattle.lb_rules.specs.Spots.{kept_noted, early_noted}
use Rattle.lb_book.specs.Journal.{Journal, past_of, AddsEntry, IsSound}
use Rattle.lb_book.specs.Kept.{IsKept}
use Rattle.lb_rules.specs.RuleNumbers.{rules_number}
use Rattle.lb_book.proofs.KeptLaws.{IsLocated, kept_rising, kept_located, kept-returned, kept-wider, next_returned}
use Rattle.lb_book.proofs.StepLaws.{return_entry}
use Rattle.lb_book.proofs.AdminLaws.{journal_of}
use Rattle.lb_model.specs.declared.journal.Call.TheVariants as call
use Rattle.lb_model.specs.declared.journal.Answer.TheVariants as answer
use Rattle.lb_book.proofs.RoomLaws.{entry_added}
use Rattle.lb_book.proofs.NumberLaws.{number_of_next, not_before}
use Rattle.lb_book.proofs.book.Book.return_ticket.Goals as goal

pub locate-located-requires-clause-rising : goal.locate-located-requires-clause-rising
locate-located-requires-clause-rising c =
    kept_rising (rules_number c.self.inside.rules) c.self.inside.opening c.self.inside.entries.items c.self.inside.present
    c.self.inside.returned.items c.self.inside.early.items c.self.inside.added _ _ c.self.invariant

pub returns-in-Err-clause-found : goal.returns-in-Err-clause-found
returns-in-Err-clause-found c =
    let stray : is_out c.self.inside.opening (reverse c.self.inside.entries.items) c.args.ticket ≡ false =
    subst (λ (xs : List Entry). is_out c.self.inside.opening (reverse xs) c.args.ticket ≡ false) c.as_slice.ensures.value
    (c.in-Err.ensures.stray (rules_number c.self.inside.rules)
    (subst (λ (xs : List Entry). IsLegal (rules_number c.self.inside.rules) c.self.inside.opening xs) (sym c.as_slice.ensures.value)
    c.self.invariant.legal)) in
    let here : is_out c.args.self.now.opening (past_of c.args.self.now) c.args.ticket ≡ false =
    subst (λ (b : Journal). is_out b.opening (past_of b) c.args.ticket ≡ false) c.self.view_is stray in
    (λ never. absurd (true≢false (sym never)), λ is. absurd (true≢false (sym is ∙ here)))

pub returns-in-Err-clause-returned : goal.returns-in-Err-clause-returned
returns-in-Err-clause-returned c =
    let back : IsReturnedAt (reverse c.self.inside.entries.items) c.args.ticket c.in-Err.stray.returned_at =
    subst (λ (xs : List Entry). IsReturnedAt (reverse xs) c.args.ticket c.in-Err.stray.returned_at) c.as_slice.ensures.value
    (c.in-Err.ensures.returned (rules_number c.self.inside.rules)
    (subst (λ (xs : List Entry). IsLegal (rules_number c.self.inside.rules) c.self.inside.opening xs) (sym c.as_slice.ensures.value)
    c.self.invariant.legal)) in
    subst (λ (b : Journal). IsReturnedAt (past_of b) c.args.ticket c.in-Err.stray.returned_at) c.self.view_is back

pub give_back-requires-clause-within : goal.give_back-requires-clause-within
give_back-requires-clause-within c =
    (kept_located (rules_number c.self.inside.rules) c.self.inside.opening c.self.inside.entries.items c.self.inside.present
    c.self.inside.returned.items c.self.inside.early.items c.self.inside.added _ _ c.self.invariant _ c.args.ticket
    c.in-Ok.found.1 c.in-Ok.found.0 c.as_slice.ensures.value c.in-Ok.ensures.spot c.in-Ok.ensures.out).member

pub give_back-requires-clause-busy : goal.give_back-requires-clause-busy
give_back-requires-clause-busy c =
    (kept_located (rules_number c.self.inside.rules) c.self.inside.opening c.self.inside.entries.items c.self.inside.present
    c.self.inside.returned.items c.self.inside.early.items c.self.inside.added _ _ c.self.invariant _ c.args.ticket
    c.in-Ok.found.1 c.in-Ok.found.0 c.as_slice.ensures.value c.in-Ok.ensures.spot c.in-Ok.ensures.out).busy

pub give_back-requires-clause-light : goal.give_back-requires-clause-light
give_back-requires-clause-light c =
    (kept_located (rules_number c.self.inside.rules) c.self.inside.opening c.self.inside.entries.items c.self.inside.present
    c.self.inside.returned.items c.self.inside.early.items c.self.inside.added _ _ c.self.invariant _ c.args.ticket
    c.in-Ok.found.1 c.in-Ok.found.0 c.as_slice.ensures.value c.in-Ok.ensures.spot c.in-Ok.ensures.out).light

pub give_back-requires-clause-tickets : goal.give_back-requires-clause-tickets
give_back-requires-clause-tickets c =
    (kept_located (rules_number c.self.inside.rules) c.self.inside.opening c.self.inside.entries.items c.self.inside.present
    c.self.inside.returned.items c.self.inside.early.items c.self.inside.added _ _ c.self.invariant _ c.args.ticket
    c.in-Ok.found.1 c.in-Ok.found.0 c.as_slice.ensures.value c.in-Ok.ensures.spot c.in-Ok.ensures.out).tickets

pub note_return-requires : goal.note_return-requires
note_return-requires c =
    (kept_located (rules_number c.self.inside.rules) c.self.inside.opening c.self.inside.entries.items c.self.inside.present
    c.self.inside.returned.items c.self.inside.early.items c.self.inside.added _ _ c.self.invariant _ c.args.ticket
    c.in-Ok.found.1 c.in-Ok.found.0 c.as_slice.ensures.value c.in-Ok.ensures.spot c.in-Ok.ensures.out).placed

pub invariant_of-self : goal.invariant_of-self
invariant_of-self c =
    let located : IsLocated (rules_number c.self.inside.rules) c.self.inside.opening c.self.inside.entries.items c.self.inside.present
    c.self.inside.returned.items c.self.inside.early.items c.self.inside.added (vec_capacity c.self.inside.entries)
    (vec_capacity c.self.inside.returned) c.self.invariant c.args.ticket c.in-Ok.found.1 c.in-Ok.found.0 =
    kept_located (rules_number c.self.inside.rules) c.self.inside.opening c.self.inside.entries.items c.self.inside.present
    c.self.inside.returned.items c.self.inside.early.items c.self.inside.added _ _ c.self.invariant _ c.args.ticket
    c.in-Ok.found.1 c.in-Ok.found.0 c.as_slice.ensures.value c.in-Ok.ensures.spot c.in-Ok.ensures.out in
    let h : List Entry = c.self.inside.entries.items in
    let seq : ℕ = c.self.inside.opening.next + c.len.result in
    let e : Entry = return_entry seq c.args.session c.max.result c.args.ticket c.args.outcome in
    let items : c.add.new.entries.items ≡ h ++ e ∷ [] = c.add.ensures.items in
    let places : c.add.new.returned.items ≡ kept_noted c.in-Ok.found.0 seq c.self.inside.returned.items ++ None ∷ [] =
    c.add.ensures.places ∙ ap (λ (xs : List (Option ℕ)). xs ++ None ∷ []) c.note_return.ensures.kept in
    let kept : IsKept (rules_number c.self.inside.rules) c.self.inside.opening (h ++ e ∷ []) c.give_back.new.self
    (kept_noted c.in-Ok.found.0 seq c.self.inside.returned.items ++ None ∷ []) (early_noted c.in-Ok.found.0 seq c.self.inside.early.items)
    (c.self.inside.added + 1) (vec_capacity c.self.inside.entries) (vec_capacity c.self.inside.returned) =
    kept-returned (rules_number c.self.inside.rules) c.self.inside.opening h c.self.inside.present
    c.self.inside.returned.items c.self.inside.early.items c.self.inside.added _ _ c.self.invariant
    seq c.args.session c.max.result c.args.ticket c.in-Ok.found.1 c.args.outcome c.in-Ok.found.0 c.give_back.new.self
    (number_of_next c.self.inside.opening.next _ _ _ c.len.ensures c.self.inside.entries.ok.0) (not_before c.args.at c.self.inside.present.at c.max.result c.max.ensures) located.found located.is_open c.requires
    (record {
      whole = c.give_back.ensures.whole;
      row = c.give_back.ensures.row;
      others = c.give_back.ensures.others;
      tickets = c.give_back.ensures.tickets;
      moment = c.give_back.ensures.moment;
      maintained = c.give_back.ensures.maintained;
      chosen = c.give_back.ensures.chosen;
    }) in
    let at_fields : IsKept (rules_number c.self.inside.rules) c.self.inside.opening c.add.new.entries.items c.give_back.new.self
    c.add.new.returned.items c.note_return.new.early.items (c.self.inside.added + 1)
    (vec_capacity c.self.inside.entries) (vec_capacity c.self.inside.returned) =
    rw (items, places, c.note_return.ensures.early) kept in
    kept-wider (rules_number c.self.inside.rules) c.self.inside.opening c.add.new.entries.items c.give_back.new.self
    c.add.new.returned.items c.note_return.new.early.items (c.self.inside.added + 1) _ _ (vec_capacity c.add.new.entries)
    (vec_capacity c.add.new.returned) at_fields c.add.ensures.no_less (omega (arith, c.add.ensures.places_no_less, c.note_return.ensures.room))

pub returns-clause-found : goal.returns-clause-found
returns-clause-found c = (
  λ _. subst (λ (b : Journal). is_out b.opening (past_of b) c.args.ticket ≡ true) c.self.view_is
      (kept_located (rules_number c.self.inside.rules) c.self.inside.opening c.self.inside.entries.items c.self.inside.present
      c.self.inside.returned.items c.self.inside.early.items c.self.inside.added _ _ c.self.invariant _ c.args.ticket
      c.in-Ok.found.1 c.in-Ok.found.0 c.as_slice.ensures.value c.in-Ok.ensures.spot c.in-Ok.ensures.out).is_open,
  λ _. refl,
)

pub returns-clause-next : goal.returns-clause-next
returns-clause-next c =
    subst (λ (b : Journal). IsNext b.rules b.opening (past_of b)
    (return_entry (c.self.inside.opening.next + c.len.result) c.args.session c.max.result c.args.ticket c.args.outcome)) c.self.view_is
    (next_returned (rules_number c.self.inside.rules) c.self.inside.opening c.self.inside.entries.items c.self.inside.present
    c.self.inside.returned.items c.self.inside.early.items c.self.inside.added _ _ c.self.invariant
    (c.self.inside.opening.next + c.len.result) c.args.session c.max.result c.args.ticket c.args.outcome
    (number_of_next c.self.inside.opening.next _ _ _ c.len.ensures c.self.inside.entries.ok.0) (not_before c.args.at c.self.inside.present.at c.max.result c.max.ensures)
    (kept_located (rules_number c.self.inside.rules) c.self.inside.opening c.self.inside.entries.items c.self.inside.present
    c.self.inside.returned.items c.self.inside.early.items c.self.inside.added _ _ c.self.invariant _ c.args.ticket
    c.in-Ok.found.1 c.in-Ok.found.0 c.as_slice.ensures.value c.in-Ok.ensures.spot c.in-Ok.ensures.out).is_open
    c.requires)

pub returns-clause-sound : goal.returns-clause-sound
returns-clause-sound c = (invariant_of-self c).legal

pub returns-clause-ok : goal.returns-clause-ok
returns-clause-ok c =
    let seq : ℕ = c.self.inside.opening.next + c.len.result in
    let e : Entry = return_entry seq c.args.session c.max.result c.args.ticket c.args.outcome in
    let items : c.add.new.entries.items ≡ c.self.inside.entries.items ++ e ∷ [] = c.add.ensures.items in
    subst (λ (b : Journal). AddsEntry b (journal_of (rules_number c.self.inside.rules) c.self.inside.opening c.add.new.entries.items (c.self.inside.added + 1))
    c.args.session c.args.at (call.Return c.args.ticket c.args.outcome) e) c.self.view_is
    (entry_added (rules_number c.self.inside.rules) c.self.inside.opening c.self.inside.entries.items c.add.new.entries.items c.self.inside.present c.self.inside.added
    seq c.args.session c.args.at c.max.result (call.Return c.args.ticket c.args.outcome) answer.Done c.self.invariant.present
    (number_of_next c.self.inside.opening.next _ _ _ c.len.ensures c.self.inside.entries.ok.0) c.max.ensures items)

pub returns-in-Err-clause-sound : goal.returns-in-Err-clause-sound
returns-in-Err-clause-sound c = subst (λ (b : Journal). IsSound b) c.self.view_is c.self.invariant.legal
