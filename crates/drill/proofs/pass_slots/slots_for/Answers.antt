-- A slot for one pass after the other.
use Rattle.std.proofs.Common.{◌≡◌, ◌∙◌, ℕ, [], ap, arith, length, subst, sym}
use Rattle.std.proofs.lemmas.List.Elements.{All-nil, All-push, All-same}
use Rattle.lb_passes.proofs.PlacedLaws.{AreNext, new_next, new_unused}
use Rattle.drill.proofs.PassLaws.{next_first, next_put, numbers_put}
use Rattle.drill.proofs.pass_slots.slots_for.Goals as goal

pub passes-init : goal.passes-init
passes-init g c =
    let o = g.P.PassPlace.origin in
    let none = c.in_ok-slots.ensures.items in
    let all : c.into_iter-pass-iterator.result.rest.items ≡ c.into_vec-passes.result.items = cc in
    record {
      next =
          subst (λ (n : ℕ). AreNext o g.P.PassPlace.table g.P.PassPlace.given n c.into_iter-pass-iterator.result.rest.items) (sym (ap length none))
          (new_next _ _ _ c.args.passes _ (all ∙ c.into_vec-passes.ensures) c.requires.dealt);
      fresh = All-same (λ s. s.desk.desk.desk.receipts ≡ []) _ _ none (All-nil (λ s. s.desk.desk.desk.receipts ≡ []));
      numbers = rw none tt;
      count = omega (arith, ap length none, c.in_ok-slots.slots.ok.0, ap length (all ∙ c.into_vec-passes.ensures), c.requires.dealt.many);
      room =
          omega (arith, ap length none, c.in_ok-slots.slots.ok.0, ap length all, c.into_vec-passes.result.ok.0, c.in_ok-slots.ensures.capacity);
    }

pub overflow_cast-number : goal.overflow_cast-number
overflow_cast-number g c = omega (arith, c.passes.invariant.count, ap length c.in-Some.ensures.steps.0, c.requires.few)

pub slot_of-requires-clause-pass : goal.slot_of-requires-clause-pass
slot_of-requires-clause-pass g c = new_unused _ _ _ _ _ (next_first _ _ _ _ _ _ _ c.passes.invariant.next c.in-Some.ensures.steps.0)

pub slot_of-requires-clause-number : goal.slot_of-requires-clause-number
slot_of-requires-clause-number g c =
    let next = next_first _ _ _ _ _ _ _ c.passes.invariant.next c.in-Some.ensures.steps.0 in omega (arith, next.number, c.passes.slots.ok.0)

pub passes-preserved : goal.passes-preserved
passes-preserved g c =
    let inv = c.passes.invariant in
    let first = c.in-Some.ensures.steps.0 in
    let pushed = c.push_reserved.ensures.items in
    record {
      next = next_put _ _ _ _ _ _ _ _ _ inv.next first pushed;
      fresh =
          All-same (λ s. s.desk.desk.desk.receipts ≡ []) _ _ pushed
          (All-push (λ s. s.desk.desk.desk.receipts ≡ []) c.passes.slots.items _ inv.fresh c.in_ok-slot_of.ensures.fresh);
      numbers = numbers_put _ _ _ _ inv.numbers pushed (omega (arith, c.in_ok-slot_of.ensures.number, c.passes.slots.ok.0));
      count = omega (arith, inv.count, ap length first, c.push_reserved.ensures.len);
      room = omega (arith, inv.room, ap length first, c.push_reserved.ensures.len, c.push_reserved.ensures.capacity);
    }

pub returns-clause-count : goal.returns-clause-count
returns-clause-count g c =
    let none : length c.passes.pass-iterator.rest.items ≡ 0 = omega (arith, c.in-None.ensures.steps.0, c.passes.pass-iterator.rest.ok.0) in
    omega (arith, none, c.passes.invariant.count)
