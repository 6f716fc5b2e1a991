use Rattle.std.proofs.Common.{ℕ, ◌/◌, ◌^◌, sym, ap, ◌∙◌, arith}
use Rattle.drill.specs.Requests.{following, number_at}
use Rattle.drill.proofs.RequestLaws.{next_mine, next_other, number-next}
use Rattle.drill.proofs.requests.Requests.next_size.Goals as goal

pub returns-then-mine-clause-some : goal.returns-then-mine-clause-some
returns-then-mine-clause-some c =
    let at = c.requests.self-inside in
    let number = c.following-self-inside.ensures ∙ ap following (c.requests.invariant.number ∙ ap (λ (s : ℕ). number_at s at.next) c.requests.invariant.seed) in (
      at.next,
      next_mine _ _ _ _ _ c.requests-test.true c.if-mine.true c.requests.invariant.left,
      c.size_of.ensures.value ∙ ap (λ (x : ℕ). x / 2 ^ 54) number,
    )

pub requests-preserved : goal.requests-preserved
requests-preserved c =
    let at = c.requests.self-inside in
    let more = c.requests-test.true in record {
      within = omega (arith, more);
      number = c.following-self-inside.ensures ∙ ap following c.requests.invariant.number ∙ sym (number-next at.plan.seed at.next);
      seed = c.requests.invariant.seed;
      left = next_other _ _ _ _ _ more c.if-mine.false c.requests.invariant.left;
    }
