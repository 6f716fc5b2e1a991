use Rattle.std.proofs.Common.{ℕ, ◌+◌, ◌/◌, ◌^◌, sym, ap, ◌∙◌, arith}
use Rattle.drill.specs.Requests.{bodies_of, following}
use Rattle.drill.proofs.RequestLaws.{bodies-next, number-next}
use Rattle.drill.proofs.summary.bodies_of.Goals as goal

pub loop-preserved : goal.loop-preserved
loop-preserved c =
    let seed = c.args.plan.seed in
    let n = c.loop.counter in
    let so = c.loop.invariant in
    let number = c.following-number.ensures ∙ ap following so.1 in
    let size = c.size_of-sum.ensures.value ∙ ap (λ (x : ℕ). x / 2 ^ 54) number in
    let more = bodies-next seed n in
    let sum = so.0 in
    let few = c.size_of-sum.ensures.few in
    let most = so.2 in (
      ap (λ (k : ℕ). k + c.size_of-sum.result) sum ∙ ap (λ (k : ℕ). bodies_of seed n + k) size ∙ sym more,
      number ∙ sym (number-next seed n),
      omega (arith, few, most),
    )
