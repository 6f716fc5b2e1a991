use Rattle.std.proofs.Common.{◌^◌, ◌≤◌, sym, arith}
use Rattle.std.proofs.Math.Nat.{div-eq_of_lt}
use Rattle.std.proofs.Math.Pow.{pow_mono}
use Rattle.lb_model.proofs.load.halve.Goals as goal

pub returns-else-times-lt128 : goal.returns-else-times-lt128
returns-else-times-lt128 c =
    let far : 128 ≤ c.args.times = omega arith in
    let wide : 2 ^ 128 ≤ 2 ^ c.args.times = pow_mono {i = 128} {j = c.args.times} far in
    record { value = sym (div-eq_of_lt (omega arith)) }
