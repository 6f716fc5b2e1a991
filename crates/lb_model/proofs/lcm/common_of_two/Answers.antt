use Rattle.std.proofs.Common.{arith}
use Rattle.std.proofs.Math.Nat.{pos_of_dvd_of_pos}
use Rattle.lb_model.proofs.MultipleFacts.{multiple_of_two-by}
use Rattle.lb_model.proofs.lcm.common_of_two.Goals as goal

pub nonzero_div-result : goal.nonzero_div-result
nonzero_div-result c = pos_of_dvd_of_pos c.greatest_divisor.ensures.1 (omega arith)

pub returns : goal.returns
returns c = record {
  value =
      rw (← c.from-a.ensures, ← c.from-b.ensures)
      (multiple_of_two-by c.from-a.result c.from-b.result c.greatest_divisor.result c.greatest_divisor.ensures);
}
