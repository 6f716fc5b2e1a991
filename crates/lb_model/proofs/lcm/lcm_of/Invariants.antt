use Rattle.std.proofs.Common.{◌≡◌, ◌<◌, ◌^◌, take}
use Rattle.lb_model.specs.Multiple.{multiple_of}
use Rattle.lb_model.proofs.lcm.lcm_of.Given as goal

abbrev pub invariant-loop-factor : goal.invariant-loop-factor
invariant-loop-factor l = record {
  some : 0 < l.common;
  fits : l.common < 2 ^ 32;
  so_far : l.common ≡ multiple_of (take l.factor-index l.factors);
}
