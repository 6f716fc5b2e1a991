use Rattle.std.proofs.Common.{◌≡◌, ap, length, refl, arith}
use Rattle.gear_parts.proofs.LogLaws.{all_have, as_long_set, log_put, rest_put}
use Rattle.gear_parts.proofs.logs.give_logs.Goals as goal

pub loop-gear-init : goal.loop-gear-init
loop-gear-init g c = record { rest_same = refl; logs_put = refl; paired = omega (arith, c.requires.paired) }

pub give_log-requires : goal.give_log-requires
give_log-requires g c = record { more = omega (arith, c.loop-gear.invariant.paired) }

pub loop-gear-preserved : goal.loop-gear-preserved
loop-gear-preserved g c =
    let put = c.give_log.ensures in
    record {
      rest_same = rest_put c.loop-gear.gears c.loop-gear.gear-index _ c.give_log.new.gear put.0 c.args.gears.now c.loop-gear.invariant.rest_same put.2;
      logs_put = log_put c.loop-gear.gears c.loop-gear.gear-index _ c.give_log.new.gear put.0 _ _ _ (omega arith) c.loop-gear.invariant.logs_put put.1 put.2;
      paired = omega (arith, c.loop-gear.invariant.paired, ap length put.1, as_long_set c.loop-gear.gears c.loop-gear.gear-index c.give_log.new.gear);
    }

pub returns : goal.returns
returns g c = record {
  rest = c.loop-gear.invariant.rest_same;
  logs = all_have _ _ _ _ (omega arith) c.loop-gear.invariant.logs_put (omega (arith, c.loop-gear.invariant.paired));
}
