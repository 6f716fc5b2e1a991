use Rattle.std.proofs.Common.{refl, ◌∙◌, arith}
use Rattle.gear_parts.specs.Worlds.{world_side}
use Rattle.gear_parts.proofs.ListLaws.{as_long}
use Rattle.gear_parts.proofs.LogLaws.{are_logged, given_after, idle_kept}
use Rattle.gear_parts.proofs.WorldLaws.{cause_again, no_cause}
use Rattle.gear_parts.proofs.logs.log_gears.Goals as goal

pub returns-in-Ok-clause-given : goal.returns-in-Ok-clause-given
returns-in-Ok-clause-given g c =
    rw c.in-Some.is (are_logged _ 0 _ _ _ c.with_logs.ensures.rest c.with_logs.ensures.logs c.in-Ok.ensures.suited)

pub returns-in-Ok-clause-idle : goal.returns-in-Ok-clause-idle
returns-in-Ok-clause-idle g c = λ all. idle_kept g.W.T.Tape.is_idle _ _ c.with_logs.ensures.rest all

pub returns-in-Ok-clause-len : goal.returns-in-Ok-clause-len
returns-in-Ok-clause-len g c =
    let same = as_long _ _ _ _ c.with_logs.ensures.rest in
    omega (arith, same, c.requires.count, c.args.gears.ok.0, c.with_logs.result.ok.0)

pub returns-in-Ok-clause-cause : goal.returns-in-Ok-clause-cause
returns-in-Ok-clause-cause g c = no_cause _ _ _ (c.in-Ok.ensures.counts.steady refl)

pub returns-in-Err-clause-refused : goal.returns-in-Err-clause-refused
returns-in-Err-clause-refused g c =
    let same = c.in-Err.ensures.same in
    given_after _ (world_side g.W.World c.logs_for.new.world) _ _ same.0 same.1 same.2 c.in-Err.ensures.counts.cause.no_fewer c.give_back.ensures.came_back
    (omega (arith, c.give_back.ensures.fewer, c.args.gears.ok.0)) c.give_back.ensures.same.0 c.give_back.ensures.same.1

pub returns-in-Err-clause-cause : goal.returns-in-Err-clause-cause
returns-in-Err-clause-cause g c = cause_again _ _ _ _ c.in-Err.ensures.counts.cause c.give_back.ensures.same.1
