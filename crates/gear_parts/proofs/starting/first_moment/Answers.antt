use Rattle.std.proofs.Common.{sym, ◌∙◌}
use Rattle.jk_io.specs.Doors.{side}
use Rattle.gear_parts.specs.Gears.{gear_side}
use Rattle.gear_parts.proofs.ListLaws.{some_so, written_back}
use Rattle.gear_parts.proofs.StartLaws.{gives_back, idle_back, started_back}
use Rattle.gear_parts.proofs.starting.first_moment.Goals as goal

pub moment_of-requires : goal.moment_of-requires
moment_of-requires g c = record { some = some_so _ _ c.as_mut_slice.ensures.len c.requires.some }

pub returns-clause-started : goal.returns-clause-started
returns-clause-started g c =
    started_back (gear_side (side g.D.Door.coming g.D.Door.left g.D.Door.faults) g.T.Tape.talks g.K.Clock.answers) _ _ _ _
    c.as_mut_slice.ensures.value
    (written_back c.args.gears.now.len c.moment_of.new.gears _ (sym c.as_mut_slice.ensures.len ∙ sym c.moment_of.ensures.len))
    c.moment_of.ensures.started

pub returns-clause-idle : goal.returns-clause-idle
returns-clause-idle g c = λ all.
    idle_back g.T.Tape.is_idle _ _ _ _
    c.as_mut_slice.ensures.value
    (written_back c.args.gears.now.len c.moment_of.new.gears _ (sym c.as_mut_slice.ensures.len ∙ sym c.moment_of.ensures.len))
    c.moment_of.ensures.idle all

pub returns-clause-given : goal.returns-clause-given
returns-clause-given g c =
    gives_back _ (gear_side (side g.D.Door.coming g.D.Door.left g.D.Door.faults) g.T.Tape.talks g.K.Clock.answers) _ _ _ _
    c.as_mut_slice.ensures.value
    (written_back c.args.gears.now.len c.moment_of.new.gears _ (sym c.as_mut_slice.ensures.len ∙ sym c.moment_of.ensures.len))
    c.moment_of.ensures.given
