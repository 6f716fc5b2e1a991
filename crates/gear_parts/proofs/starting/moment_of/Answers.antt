use Rattle.jk_io.specs.Doors.{side}
use Rattle.gear_parts.proofs.StartLaws.{first_as_long, first_gives, first_idle, first_read}
use Rattle.gear_parts.proofs.starting.moment_of.Goals as goal

pub returns-clause-started : goal.returns-clause-started
returns-clause-started g c =
    first_read (side g.D.Door.coming g.D.Door.left g.D.Door.faults) g.T.Tape.talks g.K.Clock.answers c.args.gears.now c.index-gears-0.result
    c.now.new.self c.now.result c.requires.some c.now.ensures

pub returns-clause-idle : goal.returns-clause-idle
returns-clause-idle g c = λ all. first_idle g.T.Tape.is_idle c.args.gears.now c.index-gears-0.result c.now.new.self all

pub returns-clause-len : goal.returns-clause-len
returns-clause-len g c = first_as_long c.args.gears.now _

pub returns-clause-given : goal.returns-clause-given
returns-clause-given g c =
    first_gives (side g.D.Door.coming g.D.Door.left g.D.Door.faults) g.T.Tape.talks g.K.Clock.answers c.args.gears.now c.index-gears-0.result
    c.now.new.self c.now.result c.requires.some c.now.ensures
