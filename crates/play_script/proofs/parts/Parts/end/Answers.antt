use Rattle.std.proofs.Common.{sym}
use Rattle.play_script.proofs.PartsLemmas.{parts_some}
use Rattle.play_script.proofs.parts.Parts.end.Goals as goal

pub returns-in-Some : goal.returns-in-Some
returns-in-Some c = rw (← c.self.view_is, c.in-Some.is) (sym (parts_some c.self.inside.byte c.in-Some.field-0.now))
