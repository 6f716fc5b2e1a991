use Rattle.play_script.proofs.OnlyForms.{form_only}
use Rattle.play_script.proofs.laws.no_other_line_is_read.Goals as goal

pub returns : goal.returns
returns c = record { form = form_only }
