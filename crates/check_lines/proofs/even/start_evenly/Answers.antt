use Rattle.check_lines.proofs.EvenLaws.{started_even}
use Rattle.check_lines.proofs.even.start_evenly.Goals as goal

pub returns : goal.returns
returns c = started_even c.start.result c.args.config c.args.at 0 c.requires c.start.ensures.start
