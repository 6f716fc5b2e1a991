use Rattle.ajp_request.specs.Parts.{told_by}
use Rattle.ajp_request.proofs.SpelledLaws.{written_spells}
use Rattle.ajp_request.proofs.encoding.encode_parts.Goals as goal

pub returns-clause-spelled : goal.returns-clause-spelled
returns-clause-spelled c = written_spells (told_by c.args.parts.now) c.requires c.in-Some.ensures.fits
