use Rattle.std.proofs.Common.{sym}
use Rattle.site_mounts.proofs.PartLemmas.{pieces_cut, pieces_one}
use Rattle.site_mounts.proofs.role.split_parts.Goals as goal

pub returns-in-Some : goal.returns-in-Some
returns-in-Some c =
    pieces_cut c.args.text.now c.in-Some.name.now c.in-Some.parts.now (sym c.in-Some.ensures)

pub returns-in-None : goal.returns-in-None
returns-in-None c = pieces_one c.args.text.now (sym c.in-None.ensures)
