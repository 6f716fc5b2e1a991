use Rattle.std.proofs.Common.{◌≡◌, ℕ, ◌-◌, ◌<◌, List, ◌++◌, ◌∙◌, sym, ap, append_assoc, arith, length, take, drop}
use Rattle.std.proofs.lemmas.Grind.{common_steps}
use Rattle.forwarding.specs.Ids.{id_here, path_ids}
use Rattle.forwarding.proofs.IdLaws.{path_ids-step}
use Rattle.forwarding.proofs.paths.add_path_ids.Goals as goal

from_here : (path : List ℕ) (at : ℕ) → take (length path - at) (drop at path) ≡ drop at path
from_here path at = grind (arith, common_steps)

pub loop-at-preserved : goal.loop-at-preserved
loop-at-preserved c =
    let same = from_here c.args.path.now c.loop-at.at in
    let step = path_ids-step c.args.mark.now c.args.path.now c.loop-at.at c.loop-at-test.true in
    rw (c.in_ok-add_id_here.ensures, same, append_assoc, ← step) c.loop-at.invariant
