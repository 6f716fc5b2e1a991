use Rattle.std.proofs.Common.{◌<◌, length, arith, ◌∙◌}
use Rattle.std.proofs.lemmas.List.{take_min, drop_min}
use Rattle.ajp_container.proofs.CutLaws.{chunks-step}
use Rattle.ajp_container.proofs.cutting.put_chunks.Goals as goal

pub loop-rest-preserved : goal.loop-rest-preserved
loop-rest-preserved c =
    let any : 0 < length c.loop-rest.rest.now = grind (arith, c.is_empty.ensures, c.loop-rest-test.true) in
    rw (c.in_ok-push.ensures.ok, c.in_ok-from_slice.ensures, c.split_at.ensures.front, c.split_at.ensures.back, c.min.ensures, take_min, drop_min)
    (chunks-step c.loop-rest.messages c.args.size c.loop-rest.rest.now c.requires any ∙ c.loop-rest.invariant)
