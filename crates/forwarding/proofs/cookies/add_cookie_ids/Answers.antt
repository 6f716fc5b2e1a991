use Rattle.std.proofs.Common.{◌≡◌, ◌++◌, ◌∙◌}
use Rattle.std.specs.Prelude.{option_to_list}
use Rattle.forwarding.specs.Ids.{cookie_id, cookie_ids}
use Rattle.forwarding.proofs.IdLaws.{cookie_ids-cut, cookie_ids-whole, cut-shorter}
use Rattle.forwarding.proofs.cookies.add_cookie_ids.Goals as goal

pub loop-part-preserved : goal.loop-part-preserved
loop-part-preserved c =
    rw c.in_ok-add_cookie_id.ensures
    (cookie_ids-cut c.args.name.now c.loop-part.rest.now c.in-Some.part.now c.in-Some.tail.now c.loop-part.ids c.in-Some.ensures.some
    ∙ c.loop-part.invariant)

pub loop-part-smaller : goal.loop-part-smaller
loop-part-smaller c = cut-shorter 59 c.loop-part.rest.now c.in-Some.part.now c.in-Some.tail.now c.in-Some.ensures.some

pub returns : goal.returns
returns c =
    let whole : c.loop-part.ids ++ option_to_list (cookie_id c.args.name.now c.loop-part.rest.now) ≡ c.args.ids.now ++ cookie_ids c.args.name.now c.args.line.now =
    rw (← cookie_ids-whole c.args.name.now c.loop-part.rest.now c.in_default.ensures.none) c.loop-part.invariant in
    rw (← whole) c.add_cookie_id-2.ensures
