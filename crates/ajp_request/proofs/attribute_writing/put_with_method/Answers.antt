use Rattle.std.proofs.Common.{arith}
use Rattle.ajp_request.specs.Writing.{FitsAttribute}
use Rattle.ajp_request.proofs.WritingLaws.{all_behind, all_before}
use Rattle.ajp_request.proofs.attribute_writing.put_with_method.Goals as goal

pub put_attributes-requires : goal.put_attributes-requires
put_attributes-requires c = rw c.split_at.ensures.front (all_before FitsAttribute c.before_stored.result c.args.attributes.now c.requires.attributes)

pub put_attributes-requires-2 : goal.put_attributes-requires-2
put_attributes-requires-2 c = rw c.split_at.ensures.back (all_behind FitsAttribute c.before_stored.result c.args.attributes.now c.requires.attributes)
