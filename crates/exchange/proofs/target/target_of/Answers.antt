-- Both lists have an item at this place.
use Rattle.std.proofs.Common.{length, refl, arith}
use Rattle.std.proofs.lemmas.Option.{slice_get_read}
use Rattle.exchange.proofs.target.target_of.Goals as goal

pub returns-clause-config : goal.returns-clause-config
returns-clause-config c =
    let members = c.args.request.now.balancer.now.book.members in
    slice_get_read members (length members) c.args.member _ refl c.requires (rw c.as_slice.ensures at c.index-as_slice-member.is)

pub returns-clause-endpoint : goal.returns-clause-endpoint
returns-clause-endpoint c =
    let ends = c.args.request.now.balancer.now.ends in
    slice_get_read ends (length ends) c.args.member _ refl (omega (arith, c.requires, c.args.request.now.balancer.now.paired)) (rw c.as_slice-2.ensures at c.index-as_slice-member-2.is)
