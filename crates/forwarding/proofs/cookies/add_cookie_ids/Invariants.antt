use Rattle.std.proofs.Common.{◌≡◌, ◌++◌, length}
use Rattle.forwarding.specs.Ids.{cookie_ids}
use Rattle.forwarding.proofs.cookies.add_cookie_ids.Given as goal

abbrev pub invariant-loop-part : goal.invariant-loop-part
invariant-loop-part l = l.ids ++ cookie_ids l.name l.rest ≡ l.initial.ids ++ cookie_ids l.name l.line

abbrev pub decreases-loop-part : goal.decreases-loop-part
decreases-loop-part l = length l.rest
