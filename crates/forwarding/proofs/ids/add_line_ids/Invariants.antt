use Rattle.std.proofs.Common.{◌≡◌, ◌++◌, take}
use Rattle.std.specs.List.{flat_map}
use Rattle.std.specs.Prelude.{codes}
use Rattle.http_front.specs.Fields.{named}
use Rattle.forwarding.specs.Ids.{cookie_ids}
use Rattle.forwarding.proofs.ids.add_line_ids.Given as goal

abbrev pub invariant-loop-line : goal.invariant-loop-line
invariant-loop-line l =
    l.ids ≡ l.initial.ids ++ flat_map (cookie_ids l.cookie) (named (codes "cookie") (take l.line-index l.lines))
