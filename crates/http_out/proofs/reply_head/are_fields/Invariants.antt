use Rattle.std.proofs.Common.{◌≡◌, take, true}
use Rattle.std.specs.List.{list_all}
use Rattle.http_out.specs.Head.{is_field}
use Rattle.http_out.proofs.reply_head.are_fields.Given as goal

abbrev pub invariant-loop-line : goal.invariant-loop-line
invariant-loop-line l = list_all is_field (take l.line-index l.lines) ≡ true
