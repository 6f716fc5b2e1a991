use Rattle.std.proofs.Common.{take}
use Rattle.http_front.specs.Fields.{named}
use Rattle.http_front.specs.Lone.{IsLone}
use Rattle.http_front.proofs.fields.only_value.Given as goal

abbrev pub invariant-loop-line : goal.invariant-loop-line
invariant-loop-line l = IsLone (named l.name (take l.line-index l.lines)) l.found
