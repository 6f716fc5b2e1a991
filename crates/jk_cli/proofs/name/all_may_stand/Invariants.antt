use Rattle.std.proofs.Common.{◌≡◌, length}
use Rattle.std.specs.List.{list_all}
use Rattle.jk_cli.specs.Names.{may_stand}
use Rattle.jk_cli.specs.Parts.{parts_of}
use Rattle.jk_cli.proofs.name.all_may_stand.Given as goal

-- all parts may stand exactly where those that are left may
abbrev pub invariant-loop-part : goal.invariant-loop-part
invariant-loop-part l = list_all (may_stand l.command) (parts_of l.fn.words) ≡ list_all (may_stand l.command) l.parts

abbrev pub decreases-loop-part : goal.decreases-loop-part
decreases-loop-part l = length l.parts
