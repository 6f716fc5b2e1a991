-- The search for the best rule, one rule after another.
use Rattle.std.specs.Prelude.{ℕ, List, Option, Some, None, if◌then◌else◌, ◌&&◌}
use Rattle.site_mounts.specs.declared.rule.Rule.{Rule}
use Rattle.site_mounts.specs.Mounts.{mounts, is_before}

-- the best rule so far, or this one where it goes before that
abbrev pub better : List ℕ → Option Rule → Rule → Option Rule
better path None r = if mounts path r then Some r else None
better path (Some b) r = if is_before r b && mounts path r then Some r else Some b
