use Rattle.std.proofs.Common.{◌≡◌, ℕ, ◌<◌, false, get_or}
use Rattle.site_config.specs.Cut.{is_separator}
use Rattle.site_config.proofs.cut.cut_at_separator.Given as goal

-- no byte so far passed
abbrev pub invariant-loop-i : goal.invariant-loop-i
invariant-loop-i l = (k : ℕ) → k < l.i → is_separator (get_or l.text k 0) ≡ false
