use Rattle.std.proofs.Common.{◌≡◌, ℕ, ◌<◌, get_or}
use Rattle.site_config.specs.Values.{lower}
use Rattle.site_config.proofs.values.is_word.Given as goal

-- each letter so far is the word's
abbrev pub invariant-loop-i : goal.invariant-loop-i
invariant-loop-i l = (k : ℕ) → k < l.i → lower (get_or l.text k 0) ≡ get_or l.word k 0
