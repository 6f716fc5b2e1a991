use Rattle.std.proofs.Common.{◌≡◌, length}
use Rattle.site_config.specs.Properties.{are_names}
use Rattle.site_config.proofs.judge.are_names.Given as goal

-- the words so far are names
abbrev pub invariant-loop-word : goal.invariant-loop-word
invariant-loop-word l = are_names l.rest ≡ are_names l.text

abbrev pub decreases-loop-word : goal.decreases-loop-word
decreases-loop-word l = length l.rest
