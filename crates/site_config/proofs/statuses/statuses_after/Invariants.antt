use Rattle.std.proofs.Common.{◌≡◌, length, Some}
use Rattle.site_config.specs.Names.{words}
use Rattle.site_config.specs.Values.{statuses_after}
use Rattle.site_config.proofs.statuses.statuses_after.Given as goal

-- the statuses so far, and then the rest
abbrev pub invariant-loop-word : goal.invariant-loop-word
invariant-loop-word l = statuses_after (Some l.statuses) (words l.rest) ≡ statuses_after (Some l.fn.before) (words l.text)

abbrev pub decreases-loop-word : goal.decreases-loop-word
decreases-loop-word l = length l.rest
