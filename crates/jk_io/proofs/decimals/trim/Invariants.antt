use Rattle.std.proofs.Common.{◌≡◌, length, reverse}
use Rattle.jk_io.specs.Decimals.{drop_blanks, trimmed}
use Rattle.jk_io.proofs.decimals.trim.Given as goal

-- only blanks in front were dropped
abbrev pub invariant-front : goal.invariant-front
invariant-front l = drop_blanks l.rest ≡ drop_blanks l.text

abbrev pub decreases-front : goal.decreases-front
decreases-front l = length l.rest

-- only blanks at the end are left to drop
abbrev pub invariant-back : goal.invariant-back
invariant-back l = reverse (drop_blanks (reverse l.rest)) ≡ trimmed l.text

abbrev pub decreases-back : goal.decreases-back
decreases-back l = length l.rest
