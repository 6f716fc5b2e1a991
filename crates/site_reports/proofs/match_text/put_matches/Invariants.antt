use Rattle.std.proofs.Common.{◌≡◌, ◌++◌, length}
use Rattle.site_reports.specs.Matches.{match_text}
use Rattle.site_reports.proofs.match_text.put_matches.Given as goal

-- what was added, and what the lines still to come will add
abbrev pub invariant-loop-raw : goal.invariant-loop-raw
invariant-loop-raw l = l.out ++ match_text l.config l.map l.verbose l.rest ≡ l.fn.out ++ match_text l.config l.map l.verbose l.paths

abbrev pub decreases-loop-raw : goal.decreases-loop-raw
decreases-loop-raw l = length l.rest
