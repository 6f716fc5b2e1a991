use Rattle.std.proofs.Common.{◌≡◌, length}
use Rattle.status_worker.specs.Fields.{behind, fields_of}
use Rattle.status_worker.proofs.query.read_fields.Given as goal

-- the fields so far, and those of what is left behind them, are all of them
abbrev pub invariant-parts : goal.invariant-parts
invariant-parts l = behind l.fields (fields_of l.rest) ≡ fields_of l.query

abbrev pub decreases-parts : goal.decreases-parts
decreases-parts l = length l.rest
