-- No file was made by a try that failed.
use Rattle.std.specs.Prelude.{◌≡◌}
use Rattle.gear_worlds.proofs.shelves.make_until.Given as goal

abbrev pub invariant-loop : goal.invariant-loop
invariant-loop g l = g.N.NewFiles.made l.files ≡ g.N.NewFiles.made l.fn.files
