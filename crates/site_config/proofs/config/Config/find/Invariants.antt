use Rattle.std.proofs.Common.{◌≡◌, drop}
use Rattle.site_config.specs.Places.{named_among}
use Rattle.site_config.proofs.config.Config.find.Given as goal

-- the name is sought among the entries that are left
abbrev pub invariant-loop-entry : goal.invariant-loop-entry
invariant-loop-entry l = named_among l.name (drop l.entry-index l.entry-items) ≡ named_among l.name l.self.listed
