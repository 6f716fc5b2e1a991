use Rattle.std.proofs.Common.{◌≡◌, drop}
use Rattle.site_config.specs.Directives.{directive_among}
use Rattle.site_config.proofs.directive.directive_among.Given as goal

-- the name is sought among the directives that are left
abbrev pub invariant-loop-d : goal.invariant-loop-d
invariant-loop-d l = directive_among (drop l.d-index l.among) l.text ≡ directive_among l.among l.text
