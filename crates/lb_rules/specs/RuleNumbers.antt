-- The number of each version of the rules.
use Rattle.std.specs.Prelude.{ℕ}
use Rattle.lb_rules.specs.declared.rules.Rules.{Rules}

abbrev pub rules_number : Rules → ℕ
rules_number Rules.One = 1
rules_number Rules.Two = 2
