-- The first refused line of a file, as a call is given it.
use Rattle.std.specs.Prelude.{ℕ, List}
use Rattle.remarks.specs.declared.refused.FirstRefused.{FirstRefused}

abbrev pub as_first : FirstRefused → ℕ × List ℕ
as_first first = (first.line, first.words.now)
