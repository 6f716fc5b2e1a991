-- Which segments a text can hold: each value fits its word, and rules 1 don't follow rules 2.
use Rattle.std.specs.Prelude.{ℕ, ◌≤◌, List, [], ◌∷◌}
use Rattle.std.specs.List.{flat_map}
use Rattle.journal_text.specs.Lines.{lines_text}
use Rattle.journal_text.specs.Ranges.{FitsLine}
use Rattle.journal_text.specs.declared.line.Line.{Line}
use Rattle.journal_text.specs.SegmentText.{segment_lines}
use Rattle.journal_text.specs.declared.counted.Counted.{Counted}

-- each of the lines can stand in a segment of these rules
abbrev pub AllFit : (rules : ℕ) → List Line → Type 0
AllFit rules [] = Unit {0}
AllFit rules (l ∷ lines) = FitsLine rules l × AllFit rules lines

-- the lines of a segment, with the count of its last line
abbrev pub lines_of : Counted → List Line
lines_of c = segment_lines c.name c.segment c.count

-- a segment, with the count of its last line, can stand after one of the former rules
pub record CanStand (former : ℕ) (c : Counted) : Type 0 where
  pub later : former ≤ c.segment.rules
  pub values : AllFit c.segment.rules (lines_of c)

abbrev pub CanFollow : (former : ℕ) → List Counted → Type 0
CanFollow former [] = Unit {0}
CanFollow former (c ∷ segments) = CanStand former c × CanFollow c.segment.rules segments

-- the texts of segments, one after the other
abbrev pub texts_of : List Counted → List ℕ
texts_of segments = flat_map (λ c. lines_text c.segment.rules (lines_of c)) segments
