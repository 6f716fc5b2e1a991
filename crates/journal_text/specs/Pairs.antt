-- The segments of a text, each with the name of its balancer.
use Rattle.std.specs.Prelude.{◌≡◌, ℕ, List, map, Result, Ok, Err}
use Rattle.lb_model.specs.declared.segment.Segment.{Segment}
use Rattle.journal_text.specs.Reading.{ReadsText, readable, unreadable}
use Rattle.journal_text.specs.declared.counted.Counted.{Counted}
use Rattle.journal_text.specs.declared.text_error.TextError.{TextError}
use Rattle.journal_text.specs.declared.text_error.TextError.TheVariants as error

-- a segment that a text has, without the count of its last line
abbrev pub pair_of : Counted → List ℕ × Segment
pair_of c = (c.name, c.segment)

-- the segments that a text is read as, or the first line that can't be read
abbrev pub IsReadAs : (text : List ℕ) → Result (List (List ℕ × Segment)) TextError → Type 0
IsReadAs text (Ok pairs) = (counted : List Counted) × ReadsText text (readable counted) × (pairs ≡ map pair_of counted)
IsReadAs text (Err (error.Unreadable line)) = ReadsText text (unreadable line)
IsReadAs text (Err error.NoMemory) = Unit {0}
