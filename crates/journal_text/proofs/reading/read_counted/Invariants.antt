use Rattle.std.proofs.Common.{◌+◌, ◌≤◌, ◌∷◌, length}
use Rattle.journal_text.specs.Reading.{TextOutcome, ReadsLines, ReadsText, held}
use Rattle.journal_text.proofs.reading.read_counted.Given as goal

-- what is read from here on is what the text is read as
abbrev pub invariant-lines : goal.invariant-lines
invariant-lines l = record {
  few : l.number + length l.lines ≤ 67108866;
  room : held l.reader.place ≤ l.number;
  reads : (o : TextOutcome) → ReadsLines l.reader l.number (l.line ∷ l.lines) o → ReadsText l.text o;
}

abbrev pub decreases-lines : goal.decreases-lines
decreases-lines l = length l.lines
