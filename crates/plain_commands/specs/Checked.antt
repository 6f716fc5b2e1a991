-- The output of `check` for a journal's text, and its status.
use Rattle.std.specs.Prelude.{◌≡◌, ℕ, ◌⊎◌, List, ◌++◌, Ok, Err, codes, decimal}
use Rattle.journal_text.specs.declared.text_error.TextError.TheVariants as error
use Rattle.journal_verdict.specs.Told.{verdict_text}
use Rattle.journal_verdict.specs.Verdicts.{IsChecked}
use Rattle.journal_verdict.specs.declared.ruling.Verdict.{Verdict}
use Rattle.journal_verdict.specs.declared.ruling.Verdict.TheVariants as verdict

-- a journal is good, or bad at a line
abbrev pub status_for : Verdict → ℕ
status_for (verdict.Good entries) = 0
status_for (verdict.Bad line kept ruled) = 1

-- the first line that can't be read
abbrev pub unreadable_text : (line : ℕ) → List ℕ
unreadable_text line = codes "line " ++ decimal line ++ codes ": unreadable\n"

-- the verdict on a text, or the line at which it can't be read
abbrev pub ChecksText : (text out : List ℕ) → (status : ℕ) → Type 0
ChecksText text out status =
    ((v : Verdict) × IsChecked text (Ok v) × (out ≡ verdict_text v) × (status ≡ status_for v))
    ⊎ ((line : ℕ) × IsChecked text (Err (error.Unreadable line)) × (out ≡ unreadable_text line) × (status ≡ 3))
