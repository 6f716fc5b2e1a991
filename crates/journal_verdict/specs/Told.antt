-- The line that says a verdict.
use Rattle.std.specs.Prelude.{ℕ, List, [], ◌∷◌, ◌++◌, codes, decimal}
use Rattle.journal_text.specs.Calls.{answer_words}
use Rattle.journal_text.specs.Lines.{spaced}
use Rattle.journal_verdict.specs.declared.ruling.Ruling.{Ruling}
use Rattle.journal_verdict.specs.declared.ruling.Ruling.TheVariants as ruling
use Rattle.journal_verdict.specs.declared.ruling.Verdict.{Verdict}
use Rattle.journal_verdict.specs.declared.ruling.Verdict.TheVariants as verdict

-- A ruling in words: what a line has, or ought to have.
abbrev pub ruling_words : Ruling → List (List ℕ)
ruling_words (ruling.Answer a) = answer_words a
ruling_words (ruling.Seq number) = codes "seq" ∷ decimal number ∷ []
ruling_words (ruling.Moment at) = codes "moment" ∷ decimal at ∷ []
ruling_words (ruling.Count count) = codes "count" ∷ decimal count ∷ []
ruling_words (ruling.Line line) = line ∷ []
ruling_words ruling.Stray = codes "stray" ∷ []
ruling_words ruling.NotDue = codes "not due" ∷ []
ruling_words (ruling.Refused code) = codes "refused" ∷ decimal code ∷ []
ruling_words ruling.Full = codes "full" ∷ []

abbrev pub ruling_text : Ruling → List ℕ
ruling_text r = spaced (ruling_words r)

-- bad line L: kept K, ruled R
abbrev pub bad_text : (line : ℕ) → (kept ruled : Ruling) → List ℕ
bad_text line kept ruled =
    codes "bad line " ++ decimal line ++ codes ": kept" ++ ruling_text kept ++ codes ", ruled" ++ ruling_text ruled ++ 10 ∷ []

-- good N, or that
abbrev pub verdict_text : Verdict → List ℕ
verdict_text (verdict.Good entries) = codes "good " ++ decimal entries ++ 10 ∷ []
verdict_text (verdict.Bad line kept ruled) = bad_text line kept ruled
