-- The check of a text, as far as the text's lines were taken.
use Rattle.std.specs.Prelude.{◌≡◌, ℕ, ◌+◌, ◌&&◌, Bool, true, false, nat_lt, List, [], ◌∷◌, length, Some, Result, Ok, Err}
use Rattle.journal_text.specs.Reading.{RefusesTextLine, TakesText, is_end, is_over}
use Rattle.journal_text.specs.declared.counted.Counted.{Counted}
use Rattle.journal_text.specs.declared.reader.Reader.{Reader}
use Rattle.journal_text.specs.declared.text_error.TextError.{TextError}
use Rattle.journal_text.specs.declared.text_error.TextError.TheVariants as error
use Rattle.journal_verdict.specs.Checks.{Comes, Leads, front, lines_taken}
use Rattle.journal_verdict.specs.Verdicts.{IsVerdict, lines_in}
use Rattle.journal_verdict.specs.declared.checker.Checker.{Checker}
use Rattle.journal_verdict.specs.declared.ruling.Verdict.{Verdict}
use Rattle.journal_verdict.specs.declared.reached.Check.{Check}

-- The check of a text has taken these segments, and the lines of another one that its reader has.
pub record HasTaken (c : Checker) (done : List Counted) : Type 0 where
  pub empty : c.reader.done ≡ []
  pub comes : Comes done c.check
  pub number : c.number ≡ 1 + lines_in done + lines_taken c.reader.place
  pub some : c.some ≡ nat_lt 0 (length done)

-- A line was taken, and no more is known of the text before it.
abbrev pub Advances : Checker → (text : List ℕ) → Checker → Type 0
Advances old text new =
    (done : List Counted) → HasTaken old done
    → (now : List Counted) × HasTaken new now × TakesText (front done old.reader) text (Some (front now new.reader))

-- The check after a line that ends a segment, or doesn't.
abbrev pub Judged : (ended : List Counted) → Check → (some : Bool) → Checker → Type 0
Judged [] k some new = (new.reader.done ≡ []) × (new.check ≡ k) × (new.some ≡ some)
Judged (c ∷ []) k some new = (new.reader.done ≡ []) × Leads k c new.check × (new.some ≡ true)
Judged (c ∷ d ∷ cs) k some new = Unit {0}

-- The reader goes on that has taken a line, and so does the check with the segment that ended with it, if one did.
pub record CheckGoesOn (r : Reader) (k : Check) (some : Bool) (number : ℕ) (new : Checker) : Type 0 where
  pub stands : new.reader.place ≡ r.place
  pub counted : new.number ≡ number
  pub judged : Judged r.done k some new

-- A text may end here that has a segment; `last` is what stands after its last LF.
abbrev pub may_end : Checker → (last : List ℕ) → Bool
may_end c last = c.some && is_over c.reader last

-- Why a line isn't taken.
abbrev pub RefusesLine : Checker → (text : List ℕ) → TextError → Type 0
RefusesLine c text e = RefusesTextLine c.reader c.number text e

-- The answer at the end of a text whose segments these are; `last` is what stands after its last LF.
abbrev pub CheckEndsBy : (done : List Counted) → Checker → (last : List ℕ) → Result Verdict TextError → Type 0
CheckEndsBy done c last (Ok v) = (is_end (front done c.reader) last ≡ true) × IsVerdict done v
CheckEndsBy done c last (Err (error.Unreadable line)) = (line ≡ c.number) × (is_end (front done c.reader) last ≡ false)
CheckEndsBy done c last (Err error.NoMemory) = ⊥
