-- The verdict on a journal's text: that it is good, or the first line that differs.
use Rattle.std.specs.Prelude.{◌≡◌, ℕ, ◌+◌, ◌<◌, List, [], ◌∷◌, ◌++◌, length, map, reverse, sum_by, slice_get, Option, Some, None, Result, Ok, Err}
use Rattle.lb_model.specs.Legal.{IsLegal}
use Rattle.lb_model.specs.Present.{IsEnding}
use Rattle.lb_model.specs.declared.opening.Opening.{Opening}
use Rattle.journal_text.specs.Lines.{line_text}
use Rattle.journal_text.specs.Reading.{ReadsText, readable, unreadable}
use Rattle.journal_verdict.specs.Rulings.{IsFirstWrong}
use Rattle.journal_text.specs.SegmentText.{opening_lines}
use Rattle.journal_text.specs.Written.{lines_of}
use Rattle.journal_text.specs.declared.counted.Counted.{Counted}
use Rattle.journal_verdict.specs.declared.ruling.Ruling.{Ruling}
use Rattle.journal_verdict.specs.declared.ruling.Ruling.TheVariants as ruling
use Rattle.journal_verdict.specs.declared.ruling.Wrong.{Wrong}
use Rattle.journal_verdict.specs.declared.ruling.Verdict.{Verdict}
use Rattle.journal_verdict.specs.declared.ruling.Verdict.TheVariants as verdict
use Rattle.journal_text.specs.declared.text_error.TextError.{TextError}
use Rattle.journal_text.specs.declared.text_error.TextError.TheVariants as error

-- The texts of an opening's lines.
unfoldable pub opening_texts : (rules : ℕ) → (name : List ℕ) → Opening → List (List ℕ)
opening_texts rules name o = map (λ l. line_text rules l) (opening_lines name o)

-- How many lines of a segment stand before its entries.
abbrev pub lines_before : Counted → ℕ
lines_before c = 1 + length (opening_lines c.name c.segment.opening)

-- Two lists of lines are the same before a place, where they differ.
pub record DifferAt (kept ruled : List (List ℕ)) (i : ℕ) (k r : List ℕ) : Type 0 where
  pub same : (j : ℕ) → j < i → slice_get kept j ≡ slice_get ruled j
  pub here : slice_get kept i ≡ Some k
  pub there : slice_get ruled i ≡ Some r
  pub other : ¬ (k ≡ r)

-- The difference found in two lists of lines is their first.
abbrev pub IsDifference : (kept ruled : List (List ℕ)) → Wrong → Type 0
IsDifference kept ruled w =
    (k r : List ℕ) × (w.kept ≡ ruling.Line k) × (w.ruled ≡ ruling.Line r) × DifferAt kept ruled w.at k r

-- The balancer's name, and the opening that goes on where the former segment ended.
abbrev pub Former : Type 0
Former = Option (List ℕ × Opening)

-- A segment's opening has the lines of the former segment's end.
abbrev pub Joins : Former → Counted → Type 0
Joins None c = Unit {0}
Joins (Some (name, ending)) c = opening_texts c.segment.rules c.name c.segment.opening ≡ opening_texts c.segment.rules name ending

-- Line i of a segment, from 0, is the first of its opening that differs from the former segment's end.
abbrev pub IsWrongOpening : Former → Counted → (i : ℕ) → (kept : List ℕ) → (ruled : Ruling) → Type 0
IsWrongOpening None c i kept ruled = ⊥
IsWrongOpening (Some (name, ending)) c i kept ruled =
    (j : ℕ) × (text : List ℕ) × (i ≡ 1 + j) × (ruled ≡ ruling.Line text)
    × DifferAt (opening_texts c.segment.rules c.name c.segment.opening) (opening_texts c.segment.rules name ending) j kept text

-- Line i of a segment is the first of its entries that doesn't follow from those before it.
abbrev pub IsWrongEntry : Counted → (i : ℕ) → (kept ruled : Ruling) → Type 0
IsWrongEntry c i kept ruled =
    (place : ℕ) × (i ≡ lines_before c + place) × IsFirstWrong c.segment.rules c.segment.opening c.segment.entries place kept ruled

-- Line i of a segment is its last one, and says another count than that of its entries.
pub record IsWrongCount (c : Counted) (i said : ℕ) (told : Ruling) : Type 0 where
  pub legal : IsLegal c.segment.rules c.segment.opening c.segment.entries
  pub kept : said ≡ c.count
  pub ruled : told ≡ ruling.Count (length c.segment.entries)
  pub other : ¬ (c.count ≡ length c.segment.entries)
  pub line : i ≡ lines_before c + length c.segment.entries

-- Line i of a segment, from 0, is the first one that is wrong after the former segment.
abbrev pub IsWrongAt : Former → Counted → (i : ℕ) → (kept ruled : Ruling) → Type 0
IsWrongAt former c i (ruling.Line kept) ruled = IsWrongOpening former c i kept ruled
IsWrongAt former c i (ruling.Count kept) ruled = Joins former c × IsWrongCount c i kept ruled
IsWrongAt former c i kept ruled = Joins former c × IsWrongEntry c i kept ruled

-- A segment is right after the former one.
pub record IsRight (former : Former) (c : Counted) : Type 0 where
  pub joins : Joins former c
  pub legal : IsLegal c.segment.rules c.segment.opening c.segment.entries
  pub counted : c.count ≡ length c.segment.entries

-- Segments are right, each after the one before it; the last one ends so.
abbrev pub AreRight : Former → List Counted → (last : Former) → Type 0
AreRight former [] last = last ≡ former
AreRight former (c ∷ cs) last =
    (ending : Opening) × IsRight former c × IsEnding c.segment.rules c.segment.opening (reverse c.segment.entries) ending × AreRight (Some (c.name, ending)) cs last

-- How many lines, and how many entries, segments have.
abbrev pub lines_in : List Counted → ℕ
lines_in cs = sum_by (λ c. length (lines_of c)) cs

abbrev pub entries_in : List Counted → ℕ
entries_in cs = sum_by (λ c. length c.segment.entries) cs

-- Segments are right up to one of them, and this line of the text, from 1, is the first one of it that is wrong.
pub record IsFirstBadLine (cs : List Counted) (line : ℕ) (kept ruled : Ruling) : Type 0 where
  pub before : List Counted
  pub segment : Counted
  pub later : List Counted
  pub parts : cs ≡ before ++ segment ∷ later
  pub former : Former
  pub right : AreRight None before former
  pub place : ℕ
  pub wrong : IsWrongAt former segment place kept ruled
  pub number : line ≡ lines_in before + place + 1

-- The verdict on segments.
abbrev pub IsVerdict : List Counted → Verdict → Type 0
IsVerdict cs (verdict.Good entries) = (last : Former) × AreRight None cs last × (entries ≡ entries_in cs)
IsVerdict cs (verdict.Bad line kept ruled) = IsFirstBadLine cs line kept ruled

-- The answer to a text: that it can't be read at a line, or the verdict on its segments.
abbrev pub IsChecked : (text : List ℕ) → Result Verdict TextError → Type 0
IsChecked text (Ok v) = (cs : List Counted) × ReadsText text (readable cs) × IsVerdict cs v
IsChecked text (Err (error.Unreadable line)) = ReadsText text (unreadable line)
IsChecked text (Err error.NoMemory) = Unit {0}
