-- The first line of a segment that is wrong: of its opening, of its entries, or its last one.
use Rattle.std.proofs.Common.{◌≡◌, ℕ, ◌+◌, ◌<◌, List, [], ◌∷◌, ◌++◌, length, ◌⊎◌, inl, inr, Option, Some, None, Result, Ok, Err, refl, sym, ap, subst, ◌∙◌, length-append, arith}
use Rattle.std.specs.Prelude.{IfNone, IfOk, IfSome}
use Rattle.std.proofs.lemmas.List.{length-map}
use Rattle.std.proofs.lemmas.Option.{slice_get_within}
use Rattle.lb_book.specs.Ending.{IsCut}
use Rattle.lb_book.specs.Journal.{IsSound, Journal, past_of}
use Rattle.jk_io.specs.declared.failures.NoMemory.{NoMemory}
use Rattle.lb_model.specs.Legal.{IsLegal}
use Rattle.lb_model.specs.Present.{IsEnding}
use Rattle.lb_model.specs.Validity.{IsOpening}
use Rattle.lb_model.specs.declared.journal.Entry.{Entry}
use Rattle.lb_model.specs.declared.opening.Opening.{Opening}
use Rattle.journal_text.specs.Lines.{line_text}
use Rattle.journal_text.specs.declared.line.Line.TheVariants as line
use Rattle.journal_text.specs.SegmentText.{entry_lines, opening_lines}
use Rattle.journal_text.specs.Written.{lines_of}
use Rattle.journal_text.specs.declared.counted.Counted.{Counted}
use Rattle.journal_verdict.specs.Checks.{After, EndsSegment, EndsAt, IsFormer, IsOtherCount, JudgesOpening, Leaves, LeavesAs, past}
use Rattle.journal_verdict.specs.Rulings.{IsFirstWrong}
use Rattle.journal_verdict.specs.Verdicts.{Former, IsDifference, IsWrongAt, Joins, lines_before, opening_texts}
use Rattle.journal_verdict.specs.declared.ruling.Ruling.{Ruling}
use Rattle.journal_verdict.specs.declared.ruling.Ruling.TheVariants as ruling
use Rattle.journal_verdict.specs.declared.ruling.Verdict.{Verdict}
use Rattle.journal_verdict.specs.declared.ruling.Verdict.TheVariants as verdict
use Rattle.journal_verdict.specs.declared.ruling.Wrong.{Wrong}
use Rattle.journal_verdict.specs.declared.reached.Check.{Check}
use Rattle.journal_verdict.specs.declared.reached.Check.TheVariants as check
use Rattle.journal_verdict.specs.declared.reached.Reached.{Reached}

-- a segment's lines are those before its entries, a line for each entry, and the last one
pub lines_whole : (c : Counted) → length (lines_of c) ≡ lines_before c + length c.segment.entries + 1
lines_whole c =
    omega (
      arith,
      length-append (opening_lines c.name c.segment.opening) (entry_lines c.segment.entries ++ line.End c.count ∷ []),
      length-append (entry_lines c.segment.entries) (line.End c.count ∷ []),
      length-map c.segment.entries (λ e. line.Entry e),
    )

-- a place of the opening is one of the segment's lines
opening_within : (former : List ℕ) (ending : Opening) (c : Counted) (w : Wrong)
    → IsDifference (opening_texts c.segment.rules c.name c.segment.opening) (opening_texts c.segment.rules former ending) w → w.at < length (opening_lines c.name c.segment.opening)
unfolding opening_texts
opening_within former ending c w d =
    omega (
      arith,
      slice_get_within (opening_texts c.segment.rules c.name c.segment.opening) w.at d.0 d.4.here,
      length-map (opening_lines c.name c.segment.opening) (λ l. line_text c.segment.rules l),
    )

wrong_opening : (former : List ℕ) (ending : Opening) (c : Counted) (w : Wrong)
    → IsDifference (opening_texts c.segment.rules c.name c.segment.opening) (opening_texts c.segment.rules former ending) w
    → IsWrongAt (Some (former, ending)) c (1 + w.at) w.kept w.ruled
wrong_opening former ending c w d =
    subst (λ (k : Ruling). IsWrongAt (Some (former, ending)) c (1 + w.at) k w.ruled) (sym d.2) (w.at, d.1, refl, d.3, d.4)

-- what was found in two openings
judged_opening : (former : List ℕ) (ending : Opening) (c : Counted) (r : Result (Option Wrong) NoMemory)
    → IfOk r (λ found. IfNone found (opening_texts c.segment.rules c.name c.segment.opening ≡ opening_texts c.segment.rules former ending))
    → IfOk r (λ found. IfSome found (IsDifference (opening_texts c.segment.rules c.name c.segment.opening) (opening_texts c.segment.rules former ending)))
    → IfOk r (JudgesOpening (Some (former, ending)) c)
judged_opening former ending c (Err e) same wrong = tt
judged_opening former ending c (Ok None) same wrong = same
judged_opening former ending c (Ok (Some w)) same wrong = (wrong_opening former ending c w wrong, omega (arith, opening_within former ending c w wrong))

-- so, of names that were lent
pub judges_opening : (own name former : List ℕ) (ending : Opening) (c : Counted) (r : Result (Option Wrong) NoMemory) → own ≡ c.name → name ≡ former
    → ((v : ℕ) → IfOk r (λ found. IfNone found (opening_texts v own c.segment.opening ≡ opening_texts v name ending)))
    → ((v : ℕ) → IfOk r (λ found. IfSome found (IsDifference (opening_texts v own c.segment.opening) (opening_texts v name ending))))
    → IfOk r (JudgesOpening (Some (former, ending)) c)
judges_opening own name former ending c r mine its same wrong =
    judged_opening former ending c r
    (subst (λ (n : List ℕ). IfOk r (λ found. IfNone found (opening_texts c.segment.rules n c.segment.opening ≡ opening_texts c.segment.rules former ending))) mine
    (subst (λ (n : List ℕ). IfOk r (λ found. IfNone found (opening_texts c.segment.rules own c.segment.opening ≡ opening_texts c.segment.rules n ending))) its (same c.segment.rules)))
    (subst (λ (n : List ℕ). IfOk r (λ found. IfSome found (IsDifference (opening_texts c.segment.rules n c.segment.opening) (opening_texts c.segment.rules former ending)))) mine
    (subst (λ (n : List ℕ). IfOk r (λ found. IfSome found (IsDifference (opening_texts c.segment.rules own c.segment.opening) (opening_texts c.segment.rules n ending)))) its (wrong c.segment.rules)))

wrong_entry : (former : Former) (c : Counted) (i place : ℕ) (kept ruled : Ruling) → Joins former c → i ≡ lines_before c + place
    → IsFirstWrong c.segment.rules c.segment.opening c.segment.entries place kept ruled → IsWrongAt former c i kept ruled
wrong_entry former c i place (ruling.Answer a) ruled joins is first = (joins, (place, is, first))
wrong_entry former c i place (ruling.Seq n) ruled joins is first = (joins, (place, is, first))
wrong_entry former c i place (ruling.Moment at) ruled joins is first = (joins, (place, is, first))
wrong_entry former c i place (ruling.Count n) ruled joins is first = absurd first.differs
wrong_entry former c i place (ruling.Line l) ruled joins is first = absurd first.differs
wrong_entry former c i place ruling.Stray ruled joins is first = absurd first.differs
wrong_entry former c i place ruling.NotDue ruled joins is first = absurd first.differs
wrong_entry former c i place (ruling.Refused n) ruled joins is first = absurd first.differs
wrong_entry former c i place ruling.Full ruled joins is first = absurd first.differs

-- the verdict on an entry
after_entry : (r : Reached) (c : Counted) (before : ℕ) (w : Wrong) (v : Verdict) → Joins r.former c → before ≡ lines_before c
    → IsFirstWrong c.segment.rules c.segment.opening c.segment.entries w.at w.kept w.ruled
    → v ≡ verdict.Bad (r.lines + (before + w.at) + 1) w.kept w.ruled → After r c (check.Bad v)
after_entry r c before w v joins lines first is =
    (before + w.at, w.kept, w.ruled, wrong_entry r.former c (before + w.at) w.at w.kept w.ruled joins (ap (λ n. n + w.at) lines) first, is)

-- the verdict on the last line
after_count : (r : Reached) (c : Counted) (before : ℕ) (w : Wrong) (v : Verdict) → Joins r.former c → before ≡ lines_before c
    → IsLegal c.segment.rules c.segment.opening c.segment.entries → IsOtherCount (length c.segment.entries) c.count w
    → v ≡ verdict.Bad (r.lines + (before + w.at) + 1) w.kept w.ruled → After r c (check.Bad v)
after_count r c before w v joins lines legal other is = (
  before + w.at,
  w.kept,
  w.ruled,
  subst (λ (k : Ruling). IsWrongAt r.former c (before + w.at) k w.ruled) (sym other.1)
      (joins, record { legal = legal; kept = refl; ruled = other.2; other = other.3; line = omega (arith, other.0, lines) }),
  is,
)

-- the verdict on one of them
after_wrong_of : (r : Reached) (c : Counted) (before : ℕ) (w : Wrong) (v : Verdict) → Joins r.former c → before ≡ lines_before c
    → IsFirstWrong c.segment.rules c.segment.opening c.segment.entries w.at w.kept w.ruled ⊎ (IsLegal c.segment.rules c.segment.opening c.segment.entries × IsOtherCount (length c.segment.entries) c.count w)
    → v ≡ verdict.Bad (r.lines + (before + w.at) + 1) w.kept w.ruled → After r c (check.Bad v)
after_wrong_of r c before w v joins lines (inl first) is = after_entry r c before w v joins lines first is
after_wrong_of r c before w v joins lines (inr (legal, other)) is = after_count r c before w v joins lines legal other is

-- the first entry that is wrong, as what the entries lead to
pub leaves_wrong : (v : ℕ) (o : Opening) (es : List Entry) (count : ℕ) (w : Wrong) → IsFirstWrong v o es w.at w.kept w.ruled
    → Leaves v o es count (Err w)
leaves_wrong v o es count w first = (omega (arith, slice_get_within es w.at first.entry first.found), inl first)

-- an opening of which no entry is kept is valid
opening_valid : (v : ℕ) (o : Opening) (entries : List Entry) → entries ≡ [] → IsLegal v o entries → IsOpening o
opening_valid v o entries none legal = subst (λ (es : List Entry). IsLegal v o es) none legal

-- what a Book that was cut goes on from is where it ended
pub ends_at : (old new : Journal) (r : Result Opening NoMemory) → IsCut old new → IfOk r (λ o. (o ≡ new.opening) × IsSound new) → IfOk r (EndsAt old)
ends_at old new (Err e) cut is = tt
ends_at old new (Ok o) cut is = (
  subst (λ (x : Opening). IsEnding old.rules old.opening (past_of old) x) (sym is.0) cut.ending,
  subst (λ (x : Opening). IsOpening x) (sym is.0) (opening_valid new.rules new.opening new.entries cut.empty is.1),
)

-- what they lead to from a Book's opening
pub leaves_from : (b : Journal) (v : ℕ) (o : Opening) (es : List Entry) (count : ℕ) (r : Result (Result Opening Wrong) NoMemory)
    → b ≡ record { rules = v; opening = o; entries = []; added = 0 }
    → IfOk r (Leaves b.rules b.opening es count) → IfOk r (Leaves v o es count)
leaves_from b v o es count r is h = subst (λ (j : Journal). IfOk r (Leaves j.rules j.opening es count)) is h

-- the verdict on a line of the opening
pub after_opening : (r : Reached) (c : Counted) (w : Wrong) (v : Verdict) → IsWrongAt r.former c (1 + w.at) w.kept w.ruled
    → v ≡ verdict.Bad (r.lines + (1 + w.at) + 1) w.kept w.ruled → After r c (check.Bad v)
after_opening r c w v wrong is = (1 + w.at, w.kept, w.ruled, wrong, is)

-- a segment that is right, and where it ends
after_right : (r : Reached) (c : Counted) (ending : Opening) (q : Reached) → Joins r.former c
    → Leaves c.segment.rules c.segment.opening c.segment.entries c.count (Ok ending) → q ≡ past r c ending → After r c (check.Good q)
after_right r c ending q joins leaves is = (
  record { joins = joins; legal = leaves.0; counted = leaves.1 },
  subst (λ f. IsFormer f) (sym (ap (λ (x : Reached). x.former) is)) leaves.3,
  ending,
  leaves.2,
  is,
)

-- what comes after a segment that joins the former one
pub after_ends : (r : Reached) (c : Counted) (x : Result Check NoMemory) → Joins r.former c → IfOk x (EndsSegment r.lines r.entries c) → IfOk x (After r c)
after_ends r c (Err e) joins ends = tt
after_ends r c (Ok (check.Good q)) joins ends = after_right r c ends.0 q joins ends.1 ends.2
after_ends r c (Ok (check.Bad v)) joins ends = after_wrong_of r c (lines_before c) ends.0 v joins refl ends.1.1 ends.2

-- an entry or the last line is wrong
pub ends_wrong : (lines entries : ℕ) (c : Counted) (before : ℕ) (w : Wrong) (v : Verdict) → before ≡ lines_before c
    → Leaves c.segment.rules c.segment.opening c.segment.entries c.count (Err w) → v ≡ verdict.Bad (lines + (before + w.at) + 1) w.kept w.ruled
    → EndsSegment lines entries c (check.Bad v)
ends_wrong lines entries c before w v here leaves is =
    (w, leaves, is ∙ ap (λ n. verdict.Bad (lines + (n + w.at) + 1) w.kept w.ruled) here)

abbrev pub reached_so : Former → (lines entries : ℕ) → Reached
reached_so f l e = record { former = f; lines = l; entries = e }

-- what is reached after a segment, by its parts
past_is : (r : Reached) (c : Counted) (ending : Opening) (name : List ℕ) (lines entries : ℕ) → name ≡ c.name → lines ≡ r.lines + length (lines_of c)
    → entries ≡ r.entries + length c.segment.entries → reached_so (Some (name, ending)) lines entries ≡ past r c ending
past_is r c ending name lines entries same line entry =
    ap (λ (x : List ℕ). reached_so (Some (x, ending)) lines entries) same
    ∙ ap (λ n. reached_so (Some (c.name, ending)) n entries) line
    ∙ ap (λ n. reached_so (Some (c.name, ending)) (r.lines + length (lines_of c)) n) entry

-- each of them is right
pub ends_right : (lines entries : ℕ) (c : Counted) (name : List ℕ) (ending : Opening) (l e : ℕ) → LeavesAs c (Ok (name, ending))
    → l ≡ lines + length (lines_of c) → e ≡ entries + length c.segment.entries → EndsSegment lines entries c (check.Good (reached_so (Some (name, ending)) l e))
ends_right lines entries c name ending l e leaves line entry =
    (ending, leaves.1, past_is (record { former = None; lines = lines; entries = entries }) c ending name l e leaves.0 line entry)
