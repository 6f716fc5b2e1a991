-- The check of a text, with a further line.
use Rattle.std.proofs.Common.{◌≡◌, ℕ, ◌+◌, ◌≤◌, ◌<◌, ◌^◌, inl, inr, Bool, true, false, ◌&&◌, ◌==◌, nat_lt, List, [], ◌∷◌, ◌++◌, length, reverse, Result, Ok, Err, Some, None, refl, sym, ap, subst, ◌∙◌, append_assoc, length-append, arith}
use Rattle.std.proofs.lemmas.Bool.{lt-ltb}
use Rattle.std.proofs.lemmas.List.{append-nil, length-map}
use Rattle.std.proofs.lemmas.List.Sums.{sum_by-cons, sum_by_push}
use Rattle.std.specs.Prelude.{IsErrAnd, if◌then◌else◌}
use Rattle.lb_model.specs.Present.{IsEnding}
use Rattle.lb_model.specs.declared.opening.Opening.{Opening}
use Rattle.play_script.specs.Parts.{parts_of}
use Rattle.journal_text.specs.declared.line.Line.TheVariants as line
use Rattle.journal_text.specs.Reading.{TextOutcome, ReadsLines, ReadsText, TakesText, at_start, held, is_end, is_outside, readable, unreadable}
use Rattle.journal_text.specs.SegmentText.{entry_lines, opening_lines}
use Rattle.journal_text.specs.Written.{lines_of}
use Rattle.journal_text.specs.declared.counted.Counted.{Counted}
use Rattle.journal_text.specs.declared.reader.TextPlace.{TextPlace}
use Rattle.journal_text.specs.declared.reader.TextPlace.TheVariants as place
use Rattle.journal_text.specs.declared.reader.Reader.{Reader}
use Rattle.journal_text.specs.declared.text_error.TextError.{TextError}
use Rattle.journal_text.specs.declared.text_error.TextError.TheVariants as error
use Rattle.journal_verdict.specs.Checkers.{Advances, CheckEndsBy, CheckGoesOn, HasTaken, Judged, RefusesLine, may_end}
use Rattle.journal_verdict.specs.Checks.{After, Comes, HasCountRoom, AreBadSegments, Leads, front, lines_taken, verdict_of}
use Rattle.journal_verdict.specs.Verdicts.{AreRight, Former, IsChecked, IsRight, IsVerdict, entries_in, lines_in}
use Rattle.journal_verdict.specs.declared.checker.Checker.{Checker}
use Rattle.journal_verdict.specs.declared.ruling.Verdict.{Verdict}
use Rattle.journal_verdict.specs.declared.ruling.Verdict.TheVariants as verdict
use Rattle.journal_verdict.specs.declared.reached.Check.{Check}
use Rattle.journal_verdict.specs.declared.reached.Check.TheVariants as check
use Rattle.journal_verdict.proofs.ReaderFacts.{takes_front, takes_stepped}

-- ---- sums over one segment more

lines_more : (cs : List Counted) (c : Counted) → lines_in (cs ++ c ∷ []) ≡ lines_in cs + length (lines_of c)
lines_more cs c = sum_by_push (λ (x : Counted). length (lines_of x)) cs c

entries_more : (cs : List Counted) (c : Counted) → entries_in (cs ++ c ∷ []) ≡ entries_in cs + length c.segment.entries
entries_more cs c = sum_by_push (λ (x : Counted). length x.segment.entries) cs c

-- a segment has no more entries than lines
entries_within : (c : Counted) → length c.segment.entries ≤ length (lines_of c)
entries_within c =
    omega (
      arith,
      length-append (opening_lines c.name c.segment.opening) (entry_lines c.segment.entries ++ line.End c.count ∷ []),
      length-append (entry_lines c.segment.entries) (line.End c.count ∷ []),
      length-map c.segment.entries (λ e. line.Entry e),
    )

few_entries : (cs : List Counted) → entries_in cs ≤ lines_in cs
few_entries [] = omega arith
few_entries (c ∷ cs) =
    omega (
      arith,
      few_entries cs,
      entries_within c,
      sum_by-cons (λ (x : Counted). length (lines_of x)) c cs,
      sum_by-cons (λ (x : Counted). length x.segment.entries) c cs,
    )

-- ---- the verdict on one segment more

right_more : (first last : Former) (cs : List Counted) (c : Counted) (ending : Opening) → AreRight first cs last → IsRight last c
    → IsEnding c.segment.rules c.segment.opening (reverse c.segment.entries) ending → AreRight first (cs ++ c ∷ []) (Some (c.name, ending))
right_more first last [] c ending all right ends = (ending, subst (λ f. IsRight f c) all right, ends, refl)
right_more first last (d ∷ cs) c ending all right ends =
    (all.0, all.1, all.2, right_more (Some (d.name, all.0)) last cs c ending all.3 right ends)

bad_more : (cs : List Counted) (c : Counted) (v : Verdict) → AreBadSegments cs v → AreBadSegments (cs ++ c ∷ []) v
bad_more cs c (verdict.Good entries) bad = bad
bad_more cs c (verdict.Bad line kept ruled) bad = record {
  before = bad.before;
  segment = bad.segment;
  later = bad.later ++ c ∷ [];
  parts = ap (λ xs. xs ++ c ∷ []) bad.parts ∙ append_assoc bad.before (bad.segment ∷ bad.later) (c ∷ []);
  former = bad.former;
  right = bad.right;
  place = bad.place;
  wrong = bad.wrong;
  number = bad.number;
}

comes_after : (cs : List Counted) (c : Counted) (old : _) (new : Check) → Comes cs (check.Good old) → After old c new → Comes (cs ++ c ∷ []) new
comes_after cs c old (check.Good q) comes after =
    let former = ap (λ r. r.former) after.4 in (
      subst (λ f. AreRight None (cs ++ c ∷ []) f) (sym former) (right_more None old.former cs c after.2 comes.0 after.0 after.3),
      after.1,
      ap (λ r. r.lines) after.4 ∙ omega (arith, lines_more cs c, comes.2),
      ap (λ r. r.entries) after.4 ∙ omega (arith, entries_more cs c, comes.3),
    )
comes_after cs c old (check.Bad v) comes after =
    subst (λ x. AreBadSegments (cs ++ c ∷ []) x) (sym after.4) (record {
      before = cs;
      segment = c;
      later = [];
      parts = refl;
      former = old.former;
      right = comes.0;
      place = after.0;
      wrong = after.3;
      number = omega (arith, comes.2);
    })

pub comes_more : (cs : List Counted) (c : Counted) (old new : Check) → Comes cs old → Leads old c new → Comes (cs ++ c ∷ []) new
comes_more cs c (check.Good q) new comes leads = comes_after cs c q new comes leads
comes_more cs c (check.Bad v) new comes leads = subst (λ k. Comes (cs ++ c ∷ []) k) (sym leads) (bad_more cs c v comes)

-- ---- a line more

one : {T : Type 0} (x y : T) → [] ++ x ∷ [] ≡ y ∷ [] → x ≡ y
one x y h = cc

-- the segment that a line ended is of the lines before it and that one
ended_lines : (r q : Reader) (text : List ℕ) (c : Counted) → r.done ≡ [] → q.done ≡ c ∷ [] → TakesText r text (Some q)
    → (lines_taken q.place ≡ 0) × (length (lines_of c) ≡ lines_taken r.place + 1)
ended_lines r q text c empty ended takes =
    elim (takes_stepped r q text takes) [
      | inl w ↦ absurd (let none : [] ≡ c ∷ [] = sym empty ∙ sym w.0 ∙ ended in cc)
      | inr w ↦
          let same : w.0 ≡ c = one w.0 c (ap (λ xs. xs ++ w.0 ∷ []) (sym empty) ∙ sym w.1 ∙ ended) in
          (w.2, subst (λ x. length (lines_of x) ≡ lines_taken r.place + 1) same w.3)
    ]

pub has_room : (old : Checker) (done : List Counted) (text : List ℕ) (q : Reader) (c : Counted) → HasTaken old done → old.number ≤ 67108866
    → TakesText old.reader text (Some q) → q.done ≡ c ∷ [] → HasCountRoom old.check c
has_room old done text q c taken few takes ended =
    let lines = ended_lines old.reader q text c taken.empty ended takes in
    (elim old.check as (λ k. Comes done k → HasCountRoom k c) [
      | check.Good g ↦ λ comes. (
        comes.1,
        omega (arith, taken.number, few, lines.1, comes.2),
        omega (arith, taken.number, few, lines.1, comes.3, few_entries done, entries_within c),
      )
      | check.Bad v ↦ λ comes. tt
    ]) taken.comes

-- the same place with no segment before, or with the segments that came out of it
fronts : (done : List Counted) (c : List Counted) (q r : Reader) → q.done ≡ c → r.done ≡ [] → r.place ≡ q.place
    → front done q ≡ front (done ++ c) r
fronts done c q r ended empty place =
    ap (λ (p : TextPlace). record { place = p; done = done ++ q.done }) (sym place)
    ∙ ap (λ (d : List Counted). record { place = r.place; done = done ++ d }) ended
    ∙ ap (λ (d : List Counted). record { place = r.place; done = d }) (sym (append-nil (done ++ c)))
    ∙ ap (λ (d : List Counted). record { place = r.place; done = (done ++ c) ++ d }) (sym empty)

some_more : (cs : List Counted) (c : Counted) → nat_lt 0 (length (cs ++ c ∷ [])) ≡ true
some_more cs c = lt-ltb 0 (length (cs ++ c ∷ [])) (omega (arith, length-append cs (c ∷ [])))

-- the line made no segment whole
goes_on : (old : Checker) (done : List Counted) (text : List ℕ) (q : Reader) (new : Checker) → HasTaken old done
    → TakesText old.reader text (Some q) → new.reader.place ≡ q.place
    → new.number ≡ old.number + 1 → q.done ≡ [] → Judged [] old.check old.some new
    → HasTaken new done × TakesText (front done old.reader) text (Some (front done new.reader))
goes_on old done text q new taken takes place number empty judged =
    let lines : lines_taken q.place ≡ lines_taken old.reader.place + 1 = elim (takes_stepped old.reader q text takes) [
      | inl w ↦ w.1
      | inr w ↦ absurd (let none : old.reader.done ++ w.0 ∷ [] ≡ [] = sym w.1 ∙ empty in omega (arith, ap length none, length-append old.reader.done (w.0 ∷ [])))
    ] in
    let same : front done q ≡ front done new.reader =
    fronts done [] q new.reader empty judged.0 place ∙ ap (λ d. front d new.reader) (append-nil done) in (
      record {
        empty = judged.0;
        comes = subst (λ k. Comes done k) (sym judged.1) taken.comes;
        number = omega (arith, number, taken.number, lines, ap lines_taken place);
        some = judged.2 ∙ taken.some;
      },
      subst (λ x. TakesText (front done old.reader) text (Some x)) same (takes_front done old.reader text (Some q) takes),
    )

-- the line was the last one of a segment
goes_over : (old : Checker) (done : List Counted) (text : List ℕ) (q : Reader) (new : Checker) (c : Counted) → HasTaken old done
    → TakesText old.reader text (Some q) → new.reader.place ≡ q.place
    → new.number ≡ old.number + 1 → q.done ≡ c ∷ [] → Judged (c ∷ []) old.check old.some new
    → HasTaken new (done ++ c ∷ []) × TakesText (front done old.reader) text (Some (front (done ++ c ∷ []) new.reader))
goes_over old done text q new c taken takes place number ended judged =
    let lines = ended_lines old.reader q text c taken.empty ended takes in (
      record {
        empty = judged.0;
        comes = comes_more done c old.check new.check taken.comes judged.1;
        number = omega (arith, number, taken.number, lines.0, lines.1, ap lines_taken place, lines_more done c);
        some = judged.2 ∙ sym (some_more done c);
      },
      subst (λ x. TakesText (front done old.reader) text (Some x)) (fronts done (c ∷ []) q new.reader ended judged.0 place)
          (takes_front done old.reader text (Some q) takes),
    )

two : {T : Type 0} (x c d : T) (cs : List T) → [] ++ x ∷ [] ≡ c ∷ d ∷ cs → ⊥
two x c d cs h = cc

-- no line makes two segments whole
never_two : (r q : Reader) (text : List ℕ) (c d : Counted) (cs : List Counted) → r.done ≡ [] → q.done ≡ c ∷ d ∷ cs → TakesText r text (Some q) → ⊥
never_two r q text c d cs empty ended takes =
    elim (takes_stepped r q text takes) [
      | inl w ↦ (let none : [] ≡ c ∷ d ∷ cs = sym empty ∙ sym w.0 ∙ ended in cc)
      | inr w ↦ two w.0 c d cs (ap (λ xs. xs ++ w.0 ∷ []) (sym empty) ∙ sym w.1 ∙ ended)
    ]

advances_by : (old : Checker) (done : List Counted) (text : List ℕ) (q : Reader) (new : Checker) (ended : List Counted) → HasTaken old done
    → TakesText old.reader text (Some q) → new.reader.place ≡ q.place
    → new.number ≡ old.number + 1 → q.done ≡ ended → Judged ended old.check old.some new
    → (now : List Counted) × HasTaken new now × TakesText (front done old.reader) text (Some (front now new.reader))
advances_by old done text q new [] taken takes place number is judged =
    let on = goes_on old done text q new taken takes place number is judged in (done, on.0, on.1)
advances_by old done text q new (c ∷ []) taken takes place number is judged =
    let over = goes_over old done text q new c taken takes place number is judged in (done ++ c ∷ [], over.0, over.1)
advances_by old done text q new (c ∷ d ∷ cs) taken takes place number is judged =
    absurd (never_two old.reader q text c d cs taken.empty is takes)

-- the segments that were taken, and the lines of another one, go on by a line
pub advances : (old : Checker) (text : List ℕ) (q : Reader) (new : Checker) → TakesText old.reader text (Some q)
    → CheckGoesOn q old.check old.some (old.number + 1) new → Advances old text new
advances old text q new takes on =
    λ done taken. advances_by old done text q new q.done taken takes on.stands on.counted refl on.judged

-- a line ends at most one segment
pub ended_few : (r q : Reader) (text : List ℕ) → r.done ≡ [] → TakesText r text (Some q) → length q.done ≤ 1
ended_few r q text empty takes =
    elim (takes_stepped r q text takes) [
      | inl w ↦ omega (arith, ap length w.0, ap length empty)
      | inr w ↦ omega (arith, ap length w.1, ap length empty, length-append r.done (w.0 ∷ []))
    ]

held_within : (p : TextPlace) → held p ≤ lines_taken p
held_within (place.Outside former) = omega arith
held_within (place.Ruled rules) = omega arith
held_within (place.Heading rules d) = omega arith
held_within (place.Body name s) = omega arith

-- a reader holds few members and tickets of a text that isn't too long
pub held_few : (c : Checker) (done : List Counted) → HasTaken c done → c.number ≤ 67108866 → held c.reader.place < 2 ^ 32
held_few c done taken few = omega (arith, held_within c.reader.place, taken.number, few)

-- ---- what becomes of the segment that a line ended

pub judged_none : (done : List Counted) (k : Check) (some : Bool) (new : Checker) → done ≡ [] → new.reader.done ≡ [] → new.check ≡ k → new.some ≡ some
    → Judged done k some new
judged_none done k some new none empty same so = subst (λ (d : List Counted). Judged d k some new) (sym none) (empty, same, so)

no_items : (xs : List Counted) → length xs ≡ 0 → xs ≡ []
no_items [] h = refl
no_items (x ∷ xs) h = absurd (omega (arith, h))

pub only_one : (done rest : List Counted) (c : Counted) → done ≡ rest ++ c ∷ [] → length done ≤ 1 → (rest ≡ []) × (done ≡ c ∷ [])
only_one done rest c is few =
    let none : rest ≡ [] = no_items rest (omega (arith, ap length is, few, length-append rest (c ∷ []))) in
    (none, is ∙ ap (λ (xs : List Counted). xs ++ c ∷ []) none)

pub judged_some : (done rest : List Counted) (c : Counted) (k : Check) (some : Bool) (new : Checker) → done ≡ rest ++ c ∷ [] → length done ≤ 1
    → new.reader.done ≡ rest → Leads k c new.check → new.some ≡ true → Judged done k some new
judged_some done rest c k some new is few left leads so =
    let one = only_one done rest c is few in
    subst (λ (d : List Counted). Judged d k some new) (sym one.1) (left ∙ one.0, leads, so)

abbrev pub checker_so : Reader → Check → Bool → (number : ℕ) → Checker
checker_so r k some number = record { reader = r; check = k; some = some; number = number }

pub goes_on_none : (r q : Reader) (k : Check) (some : Bool) (number : ℕ) → q.place ≡ r.place
    → (r.done ≡ []) × (q.done ≡ []) → CheckGoesOn r k some number (checker_so q k some number)
goes_on_none r q k some number same none = record {
  stands = same;
  counted = refl;
  judged = judged_none r.done k some (checker_so q k some number) none.0 none.1 refl refl;
}

pub goes_on_some : (r q : Reader) (c : Counted) (k after : Check) (some : Bool) (number : ℕ) → q.place ≡ r.place
    → r.done ≡ q.done ++ c ∷ [] → length r.done ≤ 1 → Leads k c after
    → CheckGoesOn r k some number (checker_so q after true number)
goes_on_some r q c k after some number same is few leads = record {
  stands = same;
  counted = refl;
  judged = judged_some r.done q.done c k some (checker_so q after true number) is few refl leads refl;
}

-- ---- the end of a text

verdict_by : (done : List Counted) (k : Check) → Comes done k → IsVerdict done (verdict_of k)
verdict_by done (check.Good q) comes = (q.former, comes.0, comes.3)
verdict_by done (check.Bad (verdict.Good entries)) comes = absurd comes
verdict_by done (check.Bad (verdict.Bad line kept ruled)) comes = comes

pub verdict_on : (c : Checker) (done : List Counted) → HasTaken c done → IsVerdict done (verdict_of c.check)
verdict_on c done taken = verdict_by done c.check taken.comes

and_last : (a b s : Bool) → (a && (b && s)) ≡ (s && (a && b))
and_last true true true = refl
and_last true true false = refl
and_last true false true = refl
and_last true false false = refl
and_last false b true = refl
and_last false b false = refl

-- a text may end where its check may
end_is : (c : Checker) (done : List Counted) (last : List ℕ) → HasTaken c done → is_end (front done c.reader) last ≡ may_end c last
end_is c done last taken =
    ap (λ (d : List Counted). (length last == 0) && (is_outside c.reader.place && nat_lt 0 (length d)))
    (ap (λ (d : List Counted). done ++ d) taken.empty ∙ append-nil done)
    ∙ ap (λ (s : Bool). (length last == 0) && (is_outside c.reader.place && s)) (sym taken.some)
    ∙ and_last (length last == 0) (is_outside c.reader.place) c.some

pub ends_good : (c : Checker) (done : List Counted) (last : List ℕ) (v : Verdict) → HasTaken c done → may_end c last ≡ true → v ≡ verdict_of c.check
    → CheckEndsBy done c last (Ok v)
ends_good c done last v taken may is = (end_is c done last taken ∙ may, subst (λ x. IsVerdict done x) (sym is) (verdict_on c done taken))

pub ends_unread : (c : Checker) (done : List Counted) (last : List ℕ) → HasTaken c done → may_end c last ≡ false
    → CheckEndsBy done c last (Err (error.Unreadable c.number))
ends_unread c done last taken may = (refl, end_is c done last taken ∙ may)

-- ---- a text, line by line

-- some segments were taken, and what is read of the lines after them is what the whole text is read as
pub record Stands (whole : List ℕ) (c : Checker) (lines : List (List ℕ)) : Type 0 where
  pub done : List Counted
  pub taken : HasTaken c done
  pub reads : (o : TextOutcome) → ReadsLines (front done c.reader) c.number lines o → ReadsText whole o

pub stands_first : (whole first : List ℕ) (c : Checker) (lines : List (List ℕ)) → HasTaken c [] → c.reader ≡ at_start → c.number ≡ 1
    → parts_of 10 whole ≡ first ∷ lines → Stands whole c (first ∷ lines)
stands_first whole first c lines taken start number parts = record {
  done = [];
  taken = taken;
  reads = λ o h.
      subst (λ ps. ReadsLines at_start 1 ps o) (sym parts)
      (subst (λ n. ReadsLines at_start n (first ∷ lines) o) number
      (subst (λ (r : Reader). ReadsLines r c.number (first ∷ lines) o) (ap (front []) start) h));
}

pub stands_on : (whole : List ℕ) (old new : Checker) (line next : List ℕ) (lines : List (List ℕ)) → Stands whole old (line ∷ next ∷ lines)
    → Advances old line new → new.number ≡ old.number + 1 → Stands whole new (next ∷ lines)
stands_on whole old new line next lines stands on number =
    let now = on stands.done stands.taken in
    record {
      done = now.0;
      taken = now.1;
      reads = λ o h.
          stands.reads o (Some (front now.0 new.reader), now.2, subst (λ n. ReadsLines (front now.0 new.reader) n (next ∷ lines) o) number h);
    }

-- a line that isn't taken is where the text can't be read
refused : (whole : List ℕ) (c : Checker) (line next : List ℕ) (lines : List (List ℕ)) (e : TextError) → Stands whole c (line ∷ next ∷ lines)
    → RefusesLine c line e → IsChecked whole (Err e)
refused whole c line next lines (error.Unreadable number) stands is =
    stands.reads (unreadable number) (None, takes_front stands.done c.reader line None is.1, ap unreadable is.0)
refused whole c line next lines error.NoMemory stands is = tt

pub stands_refused : (whole : List ℕ) (c : Checker) (line next : List ℕ) (lines : List (List ℕ)) (e : TextError) (r : Result Verdict TextError)
    → Stands whole c (line ∷ next ∷ lines) → RefusesLine c line e → IsErrAnd r (λ x. x ≡ e) → IsChecked whole r
stands_refused whole c line next lines e (Ok v) stands is told = absurd told
stands_refused whole c line next lines e (Err x) stands is told =
    subst (λ (y : TextError). IsChecked whole (Err y)) (sym told) (refused whole c line next lines e stands is)

pub stands_end : (whole : List ℕ) (c : Checker) (last : List ℕ) (r : Result Verdict TextError) → Stands whole c (last ∷ [])
    → ((done : List Counted) → HasTaken c done → CheckEndsBy done c last r) → IsChecked whole r
stands_end whole c last (Ok v) stands ends =
    let end = ends stands.done stands.taken in
    let all : stands.done ++ c.reader.done ≡ stands.done = ap (λ (d : List Counted). stands.done ++ d) stands.taken.empty ∙ append-nil stands.done in
    let ended : readable stands.done ≡ (if is_end (front stands.done c.reader) last then readable (stands.done ++ c.reader.done) else unreadable c.number) =
    ap readable (sym all) ∙ sym (ap (λ (b : Bool). if b then readable (stands.done ++ c.reader.done) else unreadable c.number) end.0) in
    (stands.done, stands.reads (readable stands.done) ended, end.1)
stands_end whole c last (Err (error.Unreadable line)) stands ends =
    let end = ends stands.done stands.taken in
    stands.reads (unreadable line)
    (ap unreadable end.0 ∙ sym (ap (λ (b : Bool). if b then readable (stands.done ++ c.reader.done) else unreadable c.number) end.1))
stands_end whole c last (Err error.NoMemory) stands ends = tt
