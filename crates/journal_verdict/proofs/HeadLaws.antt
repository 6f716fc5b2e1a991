-- A line of an opening, or between segments.
use Rattle.std.proofs.Common.{◌≡◌, ℕ, ◌+◌, ◌-◌, ◌<◌, inl, inr, Bool, true, false, List, [], ◌∷◌, Option, Some, None, refl, sym, subst, ap, ◌∙◌, arith, length-append}
use Rattle.std.specs.Prelude.{MatchOption, slice_index_or, if◌then◌else◌}
use Rattle.journal_text.specs.Openings.{row_of}
use Rattle.std.proofs.lemmas.Option.{cond_some}
use Rattle.journal_text.specs.Readings.{line_of}
use Rattle.journal_text.specs.declared.line.Line.{Line}
use Rattle.journal_text.specs.declared.line.Line.TheVariants as line
use Rattle.journal_text.specs.Reading.{TakesAt, TakesText, is_body, is_full, is_outside, rules_at}
use Rattle.journal_text.specs.declared.reader.Reader.{Reader}
use Rattle.journal_text.specs.declared.reader.TextPlace.{TextPlace}
use Rattle.journal_text.specs.declared.reader.TextPlace.TheVariants as place
use Rattle.journal_verdict.specs.Checks.{lines_taken}
use Rattle.journal_verdict.specs.Verdicts.{opening_texts}
use Rattle.journal_verdict.specs.declared.ruling.Ruling.TheVariants as ruling
use Rattle.journal_verdict.specs.Lines.{Agrees, IsBadLine, IsExpected, RefusesLineAt, RunState, Stand, StandTakes, TakesHead, TakesLine, headed}
use Rattle.journal_verdict.specs.Machines.{AddsHead, FitsOpening, HasRunState, KnowsAs, IsRunSoFar, Misfits, expected_at}
use Rattle.journal_verdict.specs.declared.error.FollowError.{FollowError}
use Rattle.journal_verdict.specs.declared.error.FollowError.TheVariants as wrong
use Rattle.journal_verdict.specs.declared.machine.Machine.{Machine}
use Rattle.journal_verdict.specs.declared.run.Run.{Run}

-- one line more was taken, unless the opening is whole
record OneMore (r q : Reader) (p : TextPlace) : Type 0 where
  same : q.done ≡ r.done
  more : is_body q.place ≡ false → lines_taken q.place ≡ lines_taken p + 1

-- the reader came to this place
at_place : (r q : Reader) (p to : TextPlace) → q ≡ record { place = to; done = r.done }
    → (is_body to ≡ false → lines_taken to ≡ lines_taken p + 1) → OneMore r q p
at_place r q p to is more = record {
  same = ap (λ (x : Reader). x.done) is;
  more = λ shut. subst (λ (x : TextPlace). is_body x ≡ false → lines_taken x ≡ lines_taken p + 1) (sym (ap (λ (x : Reader). x.place) is)) more shut;
}

nothing : {T : Type 0} {x : T} → Some x ≡ None → ⊥
nothing h = cc

of_some : {T : Type 0} {x y : T} → Some x ≡ Some y → x ≡ y
of_some h = cc

of_none : {T : Type 0} {x y : T} (b : Bool) → Some x ≡ (if b then None else Some y) → x ≡ y
of_none true h = absurd (nothing h)
of_none false h = of_some h

-- by the line and the place
one_more : (r q : Reader) (p : TextPlace) (l : Line) → TakesAt r.done p l (Some q) → is_body p ≡ false → OneMore r q p
one_more r q (place.Outside former) (line.Rules v) h shut = at_place r q (place.Outside former) (place.Ruled v) (sym (cond_some _ _ _ (sym h)).1) (λ _. refl)
one_more r q (place.Outside former) (line.Balancer name values) h shut = absurd (nothing h)
one_more r q (place.Outside former) (line.Member name route v) h shut = absurd (nothing h)
one_more r q (place.Outside former) (line.Lease t m) h shut = absurd (nothing h)
one_more r q (place.Outside former) (line.From b) h shut = absurd (nothing h)
one_more r q (place.Outside former) (line.Entry e) h shut = absurd (nothing h)
one_more r q (place.Outside former) (line.End c) h shut = absurd (nothing h)
one_more r q (place.Ruled rules) (line.Balancer name values) h shut = at_place r q (place.Ruled rules) _ (of_some h) (λ _. refl)
one_more r q (place.Ruled rules) (line.Rules v) h shut = absurd (nothing h)
one_more r q (place.Ruled rules) (line.Member name route v) h shut = absurd (nothing h)
one_more r q (place.Ruled rules) (line.Lease t m) h shut = absurd (nothing h)
one_more r q (place.Ruled rules) (line.From b) h shut = absurd (nothing h)
one_more r q (place.Ruled rules) (line.Entry e) h shut = absurd (nothing h)
one_more r q (place.Ruled rules) (line.End c) h shut = absurd (nothing h)
one_more r q (place.Heading rules d) (line.Member name route v) h shut =
    at_place r q (place.Heading rules d) _ (of_none (is_full d) h) (λ _. omega (arith, length-append d.rows (row_of name v ∷ [])))
one_more r q (place.Heading rules d) (line.Lease t m) h shut =
    at_place r q (place.Heading rules d) _ (sym (cond_some _ _ _ (sym h)).1) (λ _. omega (arith, length-append d.out ((t, m) ∷ [])))
one_more r q (place.Heading rules d) (line.From b) h shut = at_place r q (place.Heading rules d) _ h.3 (λ body. absurd (let wrong : true ≡ false = body in cc))
one_more r q (place.Heading rules d) (line.Rules v) h shut = absurd (nothing h)
one_more r q (place.Heading rules d) (line.Balancer name values) h shut = absurd (nothing h)
one_more r q (place.Heading rules d) (line.Entry e) h shut = absurd (nothing h)
one_more r q (place.Heading rules d) (line.End c) h shut = absurd (nothing h)
one_more r q (place.Body name s) l h shut = absurd (let wrong : true ≡ false = shut in cc)

by_line : (r q : Reader) (found : Option Line) → MatchOption found (Some q ≡ None) (λ l. TakesAt r.done r.place l (Some q)) → is_body r.place ≡ false → OneMore r q r.place
by_line r q None h shut = absurd (nothing h)
by_line r q (Some l) h shut = one_more r q r.place l h shut

head_more : (r q : Reader) (text : List ℕ) → TakesText r text (Some q) → is_body r.place ≡ false → OneMore r q r.place
head_more r q text h shut = by_line r q (line_of (rules_at r.place) text) h shut

-- what ought to stand there is what the run ended with
expects : (r : Run) (run : RunState) (taken at : ℕ) (text : List ℕ) → IsRunSoFar false r run → taken ≡ at → ((v : ℕ) → text ≡ expected_at v r (taken - 1)) → IsExpected run (at - 1) text
expects r run taken at text is same eq = record {
  ending = r.book.opening;
  ends = is.stands.ending;
  line = eq run.rules ∙ (ap (λ (name : List ℕ). slice_index_or (opening_texts run.rules name r.book.opening) (taken - 1) []) is.name
      ∙ ap (λ (n : ℕ). slice_index_or (opening_texts run.rules run.name r.book.opening) (n - 1) []) same);
}

agrees_by : (found : Option Run) (state : Option RunState) (p : TextPlace) (taken : ℕ) (text : List ℕ) → HasRunState false found state → taken ≡ lines_taken p
    → is_body p ≡ false → FitsOpening found taken text → Agrees state p text
agrees_by None None p taken text has same shut fits = tt
agrees_by None (Some run) p taken text has same shut fits = absurd has
agrees_by (Some r) None p taken text has same shut fits = absurd has
agrees_by (Some r) (Some run) (place.Outside former) taken text has same shut fits = tt
agrees_by (Some r) (Some run) (place.Ruled rules) taken text has same shut (inl none) = absurd (omega (arith, same, none))
agrees_by (Some r) (Some run) (place.Ruled rules) taken text has same shut (inr eq) = expects r run taken 1 text has same eq
agrees_by (Some r) (Some run) (place.Heading rules d) taken text has same shut (inl none) = absurd (omega (arith, same, none))
agrees_by (Some r) (Some run) (place.Heading rules d) taken text has same shut (inr eq) = expects r run taken _ text has same eq
agrees_by (Some r) (Some run) (place.Body name segment) taken text has same shut fits = absurd (let wrong : true ≡ false = shut in cc)

takes_shut : (among : Bool) (state : Option RunState) (s : Stand) (text : List ℕ) (t : Stand) → among ≡ false → TakesHead s text t → TakesLine among state s text t
takes_shut false state s text t shut h = h
takes_shut true state s text t shut h = absurd (let wrong : true ≡ false = shut in cc)

bad_shut : (among : Bool) (state : Option RunState) (s : Stand) (text : List ℕ) (kept ruled : _) → among ≡ false → IsBadLine false state s text kept ruled → IsBadLine among state s text kept ruled
bad_shut false state s text kept ruled shut h = h
bad_shut true state s text kept ruled shut h = absurd (let wrong : true ≡ false = shut in cc)

-- the line is taken
pub goes_on : (m : Machine) (s : Stand) (text : List ℕ) (read : Reader) (n : Machine) → KnowsAs m s → m.among ≡ false → TakesText m.reader text (Some read)
    → FitsOpening m.run m.taken text → AddsHead s read (m.taken + 1) m.run n → (t : Stand) × StandTakes s text t × KnowsAs n t
goes_on m s text read n at shut takes fits adds =
    let shut' : s.among ≡ false = sym at.among ∙ shut in
    let takes' = subst (λ (r : Reader). TakesText r text (Some read)) at.reader takes in
    let more = head_more s.reader read text takes' at.outside in
    let has = subst (λ (b : Bool). HasRunState b m.run s.run) shut' at.run in
    let agrees = agrees_by m.run s.run s.reader.place m.taken text has at.taken at.outside fits in (
      headed s read.place read,
      takes_shut s.among s.run s text _ shut' (record { read = read; takes = takes'; agrees = agrees; stands = refl }),
      adds (more.same ∙ at.empty) (λ shut''. omega (arith, more.more shut'', at.taken)) has,
    )

not_outside : (p : TextPlace) → 0 < lines_taken p → is_outside p ≡ false
not_outside (place.Outside former) h = absurd (omega (arith, h))
not_outside (place.Ruled rules) h = refl
not_outside (place.Heading rules d) h = refl
not_outside (place.Body name segment) h = refl

differs_by : (found : Option Run) (s : Stand) (taken : ℕ) (text ruled : List ℕ) (read : Reader) → HasRunState false found s.run → taken ≡ lines_taken s.reader.place
    → TakesText s.reader text (Some read) → Misfits found taken text ruled → IsBadLine false s.run s text (ruling.Line text) (ruling.Line ruled)
differs_by found s taken text ruled read has same takes misfits = by found s.run refl has misfits
  where
    by : (found : Option Run) (state : Option RunState) → s.run ≡ state → HasRunState false found state → Misfits found taken text ruled
        → IsBadLine false s.run s text (ruling.Line text) (ruling.Line ruled)
    by None state known has misfits = absurd misfits
    by (Some r) None known has misfits = absurd has
    by (Some r) (Some run) known has misfits = record {
      read = read;
      takes = takes;
      run = run;
      known = known;
      inside = not_outside s.reader.place (omega (arith, misfits.0, same));
      expected = ruled;
      ends = expects r run taken (lines_taken s.reader.place) ruled has same (λ v. (misfits.1 v).0);
      other = (misfits.1 0).1;
      here = refl;
      there = refl;
    }

-- the line isn't what it ought to be
pub goes_wrong : (m : Machine) (s : Stand) (text ruled : List ℕ) (read : Reader) (number : ℕ) (e : FollowError) → KnowsAs m s → m.among ≡ false
    → TakesText m.reader text (Some read) → Misfits m.run m.taken text ruled → e ≡ wrong.Bad number (ruling.Line text) (ruling.Line ruled) → RefusesLineAt s number text e
goes_wrong m s text ruled read number e at shut takes misfits is =
    let shut' : s.among ≡ false = sym at.among ∙ shut in
    let takes' = subst (λ (r : Reader). TakesText r text (Some read)) at.reader takes in
    let has = subst (λ (b : Bool). HasRunState b m.run s.run) shut' at.run in
    rw is (refl, bad_shut s.among s.run s text _ _ shut' (differs_by m.run s m.taken text ruled read has at.taken takes' misfits))

-- no opening is whole yet
pub stays : (s : Stand) (read : Reader) (m : Machine) → is_body read.place ≡ false → m.reader ≡ read → m.among ≡ false → AddsHead s read m.taken m.run m
stays s read m shut same closed empty taken has = by read.place refl
  where
    at : KnowsAs m (record { reader = read; run = s.run; among = false })
    at = record {
      reader = same;
      empty = empty;
      among = closed;
      outside = shut;
      taken = taken shut;
      run = has;
      rules = λ run there known. absurd (let wrong : false ≡ true = there in cc);
    }

    by : (p : TextPlace) → read.place ≡ p → KnowsAs m (headed s p read)
    by (place.Outside former) is = at
    by (place.Ruled rules) is = at
    by (place.Heading rules d) is = at
    by (place.Body name segment) is = absurd (let wrong : true ≡ false = sym (ap is_body is) ∙ shut in cc)
