-- A desk's shelf since a moment, after one call more: segments were added, or none, and no count fell.
use Rattle.std.proofs.Common.{◌≡◌, ℕ, ◌<◌, ◌≤◌, List, [], ◌∷◌, ◌++◌, length, drop, Option, Some, None, inl, inr, refl, sym, ap, ◌∙◌, subst, arith, append-nil, append_assoc}
use Rattle.std.specs.Prelude.{⊤}
use mathlib.Core.Logic.{∥∥₁_map}
use Rattle.jk_io.specs.Told.{Rose, appended}
use Rattle.jk_io.proofs.ToldLaws.{appended-appended, appended-nil}
use Rattle.lb_model.specs.declared.opening.Opening.{Opening}
use Rattle.lb_model.specs.declared.segment.Segment.{Segment}
use Rattle.lb_book.specs.Desks.{RisesByOne}
use Rattle.lb_shared.specs.Histories.{MayCut, Step, cuts_seen}
use Rattle.lb_shared.specs.SharedDesks.{PutsAway, PutsAwayOf, SharedState, shelf_note}
use Rattle.lb_shared.specs.Shelves.{AreSegmentsOf, AreSome, HasGiven, HasShelved, LostNone, ShelfNote, ShelvesOn, added_since, cut_since}
use Rattle.lb_shared.proofs.LeftLaws.{drop_front}

-- The segments added at the end are those that were added.
is_added : (old new : Option (List (ℕ × Segment))) (more : List (ℕ × Segment)) → new ≡ appended old more → new ≡ appended old (added_since old new)
is_added None new more same = same
is_added (Some old) None more same = absurd cc
is_added (Some old) (Some new) more same =
    let all : new ≡ old ++ more = cc in
    ap Some (all ∙ ap (λ (xs : List (ℕ × Segment)). old ++ xs) (sym (ap (λ (xs : List (ℕ × Segment)). drop (length old) xs) all ∙ drop_front old more)))

-- Some of these segments and some of those are some of both.
some_later : (xs all : List (ℕ × Segment)) (us : List (ℕ × Segment)) → AreSome us all → AreSome us (xs ++ all)
some_later [] all us is = is
some_later (x ∷ xs) all [] is = tt
some_later (x ∷ xs) all (u ∷ us) is = inr (some_later xs all (u ∷ us) is)

some_join : (xs all us more : List (ℕ × Segment)) → AreSome xs all → AreSome us more → AreSome (xs ++ us) (all ++ more)
some_join [] all us more is also = some_later all more us also
some_join (x ∷ xs) [] us more is also = absurd is
some_join (x ∷ xs) (y ∷ all) us more is also =
    elim is [
      | inl here ↦ inl (here.0, some_join xs all us more here.1 also)
      | inr later ↦ inr (some_join (x ∷ xs) all us more later also)
    ]

segments_join : (starts : List Opening) (cuts more : List (ℕ × List (ℕ × Step))) (segments others : List (ℕ × Segment)) → AreSegmentsOf starts cuts segments → AreSegmentsOf starts more others
    → AreSegmentsOf starts (cuts ++ more) (segments ++ others)
segments_join starts [] more [] others are also = also
segments_join starts [] more (s ∷ segments) others are also = absurd are
segments_join starts (c ∷ cuts) more [] others are also = absurd are
segments_join starts (c ∷ cuts) more (s ∷ segments) others are also = (are.0, segments_join starts cuts more segments others are.1 also)

-- The cuts of the desk since it was so, and those that its shelf was given.
pub record HasCut (since now : ShelfNote) : Type 0 where
  pub starts : now.starts ≡ since.starts
  pub cuts : List (ℕ × List (ℕ × Step))
  pub more : now.cuts ≡ since.cuts ++ cuts
  pub segments : List (ℕ × Segment)
  pub are : AreSegmentsOf now.starts cuts segments
  pub given : List (ℕ × Segment)
  pub some : AreSome given segments
  pub shelf : now.shelved ≡ appended since.shelved given
  pub all : LostNone since now → given ≡ segments

cut_is : (since now : ShelfNote) (cut : HasCut since now) → cut_since since now ≡ cut.cuts
cut_is since now cut = ap (λ (l : List (ℕ × List (ℕ × Step))). drop (length since.cuts) l) cut.more ∙ drop_front since.cuts cut.cuts

cuts_grow : (since now : ShelfNote) (cut : HasCut since now) → now.cuts ≡ since.cuts ++ cut_since since now
cuts_grow since now cut = cut.more ∙ ap (λ (l : List (ℕ × List (ℕ × Step))). since.cuts ++ l) (sym (cut_is since now cut))

given_by : (since now : ShelfNote) → HasCut since now → HasGiven since now
given_by since now cut = record {
  segments = cut.segments;
  are = subst (λ (l : List (ℕ × List (ℕ × Step))). AreSegmentsOf now.starts l cut.segments) (sym (cut_is since now cut)) cut.are;
  given = cut.given;
  some = cut.some;
  shelf = cut.shelf;
  all = cut.all;
}

cut_by : (since now : ShelfNote) → HasShelved since now → HasGiven since now → HasCut since now
cut_by since now was given = record {
  starts = was.starts;
  cuts = cut_since since now;
  more = was.cuts;
  segments = given.segments;
  are = given.are;
  given = given.given;
  some = given.some;
  shelf = given.shelf;
  all = given.all;
}

-- Nothing was cut since just now.
pub cut_none : (s : ShelfNote) → HasCut s s
cut_none s = record {
  starts = refl;
  cuts = [];
  more = sym (append-nil s.cuts);
  segments = [];
  are = tt;
  given = [];
  some = tt;
  shelf = sym (appended-nil s.shelved);
  all = λ _. refl;
}

-- The cuts of two turns.
pub cut_join : (a b c : ShelfNote) → HasCut a b → HasCut b c → a.faults ≤ b.faults → b.faults ≤ c.faults → a.wants ≤ b.wants → b.wants ≤ c.wants → HasCut a c
cut_join a b c first then faults faults' wants wants' = record {
  starts = then.starts ∙ first.starts;
  cuts = first.cuts ++ then.cuts;
  more = then.more ∙ ap (λ (l : List (ℕ × List (ℕ × Step))). l ++ then.cuts) first.more ∙ append_assoc a.cuts first.cuts then.cuts;
  segments = first.segments ++ then.segments;
  are = segments_join c.starts first.cuts then.cuts first.segments then.segments
      (subst (λ (os : List Opening). AreSegmentsOf os first.cuts first.segments) (sym then.starts) first.are) then.are;
  given = first.given ++ then.given;
  some = some_join first.given first.segments then.given then.segments first.some then.some;
  shelf = then.shelf ∙ ap (λ (told : Option (List (ℕ × Segment))). appended told then.given) first.shelf ∙ appended-appended a.shelved first.given then.given;
  all = λ none.
      let same : b.faults ≡ a.faults = omega (arith, none.faults, faults, faults') in
      let as_many : b.wants ≡ a.wants = omega (arith, none.wants, wants, wants') in
      let one : first.given ≡ first.segments =
      first.all (record { faults = same; wants = as_many; faults_low = none.faults_low; wants_low = none.wants_low }) in
      let two : then.given ≡ then.segments =
      then.all (record {
        faults = none.faults ∙ sym same;
        wants = none.wants ∙ sym as_many;
        faults_low = omega (arith, same, none.faults_low);
        wants_low = omega (arith, as_many, none.wants_low);
      }) in
      ap (λ (l : List (ℕ × Segment)). l ++ then.given) one ∙ ap (λ (l : List (ℕ × Segment)). first.segments ++ l) two;
}

-- Nothing became of it since just now.
pub shelved_none : (s : ShelfNote) → HasShelved s s
shelved_none s = record {
  kept = is_added s.shelved s.shelved [] (sym (appended-nil s.shelved));
  no_fewer = omega arith;
  no_less = omega arith;
  forgotten = refl;
  starts = refl;
  cuts = cuts_grow s s (cut_none s);
  given = ∣ given_by s s (cut_none s) ∣₁;
}

-- Segments were added, or none, and counts rose, or stood.
pub shelved_on : (old new : ShelfNote) → HasCut old new → old.faults ≤ new.faults → old.wants ≤ new.wants
    → new.forgotten ≡ old.forgotten → ShelvesOn old new
shelved_on old new cut no_fewer no_less forgotten = λ since was.
    let grown : new.cuts ≡ since.cuts ++ (cut_since since old ++ cut.cuts) =
    cut.more ∙ ap (λ (l : List (ℕ × List (ℕ × Step))). l ++ cut.cuts) was.cuts ∙ append_assoc since.cuts (cut_since since old) cut.cuts in
    record {
      kept = is_added since.shelved new.shelved (added_since since.shelved old.shelved ++ cut.given)
          (cut.shelf ∙ ap (λ (told : Option (List (ℕ × Segment))). appended told cut.given) was.kept ∙ appended-appended since.shelved (added_since since.shelved old.shelved) cut.given);
      no_fewer = omega (arith, no_fewer, was.no_fewer);
      no_less = omega (arith, no_less, was.no_less);
      forgotten = forgotten ∙ was.forgotten;
      starts = cut.starts ∙ was.starts;
      cuts = grown ∙ ap (λ (l : List (ℕ × List (ℕ × Step))). since.cuts ++ l)
          (sym (ap (λ (l : List (ℕ × List (ℕ × Step))). drop (length since.cuts) l) grown ∙ drop_front since.cuts (cut_since since old ++ cut.cuts)));
      given = ∥∥₁_map was.given (λ given.
          given_by since new (cut_join since old new (cut_by since old was given) cut was.no_fewer no_fewer was.no_less no_less));
    }

-- A count that stands, and could rise, didn't.
stands : (before now : ℕ) → now ≡ before → before < 18446744073709551615 → Rose before now → ⊥
stands before now same low rose = omega arith

counts_once : (before now : ℕ) → now ≡ before → before < 18446744073709551615 → RisesByOne before now → ⊥
counts_once before now same low rose = omega arith

-- The cuts of one call of a desk, and those that its shelf was given.
put_cut : {S : Type 0} (shelved : S → Option (List (ℕ × Segment))) (faults : S → ℕ) (old new : SharedState S) (cut : Option (ℕ × Segment))
    → PutsAway shelved faults old.shelf new.shelf old.wants new.wants cut → MayCut old.seat new.seat cut → new.seat.starts ≡ old.seat.starts
    → HasCut (shelf_note shelved faults old) (shelf_note shelved faults new)
put_cut shelved faults old new None put told begun = record {
  starts = begun;
  cuts = [];
  more = told ∙ sym (append-nil (cuts_seen old.seat));
  segments = [];
  are = tt;
  given = [];
  some = tt;
  shelf = ap shelved put.0 ∙ sym (appended-nil (shelved old.shelf));
  all = λ _. refl;
}
put_cut shelved faults old new (Some cut) put told begun =
    elim put.went [
      | inl kept ↦ record {
        starts = begun;
        cuts = (cut.0, told.before) ∷ [];
        more = told.told;
        segments = cut ∷ [];
        are = ((refl, told.is), tt);
        given = cut ∷ [];
        some = inl (refl, tt);
        shelf = kept.0;
        all = λ _. refl;
      }
      | inr lost ↦ record {
        starts = begun;
        cuts = (cut.0, told.before) ∷ [];
        more = told.told;
        segments = cut ∷ [];
        are = ((refl, told.is), tt);
        given = [];
        some = tt;
        shelf = lost.0 ∙ sym (appended-nil (shelved old.shelf));
        all = λ none. elim lost.1 [
          | inl failed ↦ absurd (stands (faults old.shelf) (faults new.shelf) none.faults none.faults_low failed.0)
          | inr wanted ↦ absurd (counts_once old.wants new.wants none.wants none.wants_low wanted.1)
        ];
      }
    ]

-- Its counts.
put_counts : {S : Type 0} (shelved : S → Option (List (ℕ × Segment))) (faults : S → ℕ) (old new : SharedState S) (cut : Option (ℕ × Segment))
    → PutsAway shelved faults old.shelf new.shelf old.wants new.wants cut → (faults old.shelf ≤ faults new.shelf) × (old.wants ≤ new.wants)
put_counts shelved faults old new None put = (omega (arith, ap faults put.0), omega (arith, put.1))
put_counts shelved faults old new (Some cut) put = (put.no_fewer, put.no_less)

pub shelved_put : {S : Type 0} (shelved : S → Option (List (ℕ × Segment))) (faults : S → ℕ) (sizes : List ℕ) (cut_at lb : ℕ) (old new : SharedState S) (W : Type 0)
    → PutsAwayOf shelved faults sizes cut_at lb old new W → ShelvesOn (shelf_note shelved faults old) (shelf_note shelved faults new)
shelved_put shelved faults sizes cut_at lb old new W put =
    let counts = put_counts shelved faults old new put.cut put.put in
    shelved_on (shelf_note shelved faults old) (shelf_note shelved faults new) (put_cut shelved faults old new put.cut put.put put.told put.starts) counts.0 counts.1 put.forgotten

-- Why nothing was cut isn't told.
pub put_untold : {S : Type 0} (shelved : S → Option (List (ℕ × Segment))) (faults : S → ℕ) (sizes : List ℕ) (cut_at lb : ℕ) (old new : SharedState S) (W : Type 0)
    → PutsAwayOf shelved faults sizes cut_at lb old new W → PutsAwayOf shelved faults sizes cut_at lb old new ⊤
put_untold shelved faults sizes cut_at lb old new W put = record {
  cut = put.cut;
  of = put.of;
  when = elim put.when [
    | inl is ↦ inl is
    | inr wanted ↦ inr (wanted.0, tt)
  ];
  next = put.next;
  put = put.put;
  told = put.told;
  starts = put.starts;
  forgotten = put.forgotten;
}

-- A call that leaves it alone.
pub shelved_same : {S : Type 0} (shelved : S → Option (List (ℕ × Segment))) (faults : S → ℕ) (old new : SharedState S) → new.shelf ≡ old.shelf → new.wants ≡ old.wants
    → new.forgotten ≡ old.forgotten → new.seat.starts ≡ old.seat.starts → cuts_seen new.seat ≡ cuts_seen old.seat
    → ShelvesOn (shelf_note shelved faults old) (shelf_note shelved faults new)
shelved_same shelved faults old new shelf wants forgotten begun cuts =
    shelved_on (shelf_note shelved faults old) (shelf_note shelved faults new)
    (put_cut shelved faults old new None (shelf, wants) cuts begun) (omega (arith, ap faults shelf)) (omega (arith, wants)) forgotten
