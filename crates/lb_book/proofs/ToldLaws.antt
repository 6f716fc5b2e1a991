-- A Book that is told, and what it is after the entries of a call.
use Rattle.std.proofs.Common.{◌≡◌, ℕ, zero, suc, ◌+◌, ◌<◌, List, [], ◌∷◌, ◌++◌, length, map, Option, Some, None, refl, sym, ap, ◌∙◌, subst, arith}
use Rattle.std.specs.Prelude.{slice_get, slice_set}
use Rattle.std.proofs.lemmas.List.{append-nil, append_assoc, length-append, length-map, map-append, set-get_or}
use Rattle.std.proofs.lemmas.Option.{get_or_from_slice_get}
use Rattle.lb_model.specs.Journal.{members}
use Rattle.lb_model.specs.Legal.{IsLegalPast}
use Rattle.lb_model.proofs.ListFacts.{reverse_snoc}
use Rattle.lb_model.specs.declared.journal.Entry.{Entry}
use Rattle.lb_book.specs.Journal.{IsSound, Journal, past_of}
use Rattle.lb_book.specs.Desks.{BooksGrow}
use Rattle.lb_book.specs.ToldBooks.{AreNextAt, AreSound, WhereTold, book_in, grown_by}
use Rattle.lb_book.specs.declared.receipt.Receipt.{Receipt}

-- Items of a list of which one is replaced.
pub some_is : {A : Type 0} (x y : A) → Some x ≡ Some y → x ≡ y
some_is x y same = cc

pub set-found : {A : Type 0} (xs : List A) (i : ℕ) (x : A) → slice_get xs i ≡ Some x → slice_set xs i x ≡ xs
set-found xs i x at = subst (λ (y : _). slice_set xs i y ≡ xs) (get_or_from_slice_get xs i x x at) (set-get_or xs i x)

pub get-set : {A : Type 0} (xs : List A) (i : ℕ) (y : A) → i < length xs → slice_get (slice_set xs i y) i ≡ Some y
get-set [] i y lt = absurd (omega arith)
get-set (x ∷ xs) zero y lt = refl
get-set (x ∷ xs) (suc i) y lt = get-set xs i y (omega arith)

pub get-set_other : {A : Type 0} (xs : List A) (i j : ℕ) (y : A) → (i ≡ j → ⊥) → slice_get (slice_set xs i y) j ≡ slice_get xs j
get-set_other [] i j y other = refl
get-set_other (x ∷ xs) zero zero y other = absurd (other refl)
get-set_other (x ∷ xs) zero (suc j) y other = refl
get-set_other (x ∷ xs) (suc i) zero y other = refl
get-set_other (x ∷ xs) (suc i) (suc j) y other = get-set_other xs i j y (λ same. other (ap (λ (k : ℕ). suc k) same))

pub at_place : {A : Type 0} (xs : List A) (i : ℕ) → i < length xs → (x : A) × (slice_get xs i ≡ Some x)
at_place [] i lt = absurd (omega arith)
at_place (x ∷ xs) zero lt = (x, refl)
at_place (x ∷ xs) (suc i) lt = at_place xs i (omega arith)

-- A fact of the Book at the place holds where the Book is told.
pub where_told : (books : List Journal) (lb : ℕ) (old : Journal) (P : Journal → Type 0) → slice_get books lb ≡ Some old → P old
    → WhereTold (Some books) lb P
where_told books lb old P here is b found = subst P (some_is old b (sym here ∙ found)) is

-- A Book with entries at its end.
pub grown-nil : (b : Journal) → b ≡ grown_by b []
grown-nil b =
    let same : b.added + 0 ≡ b.added = omega arith in
    sym (
    ap (λ (n : ℕ). record b { entries = b.entries ++ []; added = n }) same
    ∙ ap (λ (xs : List Entry). record b { entries = xs }) (append-nil b.entries)
    )

pub grown-twice : (b : Journal) (g h : List Receipt) → grown_by (grown_by b g) h ≡ grown_by b (g ++ h)
grown-twice b g h =
    let entries : b.entries ++ map (λ (r : Receipt). r.entry) g ++ map (λ (r : Receipt). r.entry) h ≡ b.entries ++ map (λ (r : Receipt). r.entry) (g ++ h) =
    append_assoc b.entries (map (λ (r : Receipt). r.entry) g) (map (λ (r : Receipt). r.entry) h)
    ∙ ap (λ (xs : List Entry). b.entries ++ xs) (sym (map-append (λ (r : Receipt). r.entry) g h)) in
    let added : b.added + length g + length h ≡ b.added + length (g ++ h) = omega (arith, length-append g h) in
    ap (λ (xs : List Entry). record b { entries = xs; added = b.added + length g + length h }) entries
    ∙ ap (λ (n : ℕ). record b { entries = b.entries ++ map (λ (r : Receipt). r.entry) (g ++ h); added = n }) added

-- Entries that may follow, and then further ones.
pub next_more : (b : Journal) (at : ℕ) (g h : List Receipt) → AreNextAt b at g → AreNextAt (grown_by b g) at h → AreNextAt b at (g ++ h)
next_more b at [] h first second = subst (λ (x : Journal). AreNextAt x at h) (sym (grown-nil b)) second
next_more b at (r ∷ g) h first second = (
  first.0,
  next_more (grown_by b (r ∷ [])) at g h first.1
      (subst (λ (x : Journal). AreNextAt x at h) (sym (grown-twice b (r ∷ []) g)) second),
)

-- The Book stays sound.
pub past-one : (b : Journal) (r : Receipt) → past_of (grown_by b (r ∷ [])) ≡ r.entry ∷ past_of b
past-one b r = reverse_snoc b.entries r.entry

pub sound_grown : (b : Journal) (at : ℕ) (gained : List Receipt) → IsSound b → AreNextAt b at gained → IsSound (grown_by b gained)
sound_grown b at [] sound next = subst (λ (x : Journal). IsSound x) (grown-nil b) sound
sound_grown b at (r ∷ rest) sound next =
    let one : IsSound (grown_by b (r ∷ [])) =
    subst (λ (p : List Entry). IsLegalPast b.rules b.opening p) (sym (past-one b r)) (next.0.next, sound) in
    subst (λ (x : Journal). IsSound x) (grown-twice b (r ∷ []) rest) (sound_grown (grown_by b (r ∷ [])) at rest one next.1)

-- A Book that is told after a call is the one that was told before it, with the call's entries.
pub told_grown : (lb : ℕ) (gained : List Receipt) (sizes : List ℕ) (before now : Option (List Journal)) (new : Journal) → lb < length sizes
    → AreSound sizes before → BooksGrow lb gained before now → book_in now lb ≡ Some new
    → (old : Journal) × (book_in before lb ≡ Some old) × (new ≡ grown_by old gained)
told_grown lb gained sizes None now new within sound grow found =
    let none : book_in now lb ≡ None = ap (λ (books : Option (List Journal)). book_in books lb) grow in absurd cc
told_grown lb gained sizes (Some books) now new within sound grow found =
    let counted : length sizes ≡ length books =
    ap (λ (ns : List ℕ). length ns) (sound.sized books refl) ∙ length-map books (λ (b : Journal). members b.opening) in
    let old : (b : Journal) × (slice_get books lb ≡ Some b) = at_place books lb (omega arith) in
    let there : book_in now lb ≡ Some (grown_by old.0 gained) =
    ap (λ (told : Option (List Journal)). book_in told lb) (grow old.0 old.1) ∙ get-set books lb (grown_by old.0 gained) (omega arith) in
    (old.0, old.1, some_is new (grown_by old.0 gained) (sym found ∙ there))
