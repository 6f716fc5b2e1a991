-- Books that are cut one after another.
use Rattle.std.proofs.Common.{ℕ, ◌≡◌, ◌<◌, ◌+◌, get_or, set, List, [], ◌∷◌, ◌++◌, Option, Some, None, Result, Ok, Err, refl, sym, ap, ◌∙◌, subst, append_assoc, add-one, arith, length, length-append}
use Rattle.std.specs.Prelude.{OnErr, OnOk}
use Rattle.std.proofs.lemmas.List.{append-nil}
use Rattle.jk_io.specs.Told.{appended}
use Rattle.lb_model.specs.declared.segment.Segment.{Segment}
use Rattle.lb_book.specs.Journal.{Journal}
use Rattle.gear_parts.specs.Cuts.{AddsCuts, AddsFront, AreCuts, ToFirst}
use Rattle.gear_parts.specs.Steps.{AddsCut}
use Rattle.gear_parts.specs.declared.world.Gear.{Gear}

-- The segments so far were kept, and with those of Books that come next they are those of all of these.
pub record AreCutSoFar (books : List Journal) (lb : ℕ) (rest : List Journal) (old new : Option (List (ℕ × Segment))) : Type 0 where
  pub front : List Journal
  pub kept : List (ℕ × Segment)
  pub all : books ≡ front ++ rest
  pub so_far : (later : List Journal) (more : List (ℕ × Segment)) → AreCuts lb later more → AreCuts 0 (front ++ later) (kept ++ more)
  pub added : new ≡ appended old kept

appended_twice : {T : Type 0} (old : Option (List T)) (xs ys : List T) → appended (appended old xs) ys ≡ appended old (xs ++ ys)
appended_twice None xs ys = refl
appended_twice {T} (Some before) xs ys = ap (λ (all : List T). Some all) (append_assoc before xs ys)

appended_none : {T : Type 0} (old : Option (List T)) → old ≡ appended old []
appended_none None = refl
appended_none {T} (Some before) = ap (λ (all : List T). Some all) (sym (append-nil before))

pub none_cut : (books rest : List Journal) (old : Option (List (ℕ × Segment))) → rest ≡ books → AreCutSoFar books 0 rest old old
none_cut books rest old all = record { front = []; kept = []; all = sym all; so_far = λ later more cuts. cuts; added = appended_none old }

pub one_cut : {S : Type 0} (shelved : S → Option (List (ℕ × Segment))) (books rest later : List Journal) (lb : ℕ) (old : Option (List (ℕ × Segment))) (mid new : S) (b : Journal)
    → AreCutSoFar books lb rest old (shelved mid) → rest ≡ b ∷ later → AddsCut shelved lb b mid new → AreCutSoFar books (lb + 1) later old (shelved new)
one_cut shelved books rest later lb old mid new b cut is one = record {
  front = cut.front ++ b ∷ [];
  kept = cut.kept ++ (lb, one.segment) ∷ [];
  all = cut.all ∙ ap (λ (bs : List Journal). cut.front ++ bs) is ∙ sym (append_assoc cut.front (b ∷ []) later);
  so_far = λ next more cuts. rw (append_assoc cut.front (b ∷ []) next, append_assoc cut.kept ((lb, one.segment) ∷ []) more)
      (cut.so_far (b ∷ next) ((lb, one.segment) ∷ more)
      (refl, one.whole, one.legal, subst (λ (n : ℕ). AreCuts n next more) (add-one lb) cuts));
  added =
      one.added ∙ ap (λ (o : Option (List (ℕ × Segment))). appended o ((lb, one.segment) ∷ [])) cut.added
      ∙ appended_twice old cut.kept ((lb, one.segment) ∷ []);
}

-- of what succeeded this follows
pub on_ok_then : {T E : Type 0} (r : Result T E) (P Q : Type 0) → OnOk r P → (P → Q) → OnOk r Q
on_ok_then (Ok x) P Q is then = then is
on_ok_then (Err e) P Q is then = is

pub on_err_then : {T E : Type 0} (r : Result T E) (P Q : Type 0) → OnErr r P → (P → Q) → OnErr r Q
on_err_then (Ok x) P Q is then = is
on_err_then (Err e) P Q is then = then is

-- A fact of the shelf at the first place is one of the first gear's shelf.
pub to_first : {D G T K S O : Type 0} (Kept : S → S → Type 0) (gears : List (Gear D G T K S O)) (x : Gear D G T K S O) (shelf : S)
    → 0 < length gears → Kept (get_or gears 0 x).shelf shelf → ToFirst Kept gears (set gears 0 (record (get_or gears 0 x) { shelf = shelf }))
to_first Kept [] x shelf some kept = absurd (omega (arith, some))
to_first Kept (g ∷ gears) x shelf some kept = (kept, refl, refl)

pub all_cut : {S : Type 0} (shelved : S → Option (List (ℕ × Segment))) (books rest : List Journal) (lb : ℕ) (old new : S)
    → AreCutSoFar books lb rest (shelved old) (shelved new) → rest ≡ [] → AddsCuts shelved books old new
all_cut shelved books rest lb old new cut is =
    let none : cut.front ++ [] ≡ books = sym (cut.all ∙ ap (λ (bs : List Journal). cut.front ++ bs) is) in (
      cut.kept,
      subst (λ (bs : List Journal). AreCuts 0 bs cut.kept) none
          (subst (λ (kept : List (ℕ × Segment)). AreCuts 0 (cut.front ++ []) kept) (append-nil cut.kept) (cut.so_far [] [] tt)),
      cut.added,
    )

-- The next Book's segment wasn't kept.
pub front_cut : {S : Type 0} (shelved : S → Option (List (ℕ × Segment))) (books rest later : List Journal) (lb : ℕ) (old mid new : S) (b : Journal)
    → AreCutSoFar books lb rest (shelved old) (shelved mid) → rest ≡ b ∷ later → shelved new ≡ shelved mid → AddsFront shelved books old new
front_cut shelved books rest later lb old mid new b cut is same = record {
  front = cut.front;
  rest = rest;
  all = cut.all;
  fewer = omega (arith, ap length cut.all, length-append cut.front rest, ap length is);
  added = (
    cut.kept,
    subst (λ (bs : List Journal). AreCuts 0 bs cut.kept) (append-nil cut.front)
        (subst (λ (kept : List (ℕ × Segment)). AreCuts 0 (cut.front ++ []) kept) (append-nil cut.kept) (cut.so_far [] [] tt)),
    same ∙ cut.added,
  );
}
