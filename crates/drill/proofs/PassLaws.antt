-- The slots of a drill's passes, and the Book that the passes leave.
use Rattle.std.proofs.Common.{◌≡◌, ℕ, suc, ◌+◌, ◌<◌, ◌≤◌, List, [], ◌∷◌, ◌++◌, length, map, reverse, slice_index_or, take, zero, refl, sym, ap, ◌∙◌, subst, append_assoc, arith}
use Rattle.std.proofs.lemmas.List.{append-nil, length-map, length-reverse, map-append}
use Rattle.std.proofs.Math.Seq.{take-append_seam}
use mathlib.Core.Option.{some, some-injective, some-ne-none}
use lib.ListN.{get_elem?}
use Rattle.atomic_table.specs.Seated.{TableId}
use Rattle.lb_book.specs.Histories.{own_of}
use Rattle.lb_book.specs.Journal.{Journal}
use Rattle.lb_model.specs.Journal.{members}
use Rattle.lb_model.specs.declared.journal.Entry.{Entry}
use Rattle.lb_model.specs.declared.opening.Opening.{Opening}
use Rattle.lb_book.specs.declared.receipt.Receipt.{Receipt}
use Rattle.lb_passes.specs.Closing.{AreAllPasses, CloseInOne}
use Rattle.lb_passes.specs.Holds.{entries_in, own_in}
use Rattle.lb_passes.specs.PassDesks.{view_of}
use Rattle.lb_passes.specs.Passes.{AreNewPasses, IsNewPass, origin_of}
use Rattle.lb_passes.specs.Placed.{AreBack, AreEachBack, AreFrom, IsBack, origin_in, table_in_passes}
use Rattle.lb_passes.specs.declared.pass.Pass.{Pass}
use Rattle.lb_passes.proofs.PlacedLaws.{AreNext, back_at, back_more, from_more, new_origin, new_table, next_rest}
use Rattle.lb_passes.specs.Turns.{IsBookOf}
use Rattle.lb_passes.specs.declared.pass_view.Origin.{Origin}
use Rattle.lb_passes.proofs.BookLaws.{book_entries}
use Rattle.lb_passes.proofs.GotLaws.{within_at}
use Rattle.drill.specs.Ends.{AreOwnReceipts, IsOfDrill, IsStarted}
use Rattle.drill.specs.Sites.{IsDrillBook}

-- Where each keeps its number, all do.
pub numbers_kept : {A : Type 0} (f : A → ℕ) (xs ys : List A) → length ys ≡ length xs
    → ((i : ℕ) (d : A) → i < length xs → f (slice_index_or ys i d) ≡ f (slice_index_or xs i d)) → map f ys ≡ map f xs
numbers_kept f [] [] many each = refl
numbers_kept f [] (y ∷ ys) many each = absurd cc
numbers_kept f (x ∷ xs) [] many each = absurd cc
numbers_kept f (x ∷ xs) (y ∷ ys) many each =
    ap (λ (n : ℕ). n ∷ map f ys) (each 0 x (omega arith))
    ∙ ap (λ (ns : List ℕ). f x ∷ ns)
    (numbers_kept f xs ys (let same : suc (length ys) ≡ suc (length xs) = many in omega (arith, same)) (λ i d lt. each (suc i) d (omega (arith, lt))))

-- Nothing is put yet, and all is left.
pub none_put : {X Y Z : Type 0} (f : X → Z) (g : Y → Z) (xs : List X) (rest ys : List Y) → xs ≡ [] → rest ≡ ys → map f xs ++ map g rest ≡ map g ys
none_put f g xs rest ys none all = rw (none, all) refl

-- One more of what is put.
pub one_put : {X Y Z : Type 0} (f : X → Z) (g : Y → Z) (xs xs' : List X) (x : X) (rest rest' : List Y) (y : Y) (all : List Z)
    → map f xs ++ map g rest ≡ all → rest ≡ y ∷ rest' → xs' ≡ xs ++ x ∷ [] → f x ≡ g y → map f xs' ++ map g rest' ≡ all
one_put {X} {Y} {Z} f g xs xs' x rest rest' y all so_far is more same =
    ap (λ (items : List X). map f items ++ map g rest') more
    ∙ ap (λ (zs : List Z). zs ++ map g rest') (map-append f xs (x ∷ []))
    ∙ append_assoc (map f xs) (f x ∷ []) (map g rest')
    ∙ ap (λ (z : Z). map f xs ++ z ∷ map g rest') same
    ∙ ap (λ (ys : List Y). map f xs ++ map g ys) (sym is)
    ∙ so_far

-- Nothing is left to put.
pub no_more : {X Y Z : Type 0} (f : X → Z) (g : Y → Z) (xs : List X) (rest : List Y) (all : List Z) → map f xs ++ map g rest ≡ all → length rest ≡ 0 → map f xs ≡ all
no_more f g xs [] all so_far none = sym (append-nil (map f xs)) ∙ so_far
no_more f g xs (y ∷ rest) all so_far none = absurd (omega (arith, none))

-- The next pass, and those after it.
pub next_first : (o : Origin) (table : TableId) (given k : ℕ) (rest rest' : List Pass) (p : Pass) → AreNext o table given k rest → rest ≡ p ∷ rest' → IsNewPass o table given k p
next_first o table given k rest rest' p next is = (subst (λ (ps : List Pass). AreNext o table given k ps) is next).0

pub next_put : {A : Type 0} (o : Origin) (table : TableId) (given : ℕ) (xs xs' : List A) (x : A) (rest rest' : List Pass) (p : Pass)
    → AreNext o table given (length xs) rest → rest ≡ p ∷ rest' → xs' ≡ xs ++ x ∷ [] → AreNext o table given (length xs') rest'
next_put {A} o table given xs xs' x rest rest' p next is more =
    subst (λ (ys : List A). AreNext o table given (length ys) rest') (sym more)
    (next_rest o table given xs x p rest' (subst (λ (ps : List Pass). AreNext o table given (length xs) ps) is next))

-- Each has the number of its place.
pub numbers_put : {A : Type 0} (f : A → ℕ) (xs xs' : List A) (x : A) → AreFrom 0 (map f xs) → xs' ≡ xs ++ x ∷ [] → f x ≡ length xs → AreFrom 0 (map f xs')
numbers_put {A} f xs xs' x are more is =
    subst (λ (ys : List A). AreFrom 0 (map f ys)) (sym more)
    (subst (λ (ns : List ℕ). AreFrom 0 ns) (sym (map-append f xs (x ∷ [])))
    (from_more 0 (f x) (map f xs) (omega (arith, is, length-map xs f)) are))

pub back_put : (table : TableId) (o : Origin) (given : ℕ) (ps ps' : List Pass) (p : Pass) → AreEachBack table o given ps → ps' ≡ ps ++ p ∷ [] → IsBack table o given p
    → AreEachBack table o given ps'
back_put table o given ps ps' p are more is = subst (λ (qs : List Pass). AreEachBack table o given qs) (sym more) (back_more table o given ps p are is)

-- The items that were written through a slice of a whole list are the list after it.
pub written_back : {X : Type 0} → (n : ℕ) (new rest : List X) → n ≡ length new → take n (new ++ rest) ≡ new
written_back n new rest all = subst (λ (k : ℕ). take k (new ++ rest) ≡ new) (sym all) (take-append_seam new rest)

-- Numbers that stay in what was lent stay in the whole.
pub numbers_lent : {A : Type 0} (f : A → ℕ) (whole lent new back : List A) → lent ≡ whole → back ≡ new → length new ≡ length lent
    → ((i : ℕ) (d : A) → i < length lent → f (slice_index_or new i d) ≡ f (slice_index_or lent i d)) → map f back ≡ map f whole
numbers_lent {A} f whole lent new back same written many each =
    ap (λ (xs : List A). map f xs) written ∙ numbers_kept f lent new many each ∙ ap (λ (xs : List A). map f xs) same

-- All passes are back where they have the numbers of the slots.
pub passes_back : {A : Type 0} (table : TableId) (o : Origin) (given : ℕ) (f : A → ℕ) (slots : List A) (passes : List Pass)
    → map (λ (p : Pass). p.number) passes ≡ map f slots → length slots ≡ given → AreFrom 0 (map f slots) → AreEachBack table o given passes → AreBack table o given passes
passes_back table o given f slots passes same many are each = record {
  count =
      let long : length (map (λ (p : Pass). p.number) passes) ≡ length (map f slots) = ap (λ (ns : List ℕ). length ns) same in
      omega (arith, long, length-map passes (λ (p : Pass). p.number), length-map slots f, many);
  numbers = subst (λ (ns : List ℕ). AreFrom 0 ns) (sym same) are;
  each = each;
}

-- The passes of a new table belong where the first one does.
pub belong : (start : Journal) (table : TableId) (given : ℕ) (passes : List Pass) → 1 ≤ given → AreNewPasses (origin_of start 0) table given passes
    → AreNewPasses (origin_in passes) (table_in_passes passes) given passes
belong start table given passes least are =
    subst (λ (o : Origin). AreNewPasses o (table_in_passes passes) given passes) (sym (new_origin (origin_of start 0) table given passes least are))
    (subst (λ (t : TableId). AreNewPasses (origin_of start 0) t given passes) (sym (new_table (origin_of start 0) table given passes least are)) are)

-- All passes of the one table are those of the Book that it is of.
pub closed_there : (t u : TableId) (passes : List Pass) → t ≡ u → AreAllPasses t passes → AreAllPasses u passes
closed_there t u passes same all = subst (λ (x : TableId). AreAllPasses x passes) same all

-- The Book that they leave is one of a drill.
pub closed_drill : (table : TableId) (from : Origin) (start b : Journal) (given : ℕ) (passes : List Pass) → IsStarted start → from ≡ origin_of start 0
    → AreBack table from given passes → CloseInOne passes b → IsOfDrill b
closed_drill table from start b given passes started is are closed =
    let o : Origin = origin_of start 0 in
    let knows : (view_of closed.first.pass).origin ≡ o = (back_at table from given passes closed.first.place closed.first.pass are.each closed.first.at).origin ∙ is in
    let stands : IsBookOf o closed.log b = subst (λ (x : Origin). IsBookOf x closed.log b) knows closed.stands in
    let opening : b.opening ≡ start.opening = stands.uncut refl in
    let entries : closed.log ≡ b.entries = book_entries o closed.log b stands refl in
    let many : length closed.log ≡ length b.entries = ap (λ (es : List Entry). length es) entries in
    let next : b.opening.next ≡ start.opening.next = ap (λ (x : Opening). x.next) opening in
    let counted : b.added ≡ start.added + length closed.log = stands.counted in
    let none : start.added ≡ 0 = started.added in
    record {
      journal = record {
        rules = stands.whole.rules;
        two = ap members opening ∙ started.two;
        numbered =
            let first : start.opening.next + length (reverse start.entries) ≡ 0 = started.first in
            let sum : b.opening.next + length (reverse b.entries) ≡ b.added = omega (arith, next, first, counted, none, many, length-reverse b.entries) in
            sum;
        sound = stands.sound;
      };
      begins = record {
        balancer = subst IsDrillBook (sym (ap (λ (x : Opening). x.config) opening)) started.balancer;
        moment = ap (λ (x : Opening). x.at) opening ∙ started.moment;
      };
      kept = omega (arith, counted, none, many);
    }

-- ---- the receipts of the threads, and what their passes own

pub told_entries : {A : Type 0} (receipts : A → List Receipt) (xs : List A) → map entries_in (map receipts xs) ≡ map (λ (x : A). entries_in (receipts x)) xs
told_entries receipts [] = refl
told_entries {A} receipts (x ∷ xs) = ap (λ (ls : List (List Entry)). entries_in (receipts x) ∷ ls) (told_entries receipts xs)

numbered_at : (k : ℕ) (passes : List Pass) (i : ℕ) (p : Pass) → AreFrom k (map (λ (x : Pass). x.number) passes) → get_elem? passes i ≡ some p → p.number ≡ k + i
numbered_at k [] i p are at = absurd (some-ne-none p (sym at))
numbered_at k (q ∷ passes) zero p are at =
    let here : p.number ≡ k = ap (λ (x : Pass). x.number) (sym (some-injective q p at)) ∙ are.0 in omega (arith, here)
numbered_at k (q ∷ passes) (suc i) p are at =
    let rest : p.number ≡ k + 1 + i = numbered_at (k + 1) passes i p are.1 at in omega (arith, rest)

-- The pass at the place of a thread's receipts owns their entries.
owner_at : (t : ℕ) (passes : List Pass) (told : List (List Receipt)) (receipts : List Receipt)
    → map (λ (p : Pass). own_in (view_of p)) passes ≡ map entries_in told → get_elem? told t ≡ some receipts
    → (p : Pass) × (get_elem? passes t ≡ some p) × (own_in (view_of p) ≡ entries_in receipts)
owner_at t passes [] receipts same at = absurd (some-ne-none receipts (sym at))
owner_at t [] (rs ∷ told) receipts same at = absurd cc
owner_at zero (p ∷ passes) (rs ∷ told) receipts same at =
    let first : own_in (view_of p) ≡ entries_in rs = cc in (p, refl, first ∙ ap entries_in (some-injective rs receipts at))
owner_at (suc t) (p ∷ passes) (rs ∷ told) receipts same at =
    let rest : map (λ (x : Pass). own_in (view_of x)) passes ≡ map entries_in told = cc in owner_at t passes told receipts rest at

-- In the Book that they leave, what the passes own are the entries of their threads.
pub closed_own : (table : TableId) (from : Origin) (start b : Journal) (given : ℕ) (passes : List Pass) (told : List (List Receipt)) → from ≡ origin_of start 0
    → AreBack table from given passes → CloseInOne passes b → map (λ (p : Pass). own_in (view_of p)) passes ≡ map entries_in told → AreOwnReceipts told b
closed_own table from start b given passes told is are closed own =
    let o : Origin = origin_of start 0 in
    let knows : (view_of closed.first.pass).origin ≡ o = (back_at table from given passes closed.first.place closed.first.pass are.each closed.first.at).origin ∙ is in
    let stands : IsBookOf o closed.log b = subst (λ (x : Origin). IsBookOf x closed.log b) knows closed.stands in
    let entries : closed.log ≡ b.entries = book_entries o closed.log b stands refl in
    let long : length (map (λ (p : Pass). own_in (view_of p)) passes) ≡ length (map entries_in told) = ap (λ (ls : List (List Entry)). length ls) own in
    let many : length told ≡ length passes = omega (arith, long, length-map passes (λ (p : Pass). own_in (view_of p)), length-map told entries_in) in
    record {
      own = λ t receipts at.
          let found = owner_at t passes told receipts own at in
          let number : found.0.number ≡ t = let sum : found.0.number ≡ 0 + t = numbered_at 0 passes t found.0 are.numbers found.1 in omega (arith, sum) in
          sym found.2
          ∙ closed.own t found.0 found.1
          ∙ ap (λ (n : ℕ). own_of n closed.log) number
          ∙ ap (λ (h : List Entry). own_of t h) entries;
      no_others = λ t above.
          ap (λ (h : List Entry). own_of t h) (sym entries)
          ∙ closed.no_others t
          (λ has.
          let place : has.pass.number ≡ 0 + has.place = numbered_at 0 passes has.place has.pass are.numbers has.at in
          let within : has.place < length passes = within_at passes has.place has.pass has.at in
          let number : has.pass.number ≡ t = has.number in
          omega (arith, above, many, place, within, number));
    }
