-- The one Book of a drill at its closing: a discord is found in it, and it has all entries and receipts.
use Rattle.std.proofs.Common.{◌≡◌, ℕ, ◌+◌, Bool, false, List, [], ◌∷◌, ◌++◌, length, map, slice_index, Option, Some, None, Result, Ok, Err, refl, sym, ap, arith, subst, sum_by, ◌∙◌, zero-add}
use Rattle.std.specs.List.{All, flat_map}
use Rattle.std.specs.List.Sorted.{IsPermutation}
use Rattle.std.specs.Prelude.{IfOk, IfSome}
use Rattle.std.proofs.lemmas.List.{length-append}
use Rattle.std.proofs.lemmas.List.Elements.{All-cons, All-head, All-nil, All-rest}
use Rattle.std.proofs.lemmas.List.Sums.{sum_by-cons}
use Rattle.lb_model.specs.Journal.{members}
use Rattle.lb_book.specs.Journal.{IsSound, IsStart, Journal}
use Rattle.lb_book.specs.ToldBooks.{sizes_of}
use Rattle.lb_shared.specs.Sites.{AreSited, added_in, nexts_of}
use Rattle.lb_closing.specs.CloseErrors.{IsCloseError}
use Rattle.lb_book.specs.declared.receipt.Receipt.{Receipt}
use Rattle.lb_closing.specs.Closings.{AreUncut, Differs, kept_from, noted}
use Rattle.lb_closing.specs.declared.close.CloseError.{CloseError}
use Rattle.lb_closing.specs.declared.close.CloseError.TheVariants as close
use Rattle.lb_model.specs.declared.journal.Entry.{Entry}
use Rattle.drill.specs.Ends.{AreReceiptsOf, BeginsDrill, IsDiscordFound, IsDrillJournal, IsMeasured, IsStarted}
use Rattle.drill.specs.Sites.{IsDrillBook}
use Rattle.drill.specs.Counts.{CountsDrill}
use Rattle.drill.specs.declared.running.Measured.{Measured}
use Rattle.lb_model.specs.declared.config.LbConfig.{LbConfig}

-- a Site with these sizes and first numbers has one Book, a drill's
pub of_drill : (sizes firsts : List ℕ) (books : List Journal) → AreSited sizes firsts books → sizes ≡ 2 ∷ [] → firsts ≡ 0 ∷ []
    → (length books ≡ 1) × All IsDrillJournal books
of_drill sizes firsts [] s sized first = let none : sizes_of [] ≡ 2 ∷ [] = s.sized ∙ sized in absurd cc
of_drill sizes firsts (b ∷ c ∷ books) s sized first = let many : members b.opening ∷ members c.opening ∷ sizes_of books ≡ 2 ∷ [] = s.sized ∙ sized in absurd cc
of_drill sizes firsts (b ∷ []) s sized first =
    let one : members b.opening ∷ [] ≡ 2 ∷ [] = s.sized ∙ sized in
    let two : members b.opening ≡ 2 = cc in
    let at : slice_index firsts 0 ≡ 0 = ap (λ (l : List ℕ). slice_index l 0) first in
    let is : IsDrillJournal b = record {
      rules = s.modern 0 b refl;
      two = two;
      numbered = s.numbered 0 b refl ∙ ap (λ (n : ℕ). n + b.added) at ∙ zero-add b.added;
      sound = s.sound 0 b refl;
    } in (refl, All-cons IsDrillJournal b [] is (All-nil IsDrillJournal))

-- so of a closing's answer
pub drill_books : {C E : Type 0} (books : C → List Journal) (r : Result C E) (sizes firsts : List ℕ) → sizes ≡ 2 ∷ [] → firsts ≡ 0 ∷ []
    → IfOk r (λ c. AreSited sizes firsts (books c)) → IfOk r (λ c. length (books c) ≡ 1) × IfOk r (λ c. All IsDrillJournal (books c))
drill_books books (Ok c) sizes firsts sized first s = of_drill sizes firsts (books c) s sized first
drill_books books (Err e) sizes firsts sized first s = (tt, tt)

-- a discord over such a Site is a drill's
pub drill_found : {L : Type 0} (e : CloseError L) (sizes firsts : List ℕ) (entries : ℕ) (receipts : List (ℕ × Entry)) → sizes ≡ 2 ∷ [] → firsts ≡ 0 ∷ []
    → IsCloseError (Differs sizes firsts entries receipts) e → IsCloseError IsDiscordFound e
drill_found (close.Differs d) sizes firsts entries receipts sized first differs = (entries, receipts, rw (← sized, ← first) differs)
drill_found close.NoMemory sizes firsts entries receipts sized first differs = tt

-- ---- the text, where there is one

pub some_weaker : {E : Type 0} (P Q : List ℕ → Type 0) (r : Result (Option (List ℕ)) E) → ((bytes : List ℕ) → P bytes → Q bytes)
    → IfOk r (λ t. IfSome t P) → IfOk r (λ t. IfSome t Q)
some_weaker P Q (Ok (Some bytes)) then told = then bytes told
some_weaker P Q (Ok None) then told = told
some_weaker P Q (Err e) then told = told

pub some_is : (P : List ℕ → Type 0) (t : Option (List ℕ)) (bytes : List ℕ) → t ≡ Some bytes → IfSome t P → P bytes
some_is P t bytes is told = subst (λ (x : Option (List ℕ)). IfSome x P) is told

-- ---- the Book as it starts

pub starts : (b : Journal) (config : LbConfig) → IsStart b config 0 0 → IsSound b → IsDrillBook config → IsStarted b
starts b config s sound is = record {
  rules = s.rules;
  two = ap (λ (c : LbConfig). length c.members) s.configured ∙ ap length is.members_are;
  first = rw (s.next, s.empty) refl;
  moment = s.moment;
  balancer = subst IsDrillBook (sym s.configured) is;
  added = s.added;
  empty = s.empty;
  none_out = s.none_out;
  sound = sound;
}

pub started-sizes : (b : Journal) (books : List Journal) → books ≡ b ∷ [] → IsStarted b → sizes_of books ≡ 2 ∷ []
started-sizes b books is s = ap sizes_of is ∙ ap (λ (n : ℕ). n ∷ []) s.two

pub started-nexts : (b : Journal) (books : List Journal) → books ≡ b ∷ [] → IsStarted b → nexts_of books ≡ 0 ∷ []
started-nexts b books is s = ap nexts_of is ∙ ap (λ (n : ℕ). n ∷ []) s.first

-- ---- what was counted

-- Where each has as many receipts as the share says and has forgotten, and none forgot, there are as many receipts in all.
pub all_receipts : {A : Type 0} (amount receipts forgotten : A → ℕ) (xs : List A) → ((x : A) → amount x ≡ receipts x + forgotten x)
    → All (λ x. forgotten x ≡ 0) xs → sum_by amount xs ≡ sum_by receipts xs
all_receipts amount receipts forgotten [] counted none = refl
all_receipts amount receipts forgotten (x ∷ xs) counted none =
    let here = counted x in
    let forgot = All-head (λ y. forgotten y ≡ 0) x xs none in
    let rest = all_receipts amount receipts forgotten xs counted (All-rest (λ y. forgotten y ≡ 0) x xs (x ∷ xs) refl none) in
    omega (arith, here, forgot, rest, sum_by-cons amount x xs, sum_by-cons receipts x xs)

-- The lists of receipts, one after the other.
pub flat_lists : {A X : Type 0} (f : A → List X) (xs : List A) → flat_map (λ (ys : List X). ys) (map f xs) ≡ flat_map f xs
flat_lists f [] = refl
flat_lists {A} {X} f (x ∷ xs) = ap (λ (ys : List X). f x ++ ys) (flat_lists f xs)

-- What a closing gives back, by the receipts of the desks that left and the bytes of all bodies.
pub closed_once : {A C E : Type 0} (seed threads requests bytes : ℕ) (receipts : A → List Receipt) (leaving : List A) (books : C → List Journal) (bodies : C → ℕ)
    (r : Result C E) → CountsDrill seed threads requests (map receipts leaving) bytes → IfOk r (λ c. bodies c ≡ bytes)
    → IfOk r (λ c. AreUncut (books c) → IsPermutation (noted (flat_map receipts leaving)) (kept_from 0 (books c)))
    → IfOk r (λ c. (told : List (List Receipt)) × CountsDrill seed threads requests told (bodies c) × (AreUncut (books c) → AreReceiptsOf told (books c)))
closed_once seed threads requests bytes receipts leaving books bodies (Ok c) counted same once = (
  map receipts leaving,
  subst (λ (n : ℕ). CountsDrill seed threads requests (map receipts leaving) n) (sym same) counted,
  λ uncut. subst (λ (rs : List Receipt). IsPermutation (noted rs) (kept_from 0 (books c))) (sym (flat_lists receipts leaving)) (once uncut),
)
closed_once seed threads requests bytes receipts leaving books bodies (Err e) counted same once = tt

-- A drill's closing, by the Book that it hands out, which has each entry that was added.
pub measured_whole : {E : Type 0} (seed threads requests bytes : ℕ) (books : List Journal) (r : Result Measured E) → IfOk r (λ m. IsDrillJournal m.book)
    → IfOk r (λ m. books ≡ m.book ∷ []) → IfOk r (λ m. length m.book.entries ≡ m.book.added) → IfOk r (λ m. m.bodies ≡ bytes)
    → IfOk r (λ m. m.receipts ≡ length m.book.entries) → (AreUncut books → All BeginsDrill books)
    → (told : List (List Receipt)) × CountsDrill seed threads requests told bytes × (AreUncut books → AreReceiptsOf told books)
    → IfOk r (IsMeasured seed threads requests false)
measured_whole seed threads requests bytes books (Ok m) journal only kept bodies receipts begins once =
    let uncut : AreUncut (m.book ∷ []) =
    All-cons (λ (b : Journal). length b.entries ≡ b.added) m.book [] kept (All-nil (λ (b : Journal). length b.entries ≡ b.added))
    in
    let all : AreUncut books = subst AreUncut (sym only) uncut in
    record {
      book = record { journal = journal; begins = All-head BeginsDrill m.book [] (subst (λ (bs : List Journal). All BeginsDrill bs) only (begins all)); kept = kept };
      compared = record {
        told = once.0;
        counted = subst (λ (n : ℕ). CountsDrill seed threads requests once.0 n) (sym bodies) once.1;
        once = λ locked. subst (λ (bs : List Journal). AreReceiptsOf once.0 bs) only (once.2 all);
        own = λ passes. absurd cc;
        closed = λ passes. absurd cc;
      };
      receipts = receipts;
    }
measured_whole seed threads requests bytes books (Err e) journal only kept bodies receipts begins once = tt

-- Over a lock it is measured so.
pub measured_locked : {E : Type 0} (seed threads requests : ℕ) (passes : Bool) (r : Result Measured E) → passes ≡ false
    → IfOk r (IsMeasured seed threads requests false) → IfOk r (IsMeasured seed threads requests passes)
measured_locked seed threads requests passes r locked is = subst (λ (p : Bool). IfOk r (IsMeasured seed threads requests p)) (sym locked) is

-- One Book has all entries that were added.
pub only_added : (books rest : List Journal) (b : Journal) → books ≡ rest ++ b ∷ [] → length books ≡ 1 → b.added ≡ added_in books
only_added books [] b is one = sym (ap added_in is ∙ sum_by-cons (λ (x : Journal). x.added) b [] ∙ omega arith)
only_added books (x ∷ rest) b is one =
    let long : length books ≡ length (x ∷ (rest ++ b ∷ [])) = ap length is in absurd (omega (arith, long, one, length-append rest (b ∷ [])))

pub only_is : (books rest : List Journal) (b : Journal) → books ≡ rest ++ b ∷ [] → length books ≡ 1 → books ≡ b ∷ []
only_is books [] b is one = is
only_is books (x ∷ rest) b is one =
    let long : length books ≡ length (x ∷ (rest ++ b ∷ [])) = ap length is in absurd (omega (arith, long, one, length-append rest (b ∷ [])))
