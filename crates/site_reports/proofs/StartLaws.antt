-- Books that start: what is so of all of them.
use Rattle.std.proofs.Common.{ℕ, zero, suc, ◌≡◌, ◌+◌, ◌<◌, List, [], ◌∷◌, ◌++◌, get_or, length, map, slice_get, take, Some, sym, refl, ap, ◌∙◌, subst}
use Rattle.std.proofs.lemmas.List.{take_more}
use Rattle.std.proofs.lemmas.Slice.Zip.{all_zipped_more}
use Rattle.lb_model.specs.declared.config.LbConfig.{LbConfig}
use Rattle.lb_book.specs.Journal.{IsStart, Journal}
use Rattle.lb_book.specs.PlainDesks.{AreModern}
use Rattle.lb_book.specs.ToldBooks.{sizes_of}
use Rattle.site_config.specs.declared.balancer.Lb.{Lb}
use Rattle.site_reports.specs.Starts.{AreStarts}

-- A Book has its balancer's members.
pub starts_sizes : (lbs : List Lb) (at first : ℕ) (books : List Journal) → AreStarts lbs at first books
    → sizes_of books ≡ map (λ (lb : Lb). length lb.book.members) lbs
starts_sizes [] at first [] all = refl
starts_sizes [] at first (b ∷ books) all = absurd all
starts_sizes (lb ∷ lbs) at first [] all = absurd all
starts_sizes (lb ∷ lbs) at first (b ∷ books) all =
    let here : length b.opening.config.members ≡ length lb.book.members = ap (λ c. length c.members) all.0.configured in
    ap (λ (n : ℕ). n ∷ sizes_of books) here ∙ ap (λ (ns : List ℕ). length lb.book.members ∷ ns) (starts_sizes lbs at first books all.1)

-- A fact of each Book that starts is one of all.
pub starts_each : (P : Journal → Type 0) (at first : ℕ) → ((lb : Lb) (b : Journal) → IsStart b lb.book at first → P b)
    → (lbs : List Lb) (books : List Journal) → AreStarts lbs at first books → (n : ℕ) (b : Journal) → slice_get books n ≡ Some b → P b
starts_each P at first so [] [] all n b found = absurd cc
starts_each P at first so [] (c ∷ books) all n b found = absurd all
starts_each P at first so (lb ∷ lbs) [] all n b found = absurd all
starts_each P at first so (lb ∷ lbs) (c ∷ books) all zero b found =
    let same : c ≡ b = cc in
    subst P same (so lb c all.0)
starts_each P at first so (lb ∷ lbs) (c ∷ books) all (suc n) b found = starts_each P at first so lbs books all.1 n b found

-- Each has rules 2.
pub starts_modern : (lbs : List Lb) (at first : ℕ) (books : List Journal) → AreStarts lbs at first books → AreModern books
starts_modern lbs at first books all = starts_each (λ b. b.rules ≡ 2) at first (λ lb b start. start.rules) lbs books all

-- One Book more.
pub starts_more : (lbs : List Lb) (at first i : ℕ) (books next : List Journal) (lb : Lb) (config : LbConfig) (b : Journal)
    → i < length lbs → lb ≡ get_or lbs i lb → AreStarts (take i lbs) at first books → config ≡ lb.book → IsStart b config at first
    → next ≡ books ++ b ∷ [] → AreStarts (take (i + 1) lbs) at first next
starts_more lbs at first i books next lb config b lt is all copied start more =
    let here : IsStart b (get_or lbs i lb).book at first =
    subst (λ (x : Lb). IsStart b x.book at first) is (subst (λ (c : LbConfig). IsStart b c at first) copied start) in
    subst (λ (bs : List Journal). AreStarts (take (i + 1) lbs) at first bs) (sym more)
    (subst (λ (xs : List Lb). AreStarts xs at first (books ++ b ∷ [])) (sym (take_more lbs i lb lt))
    (all_zipped_more (λ (x : Lb) (y : Journal). IsStart y x.book at first) (take i lbs) books (get_or lbs i lb) b all here))
