-- The Books of a connector, which start with number 0: what is so of all of them.
use Rattle.std.proofs.Common.{ℕ, suc, ◌≡◌, ◌+◌, List, [], ◌∷◌, length, reverse, ap, ◌∙◌, refl, arith}
use Rattle.std.specs.List.{All}
use Rattle.std.proofs.lemmas.List.Elements.{All-cons, All-nil}
use Rattle.lb_model.specs.declared.journal.Entry.{Entry}
use Rattle.lb_book.specs.Journal.{IsStart, Journal, next_number}
use Rattle.lb_shared.specs.Sites.{At, nexts_of}
use Rattle.site_reports.specs.Starts.{AreStarts}
use Rattle.site_reports.proofs.StartLaws.{starts_each}
use Rattle.site_config.specs.declared.balancer.Lb.{Lb}
use Rattle.jk_server.specs.Headline.{firsts_of}

-- the number that comes next in a Book that starts
start_number : (lb : Lb) (at : ℕ) (b : Journal) → IsStart b lb.book at 0 → next_number b ≡ 0
start_number lb at b start =
    ap (λ (es : List Entry). b.opening.next + length (reverse es)) start.empty ∙ omega (arith, start.next)

pub new_nexts : (lbs : List Lb) (at : ℕ) (books : List Journal) → AreStarts lbs at 0 books → nexts_of books ≡ firsts_of lbs
new_nexts [] at [] new = refl
new_nexts [] at (b ∷ books) new = absurd new
new_nexts (lb ∷ lbs) at [] new = absurd new
new_nexts (lb ∷ lbs) at (b ∷ books) new =
    ap (λ (n : ℕ). n ∷ nexts_of books) (start_number lb at b new.0) ∙ ap (λ (ns : List ℕ). 0 ∷ ns) (new_nexts lbs at books new.1)

pub new_empty : (lbs : List Lb) (at : ℕ) (books : List Journal) → AreStarts lbs at 0 books → (lb : ℕ) → At books lb (λ b. b.entries ≡ [])
new_empty lbs at books new = starts_each (λ b. b.entries ≡ []) at 0 (λ lb b start. start.empty) lbs books new

pub new_added : (lbs : List Lb) (at : ℕ) (books : List Journal) → AreStarts lbs at 0 books → All (λ b. b.added ≡ 0) books
new_added [] at [] new = All-nil (λ (b : Journal). b.added ≡ 0)
new_added [] at (b ∷ books) new = absurd new
new_added (lb ∷ lbs) at [] new = absurd new
new_added (lb ∷ lbs) at (b ∷ books) new =
    All-cons (λ (b : Journal). b.added ≡ 0) b books new.0.added (new_added lbs at books new.1)

pub new_fresh : (lbs : List Lb) (at : ℕ) (books : List Journal) → AreStarts lbs at 0 books → All (λ b. (b.entries ≡ []) × (b.added ≡ 0)) books
new_fresh [] at [] new = All-nil (λ (b : Journal). (b.entries ≡ []) × (b.added ≡ 0))
new_fresh [] at (b ∷ books) new = absurd new
new_fresh (lb ∷ lbs) at [] new = absurd new
new_fresh (lb ∷ lbs) at (b ∷ books) new =
    All-cons (λ (b : Journal). (b.entries ≡ []) × (b.added ≡ 0)) b books (new.0.empty, new.0.added) (new_fresh lbs at books new.1)

pub new_count : (lbs : List Lb) (at : ℕ) (books : List Journal) → AreStarts lbs at 0 books → length books ≡ length lbs
new_count [] at [] new = refl
new_count [] at (b ∷ books) new = absurd new
new_count (lb ∷ lbs) at [] new = absurd new
new_count (lb ∷ lbs) at (b ∷ books) new = ap suc (new_count lbs at books new.1)
