-- A chain of references that ends doesn't break.
use Rattle.std.proofs.Common.{◌≡◌, ℕ, ◌≤◌, Bool, true, false, List, [], ◌∷◌, length, Option, Some, None, refl, sym, ◌∙◌, ap, subst, cond, suc, arith, ⊎_elim, ◌&&◌, ◌||◌}
use Rattle.std.proofs.lemmas.Bool.{false≢true, or_cases}
use Rattle.std.proofs.lemmas.Option.{same_Some, none-some}
use Rattle.std.proofs.lemmas.Slice.Eq.{bytes_eq-Decides}
use Rattle.std.specs.Str.{bytes_eq}
use Rattle.site_config.specs.declared.property.Property.{Property}
use Rattle.site_config.specs.declared.directive.Directive.{Directive}
use Rattle.site_config.specs.declared.directive.Directive.TheVariants as directive
use Rattle.site_config.specs.declared.error.WorkersError.{WorkersError}
use Rattle.site_config.specs.declared.error.WorkersError.TheVariants as errors
use Rattle.site_config.specs.Directives.{name_of, worker_part}
use Rattle.site_config.specs.declared.error.PropsRefusal.{PropsRefusal}
use Rattle.site_config.specs.Refusals.{IsRefusal}
use Rattle.site_workers.specs.Ways.{IsBrokenWalk}
use Rattle.site_workers.specs.Given.{IsChain, concerns, gives, is_given, is_among, last_given, names_both, names_worker, target_at, target_in, not_passed, Walks, BreaksAt}

-- a worker has one chain
pub chain_one : (ps : List Property) (name : List ℕ) (xs ys : List (List ℕ)) → IsChain ps name xs → IsChain ps name ys → xs ≡ ys
chain_one ps name [] [] a b = refl
chain_one ps name [] (y ∷ ys) a b = absurd (none-some y (sym a ∙ b.0))
chain_one ps name (x ∷ xs) [] a b = absurd (none-some x (sym b ∙ a.0))
chain_one ps name (x ∷ xs) (y ∷ ys) a b =
    let one : y ≡ x = same_Some y x (sym b.0 ∙ a.0) in
    let rest : IsChain ps x ys = subst (λ (n : List ℕ). IsChain ps n ys) one b.2 in
    ap (λ (zs : List (List ℕ)). x ∷ zs) (chain_one ps x xs ys a.2 rest) ∙ ap (λ (n : List ℕ). n ∷ ys) (sym one)

-- what follows on the chain of a worker that has a reference
pub chain_next : (ps : List Property) (name next : List ℕ) (xs : List (List ℕ)) → IsChain ps name xs → target_at ps name ≡ Some next → (rest : List (List ℕ)) × IsChain ps next rest × (is_given ps next ≡ true) × (length xs ≡ suc (length rest))
chain_next ps name next [] a e = absurd (none-some next (sym a ∙ e))
chain_next ps name next (x ∷ xs) a e =
    let one : x ≡ next = same_Some x next (sym a.0 ∙ e) in
    (xs, subst (λ (n : List ℕ). IsChain ps n xs) one a.2, subst (λ (n : List ℕ). is_given ps n ≡ true) one a.1, refl)

-- the chain of each worker that a walk passed
walk_chain : (ps : List Property) (start name : List ℕ) (past more : List (List ℕ)) → IsChain ps start more → Walks ps start past name → (rest : List (List ℕ)) × IsChain ps name rest
walk_chain ps start name [] more a w = (more, subst (λ (n : List ℕ). IsChain ps n more) (sym w) a)
walk_chain ps start name (before ∷ past) more a w =
    let behind = walk_chain ps start before past more a w.3 in
    let next = chain_next ps before name behind.0 behind.1 w.0 in
    (next.0, next.1)

-- a worker that was passed has no shorter chain
passed_chain : (ps : List Property) (start name target : List ℕ) (past more rest : List (List ℕ)) → IsChain ps start more → Walks ps start past name → IsChain ps name rest → is_among target (name ∷ past) ≡ true → (xs : List (List ℕ)) × IsChain ps target xs × (length rest ≤ length xs)
passed_chain ps start name target [] more rest a w c among =
    ⊎_elim
    (λ (same : bytes_eq name target ≡ true). (rest, subst (λ (n : List ℕ). IsChain ps n rest) ((bytes_eq-Decides name target).0 same) c, omega arith))
    (λ (none : false ≡ true). absurd (false≢true none))
    (or_cases (bytes_eq name target) false among)
passed_chain ps start name target (before ∷ past) more rest a w c among =
    ⊎_elim
    (λ (same : bytes_eq name target ≡ true). (rest, subst (λ (n : List ℕ). IsChain ps n rest) ((bytes_eq-Decides name target).0 same) c, omega arith))
    (λ (there : is_among target (before ∷ past) ≡ true).
    let behind = walk_chain ps start before past more a w.3 in
    let next = chain_next ps before name behind.0 behind.1 w.0 in
    let one : next.0 ≡ rest = chain_one ps name next.0 rest next.1 c in
    let found = passed_chain ps start before target past more behind.0 a w.3 behind.1 there in
    let longer : length rest ≤ length found.0 = omega (arith, next.3, found.2, ap length one) in
    (found.0, found.1, longer))
    (or_cases (bytes_eq name target) (is_among target (before ∷ past)) among)

no_parts : (ps : List Property) (target : List ℕ) (passed : List (List ℕ)) → is_given ps target ≡ true → (is_given ps target && not_passed target passed) ≡ false → is_among target passed ≡ true
no_parts ps target passed given bad = by_test (is_among target passed) refl (rw given at bad)
  where
    by_test : (t : Bool) → is_among target passed ≡ t → cond t false true ≡ false → is_among target passed ≡ true
    by_test true e h = e
    by_test false e h = absurd (false≢true (sym h))

-- where the references from a worker end, none breaks
pub chain_or_break : (ps : List Property) (start : List ℕ) (more : List (List ℕ)) (line : ℕ) → IsChain ps start more → BreaksAt ps start line → ⊥
chain_or_break ps start more line a b =
    let here = walk_chain ps start b.name b.past more a b.walked in
    let next = chain_next ps b.name b.target here.0 here.1 b.names in
    let among = no_parts ps b.target (b.name ∷ b.past) next.2 b.bad in
    let found = passed_chain ps start b.name b.target b.past more here.0 a b.walked here.1 among in
    let one : next.0 ≡ found.0 = chain_one ps b.target next.0 found.0 next.1 found.1 in
    let same : length next.0 ≡ length found.0 = ap length one in
    let longer : length here.0 ≤ length found.0 = found.2 in
    let more : length here.0 ≡ suc (length next.0) = next.3 in
    omega arith

-- a worker without a directive has no line of any
none_both : (name text : List ℕ) (o : Option (List ℕ × List ℕ)) → names_worker name o ≡ false → names_both name text o ≡ false
none_both name text None e = refl
none_both name text (Some parts) e = rw e refl

or_none : (a b : Bool) → (a || b) ≡ false → (a ≡ false) × (b ≡ false)
or_none true b e = absurd (false≢true (sym e))
or_none false b e = (refl, e)

pub none_given : (ps : List Property) (name : List ℕ) (d : Directive) → is_given ps name ≡ false → last_given ps name d ≡ None
none_given [] name d e = refl
none_given (p ∷ ps) name d e =
    let both = or_none (concerns name p) (is_given ps name) e in
    let rest : last_given ps name d ≡ None = none_given ps name d both.1 in
    let nay : gives name d p ≡ false = none_both name (name_of d) (worker_part p.key) both.0 in
    rw (rest, nay) refl

pub unknown_chain : (ps : List Property) (name : List ℕ) → is_given ps name ≡ false → IsChain ps name []
unknown_chain ps name e = ap target_in (none_given ps name directive.Reference e)

-- a worker whose references end meets no broken reference
pub not_broken : (ps : List Property) (name : List ℕ) (more : List (List ℕ)) (so : PropsRefusal → Type 0) (e : WorkersError) → IsChain ps name more → IsBrokenWalk ps name e → IsRefusal so e
not_broken ps name more so (errors.Refused r) chain broken = absurd (chain_or_break ps name more broken.0 chain broken.1)
not_broken ps name more so errors.NoMemory chain broken = tt

pub only_memory : (ps : List Property) (name : List ℕ) (more : List (List ℕ)) (e : WorkersError) → IsChain ps name more → IsBrokenWalk ps name e → e ≡ errors.NoMemory
only_memory ps name more (errors.Refused r) chain broken = absurd (chain_or_break ps name more broken.0 chain broken.1)
only_memory ps name more errors.NoMemory chain broken = refl
