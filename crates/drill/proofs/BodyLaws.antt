-- The counts of threads, one after the other.
use Rattle.std.proofs.Common.{◌≡◌, ℕ, List, [], ◌∷◌, Option, ap, arith, fold, length, map, sym, ◌∙◌}
use Rattle.drill.specs.Bodies.{together}

-- one thread's count after those before it
pub one_together : {X : Type 0} (f : X → Option ℕ) (so_far more all : Option ℕ) (rest rest' : List X) (x : X) → fold together so_far (map f rest) ≡ all
    → rest ≡ x ∷ rest' → more ≡ together so_far (f x) → fold together more (map f rest') ≡ all
one_together {X} f so_far more all rest rest' x is first put =
    ap (λ (o : Option ℕ). fold together o (map f rest')) put ∙ ap (λ (xs : List X). fold together so_far (map f xs)) (sym first) ∙ is

-- and none is left
pub none_together : {X : Type 0} (f : X → Option ℕ) (so_far all : Option ℕ) (rest : List X) → fold together so_far (map f rest) ≡ all → length rest ≡ 0 → so_far ≡ all
none_together f so_far all [] is none = is
none_together f so_far all (x ∷ rest) is none = absurd (omega (arith, none))
