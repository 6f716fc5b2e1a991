-- A read in two steps is one read of both.
use Rattle.std.proofs.Common.{◌≡◌, ℕ, List, [], ◌++◌, Option, subst, ap, sym, ◌∙◌}
use Rattle.jk_io.specs.Told.{appended, prepended}
use Rattle.jk_io.specs.Inputs.{HasRead}
use Rattle.jk_io.proofs.ToldLaws.{appended-appended, appended-nil, prepended-prepended, prepended-nil}

pub HasRead-nothing : (incoming received : Option (List ℕ)) → HasRead incoming received [] incoming received
HasRead-nothing incoming received = record { gave = sym (prepended-nil incoming); got = sym (appended-nil received) }

pub HasRead-append : (i0 r0 : Option (List ℕ)) (a : List ℕ) (i1 r1 : Option (List ℕ)) (b : List ℕ) (i2 r2 : Option (List ℕ))
    → HasRead i0 r0 a i1 r1 → HasRead i1 r1 b i2 r2 → HasRead i0 r0 (a ++ b) i2 r2
HasRead-append i0 r0 a i1 r1 b i2 r2 first next = record {
  gave = first.gave ∙ ap (prepended a) next.gave ∙ prepended-prepended a b i2;
  got = next.got ∙ ap (λ r. appended r b) first.got ∙ appended-appended r0 a b;
}

-- the text that what was read makes of the text so far
pub HasRead-added : (i0 r0 : Option (List ℕ)) (a : List ℕ) (i1 r1 : Option (List ℕ)) (b : List ℕ) (i2 r2 : Option (List ℕ)) (now : List ℕ)
    → HasRead i0 r0 a i1 r1 → HasRead i1 r1 b i2 r2 → now ≡ a ++ b → HasRead i0 r0 now i2 r2
HasRead-added i0 r0 a i1 r1 b i2 r2 now first next added =
    subst (λ (t : List ℕ). HasRead i0 r0 t i2 r2) (sym added) (HasRead-append i0 r0 a i1 r1 b i2 r2 first next)
