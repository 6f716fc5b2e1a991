-- Whether a byte is in the inbox, and what a refused read is told as.
use Rattle.std.proofs.Common.{◌≡◌, ℕ, zero, suc, ◌<◌, Bool, true, false, List, [], ◌∷◌, ◌++◌, Some, None, length, length-append, sym, ap, ◌∙◌, subst, refl, arith}
use Rattle.std.specs.Prelude.{Option, ◌==◌}
use Rattle.std.proofs.lemmas.Bool.{eqb-true}
use Rattle.jk_io.specs.Told.{prepended, IsEmpty}
use Rattle.jk_io.specs.declared.failures.IoError.{IoError}
use Rattle.jk_io.specs.declared.failures.IoError.TheVariants as io
use Rattle.http_front.specs.Faults.{IsNoFailure, fault_of}
use Rattle.http_front.specs.declared.fault.BodyFault.{BodyFault}
use Rattle.http_front.specs.declared.fault.BodyFault.TheVariants as fault

pub none_there : (n : ℕ) (r : Bool) → r ≡ (n == 0) → r ≡ true → n ≡ 0
none_there n r is held = eqb-true n 0 (sym is ∙ held)

pub one_there : (n : ℕ) (r : Bool) → r ≡ (n == 0) → r ≡ false → 0 < n
one_there zero r is other = absurd cc
one_there (suc n) r is other = omega arith

-- a byte that is there is none that is awaited
pub not_awaited : (n : ℕ) (r : Bool) → r ≡ (n == 0) → r ≡ true → 0 < n → ⊥
not_awaited n r is held some = let none = none_there n r is held in absurd (omega (arith, none))

-- some came
pub some_more : (old new came : List ℕ) (n : ℕ) → length came ≡ n → new ≡ old ++ came → 0 < n → 0 < length new
some_more old new came n count is some = omega (arith, length-append {A = ℕ}, ap length is)

-- none came, and none is to come
pub none_more : (old new came : List ℕ) (incoming : Option (List ℕ)) → length old ≡ 0 → length came ≡ 0 → new ≡ old ++ came → IsEmpty incoming
    → IsEmpty (prepended new incoming)
none_more old [] came None first then is end = tt
none_more old [] came (Some rest) first then is end = end
none_more old (b ∷ new) came incoming first then is end = absurd (omega (arith, length-append {A = ℕ}, ap length is))

pub failed_as : (e : IoError) (why : BodyFault) → why ≡ fault_of e → why ≡ fault.Fault → e ≡ io.Failed
failed_as io.Failed why is told = refl
failed_as io.NoMemory why is told = absurd cc

-- a read that was refused and didn't fail wanted memory
pub wanted_as : (e : IoError) (why : BodyFault) → why ≡ fault_of e → IsNoFailure why → e ≡ io.NoMemory
wanted_as io.Failed why is calm = absurd (subst (λ (w : BodyFault). IsNoFailure w) is calm)
wanted_as io.NoMemory why is calm = refl
