-- The link doesn't tell what is to come, so what a source says of that holds of each read.
use Rattle.std.proofs.Common.{◌≡◌, ℕ, List, ◌++◌, take, Some, Ok, Err, refl, ap, arith}
use Rattle.std.specs.Prelude.{Result, IfOk, OnErr}
use Rattle.drill.proofs.app_link.AppLinkSource.TheImpl.Goals as goal

of_each : {T E : Type 0} (result : Result T E) (P : T → Type 0) → ((n : T) → P n) → IfOk result P
of_each (Ok n) P holds = holds n
of_each (Err e) P holds = tt

-- of meanings that are told, where the lists are those
got_told : {E : Type 0} (result : Result ℕ E) (before now buf : List ℕ) → IfOk result (λ n. now ≡ before ++ take n buf)
    → IfOk result (λ n. Some now ≡ Some (before ++ take n buf))
got_told (Ok n) before now buf got = ap Some got
got_told (Err e) before now buf got = tt

kept_told : {T E : Type 0} (result : Result T E) (P : Type 0) (before now : List ℕ) → P → OnErr result (now ≡ before)
    → OnErr result (P × (Some now ≡ Some before))
kept_told (Ok n) P before now p kept = tt
kept_told (Err e) P before now p kept = (p, ap Some kept)

pub read-tells : goal.read-tells
read-tells g c = record {
  count = c.ensures.count;
  gave = of_each c.result _ (λ n. refl);
  got = got_told c.result _ _ _ c.ensures.got;
  end = of_each c.result _ (λ n zero. tt);
  shut = λ shut. cc;
  kept_on_error = kept_told c.result _ _ _ refl c.ensures.kept_on_error;
  same = (ap Some c.ensures.same, refl);
  cause = record { no_fewer = omega arith; failed = λ failed. absurd (c.ensures.wanted failed); wanted = λ _. refl };
  steady = λ ok. refl;
}
