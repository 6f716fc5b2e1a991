-- A real door tells nothing of the clients to come.
use Rattle.std.proofs.Common.{Result, Ok, Err, Option, Some, None, refl}
use Rattle.std.specs.Prelude.{IfOk, IfSome, IfNone, OnErr}
use Rattle.gear_worlds.proofs.real_door.RealDoorDoor.TheImpl.Goals as goal

any_client : {A E : Type 0} (result : Result (Option A) E) (P : A → Type 0) → ((a : A) → P a) → IfOk result (λ answer. IfSome answer P)
any_client (Ok (Some a)) P each = each a
any_client (Ok None) P each = tt
any_client (Err e) P each = tt

any_end : {A E : Type 0} (result : Result (Option A) E) (P : Type 0) → P → IfOk result (λ answer. IfNone answer P)
any_end (Ok (Some a)) P is = tt
any_end (Ok None) P is = is
any_end (Err e) P is = tt

after_error : {A E : Type 0} (result : Result A E) (P Q : Type 0) → P → OnErr result Q → OnErr result (P × Q)
after_error (Ok a) P Q is kept = tt
after_error (Err e) P Q is kept = (is, kept)

pub accept-tells : goal.accept-tells
accept-tells g x c = record {
  client = any_client c.result _ (λ _. refl);
  one_more = c.ensures.one_more;
  closed = any_end c.result _ (tt, refl);
  no_more = c.ensures.no_more;
  kept_on_error = after_error c.result _ _ refl c.ensures.kept_on_error;
  same = refl;
  cause = c.ensures.cause;
  steady = c.ensures.steady;
}

pub leave-tells : goal.leave-tells
leave-tells g x c = record {
  left = refl;
  one_less = c.ensures.one_less;
  same = (refl, c.ensures.same);
}
