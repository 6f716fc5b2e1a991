use Rattle.std.proofs.Common.{◌≡◌, inl, inr, refl, arith}
use Rattle.jk_server.specs.Ends.{returned}
use Rattle.gear_parts.proofs.WorldLaws.{all_given, nothing_passed}
use Rattle.jk_server.proofs.orders.serve.give_by.Goals as goal

pub give_back-requires-clause-out : goal.give_back-requires-clause-out
give_back-requires-clause-out g c κs =
    let same : returned c.args.closing.now c.args.gears.items ≡ c.args.gears.items =
    elim c.in-Kept.is [ inl a ↦ rw a refl | inr b ↦ elim b [ inl x ↦ rw x refl | inr y ↦ rw y.1 refl ] ] in
    let few = rw same at c.requires.out in
    omega (arith, few, c.args.gears.ok.0)

pub returns-in-Kept-clause-given : goal.returns-in-Kept-clause-given
returns-in-Kept-clause-given g c =
    let same : returned c.args.closing.now c.args.gears.items ≡ c.args.gears.items =
    elim c.in-Kept.is [ inl a ↦ rw a refl | inr b ↦ elim b [ inl x ↦ rw x refl | inr y ↦ rw y.1 refl ] ] in
    rw same
    (all_given _ _ c.args.gears.items c.give_back.ensures.came_back (omega (arith, c.give_back.ensures.fewer, c.args.gears.ok.0))
    c.give_back.ensures.same.0 c.give_back.ensures.same.1)

pub returns-in-NoMemory-clause-given : goal.returns-in-NoMemory-clause-given
returns-in-NoMemory-clause-given g c = rw c.in-NoMemory.is (nothing_passed _)
