-- The next client is the one that came first, and one link more may be left.
use Rattle.std.proofs.Common.{◌≡◌, ◌+◌, ◌<◌, ◌≤◌, ℕ, List, [], ◌∷◌, length, reverse, IfSome, IfNone, Contains, refl, subst, arith}
use Rattle.jk_io.specs.Told.{Rose}
use Rattle.jk_io.specs.MemDoors.{MemDoorState}
use Rattle.jk_io.proofs.memory.mem_door.MemDoorDoor.accept.Goals as goal

pub invariant_of-self-2 : goal.invariant_of-self-2
invariant_of-self-2 g c = omega (arith, c.in_ok-reserve.ensures.ok, c.next_client.ensures.at_most)

pub returns-clause-client : goal.returns-clause-client
returns-clause-client g c =
    subst (λ (d : MemDoorState _). IfSome c.next_client.result (λ e. d.coming ≡ e ∷ reverse c.next_client.new.clients.items)) c.self.view_is c.next_client.ensures.client

pub returns-clause-one_more : goal.returns-clause-one_more
returns-clause-one_more g c =
    subst (λ (d : MemDoorState _). IfSome c.next_client.result (λ _. c.next_client.new.out ≡ d.room + 1)) c.self.view_is c.next_client.ensures.one_more

pub returns-clause-closed : goal.returns-clause-closed
returns-clause-closed g c =
    subst (λ (d : MemDoorState _). IfNone c.next_client.result ((d.coming ≡ []) × (reverse c.next_client.new.clients.items ≡ []))) c.self.view_is c.next_client.ensures.closed

pub returns-clause-no_more : goal.returns-clause-no_more
returns-clause-no_more g c =
    subst (λ (d : MemDoorState _). IfNone c.next_client.result (c.next_client.new.out ≡ d.room)) c.self.view_is c.next_client.ensures.no_more

-- where no accept is to fail, none of them is this one
none_planned : (failing : List ℕ) (n : ℕ) → failing ≡ [] → Contains failing n → ⊥
none_planned failing n none planned =
    let within : planned.0 < 0 = subst (λ (xs : List ℕ). planned.0 < length xs) none planned.1 in
    omega (arith, within)

pub returns-then-fails-clause-planned : goal.returns-then-fails-clause-planned
returns-then-fails-clause-planned g c = (
  λ _. subst (λ (d : MemDoorState _). Contains d.failing d.calls) c.self.view_is (c.fails.ensures.planned.0 c.if-fails.true),
  λ _. refl,
)

pub returns-then-fails-clause-cause : goal.returns-then-fails-clause-cause
returns-then-fails-clause-cause g c = record {
  no_fewer = subst (λ (d : MemDoorState _). d.faults ≤ c.fails.new.self.failed) c.self.view_is c.fails.ensures.no_fewer;
  failed = λ _. subst (λ (d : MemDoorState _). Rose d.faults c.fails.new.self.failed) c.self.view_is (c.fails.ensures.rose c.if-fails.true);
  wanted = λ is. cc;
}

pub returns-then-fails-clause-steady : goal.returns-then-fails-clause-steady
returns-then-fails-clause-steady g c = λ none. absurd (none_planned _ _ none
    (subst (λ (d : MemDoorState _). Contains d.failing d.calls) c.self.view_is (c.fails.ensures.planned.0 c.if-fails.true)))

pub returns-in_err-reserve-clause-steady : goal.returns-in_err-reserve-clause-steady
returns-in_err-reserve-clause-steady g c =
    λ _. subst (λ (d : MemDoorState _). c.fails.new.self.failed ≡ d.faults) c.self.view_is (c.fails.ensures.same c.if-fails.false)

pub returns-clause-steady : goal.returns-clause-steady
returns-clause-steady g c =
    λ _. subst (λ (d : MemDoorState _). c.fails.new.self.failed ≡ d.faults) c.self.view_is (c.fails.ensures.same c.if-fails.false)

pub returns-clause-clean : goal.returns-clause-clean
returns-clause-clean g c =
    λ _. subst (λ (d : MemDoorState _). c.fails.new.self.failed ≡ d.faults) c.self.view_is (c.fails.ensures.same c.if-fails.false)
