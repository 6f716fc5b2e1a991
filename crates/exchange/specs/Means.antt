-- The moments of an exchange, by what it is held with.
use Rattle.std.specs.Prelude.{ℕ, ◌≡◌, List, Option}
use Rattle.jk_io.specs.declared.reaching.Beside.{Beside}
use Rattle.jk_io.specs.declared.traits.streams.Meanings.{Ghosts}
use Rattle.lb_book.specs.Desks.{DeskState}
use Rattle.exchange.specs.OneTalk.{Around, around}
use Rattle.exchange.specs.Rounds.{Scene, scene}
use Rattle.exchange.specs.declared.sides.Means.{Means}
use Rattle.exchange.specs.declared.sides.Sides.{Sides}

-- All that is known between two talks: `around_of R.Meanings C.Meanings sides`.
abbrev pub around_of : {R C X : Type 0} → Ghosts R Beside → Ghosts C X → Sides R C → Around
around_of told_of_reach told_of_client s = around told_of_reach told_of_client s.reach.now s.client.now s.body.now s.inbox.now

-- All that is known between two rounds: `scene_of B.state K.answers R.Meanings C.Meanings means`.
abbrev pub scene_of : {B K R C X : Type 0} → (B → DeskState) → (K → Option (List ℕ)) → Ghosts R Beside → Ghosts C X → Means B K R C → Scene
scene_of state answers told_of_reach told_of_client m =
    scene state answers told_of_reach told_of_client m.desk.now m.clock.now m.sides.reach.now m.sides.client.now m.sides.body.now m.sides.inbox.now

-- The sides are still the caller's own.
abbrev pub AreSameSides : {R C : Type 0} → Sides R C → Sides R C → Type 0
AreSameSides s n =
    (n.reach.ghost_name ≡ s.reach.ghost_name) × (n.client.ghost_name ≡ s.client.ghost_name)
    × (n.body.ghost_name ≡ s.body.ghost_name) × (n.inbox.ghost_name ≡ s.inbox.ghost_name)
