-- Gears of which the first's clock was read.
use Rattle.std.proofs.Common.{ℕ, ◌≡◌, ◌<◌, List, [], ◌∷◌, length, map, get_or, set, Option, refl, sym, ap, ◌∙◌, subst, arith}
use Rattle.std.specs.List.{All}
use Rattle.std.proofs.lemmas.List.Elements.{All-cons, All-head, All-tail}
use Rattle.jk_io.specs.Answers.{Answers}
use Rattle.jk_io.specs.declared.reaching.Talk.{Talk}
use Rattle.jk_io.specs.Doors.{DoorSide}
use Rattle.gear_parts.specs.Gears.{GearSide, gear_side}
use Rattle.gear_parts.specs.Starts.{AreStarted, GivesFirst}
use Rattle.gear_parts.specs.declared.world.Gear.{Gear}

-- The first gear's clock was read, and nothing else was done.
pub first_read : {D G T K S O C : Type 0} → (at : D → DoorSide C) (talks : T → Option (List Talk)) (answers : K → Option (List ℕ))
    (gears : List (Gear D G T K S O)) (x : Gear D G T K S O) (clock : K) (now : ℕ)
    → 0 < length gears → Answers (answers (get_or gears 0 x).clock) now (answers clock)
    → AreStarted (map (gear_side at talks answers) gears) (map (gear_side at talks answers) (set gears 0 (record (get_or gears 0 x) { clock = clock })))
first_read at talks answers [] x clock now some read = absurd (omega (arith, some))
first_read at talks answers (g ∷ gears) x clock now some read = (now, read, refl, refl)

pub first_idle : {D G T K S O : Type 0} → (IsIdle : T → Type 0) (gears : List (Gear D G T K S O)) (x : Gear D G T K S O) (clock : K)
    → All (λ (g : Gear D G T K S O). IsIdle g.tape) gears
    → All (λ (g : Gear D G T K S O). IsIdle g.tape) (set gears 0 (record (get_or gears 0 x) { clock = clock }))
first_idle IsIdle [] x clock all = all
first_idle {D} {G} {T} {K} {S} {O} IsIdle (g ∷ gears) x clock all =
    All-cons (λ (h : Gear D G T K S O). IsIdle h.tape) (record g { clock = clock }) gears
    (All-head (λ (h : Gear D G T K S O). IsIdle h.tape) g gears all) (All-tail (λ (h : Gear D G T K S O). IsIdle h.tape) g gears all)

pub first_as_long : {X : Type 0} → (xs : List X) (x : X) → length (set xs 0 x) ≡ length xs
first_as_long [] x = refl
first_as_long (y ∷ xs) x = refl

-- So of the whole lists that were lent.
pub started_back : {D G T K S O C : Type 0} → (at : Gear D G T K S O → GearSide C S O) (gears lent new back : List (Gear D G T K S O))
    → lent ≡ gears → back ≡ new → AreStarted (map at lent) (map at new) → AreStarted (map at gears) (map at back)
started_back {D} {G} {T} {K} {S} {O} at gears lent new back same written started =
    subst (λ (gs : List (Gear D G T K S O)). AreStarted (map at gs) (map at back)) same
    (subst (λ (gs : List (Gear D G T K S O)). AreStarted (map at lent) (map at gs)) (sym written) started)

pub idle_back : {D G T K S O : Type 0} → (IsIdle : T → Type 0) (gears lent new back : List (Gear D G T K S O)) → lent ≡ gears → back ≡ new
    → (All (λ (g : Gear D G T K S O). IsIdle g.tape) lent → All (λ (g : Gear D G T K S O). IsIdle g.tape) new)
    → All (λ (g : Gear D G T K S O). IsIdle g.tape) gears → All (λ (g : Gear D G T K S O). IsIdle g.tape) back
idle_back {D} {G} {T} {K} {S} {O} IsIdle gears lent new back same written then all =
    subst (λ (gs : List (Gear D G T K S O)). All (λ (g : Gear D G T K S O). IsIdle g.tape) gs) (sym written)
    (then (subst (λ (gs : List (Gear D G T K S O)). All (λ (g : Gear D G T K S O). IsIdle g.tape) gs) (sym same) all))

-- The moment is the one that the first gear's clock gave.
pub first_gives : {D G T K S O C : Type 0} → (at : D → DoorSide C) (talks : T → Option (List Talk)) (answers : K → Option (List ℕ))
    (gears : List (Gear D G T K S O)) (x : Gear D G T K S O) (clock : K) (now : ℕ)
    → 0 < length gears → Answers (answers (get_or gears 0 x).clock) now (answers clock)
    → GivesFirst now (map (gear_side at talks answers) gears) (map (gear_side at talks answers) (set gears 0 (record (get_or gears 0 x) { clock = clock })))
first_gives at talks answers [] x clock now some read = absurd (omega (arith, some))
first_gives at talks answers (g ∷ gears) x clock now some read = read

pub gives_back : {D G T K S O C : Type 0} → (now : ℕ) (at : Gear D G T K S O → GearSide C S O) (gears lent new back : List (Gear D G T K S O))
    → lent ≡ gears → back ≡ new → GivesFirst now (map at lent) (map at new) → GivesFirst now (map at gears) (map at back)
gives_back {D} {G} {T} {K} {S} {O} now at gears lent new back same written gives =
    subst (λ (gs : List (Gear D G T K S O)). GivesFirst now (map at gs) (map at back)) same
    (subst (λ (gs : List (Gear D G T K S O)). GivesFirst now (map at lent) (map at gs)) (sym written) gives)
