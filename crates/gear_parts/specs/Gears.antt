-- A gear at a moment: its door, its talks, its clock, its shelf and its log. Read this first.
use Rattle.std.specs.Prelude.{ℕ, ◌≡◌, ◌+◌, List, [], ◌∷◌, Option, Some, None}
use Rattle.jk_io.specs.declared.reaching.Talk.{Talk}
use Rattle.jk_io.specs.Doors.{DoorSide}
use Rattle.gear_parts.specs.declared.world.Gear.{Gear}

-- Its door, the talks on its tape, the answers that its clock is to give, its shelf, and what its log is written to.
pub record GearSide (C S O : Type 0) : Type 0 where
  pub door : DoorSide C
  pub talks : Option (List Talk)
  pub clock : Option (List ℕ)
  pub shelf : S
  pub log : Option O

-- a gear at a moment, by what its types tell: `gear_side (side D.coming D.left D.faults) T.talks K.answers gear`
abbrev pub gear_side : {D G T K S O C : Type 0} → (D → DoorSide C) → (T → Option (List Talk)) → (K → Option (List ℕ)) → Gear D G T K S O → GearSide C S O
gear_side door talks answers gear = record {
  door = door gear.door;
  talks = talks gear.tape;
  clock = answers gear.clock;
  shelf = gear.shelf;
  log = gear.log;
}

-- a gear that was given a log
abbrev pub logged : {D G T K S O : Type 0} → Gear D G T K S O → O → Gear D G T K S O
logged gear log = record gear { log = Some log }

-- a gear but for its log
abbrev pub unlogged : {D G T K S O : Type 0} → Gear D G T K S O → Gear D G T K S O
unlogged gear = record gear { log = None }

-- A gear was given the next of these logs.
abbrev pub TakesLog : {D G T K S O : Type 0} → (before after : Gear D G T K S O) → (logs later : List O) → Type 0
TakesLog {O = O} before after logs later = (log : O) × (logs ≡ log ∷ later) × (after ≡ logged before log)

-- Each gear was given the log of the worker of its place, the first of which has this number.
abbrev pub AreLogged : {D G T K S O : Type 0} → (Is : ℕ → O → Type 0) → (number : ℕ) → (before after : List (Gear D G T K S O)) → Type 0
AreLogged Is number [] [] = Unit {0}
AreLogged {O = O} Is number (b ∷ before) (a ∷ after) = ((log : O) × Is number log × (a ≡ logged b log)) × AreLogged Is (number + 1) before after
AreLogged Is number before after = ⊥

-- Where there is a directory for logs, each gear was given the one of its worker there, from worker 0 on.
abbrev pub AreGiven : {D G T K S O : Type 0} → (Is : List ℕ → ℕ → O → Type 0) → (dir : Option (List ℕ)) → (before after : List (Gear D G T K S O)) → Type 0
AreGiven Is None before after = after ≡ before
AreGiven Is (Some dir) before after = AreLogged (Is dir) 0 before after

-- It has all that it had before but for its door: its dial, its tape, its clock, its shelf and its log.
abbrev pub KeepsRest : {D G T K S O : Type 0} → (before after : Gear D G T K S O) → Type 0
KeepsRest before after = after ≡ record before { door = after.door }
