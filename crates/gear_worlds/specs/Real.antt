-- The real world while it makes a gear ready, and its shelves: how often one failed, of what that is told, and where its segments go.
use Rattle.std.specs.Prelude.{◌≡◌, ℕ, List, Option, Some, None, Result, IsOk, IsErrOf, IsSome, IsSomeAnd, IsUtf8, MatchOption, slice_get, string_bytes}
use Rattle.jk_io.specs.Told.{HasCause}
use Rattle.jk_io.specs.declared.failures.IoError.{IoError}
use Rattle.jk_io.specs.declared.failures.IoError.TheVariants as io
use Rattle.lb_model.specs.declared.segment.Segment.{Segment}
use Rattle.gear_worlds.specs.Files.{file_path}
use Rattle.gear_worlds.specs.declared.real_world.WorldCounts.{WorldCounts}
use Rattle.gear_worlds.specs.declared.shelves.KeepError.{KeepError}
use Rattle.gear_worlds.specs.declared.shelves.KeepError.TheVariants as keep
use Rattle.gear_worlds.specs.declared.shelves.RealShelf.{RealShelf}
use Rattle.gear_worlds.specs.declared.shelves.RealShelf.TheVariants as shelf_is
use Rattle.gear_worlds.specs.declared.trouble.Trouble.{Trouble}
use Rattle.gear_worlds.specs.declared.trouble.Trouble.TheVariants as trouble_is

-- A part of a gear is made ready, while as many gears are out as before. It fails only where the world's faults rose.
pub record Readies {T : Type 0} (before after : WorldCounts) (result : Result T IoError) : Type 0 where
  pub cause : HasCause before.failed after.failed result
  pub steady : IsOk result → after.failed ≡ before.failed
  pub same : after.out ≡ before.out

-- what a shelf of the real world tells of the segments that it holds: nothing
abbrev pub untold : Option (List (ℕ × Segment))
untold = None

abbrev pub shelf_faults : {R F D : Type 0} → RealShelf R F D → ℕ
shelf_faults (shelf_is.Files shelf) = shelf.failed
shelf_faults (shelf_is.Dropped shelf) = 0

-- which segment couldn't be written first
abbrev pub shelf_trouble : {R F D : Type 0} → RealShelf R F D → Option Trouble
shelf_trouble (shelf_is.Files shelf) = shelf.trouble
shelf_trouble (shelf_is.Dropped shelf) = None

-- The trouble says that the file of this path couldn't be written. Of a path that is no text something is shown.
abbrev pub SaysUnwritten : (path : List ℕ) → Trouble → Type 0
SaysUnwritten path (trouble_is.Unwritten shown reason) = IsUtf8 path → string_bytes shown ≡ path
SaysUnwritten path _ = ⊥

-- the trouble says that the balancer at this place has no name
abbrev pub SaysNameless : (lb : ℕ) → Trouble → Type 0
SaysNameless lb (trouble_is.Nameless place) = place ≡ lb
SaysNameless lb _ = ⊥

-- The trouble says why a segment of the balancer at this place isn't kept in a directory, where the balancers have these names:
-- the segment's file couldn't be written, or the balancer has no name.
abbrev pub SaysUnkept : (dir : List ℕ) → (names : List (List ℕ)) → (lb : ℕ) → Segment → Trouble → Type 0
SaysUnkept dir names lb segment trouble =
    MatchOption (slice_get names lb) (SaysNameless lb trouble) (λ name. SaysUnwritten (file_path dir name segment.opening.next) trouble)

-- the same of a shelf, which fails only where it writes files
abbrev pub shelf_says : {R F D : Type 0} → RealShelf R F D → (lb : ℕ) → Segment → Trouble → Type 0
shelf_says (shelf_is.Files shelf) lb segment trouble = SaysUnkept shelf.dir shelf.names lb segment trouble
shelf_says (shelf_is.Dropped shelf) lb segment trouble = ⊥

-- why a segment isn't kept: memory was wanted, or there is a trouble that says this
abbrev pub IsWhy : (Says : Trouble → Type 0) → KeepError → Type 0
IsWhy Says (keep.Lost trouble) = Says trouble
IsWhy Says keep.NoMemory = Unit {0}

-- A shelf was to keep a segment. The first trouble stays, and where there was none a failure leaves the trouble that says why; where
-- the segment is kept, or memory was wanted, there is no new one.
pub record KeepsTrouble (Says : Trouble → Type 0) (before after : Option Trouble) (result : Result Unit IoError) : Type 0 where
  pub first : IsSome before → after ≡ before
  pub failed : IsErrOf result io.Failed → before ≡ None → IsSomeAnd after Says
  pub wanted : IsErrOf result io.NoMemory → after ≡ before
  pub kept : IsOk result → after ≡ before

-- which of a worker's files couldn't be written: a segment's, or else its log
abbrev pub files_trouble : (shelf log : Option Trouble) → Option Trouble
files_trouble (Some trouble) log = Some trouble
files_trouble None log = log

-- the shelf writes into this directory, by these names of the balancers
abbrev pub WritesIn : {R F D : Type 0} → (dir : List ℕ) → (names : List (List ℕ)) → RealShelf R F D → Type 0
WritesIn dir names (shelf_is.Files shelf) = (shelf.dir ≡ dir) × (shelf.names ≡ names) × (shelf.failed ≡ 0)
WritesIn dir names (shelf_is.Dropped shelf) = ⊥

abbrev pub Drops : {R F D : Type 0} → RealShelf R F D → Type 0
Drops (shelf_is.Files shelf) = ⊥
Drops (shelf_is.Dropped shelf) = Unit {0}

-- where a journal is kept, and the balancers are named, the shelf writes it; else it drops what it is given
abbrev pub IsShelfFor : {R F D : Type 0} → (journal : Option (List ℕ)) → (names : Option (List (List ℕ))) → RealShelf R F D → Type 0
IsShelfFor (Some dir) (Some names) shelf = WritesIn dir names shelf
IsShelfFor None names shelf = Drops shelf
IsShelfFor (Some dir) None shelf = Drops shelf
