-- Walks along references, and the rows that they pass.
use Rattle.std.specs.Prelude.{◌≡◌, ℕ, Bool, true, false, List, [], ◌∷◌, Option, Some, None, length, slice_get, if◌then◌else◌, ◌+◌}
use Rattle.std.specs.Option.{option_and_then}
use Rattle.site_config.specs.declared.property.Property.{Property}
use Rattle.site_config.specs.declared.directive.Directive.{Directive}
use Rattle.site_config.specs.declared.directive.Directive.TheVariants as directive
use Rattle.site_workers.specs.declared.row.Row.{Row}
use Rattle.site_workers.specs.declared.row.Progress.{Progress}
use Rattle.site_workers.specs.declared.row.Progress.TheVariants as progress
use Rattle.site_config.specs.declared.error.WorkersError.{WorkersError}
use Rattle.site_config.specs.declared.error.PropsReason.TheVariants as reason
use Rattle.site_config.specs.Refusals.{IsRefusal, refusal}
use Rattle.site_workers.specs.Numbers.{number_of}
use Rattle.site_workers.specs.Given.{last_given, is_given, is_among, target_at, target_in, Walks, BreaksAt, or_else}
use Rattle.site_workers.specs.Rows.{place_at, property_at, HasLines, HasForce, AreRows}

abbrev pub was_passed : Progress → Bool
was_passed progress.Own = false
was_passed progress.Passed = true
was_passed progress.Whole = false

abbrev pub was_settled : Progress → Bool
was_settled progress.Own = false
was_settled progress.Passed = false
was_settled progress.Whole = true

abbrev pub is_own : Progress → Bool
is_own progress.Own = true
is_own progress.Passed = false
is_own progress.Whole = false

abbrev pub is_passed : Row → Bool
is_passed row = was_passed row.progress

abbrev pub is_whole : Row → Bool
is_whole row = was_settled row.progress

-- how many workers no walk has passed
abbrev pub fresh_in : List Row → ℕ
fresh_in [] = 0
fresh_in (row ∷ rows) = (if is_own row.progress then 1 else 0) + fresh_in rows

-- the row of a worker that a walk passes
abbrev pub passed_row : Row → Row
passed_row row = record row { progress = progress.Passed }

-- a walk can go on to the worker: it has a directive and wasn't passed
abbrev pub is_open_row : Option Row → Bool
is_open_row None = true
is_open_row (Some row) = if is_passed row then false else true

abbrev pub is_open_number : Option ℕ → List Row → Bool
is_open_number None rows = false
is_open_number (Some i) rows = is_open_row (slice_get rows i)

abbrev pub is_open : List (List ℕ) → List Row → List ℕ → Bool
is_open names rows name = is_open_number (number_of name names) rows

-- the row of a worker, while a walk has passed these
pub record IsOnWay (ps : List Property) (past : List (List ℕ)) (name : List ℕ) (row : Row) : Type 0 where
  pub own : is_whole row ≡ false → HasLines ps (last_given ps name) row
  pub whole : is_whole row ≡ true → HasForce ps name row
  pub passed : is_passed row ≡ is_among name past

-- the rows while a walk has passed these
abbrev pub AreOnWay : List Property → List (List ℕ) → List (List ℕ) → List Row → Type 0
AreOnWay ps past names rows = AreRows (IsOnWay ps past) names rows

-- a walk stands at a worker, past these
pub record IsAt (ps : List Property) (start : List ℕ) (names : List (List ℕ)) (rows : List Row) (past : List (List ℕ)) (name : List ℕ) : Type 0 where
  pub rows_are : AreOnWay ps past names rows
  pub walked : Walks ps start past name
  pub given : is_given ps name ≡ true
  pub fresh : is_among name past ≡ false

-- a worker whose row is whole
abbrev pub IsSettled : List (List ℕ) → List Row → List ℕ → Type 0
IsSettled names rows name = (i : ℕ) × (row : Row) × (number_of name names ≡ Some i) × (slice_get rows i ≡ Some row) × (is_whole row ≡ true)

-- where a way ends: nowhere, or at a worker whose row is whole
abbrev pub EndsWell : List (List ℕ) → List Row → Option (List ℕ) → Type 0
EndsWell names rows None = Unit {0}
EndsWell names rows (Some name) = IsSettled names rows name

-- from `start` the references lead past these workers, the newest first, and from the newest on to `next`
abbrev pub LeadsOn : List Property → List ℕ → List (List ℕ) → Option (List ℕ) → Type 0
LeadsOn ps start [] next = next ≡ Some start
LeadsOn ps start (name ∷ past) next = (target_at ps name ≡ next) × (is_given ps name ≡ true) × (is_among name past ≡ false) × LeadsOn ps start past (Some name)

-- the rows of a way that leads to a good end
pub record IsWay (ps : List Property) (start : List ℕ) (names : List (List ℕ)) (rows : List Row) (past : List (List ℕ)) : Type 0 where
  pub rows_are : AreOnWay ps past names rows
  pub next : Option (List ℕ)
  pub leads : LeadsOn ps start past next
  pub ends : EndsWell names rows next

-- a walk's refusal
abbrev pub IsBrokenWalk : List Property → List ℕ → WorkersError → Type 0
IsBrokenWalk ps start e = IsRefusal (λ r. (line : ℕ) × BreaksAt ps start line × (r ≡ refusal line reason.BadReference)) e

-- the row of the worker that this row's reference names
abbrev pub row_of_target : List Property → List (List ℕ) → List Row → Row → Option Row
row_of_target ps names rows row = option_and_then (λ t. option_and_then (λ j. slice_get rows j) (number_of t names)) (target_in (property_at ps row directive.Reference))

-- a place of its own, else the other row's
abbrev pub place_or : Option ℕ → Option Row → Directive → Option ℕ
place_or own None d = own
place_or own (Some from) d = or_else own (place_at from d)

-- the row with the lines of the other where it has none
pub record Inherits (old : Row) (from : Option Row) (new : Row) : Type 0 where
  pub wide : length new.places ≡ 36
  pub progress_is : is_whole new ≡ true
  pub places_are : (d : Directive) → place_at new d ≡ place_or (place_at old d) from d
