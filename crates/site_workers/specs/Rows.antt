-- Rows of places, and the lines at them.
use Rattle.std.specs.Prelude.{◌≡◌, ℕ, List, Option, Some, None, [], ◌∷◌, zero, suc, slice_index_or, slice_get, slice_set, take, length}
use Rattle.std.specs.Option.{is_some}
use Rattle.site_config.specs.declared.property.Property.{Property}
use Rattle.site_config.specs.declared.directive.Directive.{Directive}
use Rattle.site_workers.specs.declared.row.Row.{Row}
use Rattle.site_workers.specs.declared.row.Progress.TheVariants as progress
use Rattle.site_config.specs.Directives.{slot_of, directive_of, worker_part}
use Rattle.site_workers.specs.Numbers.{number_of}
use Rattle.site_workers.specs.Given.{last_given, IsChain, in_force}

abbrev pub place_at : Row → Directive → Option ℕ
place_at row d = slice_index_or row.places (slot_of d) None

abbrev pub picked : List Property → Option ℕ → Option Property
picked ps None = None
picked ps (Some place) = slice_get ps place

abbrev pub property_at : List Property → Row → Directive → Option Property
property_at ps row d = picked ps (place_at row d)

-- the row has these lines, one for each directive that has one
pub record HasLines (ps : List Property) (lines : Directive → Option Property) (row : Row) : Type 0 where
  pub wide : length row.places ≡ 36
  pub held : (d : Directive) → is_some (place_at row d) ≡ is_some (property_at ps row d)
  pub lines_are : (d : Directive) → property_at ps row d ≡ lines d

-- the row has the worker's own lines, of the first n, and no walk has come to it
abbrev pub HasOwn : List Property → ℕ → List ℕ → Row → Type 0
HasOwn ps n name row = HasLines ps (last_given (take n ps) name) row × (row.progress ≡ progress.Own)

-- the row has the lines that are in force for the worker
abbrev pub HasForce : List Property → List ℕ → Row → Type 0
HasForce ps name row = (more : List (List ℕ)) × IsChain ps name more × HasLines ps (in_force ps name more) row

-- `fits` holds of each name and of the row, or whatever else, at its number
pub record AreRows {A : Type 0} (fits : List ℕ → A → Type 0) (names : List (List ℕ)) (rows : List A) : Type 0 where
  pub count : length rows ≡ length names
  pub each : (name : List ℕ) (i : ℕ) (row : A) → number_of name names ≡ Some i → slice_get rows i ≡ Some row → fits name row

-- the row with one more line
abbrev pub row_with : Directive → ℕ → Row → Row
row_with d place row = record row { places = slice_set row.places (slot_of d) (Some place) }

-- the rows with that of place i changed
abbrev pub adjusted : (Row → Row) → List Row → ℕ → List Row
adjusted f [] i = []
adjusted f (row ∷ rows) zero = f row ∷ rows
adjusted f (row ∷ rows) (suc i) = row ∷ adjusted f rows i

-- the rows after a line that gives this worker this directive
abbrev pub rows_for : Option ℕ → Option Directive → ℕ → List Row → List Row
rows_for None d place rows = rows
rows_for (Some i) None place rows = rows
rows_for (Some i) (Some d) place rows = adjusted (row_with d place) rows i

abbrev pub rows_at : Option (List ℕ × List ℕ) → List (List ℕ) → ℕ → List Row → List Row
rows_at None names place rows = rows
rows_at (Some parts) names place rows = rows_for (number_of parts.0 names) (directive_of parts.1) place rows

abbrev pub rows_after : List (List ℕ) → Property → ℕ → List Row → List Row
rows_after names p place rows = rows_at (worker_part p.key) names place rows
