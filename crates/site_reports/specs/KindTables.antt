-- The types of workers, kept in a list and in a map.
use Rattle.std.specs.Prelude.{◌≡◌, ℕ, List, map}
use Rattle.std.specs.Str.{bytes_eq}
use Rattle.std.specs.HashMap.{HashMap, get_by}
use Rattle.std.specs.declared.hash.FoldHasher.{FoldHasher}
use Rattle.std.specs.declared.hash.BuildHasherDefault.{BuildHasherDefault}
use Rattle.site_config.specs.declared.values.WorkerKind.{WorkerKind}
use Rattle.site_config.specs.declared.property.Property.{Property}
use Rattle.site_reports.specs.Again.{IsLineTable}
use Rattle.site_reports.specs.Notes.{SiteKinds, kind_among}
use Rattle.site_reports.specs.declared.notes.LineTables.{LineTables}
use denote.Ref.{Bor}

abbrev pub as_kinds : List (Bor (List ℕ) × WorkerKind) → List (List ℕ × WorkerKind)
as_kinds kinds = map (λ entry. (entry.0.now, entry.1)) kinds

-- the table finds the type of each worker, and nothing else
abbrev pub IsKindTable : HashMap (Bor (List ℕ)) WorkerKind (BuildHasherDefault FoldHasher) → List (List ℕ × WorkerKind) → Type 0
IsKindTable table kinds = (name : List ℕ) → get_by (λ k. bytes_eq name k.now) table ≡ kind_among name kinds

-- both tables of types
abbrev pub AreKindTables : LineTables → SiteKinds → Type 0
AreKindTables tables k = IsKindTable tables.kinds.now k.kinds × IsKindTable tables.redirects.now k.redirects

-- `so` holds of the types and the lines of which these are the tables
abbrev pub ForTables : LineTables → (SiteKinds → List Property → Type 0) → Type 0
ForTables tables so =
    (kinds : SiteKinds) → (ps : List Property) → AreKindTables tables kinds → IsLineTable tables.lines.now ps → so kinds ps
