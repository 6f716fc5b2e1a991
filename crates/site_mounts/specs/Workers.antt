-- A map of listed names, which finds what each of them stands for.
use Rattle.std.specs.Prelude.{◌≡◌, ℕ, List}
use Rattle.std.specs.Str.{bytes_eq}
use Rattle.std.specs.HashMap.{HashMap, get_by}
use Rattle.std.specs.declared.hash.FoldHasher.{FoldHasher}
use Rattle.std.specs.declared.hash.BuildHasherDefault.{BuildHasherDefault}
use Rattle.site_config.specs.declared.config.Named.{Named}
use Rattle.site_config.specs.Places.{named_among}
use denote.Ref.{Bor}

-- the table finds what the first entry of each name stands for, and nothing else
abbrev pub IsTable : HashMap (Bor (List ℕ)) Named (BuildHasherDefault FoldHasher) → List (List ℕ × Named) → Type 0
IsTable table listed = (name : List ℕ) → get_by (λ k. bytes_eq name k.now) table ≡ named_among name listed
