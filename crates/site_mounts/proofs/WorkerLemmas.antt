-- One entry more in a table of workers.
use Rattle.std.proofs.Common.{◌≡◌, ℕ, List, ◌∷◌, Option, Some, ap, cond}
use Rattle.std.specs.Map.{update}
use Rattle.std.specs.Str.{bytes_eq}
use Rattle.site_config.specs.declared.config.Named.{Named}
use Rattle.site_config.specs.Places.{named_among}

-- an entry in front of others is found before them
pub table_more : (f : List ℕ → Option Named) (entry : List ℕ × Named) (listed : List (List ℕ × Named)) (name : List ℕ) → f name ≡ named_among name listed → update bytes_eq f entry.0 (Some entry.1) name ≡ named_among name (entry ∷ listed)
table_more f entry listed name h = ap (λ (o : Option Named). cond (bytes_eq entry.0 name) (Some entry.1) o) h
