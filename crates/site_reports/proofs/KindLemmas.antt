-- One worker more in a table of types.
use Rattle.std.proofs.Common.{◌≡◌, ℕ, ◌+◌, ◌<◌, Bool, true, false, List, [], ◌∷◌, ◌++◌, Bor, Option, Some, None, length, take, get_or, refl, sym, ◌∙◌, ap, cond}
use Rattle.std.proofs.lemmas.List.{map-append, take_more}
use Rattle.std.specs.Map.{update}
use Rattle.std.specs.Str.{bytes_eq}
use Rattle.site_config.specs.declared.values.WorkerKind.{WorkerKind}
use Rattle.site_workers.specs.Given.{or_else}
use Rattle.site_reports.specs.KindTables.{as_kinds}
use Rattle.site_reports.specs.Notes.{kind_among}

-- the last one is found first
kind_among-snoc : (name : List ℕ) (kinds : List (List ℕ × WorkerKind)) (entry : List ℕ × WorkerKind)
    → kind_among name (kinds ++ entry ∷ []) ≡ cond (bytes_eq entry.0 name) (Some entry.1) (kind_among name kinds)
kind_among-snoc name [] entry = refl
kind_among-snoc name (other ∷ kinds) entry = rw (kind_among-snoc name kinds entry) (by_test (bytes_eq entry.0 name))
  where
    by_test : (t : Bool) → or_else (cond t (Some entry.1) (kind_among name kinds)) (cond (bytes_eq other.0 name) (Some other.1) None)
        ≡ cond t (Some entry.1) (or_else (kind_among name kinds) (cond (bytes_eq other.0 name) (Some other.1) None))
    by_test true = refl
    by_test false = refl

pub kind_put : (found : List ℕ → Option WorkerKind) (name : List ℕ) (kinds : List (List ℕ × WorkerKind)) (entry : List ℕ × WorkerKind) → found name ≡ kind_among name kinds
    → update bytes_eq found entry.0 (Some entry.1) name ≡ kind_among name (kinds ++ entry ∷ [])
kind_put found name kinds entry before = ap (λ (o : Option WorkerKind). cond (bytes_eq entry.0 name) (Some entry.1) o) before ∙ sym (kind_among-snoc name kinds entry)

-- the workers up to the next one
pub kinds_more : (kinds : List (Bor (List ℕ) × WorkerKind)) (i : ℕ) (d : Bor (List ℕ) × WorkerKind) → i < length kinds
    → as_kinds (take (i + 1) kinds) ≡ as_kinds (take i kinds) ++ ((get_or kinds i d).0.now, (get_or kinds i d).1) ∷ []
kinds_more kinds i d h = rw (take_more kinds i d h, map-append) refl
