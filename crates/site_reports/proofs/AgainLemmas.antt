-- One line more in a table of last lines.
use Rattle.std.proofs.Common.{◌≡◌, ℕ, Bool, true, false, List, [], ◌∷◌, ◌++◌, Option, Some, refl, sym, ◌∙◌, ap, cond, ◌&&◌}
use Rattle.std.specs.Map.{update}
use Rattle.std.specs.Option.{option_map}
use Rattle.std.specs.Str.{bytes_eq}
use Rattle.site_config.specs.declared.property.Property.{Property}
use Rattle.site_workers.proofs.RowLemmas.{last_of-snoc}
use Rattle.site_workers.specs.Given.{last_of}
use Rattle.site_reports.specs.Again.{gives_single, is_single, last_line}

-- the last line after one more
more : (key : List ℕ) (ps : List Property) (p : Property) (t : Bool) → gives_single key p ≡ t
    → last_line key (ps ++ p ∷ []) ≡ option_map (λ (q : Property). q.line) (cond t (Some p) (last_of (gives_single key) ps))
more key ps p t gives = ap (option_map (λ (q : Property). q.line)) (last_of-snoc (gives_single key) ps p ∙ ap (λ (b : Bool). cond b (Some p) (last_of (gives_single key) ps)) gives)

-- a line that isn't single changes nothing
pub line_kept : (key : List ℕ) (ps : List Property) (p : Property) → is_single p.key ≡ false → last_line key ps ≡ last_line key (ps ++ p ∷ [])
line_kept key ps p h = sym (more key ps p false (ap (λ (b : Bool). b && bytes_eq p.key key) h))

-- a single one is the last of its key
pub line_put : (found : List ℕ → Option ℕ) (key : List ℕ) (ps : List Property) (p : Property) → is_single p.key ≡ true → found key ≡ last_line key ps
    → update bytes_eq found p.key (Some p.line) key ≡ last_line key (ps ++ p ∷ [])
line_put found key ps p h before = by_test (bytes_eq p.key key) ∙ sym (more key ps p (bytes_eq p.key key) (ap (λ (b : Bool). b && bytes_eq p.key key) h))
  where
    by_test : (t : Bool) → cond t (Some p.line) (found key) ≡ option_map (λ (q : Property). q.line) (cond t (Some p) (last_of (gives_single key) ps))
    by_test true = refl
    by_test false = before
