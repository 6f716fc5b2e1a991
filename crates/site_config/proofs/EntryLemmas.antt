-- A property more, in front of those that the rest gives.
use Rattle.std.proofs.Common.{◌≡◌, ℕ, ◌+◌, Bool, List, [], ◌∷◌, ◌++◌, Result, Ok, Err, Some, refl, ap}
use Rattle.std.proofs.lemmas.List.{append_assoc}
use Rattle.jk_io.specs.Decimals.{trimmed}
use Rattle.site_config.specs.declared.property.Property.{Property}
use Rattle.site_config.specs.Properties.{read_lines, said, with_properties}
use Rattle.site_config.specs.declared.error.PropsRefusal.{PropsRefusal}

one_more : (front : List Property) (p : Property) (read : Result (List Property) PropsRefusal) → with_properties (front ++ p ∷ []) read ≡ with_properties front (with_properties (p ∷ []) read)
one_more front p (Ok ps) = ap (λ (qs : List Property). Ok qs) (append_assoc front (p ∷ []) ps)
one_more front p (Err refused) = refl

pub line_more : (values : Bool) (n : ℕ) (line : List ℕ) (later : List (List ℕ)) (front : List Property) (p : Property) → said values n (trimmed line) ≡ Ok (Some p) → with_properties (front ++ p ∷ []) (read_lines values (n + 1) later) ≡ with_properties front (read_lines values n (line ∷ later))
line_more values n line later front p e = rw e (one_more front p (read_lines values (n + 1) later))
