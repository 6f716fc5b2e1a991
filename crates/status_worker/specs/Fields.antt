-- The query of a status worker as fields: its parts stand between `&`, and each is a name, `=` and a value.
use Rattle.std.specs.Prelude.{ℕ, ◌+◌, ◌==◌, nat_lt, List, [], ◌∷◌, ◌++◌, map, filter, length, take, drop, Option, Some, None, position, if◌then◌else◌}
use Rattle.std.specs.List.{slice_split}
use Rattle.std.specs.Option.{option_map}
use Rattle.percent_encoding.specs.Percent.{percent_decode}
use Rattle.status_worker.specs.declared.field.Field.{Field}
use Rattle.status_worker.specs.Escapes.{has_good_escapes}

-- what stands before a place and what follows it
abbrev pub around : List ℕ → ℕ → List ℕ × List ℕ
around text at = (take at text, drop (at + 1) text)

-- what stands before the first such byte and what follows it, where there is one
abbrev pub cut_at : ℕ → List ℕ → Option (List ℕ × List ℕ)
cut_at byte text = option_map (around text) (position (λ b. b == byte) text)

abbrev pub decoded_field : List ℕ × List ℕ → Field
decoded_field cut = record { name = percent_decode cut.0; value = percent_decode cut.1 }

-- the field that a part writes, cut at its first `=`; none where it has no `=` or a bad escape
abbrev pub field_of : List ℕ → Option Field
field_of part = if has_good_escapes part then option_map decoded_field (cut_at 61 part) else None

-- one more item in front, where all are there
abbrev pub in_front : {A : Type 0} → Option A → Option (List A) → Option (List A)
in_front None xs = None
in_front (Some x) xs = option_map (λ more. x ∷ more) xs

-- the items of a list, where each is there
abbrev pub all_there : {A : Type 0} → List (Option A) → Option (List A)
all_there [] = Some []
all_there (o ∷ os) = in_front o (all_there os)

-- the fields of the parts that aren't empty, in order; none where one of these can't be read
abbrev pub fields_in : List (List ℕ) → Option (List Field)
fields_in parts = all_there (map field_of (filter (λ part. nat_lt 0 (length part)) parts))

-- what stands between `&`
abbrev pub parts_of : List ℕ → List (List ℕ)
parts_of query = slice_split (λ b. b == 38) query

-- the fields of a query
abbrev pub fields_of : List ℕ → Option (List Field)
fields_of query = fields_in (parts_of query)

-- these items and further ones, where the further ones are there
abbrev pub behind : {A : Type 0} → List A → Option (List A) → Option (List A)
behind front more = option_map (λ xs. front ++ xs) more
