-- How a query is written for fields: of each its name, `=` and its value, with bytes escaped, and `&` between them.
use Rattle.std.specs.Prelude.{◌≡◌, ℕ, ◌<◌, true, List, ◌∷◌, ◌++◌, map, All}
use Rattle.std.specs.List.{join_with_byte}
use Rattle.percent_encoding.specs.declared.ascii_set.AsciiSet.{AsciiSet}
use Rattle.percent_encoding.specs.AsciiSet.{contains}
use Rattle.percent_encoding.specs.Percent.{percent_encode}
use Rattle.status_worker.specs.declared.field.Field.{Field}

abbrev pub written_field : AsciiSet → Field → List ℕ
written_field set field = percent_encode set field.name ++ 61 ∷ percent_encode set field.value

-- the query of these fields, in order, where the bytes of this set are escaped
abbrev pub written : AsciiSet → List Field → List ℕ
written set fields = join_with_byte 38 (map (written_field set) fields)

-- `%`, `&` and `=` are escaped
pub record EscapesMarks (set : AsciiSet) : Type 0 where
  pub percent : contains set 37 ≡ true
  pub ampersand : contains set 38 ≡ true
  pub equals : contains set 61 ≡ true

pub record HasBytes (field : Field) : Type 0 where
  pub name : All (λ b. b < 256) field.name
  pub value : All (λ b. b < 256) field.value
