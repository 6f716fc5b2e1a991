-- The names that a query may give a value, by the status worker of the Tomcat Connectors reference.
use Rattle.std.specs.Prelude.{ℕ, Bool, nat_le, List, [], ◌∷◌, Option, count_by, codes}
use Rattle.std.specs.List.{find, list_all}
use Rattle.std.specs.Option.{option_map}
use Rattle.std.specs.Str.{bytes_eq}
use Rattle.status_worker.specs.declared.field.Field.{Field}
use Rattle.status_worker.specs.declared.name.Name.{Name}
use Rattle.status_worker.specs.declared.name.Name.TheVariants as name
use Rattle.status_worker.specs.declared.texts.ChangeTexts.{ChangeTexts}
use Rattle.status_worker.specs.declared.texts.Texts.{Texts}

-- a name as it stands in a query
abbrev pub text_of : Name → List ℕ
text_of name.Command = codes "cmd"
text_of name.Worker = codes "w"
text_of name.Member = codes "sw"
text_of name.Activation = codes "vwa"
text_of name.Factor = codes "vwf"
text_of name.Distance = codes "vwd"
text_of name.Redirect = codes "vwr"

-- the known names
abbrev pub names : List Name
names = name.Command ∷ name.Worker ∷ name.Member ∷ name.Activation ∷ name.Factor ∷ name.Distance ∷ name.Redirect ∷ []

abbrev pub has_name : Name → Field → Bool
has_name n field = bytes_eq field.name (text_of n)

-- at most one field has the name
abbrev pub is_lone : List Field → Name → Bool
is_lone fields n = nat_le (count_by (has_name n) fields) 1

-- no known name stands twice
abbrev pub are_lone : List Field → Bool
are_lone fields = list_all (is_lone fields) names

-- the value of the first field of that name
abbrev pub value_of : List Field → Name → Option (List ℕ)
value_of fields n = option_map (λ field. field.value) (find (has_name n) fields)

-- the values that an update changes
abbrev pub change_texts_of : List Field → ChangeTexts
change_texts_of fields = record {
  activation = value_of fields name.Activation;
  factor = value_of fields name.Factor;
  distance = value_of fields name.Distance;
  redirect = value_of fields name.Redirect;
}

-- the values of the known names; other names are ignored
abbrev pub texts_of : List Field → Texts
texts_of fields = record {
  command = value_of fields name.Command;
  worker = value_of fields name.Worker;
  member = value_of fields name.Member;
  change = change_texts_of fields;
}
