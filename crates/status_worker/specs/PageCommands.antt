-- The commands of a status worker as a table: which values of the known names ask for which command.
use Rattle.std.specs.Prelude.{◌≡◌, ℕ, true, List, Some, None, codes, map, filter}
use Rattle.std.specs.Option.{option_to_list}
use Rattle.status_worker.specs.declared.command.NamedChange.{NamedChange}
use Rattle.status_worker.specs.declared.command.StatusCommand.{StatusCommand}
use Rattle.status_worker.specs.declared.command.StatusCommand.TheVariants as command
use Rattle.status_worker.specs.declared.field.Field.{Field}
use Rattle.status_worker.specs.declared.name.Name.{Name}
use Rattle.status_worker.specs.declared.name.Name.TheVariants as name
use Rattle.status_worker.specs.declared.texts.ChangeTexts.{ChangeTexts}
use Rattle.status_worker.specs.declared.texts.Texts.{Texts}
use Rattle.status_worker.specs.Names.{has_name}
use Rattle.status_worker.specs.Values.{activation_of, short_number, given, has_change, redirect_of}

-- the values of the fields of that name, in order
abbrev pub values_of : List Field → Name → List (List ℕ)
values_of fields n = map (λ field. field.value) (filter (has_name n) fields)

-- each known name has just this value, or none
pub record AreGiven (fields : List Field) (t : Texts) : Type 0 where
  pub command : values_of fields name.Command ≡ option_to_list t.command
  pub worker : values_of fields name.Worker ≡ option_to_list t.worker
  pub member : values_of fields name.Member ≡ option_to_list t.member
  pub activation : values_of fields name.Activation ≡ option_to_list t.change.activation
  pub factor : values_of fields name.Factor ≡ option_to_list t.change.factor
  pub distance : values_of fields name.Distance ≡ option_to_list t.change.distance
  pub redirect : values_of fields name.Redirect ≡ option_to_list t.change.redirect

-- one value or more is there, and each says what is to change
pub record ReadsChange (t : ChangeTexts) (c : NamedChange) : Type 0 where
  pub some : has_change t ≡ true
  pub activation : given activation_of t.activation ≡ Some c.activation
  pub factor : given short_number t.factor ≡ Some c.factor
  pub distance : given short_number t.distance ≡ Some c.distance
  pub redirect : redirect_of t.redirect ≡ c.redirect

-- the values ask for a command
pub data Asks (t : Texts) : StatusCommand → Type 0 where
  page : t.command ≡ None → Asks t (command.List t.worker)
  list : t.command ≡ Some (codes "list") → Asks t (command.List t.worker)
  update : {w sw : List ℕ} {c : NamedChange} → t.command ≡ Some (codes "update") → t.worker ≡ Some w → t.member ≡ Some sw → ReadsChange t.change c
      → Asks t (command.Update w sw c)
  reset : {w : List ℕ} → t.command ≡ Some (codes "reset") → t.worker ≡ Some w → Asks t (command.Reset w t.member)
  recover : {w sw : List ℕ} → t.command ≡ Some (codes "recover") → t.worker ≡ Some w → t.member ≡ Some sw → Asks t (command.Recover w sw)
