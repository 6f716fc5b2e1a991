-- The fields that ask for a command, in the order of the known names.
use Rattle.std.specs.Prelude.{◌≡◌, ◌≢◌, ℕ, ◌<◌, ◌^◌, true, List, [], ◌∷◌, Option, Some, None, IfSome, codes, decimal}
use Rattle.std.specs.List.{flat_map}
use Rattle.std.specs.Option.{option_map}
use Rattle.status_worker.specs.declared.command.NamedChange.{NamedChange}
use Rattle.status_worker.specs.declared.command.NamedRedirect.{NamedRedirect}
use Rattle.status_worker.specs.declared.command.NamedRedirect.TheVariants as redirect
use Rattle.status_worker.specs.declared.command.StatusCommand.{StatusCommand}
use Rattle.status_worker.specs.declared.command.StatusCommand.TheVariants as command
use Rattle.status_worker.specs.declared.field.Field.{Field}
use Rattle.status_worker.specs.declared.name.Name.{Name}
use Rattle.status_worker.specs.declared.name.Name.TheVariants as name
use Rattle.status_worker.specs.declared.texts.ChangeTexts.{ChangeTexts}
use Rattle.status_worker.specs.declared.texts.Texts.{Texts}
use Rattle.status_worker.specs.Names.{names, text_of}
use Rattle.status_worker.specs.Values.{has_change}
use Rattle.status_worker.specs.Words.{activation_letter}

abbrev pub redirect_text : NamedRedirect → Option (List ℕ)
redirect_text redirect.Keep = None
redirect_text redirect.None = Some []
redirect_text (redirect.To member) = Some member

abbrev pub change_texts : NamedChange → ChangeTexts
change_texts c = record {
  activation = option_map activation_letter c.activation;
  factor = option_map decimal c.factor;
  distance = option_map decimal c.distance;
  redirect = redirect_text c.redirect;
}

abbrev pub no_change : ChangeTexts
no_change = record { activation = None; factor = None; distance = None; redirect = None }

-- the values that ask for a command
abbrev pub texts_for : StatusCommand → Texts
texts_for (command.List w) = record { command = Some (codes "list"); worker = w; member = None; change = no_change }
texts_for (command.Update w sw c) = record { command = Some (codes "update"); worker = Some w; member = Some sw; change = change_texts c }
texts_for (command.Reset w sw) = record { command = Some (codes "reset"); worker = Some w; member = sw; change = no_change }
texts_for (command.Recover w sw) = record { command = Some (codes "recover"); worker = Some w; member = Some sw; change = no_change }

abbrev pub text_at : Texts → Name → Option (List ℕ)
text_at t name.Command = t.command
text_at t name.Worker = t.worker
text_at t name.Member = t.member
text_at t name.Activation = t.change.activation
text_at t name.Factor = t.change.factor
text_at t name.Distance = t.change.distance
text_at t name.Redirect = t.change.redirect

-- a field where there is a value
abbrev pub field_for : Name → Option (List ℕ) → List Field
field_for n None = []
field_for n (Some text) = record { name = text_of n; value = text } ∷ []

abbrev pub fields_with : Texts → List Field
fields_with t = flat_map (λ n. field_for n (text_at t n)) names

abbrev pub fields_for : StatusCommand → List Field
fields_for c = fields_with (texts_for c)

-- a change that a query can say: something is to change, numbers are of 32 bits, and no member has the empty name
pub record IsSaid (c : NamedChange) : Type 0 where
  pub some : has_change (change_texts c) ≡ true
  pub factor : IfSome c.factor (λ n. n < 2 ^ 32)
  pub distance : IfSome c.distance (λ n. n < 2 ^ 32)
  pub redirect : c.redirect ≢ redirect.To []

-- a command that a query can ask for; only updates have values that it can't say
abbrev pub IsAsked : StatusCommand → Type 0
IsAsked (command.List w) = Unit {0}
IsAsked (command.Update w sw c) = IsSaid c
IsAsked (command.Reset w sw) = Unit {0}
IsAsked (command.Recover w sw) = Unit {0}
