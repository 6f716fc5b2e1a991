-- Fields KEY=VALUE of a line, each of which may be left out. A field that is there must be of its form.
use Rattle.std.specs.Prelude.{ℕ, List, Option, Some, None, codes, if◌then◌else◌, option_map}
use Rattle.std.specs.Str.{bytes_eq}
use Rattle.lb_model.specs.declared.member.Activation.{Activation}
use Rattle.lb_model.specs.declared.change.Redirect.{Redirect}
use Rattle.lb_model.specs.declared.change.Redirect.TheVariants as redirect
use Rattle.play_script.specs.Names.{is_name, index_of}
use Rattle.play_script.specs.Values.{activation_of, short_number, value_of}

-- what a field says, if it is there and of its form; `None` where it is there and isn't
abbrev pub given : {A : Type 0} → (List ℕ → Option A) → Option (List ℕ) → Option (Option A)
given read None = Some None
given read (Some text) = option_map Some (read text)

abbrev pub activation_in : List (List ℕ) → Option (Option Activation)
activation_in words = given activation_of (value_of (codes "activation=") words)

-- a number of 32 bits after a key
abbrev pub number_in : List ℕ → List (List ℕ) → Option (Option ℕ)
number_in key words = given short_number (value_of key words)

abbrev pub name_of : List ℕ → Option (List ℕ)
name_of text = if is_name text then Some text else None

-- the name of a member that may come later
abbrev pub name_in : List (List ℕ) → Option (Option (List ℕ))
name_in words = given name_of (value_of (codes "redirect=") words)

-- the redirect that an update names: `-` is none
abbrev pub redirect_of : List (List ℕ) → List ℕ → Option Redirect
redirect_of names text = if bytes_eq text (codes "-") then Some redirect.None else option_map redirect.To (index_of names text)

abbrev pub kept_without : Option (Option Redirect) → Option Redirect
kept_without None = None
kept_without (Some None) = Some redirect.Keep
kept_without (Some (Some r)) = Some r

abbrev pub redirect_in : List (List ℕ) → List (List ℕ) → Option Redirect
redirect_in names words = kept_without (given (redirect_of names) (value_of (codes "redirect=") words))
