-- The values of an update, read.
use Rattle.std.specs.Prelude.{ℕ, Bool, ◌==◌, ◌||◌, nat_le, nat_lt, List, [], ◌∷◌, length, Option, Some, None, is_some, if◌then◌else◌}
use Rattle.std.specs.Option.{option_map, option_and_then}
use Rattle.jk_io.specs.Decimals.{decimal_of}
use Rattle.lb_model.specs.declared.member.Activation.{Activation}
use Rattle.lb_model.specs.declared.member.Activation.TheVariants as activation
use Rattle.status_worker.specs.declared.command.NamedRedirect.{NamedRedirect}
use Rattle.status_worker.specs.declared.command.NamedRedirect.TheVariants as redirect
use Rattle.status_worker.specs.declared.command.NamedChange.{NamedChange}
use Rattle.status_worker.specs.declared.texts.ChangeTexts.{ChangeTexts}

infixl 10 ◌>>=◌
abbrev pub ◌>>=◌ : {A B : Type 0} → Option A → (A → Option B) → Option B
o >>= f = option_and_then f o

-- an activation by its first letter A, D or S, in either case
abbrev pub activation_of : List ℕ → Option Activation
activation_of [] = None
activation_of (letter ∷ more) =
    if letter == 65 || letter == 97 then Some activation.Active
    else (if letter == 68 || letter == 100 then Some activation.Disabled
    else (if letter == 83 || letter == 115 then Some activation.Stopped
    else None))

-- a number of 32 bits
abbrev pub short_number : List ℕ → Option ℕ
short_number text = decimal_of text >>= (λ n. if nat_le n 4294967295 then Some n else None)

-- the member that a redirect names; the empty name is none
abbrev pub redirect_to : List ℕ → NamedRedirect
redirect_to text = if nat_lt 0 (length text) then redirect.To text else redirect.None

abbrev pub redirect_of : Option (List ℕ) → NamedRedirect
redirect_of None = redirect.Keep
redirect_of (Some text) = redirect_to text

-- what a value says, where there is one: `None` where it can't be read
abbrev pub given : {A : Type 0} → (List ℕ → Option A) → Option (List ℕ) → Option (Option A)
given read None = Some None
given read (Some text) = option_map Some (read text)

-- a value that an update changes is there
abbrev pub has_change : ChangeTexts → Bool
has_change t = is_some t.activation || is_some t.factor || is_some t.distance || is_some t.redirect

-- what the values change; none where one can't be read
abbrev pub changed_by : ChangeTexts → Option NamedChange
changed_by t =
    given activation_of t.activation >>= λ a.
    given short_number t.factor >>= λ f.
    given short_number t.distance >>= λ d.
    Some (record { activation = a; factor = f; distance = d; redirect = redirect_of t.redirect })

-- what an update changes; none where no value is there, or one can't be read
abbrev pub change_of : ChangeTexts → Option NamedChange
change_of t = if has_change t then changed_by t else None
