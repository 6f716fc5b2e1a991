-- The members that a command's names mean, among a balancer's members.
use Rattle.std.specs.Prelude.{ℕ, Bool, List, Option, Some, position}
use Rattle.std.specs.Option.{option_map}
use Rattle.std.specs.Str.{bytes_eq}
use Rattle.lb_model.specs.declared.change.Change.{Change}
use Rattle.lb_model.specs.declared.change.Redirect.{Redirect}
use Rattle.lb_model.specs.declared.change.Redirect.TheVariants as redirect
use Rattle.lb_model.specs.declared.member.MemberConfig.{MemberConfig}
use Rattle.status_worker.specs.declared.command.NamedChange.{NamedChange}
use Rattle.status_worker.specs.declared.command.NamedRedirect.{NamedRedirect}
use Rattle.status_worker.specs.declared.command.NamedRedirect.TheVariants as named

abbrev pub is_called : List ℕ → MemberConfig → Bool
is_called name member = bytes_eq member.name name

-- the first member of this name
abbrev pub member_named : List MemberConfig → List ℕ → Option ℕ
member_named members name = position (is_called name) members

-- none where the name is no member's
abbrev pub redirect_for : List MemberConfig → NamedRedirect → Option Redirect
redirect_for members named.Keep = Some redirect.Keep
redirect_for members named.None = Some redirect.None
redirect_for members (named.To name) = option_map redirect.To (member_named members name)

-- the change with its redirect as a place; none where the redirect's name is no member's
abbrev pub change_for : List MemberConfig → NamedChange → Option Change
change_for members c =
    option_map (λ to. record { activation = c.activation; factor = c.factor; distance = c.distance; redirect = to }) (redirect_for members c.redirect)
