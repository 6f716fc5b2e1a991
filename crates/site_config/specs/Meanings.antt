-- The meaning of a value for the directive that it is given to: each directive's range stands here.
use Rattle.std.specs.Prelude.{ℕ, Bool, false, List, Option, Some, None, if◌then◌else◌, length, nat_lt}
use Rattle.std.specs.Option.{is_some, option_map}
use Rattle.std.specs.Str.{bytes_eq}
use Rattle.lb_model.specs.Limits.{most_seconds}
use Rattle.site_config.specs.declared.directive.Directive.{Directive}
use Rattle.site_config.specs.declared.directive.Directive.TheVariants as directive
use Rattle.site_config.specs.declared.property.Property.{Property}
use Rattle.site_config.specs.declared.subject.Subject.{Subject}
use Rattle.site_config.specs.declared.subject.Subject.TheVariants as subject
use Rattle.site_config.specs.declared.value.Value.{Value}
use Rattle.site_config.specs.declared.value.Value.TheVariants as value
use Rattle.site_config.specs.Directives.{name_of, worker_part}
use Rattle.site_config.specs.Values.{activation_of, kind_of, method_of, number_in, pings_of, statuses_of, target_of, truth_of}

-- the least and the greatest number that a directive takes, where its values are numbers
abbrev pub range_of : Directive → Option (ℕ × ℕ)
range_of directive.Port = Some (1, 65535)
range_of directive.Factor = Some (1, 65535)
range_of directive.Distance = Some (0, 65535)
range_of directive.PoolSize = Some (1, 1024)
range_of directive.Retries = Some (1, 10)
range_of directive.PacketSize = Some (8192, 65536)
range_of directive.RecoveryOptions = Some (0, 31)
range_of directive.RecoverTime = Some (1, most_seconds)
range_of directive.DialTimeout = Some (0, 86400000)
range_of directive.ConnectTimeout = Some (0, 86400000)
range_of directive.PrepostTimeout = Some (0, 86400000)
range_of directive.PingTimeout = Some (0, 86400000)
range_of directive.ReplyTimeout = Some (0, 86400000)
range_of directive.SocketTimeout = Some (0, 86400)
range_of directive.PoolTimeout = Some (0, 86400)
range_of directive.PingInterval = Some (0, 86400)
range_of d = None

abbrev pub least_in : Option (ℕ × ℕ) → ℕ
least_in None = 0
least_in (Some range) = range.0

abbrev pub most_in : Option (ℕ × ℕ) → ℕ
most_in None = 0
most_in (Some range) = range.1

abbrev pub least_of : Directive → ℕ
least_of d = least_in (range_of d)

abbrev pub most_of : Directive → ℕ
most_of d = most_in (range_of d)

-- a text is taken as it stands where it is a good one
abbrev pub text_if : Bool → Option Value
text_if good = if good then Some value.Text else None

-- what a value means to a directive whose values are no numbers; the names in it aren't judged
abbrev pub other_value : Directive → List ℕ → Option Value
other_value directive.Kind text = option_map value.Kind (kind_of text)
other_value directive.Reference text = text_if (is_some (target_of text))
other_value directive.Activation text = option_map value.Activation (activation_of text)
other_value directive.PingMode text = option_map value.Pings (pings_of text)
other_value directive.FailOnStatus text = text_if (is_some (statuses_of text))
other_value directive.Method text = option_map value.Method (method_of text)
other_value directive.Sticky text = option_map value.Truth (truth_of text)
other_value directive.Force text = option_map value.Truth (truth_of text)
other_value directive.ReadOnly text = option_map value.Truth (truth_of text)
other_value directive.Keepalive text = option_map value.Truth (truth_of text)
other_value directive.Cookie text = text_if (nat_lt 0 (length text))
other_value directive.Path text = text_if (nat_lt 0 (length text))
other_value d text = Some value.Text

abbrev pub value_by : Option (ℕ × ℕ) → Directive → List ℕ → Option Value
value_by None d text = other_value d text
value_by (Some range) d text = option_map value.Number (number_in range.0 range.1 text)

-- what a value means to a directive; nothing where it is none that the directive takes
abbrev pub value_of : Directive → List ℕ → Option Value
value_of d text = value_by (range_of d) d text

-- a directive that isn't built takes each text
abbrev pub given_value : Option Directive → List ℕ → Option Value
given_value None text = Some value.Text
given_value (Some d) text = value_of d text

-- the seconds between two maintenances
abbrev pub period_of : List ℕ → Option ℕ
period_of text = number_in 1 most_seconds text

-- what a value means to what its line speaks of
abbrev pub meaning_of : Subject → List ℕ → Option Value
meaning_of subject.Maintain text = option_map value.Number (period_of text)
meaning_of (subject.Worker name d) text = given_value d text
meaning_of s text = Some value.Text

-- a key gives a worker this directive
abbrev pub names_directive : Directive → Option (List ℕ × List ℕ) → Bool
names_directive d None = false
names_directive d (Some parts) = bytes_eq parts.1 (name_of d)

-- what a line says of a directive: one that gives another says nothing of it
abbrev pub says : Directive → Property → Option Value
says d p = if names_directive d (worker_part p.key) then value_of d p.value else None
