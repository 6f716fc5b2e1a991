-- How single values are written as words. Numbers are decimal, without leading zeros.
use Rattle.std.specs.Prelude.{ℕ, Bool, List, ◌++◌, Option, Some, None, codes, decimal, if◌then◌else◌}
use Rattle.lb_model.specs.declared.change.Redirect.{Redirect}
use Rattle.lb_model.specs.declared.change.Redirect.TheVariants as redirect
use Rattle.lb_model.specs.declared.journal.How.{How}
use Rattle.lb_model.specs.declared.journal.How.TheVariants as how
use Rattle.lb_model.specs.declared.journal.Kind.{Kind}
use Rattle.lb_model.specs.declared.journal.Kind.TheVariants as kind
use Rattle.lb_model.specs.declared.member.Activation.{Activation}
use Rattle.lb_model.specs.declared.member.Activation.TheVariants as activation
use Rattle.lb_model.specs.declared.member.Method.{Method}
use Rattle.lb_model.specs.declared.member.Method.TheVariants as method
use Rattle.lb_model.specs.declared.state.MemberState.{MemberState}
use Rattle.lb_model.specs.declared.state.MemberState.TheVariants as state

-- `-` stands for no value
abbrev pub optional : Option ℕ → List ℕ
optional None = codes "-"
optional (Some n) = decimal n

abbrev pub flag : Bool → List ℕ
flag b = if b then codes "1" else codes "0"

abbrev pub method_letter : Method → List ℕ
method_letter method.Request = codes "R"
method_letter method.Session = codes "S"
method_letter method.Traffic = codes "T"
method_letter method.Busyness = codes "B"

abbrev pub activation_letter : Activation → List ℕ
activation_letter activation.Active = codes "A"
activation_letter activation.Disabled = codes "D"
activation_letter activation.Stopped = codes "S"

abbrev pub state_word : MemberState → List ℕ
state_word state.Ok = codes "ok"
state_word (state.Error at) = codes "error:" ++ decimal at
state_word state.Recover = codes "recover"
state_word (state.Probe ticket) = codes "probe:" ++ decimal ticket

abbrev pub kind_word : Kind → List ℕ
kind_word kind.Done = codes "done"
kind_word kind.Failed = codes "failed"
kind_word kind.Gone = codes "gone"

abbrev pub how_word : How → List ℕ
how_word how.Sticky = codes "sticky"
how_word how.Redirect = codes "redirect"
how_word how.Balanced = codes "balanced"

-- what an update changes of a member, `-` where it changes nothing
abbrev pub activation_change : Option Activation → List ℕ
activation_change None = codes "-"
activation_change (Some a) = activation_letter a

abbrev pub redirect_change : Redirect → List ℕ
redirect_change redirect.Keep = codes "-"
redirect_change redirect.None = codes "none"
redirect_change (redirect.To member) = decimal member
