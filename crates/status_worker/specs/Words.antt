-- How single values stand on the page.
use Rattle.std.specs.Prelude.{ℕ, List, codes}
use Rattle.lb_model.specs.declared.member.Activation.{Activation}
use Rattle.lb_model.specs.declared.member.Activation.TheVariants as activation
use Rattle.lb_model.specs.declared.member.Method.{Method}
use Rattle.lb_model.specs.declared.member.Method.TheVariants as method
use Rattle.lb_model.specs.declared.state.MemberState.{MemberState}
use Rattle.lb_model.specs.declared.state.MemberState.TheVariants as state
use Rattle.status_worker.specs.declared.page.BalancerType.{BalancerType}
use Rattle.status_worker.specs.declared.page.BalancerType.TheVariants as kind

abbrev pub type_word : BalancerType → List ℕ
type_word kind.Lb = codes "lb"
type_word kind.Ajp13 = codes "ajp13"

abbrev pub method_letter : Method → List ℕ
method_letter method.Request = codes "R"
method_letter method.Session = codes "S"
method_letter method.Traffic = codes "T"
method_letter method.Busyness = codes "B"

abbrev pub activation_letter : Activation → List ℕ
activation_letter activation.Active = codes "A"
activation_letter activation.Disabled = codes "D"
activation_letter activation.Stopped = codes "S"

abbrev pub state_word : MemberState → List ℕ
state_word state.Ok = codes "ok"
state_word (state.Error at) = codes "error"
state_word state.Recover = codes "recover"
state_word (state.Probe ticket) = codes "probe"

-- ---- in words, as the table has them

abbrev pub activation_word : Activation → List ℕ
activation_word activation.Active = codes "active"
activation_word activation.Disabled = codes "disabled"
activation_word activation.Stopped = codes "stopped"

abbrev pub state_phrase : MemberState → List ℕ
state_phrase state.Ok = codes "ok"
state_phrase (state.Error at) = codes "in error"
state_phrase state.Recover = codes "to be tried again"
state_phrase (state.Probe ticket) = codes "on trial"
