-- How single values are printed.
use Rattle.std.specs.Prelude.{ℕ, Bool, List, codes, if◌then◌else◌}
use Rattle.lb_model.specs.declared.member.Activation.{Activation}
use Rattle.lb_model.specs.declared.member.Activation.TheVariants as activation
use Rattle.lb_model.specs.declared.member.Method.{Method}
use Rattle.lb_model.specs.declared.member.Method.TheVariants as method

abbrev pub method_letter : Method → List ℕ
method_letter method.Request = codes "R"
method_letter method.Session = codes "S"
method_letter method.Traffic = codes "T"
method_letter method.Busyness = codes "B"

abbrev pub activation_words : Activation → List ℕ
activation_words activation.Active = codes " activation A"
activation_words activation.Disabled = codes " activation D"
activation_words activation.Stopped = codes " activation S"

abbrev pub flag : Bool → List ℕ
flag b = if b then codes "1" else codes "0"
