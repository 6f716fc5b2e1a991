-- When a request whose talk failed may be sent once more.
use Rattle.std.specs.Prelude.{ℕ, ◌/◌, ◌%◌, ◌==◌, Bool, false, not, ◌&&◌, ◌||◌}
use Rattle.ajp_reply.specs.declared.stage.Stage.{Stage}
use Rattle.forwarding.specs.declared.method.MethodKind.{MethodKind}
use Rattle.forwarding.specs.declared.method.MethodKind.TheVariants as method
use Rattle.forwarding.specs.declared.options.RecoveryOption.{RecoveryOption}
use Rattle.forwarding.specs.declared.options.RecoveryOption.TheVariants.{NotOnceGot, NotOnceHeaders, CloseWithClient, AlwaysHead, AlwaysGet}

-- what an option adds to `recovery_options`
abbrev pub number_of : RecoveryOption → ℕ
number_of NotOnceGot = 1
number_of NotOnceHeaders = 2
number_of CloseWithClient = 4
number_of AlwaysHead = 8
number_of AlwaysGet = 16

-- a sum of options has this one among them
abbrev pub is_on : ℕ → RecoveryOption → Bool
is_on sum option = sum / number_of option % 2 == 1

-- a method that is always recovered, however far the talk had come
abbrev pub is_always_recovered : (options : ℕ) → MethodKind → Bool
is_always_recovered options method.Head = is_on options AlwaysHead
is_always_recovered options method.Get = is_on options AlwaysGet
is_always_recovered options method.Other = false

-- the talk hadn't come to a place after which the options forbid another
abbrev pub is_early_enough : (options : ℕ) → Stage → Bool
is_early_enough options stage =
    (not stage.got || not (is_on options NotOnceGot)) && (not stage.headers || not (is_on options NotOnceHeaders))

-- Another try is allowed: no byte of the reply was passed, no byte beyond the first piece was taken, and the
-- method is always recovered or the talk broke off early enough.
abbrev pub may_retry_of : (options : ℕ) → MethodKind → Stage → Bool
may_retry_of options method' stage =
    not stage.passed && (not stage.beyond && (is_always_recovered options method' || is_early_enough options stage))
