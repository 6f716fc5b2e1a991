use Rattle.std.proofs.Common.{◌+◌, ◌/◌, ◌%◌, Bool, cond, ap, ◌∙◌, arith, lt-ltb, le-ltb}
use Rattle.drill.proofs.RequestLaws.{share}
use Rattle.drill.proofs.answered.share_of.Goals as goal

pub returns-then-thread-plan : goal.returns-then-thread-plan
returns-then-thread-plan c =
    let plan = c.args.plan in
    let mine =
    share plan.threads c.args.thread plan.requests c.requires.within
    ∙ ap (λ (b : Bool). plan.requests / plan.threads + cond b 1 0) (lt-ltb c.args.thread (plan.requests % plan.threads) c.if-thread-plan.true) in
    omega (arith, mine)

pub returns-else-thread-plan : goal.returns-else-thread-plan
returns-else-thread-plan c =
    let plan = c.args.plan in
    let above = c.if-thread-plan.false in
    let mine =
    share plan.threads c.args.thread plan.requests c.requires.within
    ∙ ap (λ (b : Bool). plan.requests / plan.threads + cond b 1 0) (le-ltb c.args.thread (plan.requests % plan.threads) (omega (arith, above))) in
    omega (arith, mine)
