use Rattle.std.proofs.Common.{◌++◌, ◌∷◌, [], List, ap, sym, ◌∙◌, arith}
use Rattle.std.proofs.lemmas.List.FromFn.{map-range_with_len_more}
use Rattle.lb_model.specs.declared.change.Command.{Command}
use Rattle.lb_model.specs.declared.change.Command.TheVariants as command
use Rattle.status_worker.proofs.book_commands.resets.Goals as goal

pub loop-member-preserved : goal.loop-member-preserved
loop-member-preserved c =
    let member = c.loop-member.member in
    c.in_ok-push.ensures.items
    ∙ ap (λ (commands : List Command). commands ++ command.Reset member ∷ []) c.loop-member.invariant
    ∙ sym (map-range_with_len_more command.Reset 0 member member (omega arith))
