use Rattle.std.proofs.Common.{◌∙◌, not, sym, ap}
use Rattle.std.specs.Option.{is_none}
use Rattle.play_script.specs.Steps.{step_of}
use Rattle.plain_commands.proofs.play.start.Goals as goal

pub start_with-requires-clause-full : goal.start_with-requires-clause-full
start_with-requires-clause-full c =
    ap is_none (sym (c.step_of.ensures.value ∙ ap (λ n. step_of n c.args.line.now) c.names.ensures)) ∙ ap not c.is_none.ensures
    ∙ ap (λ b. not (not b)) c.if-is_none.false
