use Rattle.std.proofs.Common.{[], ◌∷◌, refl}
use Rattle.std.proofs.lemmas.Result.{IfOk-weaker}
use Rattle.play_script.specs.Drafts.{names_in}
use Rattle.play_script.specs.Steps.{step_of}
use Rattle.plain_commands.specs.Endings.{status_of}
use Rattle.plain_commands.proofs.ScriptStartLemmas.{started}
use Rattle.plain_commands.proofs.play.start_with.Goals as goal

pub returns : goal.returns
returns c =
    let draft = c.args.begun.now.draft in
    IfOk-weaker c.run_over.result _ _
    (λ o run. started (step_of (names_in draft) c.args.line.now) draft (names_in draft) c.args.config c.in_ok-book.book
    (c.args.line.now ∷ c.args.lines.now) c.args.begun.now.number c.args.begun.now.at [] o.text (status_of o.ending)
    c.requires.full c.requires.config c.in_ok-book.ensures.start refl refl run) c.run_over.ensures
