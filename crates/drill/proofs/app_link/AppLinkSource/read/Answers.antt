-- The copied bytes are the next ones that the application sent.
use Rattle.std.proofs.Common.{◌≡◌, ℕ, List, ◌++◌, take, ap, ◌∙◌}
use Rattle.jk_io.proofs.PieceLaws.{got_front}
use Rattle.drill.specs.Wires.{AppLinkState}
use Rattle.drill.proofs.app_link.AppLinkSource.read.Goals as goal
use Rattle.drill.proofs.app_link.AppLinkSource.read.Goals.{then-self-answered+in_ok-serve, else-self-answered}

pub returns-clause-got : goal.returns-clause-got
returns-clause-got c =
    let received : c.if-self-answered.self.received ≡ c.args.self.now.received =
    elim c.if-self-answered.branch [
      | then-self-answered+in_ok-serve w ↦ ap (λ (l : AppLinkState). l.received) w.self-is ∙ w.serve.ensures.same.1
      | else-self-answered w ↦ ap (λ (l : AppLinkState). l.received) w.self-is
    ] in
    got_front _ _ c.copy_front-n.new.buf c.self-2.inside.given c.copy_front-n.result c.answered-2.ensures c.copy_front-n.ensures.copied
    ∙ ap (λ (bytes : List ℕ). bytes ++ take c.copy_front-n.result c.copy_front-n.new.buf)
    (ap (λ (l : AppLinkState). l.received) c.self-2.view_is ∙ received)
