use Rattle.drill.proofs.WireLaws.{run_more}
use Rattle.drill.proofs.app_link.AppLink.serve.Goals as goal

pub invariant_of-self : goal.invariant_of-self
invariant_of-self c =
    run_more c.self.inside.app.now c.self.inside.wire c.serve_ajp-end.new.link c.pass_over.new.self c.serve_ajp-end.result c.self.inside.given
    c.self.invariant.0 c.self.invariant.1 c.serve_ajp-end.ensures.talk c.serve_ajp-end.ensures.same c.pass_over.ensures
