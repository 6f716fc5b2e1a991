use Rattle.std.proofs.Common.{ℕ, List, ◌∙◌, ap}
use Rattle.site_workers.specs.Site.{with_lb}
use Rattle.site_workers.proofs.WorkerLemmas.{on_ok}
use Rattle.site_workers.proofs.workers.put_lb.Goals as goal

pub returns : goal.returns
returns c =
    on_ok c.add_lb.result _ _ c.add_lb.ensures (λ same. same ∙ ap (λ (n : List ℕ). with_lb c.args.draft.now n c.args.lb) c.in_ok-from_slice.ensures)
