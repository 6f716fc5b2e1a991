-- The figures behind nothing.
use Rattle.std.proofs.Common.{ℕ, List, ◌++◌, ap, ◌∙◌}
use Rattle.status_worker.specs.Metrics.{metrics_page}
use Rattle.status_worker.specs.declared.page.PagePart.{PagePart}
use Rattle.status_worker.proofs.page.render_figures.Goals as goal

pub returns : goal.returns
returns c =
    c.in_ok-put_metrics_page.ensures ∙ ap (λ (t : List ℕ). t ++ metrics_page c.as_slice.result.now) c.new-page.ensures
    ∙ ap (λ (parts : List PagePart). metrics_page parts) c.as_slice.ensures
