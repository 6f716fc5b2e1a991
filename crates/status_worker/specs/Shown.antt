-- The page of a status worker, as its query asks for it.
use Rattle.std.specs.Prelude.{ℕ, Bool, List}
use Rattle.status_worker.specs.declared.mime.Mime.{Mime}
use Rattle.status_worker.specs.declared.mime.Mime.TheVariants as mime
use Rattle.status_worker.specs.declared.page.PagePart.{PagePart}
use Rattle.status_worker.specs.Metrics.{metrics_page}
use Rattle.status_worker.specs.Page.{page_of}
use Rattle.status_worker.specs.Table.{html_page}

abbrev pub shown : Mime → (may_change : Bool) → List PagePart → List ℕ
shown mime.Txt may_change parts = page_of parts
shown mime.Html may_change parts = html_page may_change parts
shown mime.Prom may_change parts = metrics_page parts
