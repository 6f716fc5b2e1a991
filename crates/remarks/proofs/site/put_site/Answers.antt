use Rattle.remarks.proofs.AddedLemmas.{adds_some}
use Rattle.remarks.proofs.SiteLemmas.{says_found}
use Rattle.remarks.proofs.site.put_site.Goals as goal

pub returns : goal.returns
returns g c =
    adds_some c.site_remarks.result _ _ _ _ (rw c.as_slice.ensures at c.site_remarks.ensures)
    (says_found c.args.effects c.args.found.now c.args.reads.now c.first-item.result c.first_name.result.now c.in-len1-up.len_at_least c.first-item.is c.first_name.ensures)
