-- Behind which lock a Site is.
use Rattle.atomic_table.specs.Seated.{TableId}
use Rattle.lb_shared.specs.declared.shared_site.SharedSite.{SharedSite}

abbrev pub lock_of : {L R : Type 0} → SharedSite L R → TableId
lock_of site = site.lock.table.shared.table_id
