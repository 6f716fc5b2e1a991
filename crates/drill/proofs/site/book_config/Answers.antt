use Rattle.drill.proofs.SiteLaws.{not_refused}
use Rattle.drill.proofs.site.book_config.Goals as goal

pub unreachable-requires : goal.unreachable-requires
unreachable-requires c = not_refused c.in_ok-members.members _ c.in_ok-members.ensures c.in-Err.ensures.refused
