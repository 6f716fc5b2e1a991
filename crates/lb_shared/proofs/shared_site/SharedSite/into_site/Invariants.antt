-- The seats so far are one, which claims what they claimed.
use Rattle.std.proofs.Common.{◌≡◌, ℕ, List, [], ◌++◌}
use Rattle.std.specs.List.{All}
use Rattle.lb_shared.specs.Histories.{SeatNote}
use Rattle.lb_shared.proofs.LeftLaws.{IsTold, joined_view}
use Rattle.lb_shared.proofs.shared_site.SharedSite.into_site.Given as goal

abbrev pub invariant-loop-other : goal.invariant-loop-other
invariant-loop-other g l = record {
  here : All (λ s. s.lock ≡ l.fn.self.lock.table.shared.table_id) l.other-iterator.rest.items;
  table : l.seat.table_id ≡ l.fn.self.lock.table.shared.table_id;
  done : List SeatNote;
  told : All (IsTold g.L.SiteName.starts) done;
  split : done ++ l.other-iterator.rest.items ≡ l.fn.seats;
  number : ℕ;
  joined : l.seat.me ≡ (joined_view number done, []);
}
