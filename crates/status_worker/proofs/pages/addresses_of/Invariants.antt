use Rattle.std.proofs.Common.{◌≡◌, map, take}
use Rattle.status_worker.specs.Pages.{address_of}
use Rattle.status_worker.proofs.pages.addresses_of.Given as goal

abbrev pub invariant-loop-end : goal.invariant-loop-end
invariant-loop-end l = l.addresses ≡ map address_of (take l.end-index l.ends)
