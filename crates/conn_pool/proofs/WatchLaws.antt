-- A watch looks when it is due.
use Rattle.std.proofs.Common.{ℕ, Option, Some, None, ap}
use Rattle.std.specs.Prelude.{option_map}
use Rattle.jk_io.specs.Looks.{LooksIfDue}
use Rattle.conn_pool.specs.Watched.{RestsAt, times_of}
use Rattle.conn_pool.specs.declared.watch.Watch.{Watch}

pub looks_so : (before : Option Watch) (now : ℕ) (after : Option Watch) → RestsAt before now after
    → LooksIfDue (option_map times_of before) now (option_map times_of after)
looks_so None now after rests = ap (option_map times_of) rests
looks_so (Some before) now None rests = absurd rests
looks_so (Some before) now (Some after) rests =
    (λ due. ap (λ (w : Watch). Some (times_of w)) (rests.due due), λ early. ap (λ (w : Watch). Some (times_of w)) (rests.early early))
