-- Where each ticket came back.
use Rattle.std.specs.Prelude.{◌≡◌, ℕ, ◌+◌, ◌<◌, ◌==◌, ◌&&◌, false, true, List, length, Option, Some, None, slice_get, slice_index_or}
use Rattle.std.specs.List.{list_any}
use Rattle.lb_model.specs.Tickets.{gives_back, is_returned}
use Rattle.lb_model.specs.declared.journal.Entry.{Entry}
use Rattle.lb_model.specs.declared.opening.Opening.{Opening}

-- The number of the kept entry that returned the ticket, if there is one.
abbrev pub IsReturnedAt : List Entry → (ticket : ℕ) → Option ℕ → Type 0
IsReturnedAt p ticket None = is_returned ticket p ≡ false
IsReturnedAt p ticket (Some number) = list_any (λ e. e.seq == number && gives_back ticket e.call) p ≡ true

-- The number of each ticket's Return after p: `kept` by the place of the entry that made the ticket, `early` by the
-- ticket's place in the opening.
pub record AreReturns (o : Opening) (p : List Entry) (kept early : List (Option ℕ)) : Type 0 where
  pub whole : length kept ≡ length p
  pub own : (k : ℕ) → k < length p → IsReturnedAt p (o.next + k) (slice_index_or kept k None)
  pub early_whole : length early ≡ length o.out
  pub older : (i : ℕ) (x : ℕ × ℕ) → slice_get o.out i ≡ Some x → IsReturnedAt p x.0 (slice_index_or early i None)
