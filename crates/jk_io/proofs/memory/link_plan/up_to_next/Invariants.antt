use Rattle.std.proofs.Common.{ℕ, ◌+◌, ◌<◌, ◌≤◌, get_or}
use Rattle.jk_io.proofs.memory.link_plan.up_to_next.Given as goal

-- the room reaches to none of the numbers so far that lie ahead
abbrev pub invariant-loop-number : goal.invariant-loop-number
invariant-loop-number l = record {
  some : 0 < l.room;
  within : l.room ≤ l.want;
  across : (k : ℕ) → k < l.number-index → l.done < get_or l.number-items k 0 → l.done + l.room ≤ get_or l.number-items k 0;
}
