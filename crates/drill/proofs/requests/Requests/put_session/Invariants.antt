-- The session's requests so far.
use Rattle.std.proofs.Common.{◌≡◌, ◌<◌, ◌≤◌, ◌++◌, true, false, length, take, drop}
use Rattle.drill.specs.Requests.{texts_of}
use Rattle.drill.proofs.requests.Requests.put_session.Given as goal

abbrev pub invariant-requests : goal.invariant-requests
invariant-requests l = record {
  text : l.text ≡ l.fn.text ++ texts_of l.fn.self.seed (take l.counter l.fn.self.left);
  left : l.self.left ≡ drop l.counter l.fn.self.left;
  seed : l.self.seed ≡ l.fn.self.seed;
  within : l.counter ≤ length l.fn.self.left;
  some : 0 < l.counter → l.some ≡ true;
  none : l.counter ≡ 0 → l.some ≡ false;
}
