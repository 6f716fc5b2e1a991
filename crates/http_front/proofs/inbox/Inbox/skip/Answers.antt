use Rattle.std.proofs.Common.{arith, ℕ, ◌+◌, ◌≤◌, length, ap}
use Rattle.std.proofs.lemmas.List.Edits.{length-between}
use Rattle.http_front.proofs.InboxLemmas.{between-skip}
use Rattle.http_front.proofs.inbox.Inbox.skip.Goals as goal

pub returns : goal.returns
returns c =
    let i = c.self.inside in
    let kept = c.self.invariant in
    let within : i.start + c.args.n ≤ i.end = omega (arith, kept.0, kept.1, kept.2, c.requires, length-between i.buffer.items i.start i.end (omega (arith, kept.1, kept.2)), ap (λ xs. length {A = ℕ} xs) c.self.view_is) in
    rw (← c.self.view_is) (between-skip i.start i.end c.args.n i.buffer.items within)
