-- All requests of the thread were made, and nothing was counted before.
use Rattle.status_worker.proofs.DeskLaws.{untouched}
use Rattle.drill.proofs.CountLaws.{all_of}
use Rattle.drill.proofs.thread.serve_thread.Goals as goal

pub returns-in_err-from_slice-clause-kept : goal.returns-in_err-from_slice-clause-kept
returns-in_err-from_slice-clause-kept g c = untouched _ _

pub returns-clause-counted : goal.returns-clause-counted
returns-clause-counted g c = (
  _,
  all_of _ _ _ _ _ _ _ _ _ _ c.in_ok-serve_requests.ensures.counted c.new-requests.ensures.seed c.new-requests.ensures.left c.new-bodies.ensures c.bytes.ensures,
)
