-- A desk over a lock has no fixed caller.
use Rattle.drill.proofs.slots.serve_slot.Goals as goal

pub serve_thread-served-requires-clause-caller : goal.serve_thread-served-requires-clause-caller
serve_thread-served-requires-clause-caller g c = rw c.args.slot.now.whole.no_caller tt
