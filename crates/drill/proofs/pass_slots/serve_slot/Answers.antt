-- The desk keeps its caller, and holds what it held.
use Rattle.std.proofs.Common.{◌∙◌, refl}
use Rattle.drill.proofs.pass_slots.serve_slot.Goals as goal

pub serve_thread-served-requires-clause-caller : goal.serve_thread-served-requires-clause-caller
serve_thread-served-requires-clause-caller g c = rw c.args.slot.now.caller refl

pub invariant_of-slot : goal.invariant_of-slot
invariant_of-slot g c =
    let kept = c.serve_thread-served.ensures.kept in
    record {
      caller = kept.caller ∙ c.args.slot.now.caller;
      none_held = kept.held ∙ c.args.slot.now.none_held;
      sized = kept.sizes ∙ c.args.slot.now.sized;
    }
