use Rattle.jk_server.proofs.workers.put_slot.Goals as goal

pub returns-clause-slot : goal.returns-clause-slot
returns-clause-slot g c = record { item = _; added = c.push_reserved.ensures.items; is = c.part_of.ensures }
