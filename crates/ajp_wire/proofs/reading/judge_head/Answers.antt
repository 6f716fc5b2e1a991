use Rattle.std.proofs.Common.{◌≡◌, refl, length, arith, sym}
use Rattle.ajp_wire.proofs.PacketLaws.{part-before_size}
use Rattle.ajp_wire.proofs.reading.judge_head.Goals as goal

pub returns-else-read-eq0-clause-head : goal.returns-else-read-eq0-clause-head
returns-else-read-eq0-clause-head c =
    let unfilled : length c.args.came.now ≡ 4 → ⊥ = λ four. let full = c.requires.full.1 four in cc in
    let some = c.if-read-eq0.false in
    let within = c.requires.short in
    ((omega arith, part-before_size _ _ _ (sym c.if-not-begins_packet.ensures) (omega arith) (λ i. omega (arith, c.type_inv.came i))), refl)

pub returns-in-Fault-clause-head : goal.returns-in-Fault-clause-head
returns-in-Fault-clause-head c =
    let unfilled : length c.args.came.now ≡ 4 → ⊥ = λ four. let full = c.requires.full.1 four in cc in
    let within = c.requires.short in
    (part-before_size _ _ _ (sym c.if-not-begins_packet.ensures) (omega arith) (λ i. omega (arith, c.type_inv.came i)), refl)

pub returns-in-NoMemory-clause-head : goal.returns-in-NoMemory-clause-head
returns-in-NoMemory-clause-head c =
    let unfilled : length c.args.came.now ≡ 4 → ⊥ = λ four. let full = c.requires.full.1 four in cc in
    let within = c.requires.short in
    (part-before_size _ _ _ (sym c.if-not-begins_packet.ensures) (omega arith) (λ i. omega (arith, c.type_inv.came i)), refl)
