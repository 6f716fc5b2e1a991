-- The first place, by the places before it.
use Rattle.std.proofs.Common.{arith, ◌==◌}
use Rattle.std.proofs.lemmas.Bool.{eq-eqb, ne_eqb}
use Rattle.std.proofs.lemmas.List.{at_drop_all}
use Rattle.std.specs.List.{position_or_len}
use Rattle.http_front.proofs.PathLemmas.{position-here, position-later}
use Rattle.http_front.proofs.path.find_byte.Goals as goal

pub returns-then-b-byte-clause-found : goal.returns-then-b-byte-clause-found
returns-then-b-byte-clause-found c =
    let here = position-here (λ b. b == c.args.byte) c.args.bytes.now c.loop-at.at (omega arith) (eq-eqb _ _ c.if-b-byte.true) in
    (omega (arith, c.loop-at.invariant, here), omega arith)

pub loop-at-preserved : goal.loop-at-preserved
loop-at-preserved c =
    let later = position-later (λ b. b == c.args.byte) c.args.bytes.now c.loop-at.at (omega arith) (ne_eqb _ _ c.if-b-byte.false) in
    omega (arith, c.loop-at.invariant, later)

pub returns-clause-none : goal.returns-clause-none
returns-clause-none c =
    let end = at_drop_all (position_or_len (λ b. b == c.args.byte)) c.args.bytes.now c.loop-at.at (omega arith) in
    omega (arith, c.loop-at.invariant, end)
