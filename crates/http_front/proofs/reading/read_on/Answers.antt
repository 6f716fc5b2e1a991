-- The limit is reached, or a read was refused.
use Rattle.std.proofs.Common.{◌<◌, length, refl, sym, subst, arith}
use Rattle.http_front.specs.Search.{IsStop}
use Rattle.http_front.specs.declared.answers.HeadError.{HeadError}
use Rattle.http_front.proofs.MakesLemmas.{stop-read}
use Rattle.http_front.proofs.reading.read_on.Goals as goal

pub returns-then-len-eq-MAX_HEAD_BYTES-clause-stopped : goal.returns-then-len-eq-MAX_HEAD_BYTES-clause-stopped
returns-then-len-eq-MAX_HEAD_BYTES-clause-stopped g c =
    let P : HeadError → Type 0 = λ e. IsStop c.args.inbox.now e in
    subst P (sym c.refused.ensures) (refl, refl, omega (arith, c.len.ensures.len, c.if-len-eq-MAX_HEAD_BYTES.true))

pub returns-in-Err-clause-stopped : goal.returns-in-Err-clause-stopped
returns-in-Err-clause-stopped g c =
    let short : length c.args.inbox.now < 16384 = omega (arith, c.len.ensures.len, c.len.ensures.few, c.if-len-eq-MAX_HEAD_BYTES.false) in
    stop-read c.args.inbox.now c.in-Err.error c.from.result c.from.ensures short

pub returns-in-Err-clause-unasked : goal.returns-in-Err-clause-unasked
returns-in-Err-clause-unasked g c = λ full. absurd (omega (arith, full, c.len.ensures.len, c.len.ensures.few, c.if-len-eq-MAX_HEAD_BYTES.false))

pub returns-in-Ok-clause-unasked : goal.returns-in-Ok-clause-unasked
returns-in-Ok-clause-unasked g c = λ full. absurd (omega (arith, full, c.len.ensures.len, c.len.ensures.few, c.if-len-eq-MAX_HEAD_BYTES.false))
