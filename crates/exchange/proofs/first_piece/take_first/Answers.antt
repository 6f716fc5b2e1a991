-- The take of the first piece: the piece, or why there is none.
use Rattle.std.proofs.Common.{arith, ◌∙◌}
use Rattle.exchange.proofs.FirstLaws.{calm_first, fails_first, takes_first, uses_first}
use Rattle.exchange.proofs.first_piece.take_first.Goals as goal

pub returns-in-Ok-clause-ok : goal.returns-in-Ok-clause-ok
returns-in-Ok-clause-ok g c = rw (c.first_len-len.ensures.value, c.await_next.ensures.same_bytes.0) at (takes_first _ _ _ _ c.in-Ok.ensures.ok c.requires.whole.taken (omega arith))

pub returns-in-Err-clause-err : goal.returns-in-Err-clause-err
returns-in-Err-clause-err g c =
    rw c.end_of.ensures
    (rw (c.await_next.ensures.same_bytes.0, c.await_next.ensures.same.1) at
    (fails_first c.args.plan c.args.ends.now _ _ _ c.in-Err.fault c.in-Err.ensures.err c.requires.whole.place c.first_len-len.ensures.value c.if-len-eq0.false c.requires.whole.going))

pub returns-in-Err-clause-used : goal.returns-in-Err-clause-used
returns-in-Err-clause-used g c = rw c.await_next.ensures.same_bytes.0 at (uses_first _ _ _ c.in-Err.fault c.in-Err.ensures.err)

pub returns-in-Ok-clause-steady : goal.returns-in-Ok-clause-steady
returns-in-Ok-clause-steady g c = c.in-Ok.ensures.ok.on.steady ∙ c.await_next.ensures.same.1

pub returns-in-Err-clause-calm : goal.returns-in-Err-clause-calm
returns-in-Err-clause-calm g c = λ calm. calm_first _ _ _ c.in-Err.fault _ c.in-Err.ensures.err c.end_of.ensures calm ∙ c.await_next.ensures.same.1

pub returns-in-Ok-clause-same : goal.returns-in-Ok-clause-same
returns-in-Ok-clause-same g c = (
  c.in-Ok.ensures.ok.on.sent ∙ c.await_next.ensures.same_bytes.2,
  c.take.ensures.beside ∙ c.await_next.ensures.same.0,
)

pub returns-in-Err-clause-same : goal.returns-in-Err-clause-same
returns-in-Err-clause-same g c = (
  c.in-Err.ensures.err.sent ∙ c.await_next.ensures.same_bytes.2,
  c.take.ensures.beside ∙ c.await_next.ensures.same.0,
)

pub returns-in-Ok-clause-no_fewer : goal.returns-in-Ok-clause-no_fewer
returns-in-Ok-clause-no_fewer g c = omega (arith, c.in-Ok.ensures.ok.on.steady, c.await_next.ensures.same.1)

pub returns-in-Err-clause-no_fewer : goal.returns-in-Err-clause-no_fewer
returns-in-Err-clause-no_fewer g c = omega (arith, c.in-Err.ensures.err.no_fewer, c.await_next.ensures.same.1)
