use Rattle.std.proofs.Common.{refl, sym, ◌∙◌}
use Rattle.std.proofs.lemmas.Result.{err_from_is_err_and}
use Rattle.ajp_container.proofs.StepLaws.{no-fewer}
use Rattle.ajp_container.proofs.BodyLaws.{risen-then, body-enough, asks-started, ask-failed, piece-failed, piece-added, body-ended}
use Rattle.ajp_container.proofs.body.add_rest.Goals as goal

pub asks-init : goal.asks-init
asks-init g c = record { asked = asks-started _ _ _ _; same = refl }

pub returns-in_err-ask-clause-took : goal.returns-in_err-ask-clause-took
returns-in_err-ask-clause-took g c =
    let p = err_from_is_err_and c.from_residual.result c.from_residual.ensures.1 in
    let few = rw (c.content_length-named.ensures, c.len.ensures) at (sym c.is_enough.ensures ∙ c.asks-test.true) in
    rw (p.1, p.2) (ask-failed _ _ _ _ _ _ _ _ c.asks.invariant.asked c.requires few c.in_err-ask.ensures.sent)

pub returns-in_err-len-clause-took : goal.returns-in_err-len-clause-took
returns-in_err-len-clause-took g c =
    let p = err_from_is_err_and c.from_residual-in_err-len.result c.from_residual-in_err-len.ensures.1 in
    let few = rw (c.content_length-named.ensures, c.len.ensures) at (sym c.is_enough.ensures ∙ c.asks-test.true) in
    rw (p.1, p.2)
    (piece-failed _ _ _ _ _ _ _ _ _ c.asks.invariant.asked c.requires few c.in_ok-ask.ensures.sent c.in_err-len.ensures.took)

pub returns-then-len-eq0-clause-took : goal.returns-then-len-eq0-clause-took
returns-then-len-eq0-clause-took g c =
    let few = rw (c.content_length-named.ensures, c.len.ensures) at (sym c.is_enough.ensures ∙ c.asks-test.true) in
    body-ended _ _ _ _ _ _ _ _ _ _ c.asks.invariant.asked c.requires few c.in_ok-ask.ensures.sent c.in_ok-len.ensures.took c.if-len-eq0.true

pub asks-preserved : goal.asks-preserved
asks-preserved g c =
    let few = rw (c.content_length-named.ensures, c.len.ensures) at (sym c.is_enough.ensures ∙ c.asks-test.true) in
    record {
      asked =
          piece-added _ _ _ _ _ _ _ _ _ _ c.asks.invariant.asked c.requires few c.in_ok-ask.ensures.sent c.in_ok-len.ensures.took c.if-len-eq0.false;
      same = c.in_ok-len.ensures.same ∙ c.in_ok-ask.ensures.same ∙ c.asks.invariant.same;
    }

pub returns-clause-took : goal.returns-clause-took
returns-clause-took g c =
    let enough = rw (c.content_length-named.ensures, c.len.ensures) at (sym c.is_enough.ensures ∙ c.asks-test.false) in
    body-enough _ _ _ _ _ _ c.asks.invariant.asked enough

-- ---- what each exit keeps

pub returns-clause-no_fewer : goal.returns-clause-no_fewer
returns-clause-no_fewer g c = no-fewer _ _ _ _ c.asks.invariant.asked.asked.goes

pub returns-in_err-ask-clause-no_fewer : goal.returns-in_err-ask-clause-no_fewer
returns-in_err-ask-clause-no_fewer g c = risen-then _ _ _ (no-fewer _ _ _ _ c.asks.invariant.asked.asked.goes) c.ask.ensures.no_fewer

pub returns-in_err-len-clause-no_fewer : goal.returns-in_err-len-clause-no_fewer
returns-in_err-len-clause-no_fewer g c =
    risen-then _ _ _ (risen-then _ _ _ (no-fewer _ _ _ _ c.asks.invariant.asked.asked.goes) c.ask.ensures.no_fewer) c.take_piece.ensures.no_fewer

pub returns-then-len-eq0-clause-no_fewer : goal.returns-then-len-eq0-clause-no_fewer
returns-then-len-eq0-clause-no_fewer g c =
    risen-then _ _ _ (risen-then _ _ _ (no-fewer _ _ _ _ c.asks.invariant.asked.asked.goes) c.ask.ensures.no_fewer) c.take_piece.ensures.no_fewer

pub returns-clause-same : goal.returns-clause-same
returns-clause-same g c = c.asks.invariant.same

pub returns-in_err-ask-clause-same : goal.returns-in_err-ask-clause-same
returns-in_err-ask-clause-same g c = c.ask.ensures.same ∙ c.asks.invariant.same

pub returns-in_err-len-clause-same : goal.returns-in_err-len-clause-same
returns-in_err-len-clause-same g c = c.take_piece.ensures.same ∙ c.ask.ensures.same ∙ c.asks.invariant.same

pub returns-then-len-eq0-clause-same : goal.returns-then-len-eq0-clause-same
returns-then-len-eq0-clause-same g c = c.take_piece.ensures.same ∙ c.ask.ensures.same ∙ c.asks.invariant.same
