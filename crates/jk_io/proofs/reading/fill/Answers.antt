-- A read fills the buffer on.
use Rattle.std.proofs.Common.{◌∙◌, refl, ap, inl, inr, Err, arith}
use Rattle.std.proofs.lemmas.Grind.{common_steps}
use Rattle.jk_io.proofs.PieceLaws.{got_next, gave_next, got_none, gave_none, nothing_gave, nothing_got}
use Rattle.jk_io.proofs.reading.fill.Goals as goal

pub loop-count-preserved : goal.loop-count-preserved
loop-count-preserved g c =
    let e = c.in-Ok.ensures in
    let before = c.loop-count.invariant in
    record {
      within = grind (arith, common_steps, e.count, before.within);
      gave = gave_next _ _ _ c.loop-count.buf c.read.new.buf c.loop-count.count _ c.in-Ok.more before.within e.count before.gave e.gave;
      got = got_next _ _ _ c.loop-count.buf c.read.new.buf c.loop-count.count _ c.in-Ok.more before.within e.count before.got e.got;
      sent = e.same.0 ∙ before.sent;
      beside = e.same.1 ∙ before.beside;
      steady = e.steady refl ∙ before.steady;
    }

pub returns-in-Err-clause-end : goal.returns-in-Err-clause-end
returns-in-Err-clause-end g c = λ is. absurd (c.stop_of.ensures.refused.1 is)

pub returns-in-Err-clause-fault : goal.returns-in-Err-clause-fault
returns-in-Err-clause-fault g c = λ is. rw c.loop-count.invariant.steady at c.in-Err.ensures.cause.failed (ap Err (c.stop_of.ensures.fault is))

pub returns-in-Err-clause-wanted : goal.returns-in-Err-clause-wanted
returns-in-Err-clause-wanted g c = λ is. c.in-Err.ensures.cause.wanted (ap Err (c.stop_of.ensures.wanted is)) ∙ c.loop-count.invariant.steady

pub returns-in-Err-clause-steady : goal.returns-in-Err-clause-steady
returns-in-Err-clause-steady g c = elim [
  | inl full ↦ absurd (c.stop_of.ensures.refused.0 full)
  | inr end ↦ absurd (c.stop_of.ensures.refused.1 end)
]

pub returns-in-Err-clause-gave : goal.returns-in-Err-clause-gave
returns-in-Err-clause-gave g c =
    let before = c.loop-count.invariant in
    gave_none _ _ _ c.loop-count.buf c.read.new.buf c.loop-count.count _ before.within before.gave c.in-Err.ensures.kept_on_error.0

pub returns-in-Err-clause-got : goal.returns-in-Err-clause-got
returns-in-Err-clause-got g c =
    let before = c.loop-count.invariant in
    got_none _ _ _ c.loop-count.buf c.read.new.buf c.loop-count.count _ before.within before.got c.in-Err.ensures.kept_on_error.1

pub returns-in-Err-clause-same : goal.returns-in-Err-clause-same
returns-in-Err-clause-same g c =
    let before = c.loop-count.invariant in
    (c.in-Err.ensures.same.0 ∙ before.sent, c.in-Err.ensures.same.1 ∙ before.beside)

pub returns-in-Ok-eq0-clause-gave : goal.returns-in-Ok-eq0-clause-gave
returns-in-Ok-eq0-clause-gave g c =
    let before = c.loop-count.invariant in
    let end = c.in-Ok-eq0 in
    gave_none _ _ _ c.loop-count.buf c.read.new.buf c.loop-count.count _ before.within before.gave
    (nothing_gave _ _ c.read.new.buf _ end.field-0-test end.ensures.gave)

pub returns-in-Ok-eq0-clause-got : goal.returns-in-Ok-eq0-clause-got
returns-in-Ok-eq0-clause-got g c =
    let before = c.loop-count.invariant in
    let end = c.in-Ok-eq0 in
    got_none _ _ _ c.loop-count.buf c.read.new.buf c.loop-count.count _ before.within before.got
    (nothing_got _ _ c.read.new.buf _ end.field-0-test end.ensures.got)

pub returns-in-Ok-eq0-clause-end : goal.returns-in-Ok-eq0-clause-end
returns-in-Ok-eq0-clause-end g c = λ _. c.in-Ok-eq0.ensures.end c.in-Ok-eq0.field-0-test

pub returns-in-Ok-eq0-clause-same : goal.returns-in-Ok-eq0-clause-same
returns-in-Ok-eq0-clause-same g c =
    let before = c.loop-count.invariant in
    (c.in-Ok-eq0.ensures.same.0 ∙ before.sent, c.in-Ok-eq0.ensures.same.1 ∙ before.beside)

pub returns-in-Ok-eq0-clause-steady : goal.returns-in-Ok-eq0-clause-steady
returns-in-Ok-eq0-clause-steady g c = λ _. c.in-Ok-eq0.ensures.steady refl ∙ c.loop-count.invariant.steady
