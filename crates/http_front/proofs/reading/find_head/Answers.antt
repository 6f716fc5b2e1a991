-- The bytes end, or no more are read. A read is made only where the bytes in hand don't decide.
use Rattle.std.proofs.Common.{◌≡◌, ◌<◌, ℕ, List, Err, length, sym, ap, subst, ◌∙◌, arith}
use Rattle.jk_io.specs.Told.{Rose}
use Rattle.http_front.specs.Search.{IsFoundHead, IsPartOfHead, IsSearched, IsStop}
use Rattle.http_front.specs.declared.answers.HeadError.{HeadError}
use Rattle.http_front.specs.declared.answers.HeadError.TheVariants as error
use Rattle.http_front.proofs.CutLemmas.{seen-more}
use Rattle.http_front.proofs.InboxLemmas.{nothing-came, risen-count}
use Rattle.http_front.proofs.MakesLemmas.{part-awaits, part-full, stop-found}
use Rattle.http_front.proofs.ReadLemmas.{none-failed}
use Rattle.http_front.proofs.reading.find_head.Goals as goal

pub end_at-requires-clause-part : goal.end_at-requires-clause-part
end_at-requires-clause-part g c =
    let P : List ℕ → Type 0 = λ l. IsPartOfHead l c.in-Part.begin c.in-Part.at in
    let part = subst P c.as_slice.ensures.value c.in-Part.ensures in
    let more = c.in-Ok-eq0.ensures.more in
    let same = nothing-came c.read_on.new.inbox c.loop-blank.inbox more.0 more.2 (omega (arith, more.1, c.in-Ok-eq0.field-0-test)) in
    (c.in-Part.at, subst P (sym (c.as_slice-in-Ok-eq0.ensures.value ∙ same)) part)

pub end_at-requires-clause-short : goal.end_at-requires-clause-short
end_at-requires-clause-short g c =
    let more = c.in-Ok-eq0.ensures.more in
    let same = nothing-came c.read_on.new.inbox c.loop-blank.inbox more.0 more.2 (omega (arith, more.1, c.in-Ok-eq0.field-0-test)) in
    subst (λ (l : List ℕ). length l < 16384) (sym (c.as_slice-in-Ok-eq0.ensures.value ∙ same)) c.in-Ok-eq0.ensures.room

pub returns-in-Ok-eq0-clause-found : goal.returns-in-Ok-eq0-clause-found
returns-in-Ok-eq0-clause-found g c =
    subst (λ (l : List ℕ). IsFoundHead l c.end_at.result) c.as_slice-in-Ok-eq0.ensures.value c.end_at.ensures.found

pub returns-in-Ok-eq0-clause-ended : goal.returns-in-Ok-eq0-clause-ended
returns-in-Ok-eq0-clause-ended g c = λ ended. c.in-Ok-eq0.ensures.end c.in-Ok-eq0.field-0-test

pub returns-in-Ok-eq0-clause-awaited : goal.returns-in-Ok-eq0-clause-awaited
returns-in-Ok-eq0-clause-awaited g c = λ is decided. c.end_at.ensures.no_fault is

pub returns-in-Whole-clause-unasked : goal.returns-in-Whole-clause-unasked
returns-in-Whole-clause-unasked g c = λ decided. (c.loop-blank.invariant.untouched decided).1

pub returns-in-Ok-eq0-clause-unasked : goal.returns-in-Ok-eq0-clause-unasked
returns-in-Ok-eq0-clause-unasked g c = λ decided.
    absurd (part-awaits c.loop-blank.inbox _ c.args.inbox.now _ _ c.in-Part.ensures c.as_slice.ensures.value (c.loop-blank.invariant.untouched decided).0
    c.in-Ok-eq0.ensures.room decided)

pub returns-in-Err-clause-found : goal.returns-in-Err-clause-found
returns-in-Err-clause-found g c =
    stop-found c.loop-blank.inbox _ c.read_on.new.inbox _ _ c.in-Err.error c.in-Part.ensures c.as_slice.ensures.value c.in-Err.ensures.stopped c.in-Err.ensures.err

pub returns-in-Err-clause-unasked : goal.returns-in-Err-clause-unasked
returns-in-Err-clause-unasked g c = λ decided.
    let untouched = c.loop-blank.invariant.untouched decided in
    c.in-Err.ensures.unasked (part-full c.loop-blank.inbox _ c.args.inbox.now _ _ c.in-Part.ensures c.as_slice.ensures.value untouched.0 decided) ∙ untouched.1

pub returns-in-Err-clause-awaited : goal.returns-in-Err-clause-awaited
returns-in-Err-clause-awaited g c = λ is decided.
    let why : c.in-Err.error ≡ error.Fault = cc in
    let short : length c.loop-blank.inbox < 16384 = subst (λ (e : HeadError). IsStop c.loop-blank.inbox e) why c.in-Err.ensures.stopped in
    part-awaits c.loop-blank.inbox _ c.read_on.new.inbox _ _ c.in-Part.ensures c.as_slice.ensures.value (sym c.in-Err.ensures.err) short decided

pub loop-blank-preserved : goal.loop-blank-preserved
loop-blank-preserved g c =
    let I = c.loop-blank.invariant in
    let e = c.in-Ok.ensures in
    let part = c.in-Part.ensures in
    let P : List ℕ → Type 0 = λ l. IsPartOfHead l c.in-Part.begin c.in-Part.at in
    let Q : List ℕ → Type 0 = λ l. IsSearched l c.in-Part.begin c.in-Part.at in
    let seen = seen-more c.loop-blank.inbox e.more.0 c.in-Part.begin c.in-Part.at (subst P c.as_slice.ensures.value part).seen in
    record {
      seen = subst Q (sym e.more.2) seen;
      unread = e.unread ∙ I.unread;
      sent = e.reads.same.0 ∙ I.sent;
      beside = e.reads.same.1 ∙ I.beside;
      steady = e.reads.steady tt ∙ I.steady;
      untouched = λ decided. absurd (part-awaits c.loop-blank.inbox _ c.args.inbox.now _ _ part c.as_slice.ensures.value (I.untouched decided).0 e.room decided);
    }

-- ---- what each exit keeps

pub returns-in-Whole-clause-ended : goal.returns-in-Whole-clause-ended
returns-in-Whole-clause-ended g c = λ ended. absurd ended

pub returns-in-Whole-clause-awaited : goal.returns-in-Whole-clause-awaited
returns-in-Whole-clause-awaited g c = λ is decided. cc

pub returns-in-Whole-clause-unread : goal.returns-in-Whole-clause-unread
returns-in-Whole-clause-unread g c = c.loop-blank.invariant.unread

pub returns-in-Ok-eq0-clause-unread : goal.returns-in-Ok-eq0-clause-unread
returns-in-Ok-eq0-clause-unread g c = c.read_on.ensures.unread ∙ c.loop-blank.invariant.unread

pub returns-in-Err-clause-unread : goal.returns-in-Err-clause-unread
returns-in-Err-clause-unread g c = c.read_on.ensures.unread ∙ c.loop-blank.invariant.unread

pub returns-in-Whole-clause-reads : goal.returns-in-Whole-clause-reads
returns-in-Whole-clause-reads g c =
    let I = c.loop-blank.invariant in
    none-failed g.C.Meanings error.Fault _ _ _ _ (λ is. cc) I.sent I.beside I.steady

pub returns-in-Ok-eq0-clause-reads : goal.returns-in-Ok-eq0-clause-reads
returns-in-Ok-eq0-clause-reads g c =
    let I = c.loop-blank.invariant in
    let r = c.in-Ok-eq0.ensures.reads in
    none-failed g.C.Meanings error.Fault _ _ _ c.end_at.result c.end_at.ensures.no_fault (r.same.0 ∙ I.sent) (r.same.1 ∙ I.beside) (r.steady tt ∙ I.steady)

pub returns-in-Err-clause-reads : goal.returns-in-Err-clause-reads
returns-in-Err-clause-reads g c =
    let I = c.loop-blank.invariant in
    let r = c.in-Err.ensures.reads in
    record {
      same = (r.same.0 ∙ I.sent, r.same.1 ∙ I.beside);
      fault = λ is. (let why : c.in-Err.error ≡ error.Fault = cc in subst (λ (k : ℕ). Rose k (g.C.Meanings.faults c.read_on.new.client)) I.steady (r.fault (ap Err why)));
      steady = λ calm. r.steady calm ∙ I.steady;
      no_fewer = risen-count _ _ _ I.steady r.no_fewer;
    }
