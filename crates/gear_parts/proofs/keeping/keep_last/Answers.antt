use Rattle.gear_parts.proofs.KeepingLaws.{on_ok_then}
use Rattle.gear_parts.proofs.keeping.keep_last.Goals as goal

pub returns-clause-kept : goal.returns-clause-kept
returns-clause-kept g c =
    on_ok_then c.keep.result _ _ c.keep.ensures.kept (λ added. record {
      segment = c.in_ok-segment.segment;
      whole = c.in_ok-segment.ensures.whole;
      legal = c.in_ok-segment.ensures.legal;
      added = added;
    })

pub returns-clause-cause : goal.returns-clause-cause
returns-clause-cause g c = c.keep.ensures.cause
