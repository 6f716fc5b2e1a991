use Rattle.std.proofs.Common.{◌++◌, ◌∷◌, [], Some, refl, ap}
use Rattle.lb_model.specs.Segments.{AreKeptEntries}
use Rattle.lb_model.specs.declared.segment.Segment.{Segment}
use Rattle.journal_text.specs.Reading.{in_body, with_entry}
use Rattle.journal_text.proofs.KeptFacts.{kept_more}
use Rattle.journal_text.proofs.SegmentProps.{same_segment}
use Rattle.journal_text.proofs.reader.with_entry.Goals as goal

pub invariant_of-segment-clause-kept : goal.invariant_of-segment-clause-kept
invariant_of-segment-clause-kept c =
    rw c.in_ok-push.ensures.ok (kept_more c.args.segment.rules c.args.segment.entries c.args.entry c.args.segment.kept c.requires.0 c.requires.1)

pub returns : goal.returns
returns c =
    let s : Segment = c.args.segment in
    let kept : AreKeptEntries s.rules (s.entries ++ c.args.entry ∷ []) = kept_more s.rules s.entries c.args.entry s.kept c.requires.0 c.requires.1 in
    (kept, ap (λ (t : Segment). Some (in_body c.args.done c.args.name t)) (same_segment _ (with_entry s c.args.entry kept) refl refl c.in_ok-push.ensures.ok))
