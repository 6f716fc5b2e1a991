use Rattle.journal_text.proofs.KeptFacts.{kept_none}
use Rattle.journal_text.proofs.draft.OpeningDraft.begin.Goals as goal

pub invariant_of-segment-clause-kept : goal.invariant_of-segment-clause-kept
invariant_of-segment-clause-kept c = rw c.new.ensures (kept_none c.args.rules)
