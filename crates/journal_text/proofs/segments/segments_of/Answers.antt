use Rattle.std.proofs.Common.{rules, ◌≡◌, ◌∷◌, [], ◌++◌}
use Rattle.journal_text.proofs.PairFacts.{split_more}
use Rattle.journal_text.specs.Pairs.{pair_of}
use Rattle.journal_text.proofs.segments.segments_of.Goals as goal

pub loop-one-preserved : goal.loop-one-preserved
loop-one-preserved c =
    let pushed : c.push.new.self.items ≡ c.loop-one.pairs.items ++ pair_of c.in-Some.one ∷ [] = search (rules, c.in_ok-push.ensures, c.segment_of.ensures) in
    rw pushed (split_more c.args.counted c.loop-one.counted c.pop.new.self c.in-Some.one c.loop-one.pairs.items c.loop-one.invariant c.in-Some.ensures.some)
