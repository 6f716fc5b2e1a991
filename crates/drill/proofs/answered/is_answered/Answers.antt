use Rattle.std.proofs.Common.{suc, List, ◌++◌, take, drop, sym, subst, ap, ◌∙◌, arith}
use Rattle.std.proofs.Math.Seq.{drop-cons}
use Rattle.std.proofs.lemmas.List.{take_more, take-append-drop}
use Rattle.lb_model.specs.declared.journal.Entry.{Entry}
use Rattle.drill.specs.Drills.{AreAnswered, entries_of}
use Rattle.drill.specs.Progress.{IsSoFar}
use Rattle.drill.proofs.answered.is_answered.Goals as goal

pub returns-in_default : goal.returns-in_default
returns-in_default c =
    let xs = c.args.entries.now in
    let i = c.loop-entry.entry-index in
    let cut = sym (take-append-drop i xs) ∙ ap (λ (ys : List Entry). take i xs ++ ys) (drop-cons xs i _ c.loop-entry-test.true) in (
      λ wrong. cc,
      λ all. absurd (c.in_default.ensures.none (take i xs) (drop (suc i) xs) c.args.requests c.loop-entry.invariant.0
          (subst (λ (ys : List Entry). AreAnswered c.args.requests (entries_of c.args.thread ys)) cut all)),
    )

pub loop-entry-preserved : goal.loop-entry-preserved
loop-entry-preserved c =
    let xs = c.args.entries.now in
    let i = c.loop-entry.entry-index in
    let few = c.loop-entry.invariant.1 in
    let count = c.in-Some.ensures.count in (
      subst (λ (ys : List Entry). IsSoFar (entries_of c.args.thread ys) c.in-Some.next.whole c.in-Some.next.ticket)
          (sym (take_more xs i _ c.loop-entry-test.true)) (c.in-Some.ensures.some (take i xs) c.loop-entry.invariant.0),
      omega (arith, few, count),
    )
