-- The balancer at the place is the one that is named.
use Rattle.std.proofs.Common.{get_or, refl, sym, ◌∙◌}
use Rattle.std.proofs.lemmas.Option.{get_or_from_slice_get}
use Rattle.status_worker.proofs.AskLaws.{names_no_member, works_for}
use Rattle.status_worker.proofs.asking.work_for.Goals as goal

pub returns-in-Some-2-clause-ok : goal.returns-in-Some-2-clause-ok
returns-in-Some-2-clause-ok c =
    let named = rw c.in-Some.is at c.in_ok-only.ensures.ok in
    works_for c.args.cfg.now c.args.command.now c.in-Some.lb (get_or c.as_slice.result.now c.in-Some.lb c.index-as_slice-lb.result) _ named
    (rw c.as_slice.ensures (get_or_from_slice_get c.args.cfg.now.lbs c.in-Some.lb named.1 _ named.3.stands)) refl
    (sym c.in_ok-commands.ensures ∙ c.in-Some-2.is)

pub returns-in-None-clause-err : goal.returns-in-None-clause-err
returns-in-None-clause-err c =
    let named = rw c.in-Some.is at c.in_ok-only.ensures.ok in (
      refl,
      names_no_member c.args.cfg.now c.args.command.now c.in-Some.lb (get_or c.as_slice.result.now c.in-Some.lb c.index-as_slice-lb.result) named
          (rw c.as_slice.ensures (get_or_from_slice_get c.args.cfg.now.lbs c.in-Some.lb named.1 _ named.3.stands))
          (sym c.in_ok-commands.ensures ∙ c.in-None.is),
    )
