-- The commands before the first refused one were done.
use Rattle.std.proofs.Common.{◌<◌, ◌≡◌, ℕ, List, Option, IfSome, Err, length, refl, sym, subst, ap, ◌∙◌, inr, arith}
use Rattle.std.proofs.lemmas.Result.{err_from_is_err_and}
use Rattle.status_worker.proofs.CommandLaws.{all_done, stops_here, works_on}
use Rattle.status_worker.proofs.DeskLaws.{none_met, none_twice, twice, untouched}
use Rattle.status_worker.proofs.commanding.do_work.Goals as goal

pub loop-command-init : goal.loop-command-init
loop-command-init g c = record { done = refl; kept = untouched _ _; met = none_met _ }

pub do_command-requires-clause-known : goal.do_command-requires-clause-known
do_command-requires-clause-known g c =
    let known = rw c.in-Some.is at c.requires.known in
    subst (λ (sizes : List ℕ). c.in-Some.lb < length sizes) (sym c.loop-command.invariant.kept.sizes) known

pub do_command-requires-clause-caller : goal.do_command-requires-clause-caller
do_command-requires-clause-caller g c =
    subst (λ (caller : Option ℕ). IfSome caller (λ n. c.args.session ≡ n)) (sym c.loop-command.invariant.kept.caller) c.requires.caller

pub returns-in_err-do_command-clause-err : goal.returns-in_err-do_command-clause-err
returns-in_err-do_command-clause-err g c =
    let p = err_from_is_err_and c.from_residual.result c.from_residual.ensures.1 in
    let why = c.in_err-do_command.field-0.0 in
    let same : c.from_residual.result ≡ Err why = cc (p.1, p.2) in
    rw same (stops_here _ _ _ _ _ _ _ _ _ why c.in-Some.is c.as_slice-command-items.ensures c.loop-command-test.true
    c.loop-command.invariant.done c.in_err-do_command.ensures.err)

pub returns-in_err-do_command-clause-kept : goal.returns-in_err-do_command-clause-kept
returns-in_err-do_command-clause-kept g c = twice _ _ _ _ c.loop-command.invariant.kept c.do_command.ensures.kept

pub returns-in_err-do_command-clause-met : goal.returns-in_err-do_command-clause-met
returns-in_err-do_command-clause-met g c = none_twice _ _ _ c.loop-command.invariant.met c.do_command.ensures.met

pub loop-command-preserved : goal.loop-command-preserved
loop-command-preserved g c = record {
  done = works_on _ _ _ _ _ _ _ _ c.loop-command-test.true c.loop-command.invariant.done c.in_ok-do_command.ensures.ok;
  kept = twice _ _ _ _ c.loop-command.invariant.kept c.do_command.ensures.kept;
  met = none_twice _ _ _ c.loop-command.invariant.met c.do_command.ensures.met;
}

pub returns-clause-ok : goal.returns-clause-ok
returns-clause-ok g c =
    inr (
      c.in-Some.lb,
      c.in-Some.is,
      all_done _ _ _ _ c.loop-command.command-index _ _ (omega (arith, c.loop-command-test.false)) c.as_slice-command-items.ensures c.loop-command.invariant.done,
    )

pub returns-clause-kept : goal.returns-clause-kept
returns-clause-kept g c = c.loop-command.invariant.kept

pub returns-clause-met : goal.returns-clause-met
returns-clause-met g c = c.loop-command.invariant.met

pub returns-in_default-clause-kept : goal.returns-in_default-clause-kept
returns-in_default-clause-kept g c = untouched _ _
