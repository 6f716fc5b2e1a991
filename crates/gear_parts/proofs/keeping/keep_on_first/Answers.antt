use Rattle.gear_parts.proofs.KeepingLaws.{on_err_then, on_ok_then, to_first}
use Rattle.gear_parts.proofs.StartLaws.{first_as_long}
use Rattle.gear_parts.proofs.keeping.keep_on_first.Goals as goal

pub returns-clause-kept : goal.returns-clause-kept
returns-clause-kept g c =
    on_ok_then c.keep_rest.result _ _ c.keep_rest.ensures.kept
    (λ kept. to_first _ c.args.gears.now c.index-gears-0.result c.keep_rest.new.shelf c.requires.some kept)

pub returns-clause-failed : goal.returns-clause-failed
returns-clause-failed g c = λ failed.
    to_first _ c.args.gears.now c.index-gears-0.result c.keep_rest.new.shelf c.requires.some (c.keep_rest.ensures.failed failed)

pub returns-clause-front : goal.returns-clause-front
returns-clause-front g c =
    on_err_then c.keep_rest.result _ _ c.keep_rest.ensures.front
    (λ front. to_first _ c.args.gears.now c.index-gears-0.result c.keep_rest.new.shelf c.requires.some front)

pub returns-clause-cause : goal.returns-clause-cause
returns-clause-cause g c =
    to_first _ c.args.gears.now c.index-gears-0.result c.keep_rest.new.shelf c.requires.some c.keep_rest.ensures.cause

pub returns-clause-len : goal.returns-clause-len
returns-clause-len g c = first_as_long c.args.gears.now _
