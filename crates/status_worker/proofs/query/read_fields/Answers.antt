use Rattle.std.proofs.Common.{◌≡◌, Err, sym, ap, ◌∙◌}
use Rattle.std.proofs.lemmas.Result.{err_from_is_err_and}
use Rattle.status_worker.specs.declared.error.StatusError.TheVariants.{BadQuery}
use Rattle.status_worker.specs.Fields.{behind, fields_in, parts_of}
use Rattle.status_worker.proofs.FieldLemmas.{parts_whole, parts_cut, fields_in_none, fields_in_some}
use Rattle.status_worker.proofs.query.read_fields.Goals as goal

pub parts-preserved : goal.parts-preserved
parts-preserved c =
    let cut = parts_cut c.parts.rest.now c.in-Some.part.now c.in-Some.others.now c.in-Some.ensures.cut in
    sym (fields_in_some c.parts.fields c.push_part.new.fields c.in-Some.part.now (parts_of c.in-Some.others.now) c.in_ok-push_part-in-Some.ensures.ok)
    ∙ sym (ap (λ parts. behind c.parts.fields (fields_in parts)) cut)
    ∙ c.parts.invariant

pub returns-in-None-clause-ok : goal.returns-in-None-clause-ok
returns-in-None-clause-ok c =
    let whole = parts_whole c.parts.rest.now c.in-None.ensures.cut in
    sym c.parts.invariant
    ∙ ap (λ parts. behind c.parts.fields (fields_in parts)) whole
    ∙ c.in_ok-push_part-in-None.ensures.ok

pub returns-in_err-push_part-in-Some-clause-bad : goal.returns-in_err-push_part-in-Some-clause-bad
returns-in_err-push_part-in-Some-clause-bad c = λ is.
    let p = err_from_is_err_and c.from_residual.result c.from_residual.ensures.1 in
    let bad : c.push_part.result ≡ Err BadQuery = cc (p.1, p.2, is, c.in_err-push_part-in-Some.was) in
    let cut = parts_cut c.parts.rest.now c.in-Some.part.now c.in-Some.others.now c.in-Some.ensures.cut in
    let none = fields_in_none c.in-Some.part.now (parts_of c.in-Some.others.now) (c.push_part.ensures.bad bad) in
    sym c.parts.invariant ∙ ap (behind c.parts.fields) (ap fields_in cut ∙ none)

pub returns-in_err-push_part-in-None-clause-bad : goal.returns-in_err-push_part-in-None-clause-bad
returns-in_err-push_part-in-None-clause-bad c = λ is.
    let p = err_from_is_err_and c.from_residual-in_err-push_part-in-None.result c.from_residual-in_err-push_part-in-None.ensures.1 in
    let bad : c.push_part-in-None.result ≡ Err BadQuery = cc (p.1, p.2, is, c.in_err-push_part-in-None.was) in
    let whole = parts_whole c.parts.rest.now c.in-None.ensures.cut in
    sym c.parts.invariant ∙ ap (behind c.parts.fields) (ap fields_in whole ∙ c.push_part-in-None.ensures.bad bad)
