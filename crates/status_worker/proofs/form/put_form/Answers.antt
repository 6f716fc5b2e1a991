-- The fields and the buttons between the form's ends.
use Rattle.std.proofs.Common.{List, ◌++◌, codes, ap, ◌∙◌}
use Rattle.lb_model.specs.declared.view.MemberRow.{MemberRow}
use Rattle.status_worker.specs.Form.{buttons, target_fields, value_fields}
use Rattle.status_worker.specs.Page.{names_of}
use Rattle.status_worker.proofs.PutLaws.{put_five}
use Rattle.status_worker.proofs.form.put_form.Goals as goal

pub returns : goal.returns
returns c =
    put_five c.extend-3.result c.args.out.now c.extend.new.self c.put_target.new.out c.put_values.new.out c.extend-2.new.self c.extend-3.new.self
    (codes "<form>") (target_fields c.args.part.now c.args.row.now) (value_fields (names_of c.args.part.now.view.rows) c.args.row.now) buttons
    (codes "</form>")
    c.in_ok-extend.ensures.ok c.in_ok-put_target.ensures
    (c.in_ok-put_values.ensures
    ∙ ap (λ (rows : List MemberRow). c.put_target.new.out ++ value_fields (names_of rows) c.args.row.now) c.as_slice.ensures)
    c.in_ok-extend-2.ensures.ok c.extend-3.ensures.ok
