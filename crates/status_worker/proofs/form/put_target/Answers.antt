-- Three fields, one after the other.
use Rattle.std.proofs.Common.{ℕ, List, ◌++◌, codes, ap, ◌∙◌}
use Rattle.status_worker.specs.Form.{hidden_field}
use Rattle.status_worker.proofs.PutLaws.{put_three}
use Rattle.status_worker.proofs.form.put_target.Goals as goal

pub returns : goal.returns
returns c =
    put_three c.put_hidden-3.result c.args.out.now c.put_hidden.new.out c.put_hidden-2.new.out c.put_hidden-3.new.out
    (hidden_field (codes "mime") (codes "html")) (hidden_field (codes "w") c.args.part.now.name) (hidden_field (codes "sw") c.args.row.now.name)
    c.in_ok-put_hidden.ensures
    (c.in_ok-put_hidden-2.ensures ∙ ap (λ (t : List ℕ). c.put_hidden.new.out ++ hidden_field (codes "w") t) c.as_slice.ensures)
    (rw c.as_slice-2.ensures at c.put_hidden-3.ensures)
