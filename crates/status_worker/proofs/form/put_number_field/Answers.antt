-- Seven pieces, one after the other.
use Rattle.std.proofs.Common.{ℕ, ◌++◌, codes, ap, ◌∙◌}
use Rattle.std.specs.Fmt.{decimal}
use Rattle.status_worker.proofs.PutLaws.{put_seven}
use Rattle.status_worker.proofs.form.put_number_field.Goals as goal

pub returns : goal.returns
returns c =
    put_seven c.extend-6.result c.args.out.now c.extend.new.self c.extend-2.new.self c.extend-3.new.self c.extend-4.new.self c.extend-5.new.self
    c.put_decimal.new.out c.extend-6.new.self
    (codes "<label>") c.args.label.now (codes " <input size='5' name='") c.args.name.now (codes "' value='") (decimal c.args.number) (codes "'></label> ")
    c.in_ok-extend.ensures.ok c.in_ok-extend-2.ensures.ok c.in_ok-extend-3.ensures.ok c.in_ok-extend-4.ensures.ok c.in_ok-extend-5.ensures.ok
    (c.in_ok-put_decimal.ensures.ok ∙ ap (λ (n : ℕ). c.extend-5.new.self ++ decimal n) c.from.ensures) c.extend-6.ensures.ok
