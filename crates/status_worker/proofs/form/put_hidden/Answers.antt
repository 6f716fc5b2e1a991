-- The five pieces of a hidden field, one after the other.
use Rattle.std.proofs.Common.{codes}
use Rattle.status_worker.specs.Marks.{html_text}
use Rattle.status_worker.proofs.PutLaws.{put_five}
use Rattle.status_worker.proofs.form.put_hidden.Goals as goal

pub returns : goal.returns
returns c =
    put_five c.extend-4.result c.args.out.now c.extend.new.self c.extend-2.new.self c.extend-3.new.self c.put_html.new.out c.extend-4.new.self
    (codes "<input type='hidden' name='") c.args.name.now (codes "' value='") (html_text c.args.value.now) (codes "'>")
    c.in_ok-extend.ensures.ok c.in_ok-extend-2.ensures.ok c.in_ok-extend-3.ensures.ok c.in_ok-put_html.ensures c.extend-4.ensures.ok
