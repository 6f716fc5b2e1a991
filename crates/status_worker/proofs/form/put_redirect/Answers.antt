-- The three pieces of a redirect, one after the other.
use Rattle.std.proofs.Common.{ℕ, List, ◌++◌, codes, ap, ◌∙◌}
use Rattle.status_worker.specs.Form.{redirect_name}
use Rattle.status_worker.specs.Marks.{html_text}
use Rattle.status_worker.specs.Page.{names_of}
use Rattle.status_worker.proofs.PutLaws.{put_three}
use Rattle.status_worker.proofs.form.put_redirect.Goals as goal

pub returns : goal.returns
returns c =
    put_three c.extend-2.result c.args.out.now c.extend.new.self c.put_html.new.out c.extend-2.new.self
    (codes "<label>Redirect <input size='10' name='vwr' value='") (html_text (redirect_name (names_of c.args.rows.now) c.args.row.now.redirect))
    (codes "'></label> ")
    c.in_ok-extend.ensures.ok
    (c.in_ok-put_html.ensures ∙ ap (λ (t : List ℕ). c.extend.new.self ++ html_text t) c.redirect_name.ensures) c.extend-2.ensures.ok
