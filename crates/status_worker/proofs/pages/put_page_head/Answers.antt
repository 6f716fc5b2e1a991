-- The pieces of the head of a page's reply, one after the other.
use Rattle.std.proofs.Common.{ap, ◌++◌, ◌∙◌}
use Rattle.http_out.specs.Dates.{date_field}
use Rattle.status_worker.specs.Pages.{page_type}
use Rattle.status_worker.proofs.PageLaws.{six_put}
use Rattle.status_worker.proofs.pages.put_page_head.Goals as goal

pub returns : goal.returns
returns c =
    six_put c.args.reply.now c.put_page_type.new.reply c.put_decimal.new.out c.extend.new.self c.put_date.new.text c.extend-2.new.self c.extend-3.new.self
    (page_type c.args.mime) _ _ (date_field c.args.kind.date) _ _
    c.in_ok-put_page_type.ensures c.in_ok-put_decimal.ensures.ok c.in_ok-extend.ensures.ok c.in_ok-put_date.ensures
    (c.in_ok-extend-2.ensures.ok ∙ ap (λ x. c.put_date.new.text ++ x) c.last_line.ensures) c.in_ok-extend-3.ensures.ok
