-- The three pieces of a page's reply up to its length, one after the other.
use Rattle.std.proofs.Common.{ℕ, List, ◌++◌, codes, ap, ◌∙◌}
use Rattle.status_worker.specs.Mimes.{content_type}
use Rattle.status_worker.proofs.PageLaws.{three_put}
use Rattle.status_worker.proofs.pages.put_page_type.Goals as goal

pub returns : goal.returns
returns c =
    three_put c.extend-3.result c.args.reply.now c.extend.new.self c.extend-2.new.self c.extend-3.new.self
    (codes "HTTP/1.1 200 OK\r\nContent-Type: ") (content_type c.args.mime) (codes "\r\nContent-Length: ")
    c.in_ok-extend.ensures.ok (c.in_ok-extend-2.ensures.ok ∙ ap (λ (t : List ℕ). c.extend.new.self ++ t) c.content_type.ensures)
    c.extend-3.ensures.ok
