-- The five pieces of a page's part on a balancer, one after the other.
use Rattle.std.proofs.Common.{ℕ, List, ◌++◌, codes, ap, ◌∙◌}
use Rattle.std.specs.Fmt.{decimal}
use Rattle.status_worker.specs.Words.{method_letter}
use Rattle.status_worker.proofs.PutLaws.{put_five}
use Rattle.status_worker.proofs.table.put_about.Goals as goal

pub returns : goal.returns
returns c =
    put_five c.extend-4.result c.args.out.now c.extend.new.self c.extend-2.new.self c.extend-3.new.self c.put_decimal.new.out c.extend-4.new.self
    (codes "<p>Method ") (method_letter c.args.part.now.method) (codes ", next journal entry ") (decimal c.args.part.now.view.next) (codes ".</p>\n")
    c.in_ok-extend.ensures.ok (c.in_ok-extend-2.ensures.ok ∙ ap (λ (t : List ℕ). c.extend.new.self ++ t) c.method_letter.ensures)
    c.in_ok-extend-3.ensures.ok
    (c.in_ok-put_decimal.ensures.ok ∙ ap (λ (n : ℕ). c.extend-3.new.self ++ decimal n) c.from.ensures) c.extend-4.ensures.ok
