-- The tables between the page's ends.
use Rattle.std.proofs.Common.{codes}
use Rattle.std.specs.List.{flat_map}
use Rattle.status_worker.specs.Table.{page_heading, page_style, page_top, table_part}
use Rattle.status_worker.proofs.PutLaws.{put_five}
use Rattle.status_worker.proofs.table.put_html_page.Goals as goal

pub returns : goal.returns
returns c =
    put_five c.extend-4.result c.args.out.now c.extend.new.self c.extend-2.new.self c.extend-3.new.self c.put_tables.new.out c.extend-4.new.self
    page_top page_style page_heading (flat_map (table_part c.args.may_change) c.args.parts.now) (codes "</body>\n</html>\n")
    c.in_ok-extend.ensures.ok c.in_ok-extend-2.ensures.ok c.in_ok-extend-3.ensures.ok c.in_ok-put_tables.ensures c.extend-4.ensures.ok
