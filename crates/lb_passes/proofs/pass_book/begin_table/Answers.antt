-- The table begins with the Book.
use Rattle.std.proofs.Common.{rules}
use Rattle.lb_passes.proofs.PassLaws.{begins_table}
use Rattle.lb_passes.proofs.pass_book.begin_table.Goals as goal

pub new-requires : goal.new-requires
new-requires c =
    begins_table c.args.book c.of.result.value c.args.cut_at c.push.new.self.items (search rules) (search rules) c.requires.modern c.requires.empty (search rules)
