use Rattle.site_reports.proofs.StartLaws.{starts_modern}
use Rattle.plain_commands.proofs.session.start.desk_of.Goals as goal

pub new-requires : goal.new-requires
new-requires c = record { modern = starts_modern c.args.lbs.now 0 0 c.in_ok-books.books c.in_ok-books.ensures }
