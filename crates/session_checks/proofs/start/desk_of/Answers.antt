-- Books that start have rules 2, and their balancers' members.
use Rattle.std.proofs.Common.{ap, ◌∙◌}
use Rattle.site_reports.proofs.StartLaws.{starts_modern, starts_sizes}
use Rattle.session_checks.proofs.start.desk_of.Goals as goal

pub new-requires : goal.new-requires
new-requires c =
    let started = rw c.in_ok-books.was at c.books_of.ensures in
    record { modern = starts_modern _ _ _ _ started }

pub returns : goal.returns
returns c =
    let started = rw c.in_ok-books.was at c.books_of.ensures in
    record {
      sizes = ap (λ d. d.sizes) c.new.ensures ∙ starts_sizes _ _ _ _ started;
      caller = ap (λ d. d.caller) c.new.ensures;
    }
