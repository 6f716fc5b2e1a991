-- The line that the words say can stand in a segment of these rules.
use Rattle.std.proofs.Common.{◌≡◌, Option, Some, sym, subst, ◌∙◌}
use Rattle.std.specs.Prelude.{IfSome}
use Rattle.journal_text.specs.Ranges.{IsKeptLine}
use Rattle.journal_text.specs.Readings.{said}
use Rattle.journal_text.specs.declared.line.Line.{Line}
use Rattle.journal_text.proofs.KeptLines.{said_kept}
use Rattle.journal_text.proofs.line_text.read_line.Goals as goal

pub returns-then-is-clause-kept : goal.returns-then-is-clause-kept
returns-then-is-clause-kept c =
    let is : said c.args.rules c.of-words.result ≡ Some c.in-Some.line = sym c.in_ok-line.ensures.value ∙ c.in-Some.is in
    subst (λ (o : Option Line). IfSome o (IsKeptLine c.args.rules)) is (said_kept c.args.rules c.of-words.result)
