use Rattle.std.proofs.Common.{◌≡◌, ◌==◌, Some, None, position, refl, sym, ◌∙◌}
use Rattle.remarks.proofs.marked_sink.first_line.Goals as goal

pub returns-in-Some-clause-line : goal.returns-in-Some-clause-line
returns-in-Some-clause-line c =
    let is : position (λ b. b == 10) c.args.piece.now ≡ Some c.in-Some.at = sym c.line_end.ensures ∙ c.in-Some.is in
    rw is refl

pub returns-in-None-clause-line : goal.returns-in-None-clause-line
returns-in-None-clause-line c =
    let is : position (λ b. b == 10) c.args.piece.now ≡ None = sym c.line_end.ensures ∙ c.in-None.is in
    rw is refl
