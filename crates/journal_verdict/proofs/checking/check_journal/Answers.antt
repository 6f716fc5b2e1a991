use Rattle.std.proofs.Common.{◌≡◌, List, ◌∷◌, ℕ, length, sym, ap, subst, ◌∙◌, ◌==◌, arith}
use Rattle.std.proofs.lemmas.List.Splits.{length-slice_split}
use Rattle.play_script.specs.Parts.{parts_of}
use Rattle.journal_verdict.proofs.CheckerFacts.{Stands, stands_end, stands_first, stands_on, stands_refused}
use Rattle.journal_verdict.proofs.checking.check_journal.Goals as goal

-- a text has a part
pub returns-in-None : goal.returns-in-None
returns-in-None c =
    let none : length (parts_of 10 c.args.text.now) ≡ 0 = ap length (sym c.of-lines.ensures.value ∙ c.in-None.ensures.0) in
    absurd (omega (arith, none, length-slice_split (λ b. b == 10) c.args.text.now))

pub lines-init : goal.lines-init
lines-init c = record {
  few = omega (arith, c.of-lines.ensures.few, ap length c.in-Some.ensures, c.requires, c.new-checker.ensures.number);
  stands = stands_first c.args.text.now c.in-Some.first.now c.new-checker.result c.next.new.self c.new-checker.ensures.taken c.new-checker.ensures.reader
      c.new-checker.ensures.number (sym c.of-lines.ensures.value ∙ c.in-Some.ensures);
}

pub take-requires : goal.take-requires
take-requires c = record {
  taken = (c.lines.invariant.stands.done, c.lines.invariant.stands.taken);
  few = omega (arith, c.lines.invariant.few);
}

pub returns-in_err-checker : goal.returns-in_err-checker
returns-in_err-checker c =
    stands_refused c.args.text.now c.lines.checker c.lines.line.now c.in-Some-next.next.now c.next-in-lines.new.self c.in_err-checker.field-0.0 c.from_residual.result
    (subst (λ (ps : List (List ℕ)). Stands c.args.text.now c.lines.checker (c.lines.line.now ∷ ps)) c.in-Some-next.ensures c.lines.invariant.stands)
    c.in_err-checker.ensures.err c.from_residual.ensures.1

pub lines-preserved : goal.lines-preserved
lines-preserved c = record {
  few = omega (arith, c.lines.invariant.few, ap length c.in-Some-next.ensures, c.in_ok-checker.ensures.number);
  stands = stands_on c.args.text.now c.lines.checker c.in_ok-checker.checker c.lines.line.now c.in-Some-next.next.now c.next-in-lines.new.self
      (subst (λ (ps : List (List ℕ)). Stands c.args.text.now c.lines.checker (c.lines.line.now ∷ ps)) c.in-Some-next.ensures c.lines.invariant.stands)
      c.in_ok-checker.ensures.ok c.in_ok-checker.ensures.number;
}

pub returns : goal.returns
returns c =
    stands_end c.args.text.now c.lines.checker c.lines.line.now c.end.result
    (subst (λ (ps : List (List ℕ)). Stands c.args.text.now c.lines.checker (c.lines.line.now ∷ ps)) c.in_default.ensures.0 c.lines.invariant.stands)
    c.end.ensures
