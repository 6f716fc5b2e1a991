use Rattle.std.proofs.Common.{◌≡◌, ◌≤◌, ◌+◌, ◌++◌, ◌∷◌, ◌∙◌, List, Option, Some, ℕ, ap, refl, rules, sym, subst, arith}
use Rattle.jk_io.specs.Told.{appended}
use Rattle.jk_io.proofs.ToldLaws.{appended-appended, appended-nil}
use Rattle.site_config.specs.Lines.{lines}
use Rattle.remarks.specs.Added.{IsFrontOfText}
use Rattle.remarks.specs.Firsts.{as_first}
use Rattle.remarks.specs.Refused.{first_wrong, refused_from, refused_lines, told_if, wrong_by}
use Rattle.remarks.proofs.AddedLemmas.{failed, front_more}
use Rattle.remarks.proofs.FirstLemmas.{first_next, known_line}
use Rattle.remarks.proofs.RefusedLemmas.{none_refused}
use Rattle.remarks.proofs.refused.put_refused.Goals as goal

pub loop-line-init : goal.loop-line-init
loop-line-init g c = record {
  count = omega (arith, c.without_mark-rest.ensures.shorter);
  steady = refl;
  first = λ more. ap (λ (text : List ℕ). first_wrong (wrong_by c.args.judge) 1 (lines text)) c.without_mark-rest.ensures.value ∙ c.requires.first;
  said = ap (λ (text : List ℕ). appended c.args.out.now.said (refused_from (wrong_by c.args.judge) c.args.file.now.name.now 1 (lines text))) c.without_mark-rest.ensures.value;
}

pub wrong_after-requires : goal.wrong_after-requires
wrong_after-requires g c =
    let wrong = wrong_by c.args.judge in
    let n = c.loop-line.number + 1 in
    let ahead : n ≤ c.args.first.line → first_wrong wrong n (c.in-Some.line.now ∷ lines c.in-Some.behind.now) ≡ Some (as_first c.args.first) =
    λ more. rw c.in-Some.ensures.some at (c.loop-line.invariant.first more) in
    known_line wrong (as_first c.args.first) n c.in-Some.line.now (lines c.in-Some.behind.now) ahead

pub loop-line-preserved : goal.loop-line-preserved
loop-line-preserved g c =
    let wrong = wrong_by c.args.judge in
    let file = c.args.file.now.name.now in
    let n = c.loop-line.number + 1 in
    let line = c.in-Some.line.now in
    let ahead : n ≤ c.args.first.line → first_wrong wrong n (line ∷ lines c.in-Some.behind.now) ≡ Some (as_first c.args.first) =
    λ more. rw c.in-Some.ensures.some at (c.loop-line.invariant.first more) in
    let one = told_if file n line (wrong n line) in
    let rest = refused_from wrong file (n + 1) (lines c.in-Some.behind.now) in
    let known : appended c.loop-line.out.said (one ++ rest) ≡ appended c.args.out.now.said (refused_lines wrong file c.args.file.now.text.now) =
    rw c.in-Some.ensures.some at c.loop-line.invariant.said in
    let told = ap (told_if file n line) c.in_ok-wrong.ensures in
    record {
      count = omega (arith, c.in-Some.ensures.shorter, c.loop-line.invariant.count);
      steady = c.in_ok-put_wrong.ensures.steady refl ∙ c.loop-line.invariant.steady;
      first = first_next wrong (as_first c.args.first) n line (lines c.in-Some.behind.now) ahead;
      said = ap (λ (t : Option (List ℕ)). appended t rest) (c.in_ok-put_wrong.ensures.added ∙ ap (appended c.loop-line.out.said) told)
          ∙ appended-appended c.loop-line.out.said one rest ∙ known;
    }

pub returns : goal.returns
returns g c =
    let none = none_refused (wrong_by c.args.judge) c.args.file.now.name.now (c.loop-line.number + 1) c.loop-line.rest.now c.in_default.ensures.none in
    record {
      added = sym (appended-nil c.loop-line.out.said) ∙ (rw none at c.loop-line.invariant.said);
      cause = search rules;
      steady = λ ok. c.loop-line.invariant.steady;
    }

pub returns-in_err-wrong : goal.returns-in_err-wrong
returns-in_err-wrong g c = record {
  added = failed c.from_residual.result _ _ _ _ c.from_residual.ensures.1 (_, sym c.loop-line.invariant.said);
  cause = search rules;
  steady = search rules;
}

pub returns-in_err-put_wrong : goal.returns-in_err-put_wrong
returns-in_err-put_wrong g c =
    let wrong = wrong_by c.args.judge in
    let file = c.args.file.now.name.now in
    let n = c.loop-line.number + 1 in
    let line = c.in-Some.line.now in
    let one = told_if file n line (wrong n line) in
    let rest = refused_from wrong file (n + 1) (lines c.in-Some.behind.now) in
    let known : appended c.loop-line.out.said (one ++ rest) ≡ appended c.args.out.now.said (refused_lines wrong file c.args.file.now.text.now) =
    rw c.in-Some.ensures.some at c.loop-line.invariant.said in
    let told = ap (told_if file n line) c.in_ok-wrong.ensures in
    record {
      added = failed c.from_residual-in_err-put_wrong.result _ _ _ _ c.from_residual-in_err-put_wrong.ensures.1
          (subst (λ (t : Option (List ℕ)). IsFrontOfText t c.put_wrong.new.out.said) known
          (front_more c.loop-line.out.said c.put_wrong.new.out.said one rest
          (subst (λ (t : List ℕ). IsFrontOfText (appended c.loop-line.out.said t) c.put_wrong.new.out.said) told c.in_err-put_wrong.ensures.added)));
      cause = search rules;
      steady = search rules;
    }
