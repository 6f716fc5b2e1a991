-- One segment after the other, and the last one.
use Rattle.std.specs.List.{list_any}
use Rattle.std.proofs.Common.{◌≡◌, ℕ, ◌+◌, ◌-◌, ◌||◌, refl, Err, List, ◌++◌, take, drop, length, map, arith, ap, sym, ◌∙◌}
use Rattle.std.proofs.lemmas.Bool.{or_left}
use Rattle.std.proofs.lemmas.List.{take_rest}
use Rattle.std.proofs.lemmas.Result.{err_from_is_err_and, on_ok_weaker}
use Rattle.http_front.specs.declared.answers.PathError.TheVariants.{BadPath}
use Rattle.http_front.specs.Path.{joined, clean_segment, is_dots, segments}
use Rattle.http_front.proofs.PathLemmas.{dots-cut, dots-whole, joined-next, last-joined, last-dots}
use Rattle.http_front.proofs.path.push_segments.Goals as goal

pub returns-in_err-push_directory-in-Some-clause-bad : goal.returns-in_err-push_directory-in-Some-clause-bad
returns-in_err-push_directory-in-Some-clause-bad c = λ is.
    let p = err_from_is_err_and c.from_residual.result c.from_residual.ensures.1 in
    let bad : c.push_directory.result ≡ Err BadPath = cc (p.1, p.2, is, c.in_err-push_directory-in-Some.was) in
    let found = c.in-Some.ensures.found in
    sym c.loop-at.invariant.dots ∙ dots-cut c.loop-at.rest.now c.in-Some.at found.0 found.1 ∙ or_left _ _ (c.push_directory.ensures.bad bad)

pub overflow_add-rest : goal.overflow_add-rest
overflow_add-rest c = omega (arith, c.in-Some.ensures.small)

pub loop-at-preserved : goal.loop-at-preserved
loop-at-preserved c =
    let r = c.loop-at.rest.now in
    let at = c.in-Some.at in
    let found = c.in-Some.ensures.found in
    let clean = c.in_ok-push_directory-in-Some.ensures.ok in
    let left : take (length r - (at + 1)) (drop (at + 1) r) ≡ drop (at + 1) r = take_rest r (at + 1) in
    let others : (is_dots (clean_segment (take at r)) || list_any is_dots (map clean_segment (segments (drop (at + 1) r)))) ≡ list_any is_dots (map clean_segment (segments (drop (at + 1) r))) = rw clean.1 refl in
    record {
      joined = ap (λ (l : List ℕ). c.push_directory.new.clean.items ++ joined l) left ∙ joined-next c.args.clean.now.items c.loop-at.clean.items c.push_directory.new.clean.items c.args.path.now r at found.0 found.1 c.loop-at.invariant.joined clean.0;
      dots = ap (λ (l : List ℕ). list_any is_dots (map clean_segment (segments l))) left ∙ sym others ∙ sym (dots-cut r at found.0 found.1) ∙ c.loop-at.invariant.dots;
    }

pub returns-in-None-clause-joined : goal.returns-in-None-clause-joined
returns-in-None-clause-joined c =
    on_ok_weaker _ (λ clean. last-joined c.args.clean.now.items c.loop-at.clean.items c.push_segment.new.clean.items c.args.path.now c.loop-at.rest.now c.in-None.ensures.none c.loop-at.invariant.joined clean.0) c.push_segment.ensures.ok

pub returns-in-None-clause-no_dots : goal.returns-in-None-clause-no_dots
returns-in-None-clause-no_dots c =
    on_ok_weaker _ (λ clean. last-dots c.args.path.now c.loop-at.rest.now c.in-None.ensures.none c.loop-at.invariant.dots clean.1) c.push_segment.ensures.ok

pub returns-in-None-clause-bad : goal.returns-in-None-clause-bad
returns-in-None-clause-bad c = λ is.
    sym c.loop-at.invariant.dots ∙ dots-whole c.loop-at.rest.now c.in-None.ensures.none ∙ or_left _ _ (c.push_segment.ensures.bad is)
