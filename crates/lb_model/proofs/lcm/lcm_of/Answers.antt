use Rattle.std.specs.Int.{◌∣◌}
use Rattle.std.proofs.Common.{All, sym, ◌≡◌, ◌≤◌, ◌<◌, ◌^◌, ℕ, take, get_or, arith, ◌+◌, ap, ◌∙◌, subst}
use Rattle.std.proofs.lemmas.List.{take_all}
use Rattle.lb_model.specs.Multiple.{multiple_of, multiple_of_two}
use Rattle.lb_model.proofs.MultipleFacts.{multiple_of-each, multiple_of-least, multiple_of-next, le-multiple_of, le-multiple_of_two}
use Rattle.lb_model.proofs.lcm.lcm_of.Goals as goal

pub returns : goal.returns
returns c =
    let whole : c.loop-factor.common ≡ multiple_of c.args.factors.now =
    c.loop-factor.invariant.so_far
    ∙ ap multiple_of (take_all c.loop-factor.factor-index c.args.factors.now (omega arith)) in
    record {
      value = (subst (λ (n : ℕ). n < 2 ^ 32) whole c.loop-factor.invariant.fits, whole);
      common = subst (λ (l : ℕ). All (λ f. f ∣ l) c.args.factors.now) (sym whole) (multiple_of-each c.args.factors.now);
      least = λ n all. subst (λ (l : ℕ). l ∣ n) (sym whole) (multiple_of-least n c.args.factors.now c.requires all);
    }

pub loop-factor-preserved : goal.loop-factor-preserved
loop-factor-preserved c =
    let factor : ℕ = get_or c.args.factors.now c.loop-factor.factor-index 0 in
    let above : 0 < factor = c.requires c.loop-factor.factor-index 0 c.loop-factor-test.true in
    let grows : c.loop-factor.common ≤ multiple_of_two c.loop-factor.common factor =
    le-multiple_of_two c.loop-factor.common factor above in
    record {
      some = omega (arith, c.common_of_two-wide.ensures.value);
      fits = omega arith;
      so_far =
          multiple_of-next c.args.factors.now c.loop-factor.factor-index c.loop-factor.common c.common_of_two-wide.result
          c.loop-factor-test.true c.loop-factor.invariant.so_far c.common_of_two-wide.ensures.value;
    }

pub returns-then-wide-gt-MOST_COMMON : goal.returns-then-wide-gt-MOST_COMMON
returns-then-wide-gt-MOST_COMMON c =
    let next : c.common_of_two-wide.result ≡ multiple_of (take (c.loop-factor.factor-index + 1) c.args.factors.now) =
    multiple_of-next c.args.factors.now c.loop-factor.factor-index c.loop-factor.common c.common_of_two-wide.result
    c.loop-factor-test.true c.loop-factor.invariant.so_far c.common_of_two-wide.ensures.value in
    let most : multiple_of (take (c.loop-factor.factor-index + 1) c.args.factors.now) ≤ multiple_of c.args.factors.now =
    le-multiple_of c.args.factors.now (c.loop-factor.factor-index + 1) c.requires in
    record { value = λ narrow. omega arith; common = tt; least = tt }
