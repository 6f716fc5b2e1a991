-- A scan for the least row, one row further.
use Rattle.std.proofs.Common.{◌≡◌, ℕ, ◌+◌, ◌<◌, Bool, true, false, List, length, Option, None, Some, get_or, arith, sym, ◌∙◌, below_more}
use Rattle.std.proofs.lemmas.Bool.{true≢false}
use Rattle.std.proofs.lemmas.List.{get_or_default}
use Rattle.std.proofs.lemmas.Bool.Decides.{nat_tests}
use Rattle.lb_model.specs.declared.ask.Ask.{Ask}
use Rattle.lb_rules.specs.declared.standing.Standing.{Standing}
use Rattle.lb_rules.specs.declared.among.Among.{Among}
use Rattle.lb_rules.specs.Standings.{passes}
use Rattle.lb_model.specs.Choice.{is_before_by, place_from}
use Rattle.lb_rules.specs.Least.{row_before, improves, IsLeastRow, IsLeastOf}

-- what goes before a new best goes before the old one
pub before-trans : (d l t d' l' t' e m u : ℕ)
    → is_before_by d' l' t' e m u ≡ true → is_before_by d l t e m u ≡ false → is_before_by d l t d' l' t' ≡ false
before-trans d l t d' l' t' e m u new old = grind (arith, nat_tests)

pub before-self : (d l t : ℕ) → is_before_by d l t d l t ≡ false
before-self d l t = grind (arith, nat_tests)

pub row-trans : (n begin i j k : ℕ) (a b c : Standing)
    → row_before n begin j b k c ≡ true → row_before n begin i a k c ≡ false → row_before n begin i a j b ≡ false
row-trans n begin i j k a b c =
    before-trans a.distance a.load (place_from n begin i) b.distance b.load (place_from n begin j)
    c.distance c.load (place_from n begin k)

module _ (among : Among) (rows : List Standing) (ask : Ask) (begin n : ℕ) (within : n < length rows) where
  at_any : (e d : Standing) (v : Bool) → passes among ask n (get_or rows n e) ≡ v → passes among ask n (get_or rows n d) ≡ v
  at_any e d v h = rw (get_or_default rows n d e within) h

  -- row n doesn't pass
  pub least_skip : (best : Option ℕ) → IsLeastOf among rows ask begin n best
      → (e : Standing) → passes among ask n (get_or rows n e) ≡ false
      → IsLeastOf among rows ask begin (n + 1) best
  least_skip None h e fails = λ j d lt.
      below_more (λ k. (d : Standing) → passes among ask k (get_or rows k d) ≡ false) n (λ k klt d. h k d klt) (λ d. at_any e d false fails) j lt d
  least_skip (Some b) h e fails = record {
    within = omega (arith, h.within);
    passing = h.passing;
    least = λ j d lt pass.
        below_more
        (λ k. (d : Standing) → passes among ask k (get_or rows k d) ≡ true
        → row_before (length rows) begin k (get_or rows k d) b (get_or rows b d) ≡ false)
        n (λ k klt d pass. h.least k d klt pass) (λ d pass. absurd (true≢false (sym pass ∙ at_any e d false fails))) j lt d pass;
  }

  -- row n doesn't go before the best
  pub least_keep : (best : Option ℕ) → IsLeastOf among rows ask begin n best
      → ((d : Standing) → improves rows begin n d best ≡ false)
      → IsLeastOf among rows ask begin (n + 1) best
  least_keep None h worse = λ j d lt. absurd (true≢false (worse d))
  least_keep (Some b) h worse = record {
    within = omega (arith, h.within);
    passing = h.passing;
    least = λ j d lt pass.
        below_more
        (λ k. (d : Standing) → passes among ask k (get_or rows k d) ≡ true
        → row_before (length rows) begin k (get_or rows k d) b (get_or rows b d) ≡ false)
        n (λ k klt d pass. h.least k d klt pass) (λ d pass. worse d) j lt d pass;
  }

  -- row n is the new best
  pub least_take : (best : Option ℕ) → IsLeastOf among rows ask begin n best
      → (e : Standing) → passes among ask n (get_or rows n e) ≡ true
      → ((d : Standing) → improves rows begin n d best ≡ true)
      → IsLeastRow among rows ask begin (n + 1) n
  least_take None h e here better = record {
    within = omega arith;
    passing = λ d. at_any e d true here;
    least = λ j d lt pass.
        below_more
        (λ k. (d : Standing) → passes among ask k (get_or rows k d) ≡ true
        → row_before (length rows) begin k (get_or rows k d) n (get_or rows n d) ≡ false)
        n (λ k klt d pass. absurd (true≢false (sym pass ∙ h k d klt)))
        (λ d pass. before-self (get_or rows n d).distance (get_or rows n d).load (place_from (length rows) begin n)) j lt d pass;
  }
  least_take (Some b) h e here better = record {
    within = omega arith;
    passing = λ d. at_any e d true here;
    least = λ j d lt pass.
        below_more
        (λ k. (d : Standing) → passes among ask k (get_or rows k d) ≡ true
        → row_before (length rows) begin k (get_or rows k d) n (get_or rows n d) ≡ false)
        n (λ k klt d pass. row-trans (length rows) begin k n b (get_or rows k d) (get_or rows n d) (get_or rows b d)
        (better d) (h.least k d klt pass))
        (λ d pass. before-self (get_or rows n d).distance (get_or rows n d).load (place_from (length rows) begin n)) j lt d pass;
  }
