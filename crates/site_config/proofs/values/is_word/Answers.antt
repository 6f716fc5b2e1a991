use Rattle.std.proofs.Common.{◌≡◌, ◌≢◌, ◌<◌, ℕ, true, false, List, length, map, get_or, arith, sym, ◌∙◌, ap}
use Rattle.std.proofs.lemmas.Bool.{false_from_ne_true}
use Rattle.std.proofs.lemmas.List.{get_or-map, same_lists, length-map, get_or_default}
use Rattle.std.proofs.lemmas.Slice.Eq.{bytes_eq-Decides}
use Rattle.std.specs.Str.{bytes_eq}
use Rattle.site_config.specs.Values.{lower}
use Rattle.site_config.proofs.values.is_word.Goals as goal

differs : (word text : List ℕ) (i : ℕ) → i < length text → lower (get_or text i 0) ≢ get_or word i 0 → bytes_eq (map lower text) word ≡ false
differs word text i h other =
    false_from_ne_true _ (λ same.
    let e : map lower text ≡ word = (bytes_eq-Decides (map lower text) word).0 same in
    other (sym (get_or-map lower text i 0 0 h) ∙ ap (λ (xs : List ℕ). get_or xs i 0) e))

same : (word text : List ℕ) → length word ≡ length text → ((k : ℕ) → k < length text → lower (get_or text k 0) ≡ get_or word k 0) → bytes_eq (map lower text) word ≡ true
same word text len each =
    let e : map lower text ≡ word = same_lists (map lower text) word (rw length-map (sym len)) (λ k d h.
    let within : k < length text = rw length-map at h in
    get_or-map lower text k 0 d within ∙ each k within ∙ get_or_default word k 0 d (omega arith)) in
    (bytes_eq-Decides (map lower text) word).1 e

pub returns-then-lower-word : goal.returns-then-lower-word
returns-then-lower-word c =
    sym (differs c.args.word.now c.args.text.now c.loop-i.i (omega arith) (grind arith))

pub returns : goal.returns
returns c =
    sym (same c.args.word.now c.args.text.now (grind arith) (λ k h. c.loop-i.invariant k (omega arith)))
