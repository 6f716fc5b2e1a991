-- Parts of the inbox's buffer.
use Rattle.std.proofs.Common.{◌≡◌, ℕ, ◌+◌, ◌-◌, ◌≤◌, List, ◌++◌, Option, Result, Ok, Err, IfOk, OnErr, length, take, drop, sym, ap, ◌∙◌, arith, drop-drop, append-nil}
use Rattle.std.proofs.lemmas.List.{drop-take, length-take-le, drop-append-le, nil_from_length}
use Rattle.std.proofs.lemmas.Slice.{between_is}
use Rattle.std.specs.List.{between}
use borrow.Rule.Slice.PartMut.{put_mid}
use Rattle.jk_io.specs.Told.{prepended}
use Rattle.jk_io.proofs.PieceLaws.{take-filled}
use Rattle.jk_io.proofs.ToldLaws.{prepended-prepended}

-- bytes that are used are dropped from the front
pub between-skip : (s e n : ℕ) (xs : List ℕ) → s + n ≤ e → between (s + n) e xs ≡ drop n (between s e xs)
between-skip s e n xs within =
    let left : e - s ≡ n + (e - (s + n)) = omega arith in
    sym (ap (λ (k : ℕ). drop n (take k (drop s xs))) left ∙ drop-take n (e - (s + n)) (drop s xs) ∙ ap (λ (ys : List ℕ). take (e - (s + n)) ys) (drop-drop n s xs))

-- bytes that came after
pub between-more : (start end n : ℕ) (before after came : List ℕ) → start ≤ end → end ≤ length before → take (end + n) after ≡ take end before ++ came → between start (end + n) after ≡ between start end before ++ came
between-more start end n before after came ordered within more =
    between_is after start (end + n)
    ∙ ap (λ (l : List ℕ). drop start l) more
    ∙ drop-append-le start (take end before) came (omega (arith, ordered, length-take-le end before within))
    ∙ ap (λ (l : List ℕ). l ++ came) (sym (between_is before start end))

-- nothing came
pub between-same : (start end : ℕ) (before after : List ℕ) → take end after ≡ take end before → between start end after ≡ between start end before
between-same start end before after same =
    between_is after start end ∙ ap (λ (l : List ℕ). drop start l) same ∙ sym (between_is before start end)

-- what came is in the inbox and no longer to come
pub unread-more : (view old came : List ℕ) (before after : Option (List ℕ)) → view ≡ old ++ came → before ≡ prepended came after → prepended view after ≡ prepended old before
unread-more view old came before after more gave =
    ap (λ (l : List ℕ). prepended l after) more ∙ sym (prepended-prepended old came after) ∙ ap (prepended old) (sym gave)

-- what a read after the end gives
pub behind-more : {E : Type 0} (r : Result ℕ E) (buffer part : List ℕ) (end k : ℕ) (before after : Option (List ℕ)) → end ≤ length buffer
    → IfOk r (λ n. n ≤ length part) → IfOk r (λ n. before ≡ prepended (take n part) after)
    → IfOk r (λ n. (came : List ℕ) × (length came ≡ n) × (take (end + n) (put_mid end k buffer part) ≡ take end buffer ++ came) × (before ≡ prepended came after))
behind-more (Ok n) buffer part end k before after within count gave =
    (take n part, length-take-le n part count, take-filled buffer part end k n within count, gave)
behind-more (Err e) buffer part end k before after within count gave = tt

-- where nothing came, the inbox is as it was
pub nothing-came : (now old came : List ℕ) → now ≡ old ++ came → length came ≡ 0 → now ≡ old
nothing-came now old came more none = more ∙ ap (λ (l : List ℕ). old ++ l) (nil_from_length came none) ∙ append-nil old

pub on_err_any : {T E P : Type 0} (r : Result T E) → P → OnErr r P
on_err_any (Ok x) p = tt
on_err_any (Err e) p = p

pub on_err_map : {T E P Q : Type 0} (r : Result T E) → (P → Q) → OnErr r P → OnErr r Q
on_err_map (Ok x) f p = tt
on_err_map (Err e) f p = f p

-- a count that stayed, and one that stayed and then did not fall
pub kept-count : (now before : ℕ) → now ≡ before → before ≤ now
kept-count now before same = omega arith

pub risen-count : (mid before now : ℕ) → mid ≡ before → mid ≤ now → before ≤ now
risen-count mid before now same risen = omega arith
