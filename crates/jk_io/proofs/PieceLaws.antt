-- A piece that is handed on from a place, and a buffer that is filled from a place.
use Rattle.std.proofs.Common.{◌≡◌, ℕ, ◌+◌, ◌-◌, ◌≤◌, List, ◌++◌, Option, length, take, drop, subst, sym, ap, ◌∙◌, arith}
use Rattle.std.proofs.Math.Seq.{take-add, take-append-add}
use Rattle.std.proofs.lemmas.List.{take_rest, take-append-drop, take-append-le, length-take-le, drop-drop}
use borrow.Rule.Slice.PartMut.{put_mid, post_of}
use Rattle.jk_io.specs.Told.{appended, prepended}
use Rattle.jk_io.proofs.ToldLaws.{appended-appended, appended-nil, prepended-prepended, prepended-nil}

-- the first `at`, and `n` of `&p[at..]`
pub take-next : {T : Type 0} → (p : List T) (at n : ℕ) → take (at + n) p ≡ take at p ++ take n (take (length p - at) (drop at p))
take-next p at n = take-add at n p ∙ ap (λ x. take at p ++ take n x) (sym (take_rest p at))

-- the first `at` of what was there, and `n` of what `&mut xs[at..]` was filled with
pub take-filled : {T : Type 0} → (xs ys : List T) (at k n : ℕ) → at ≤ length xs → n ≤ length ys
    → take (at + n) (put_mid at k xs ys) ≡ take at xs ++ take n ys
take-filled {T} xs ys at k n within more =
    let P : ℕ → Type 0 = λ m. take (m + n) (take at xs ++ (ys ++ post_of at k xs)) ≡ take at xs ++ take n ys in
    subst P (length-take-le at xs within)
    (take-append-add (take at xs) (ys ++ post_of at k xs) n ∙ ap (λ x. take at xs ++ x) (take-append-le n ys (post_of at k xs) more))

-- what was put before `at`, and `n` of `&p[at..]` after it
pub put_next : (before now after : Option (List ℕ)) (p : List ℕ) (at n : ℕ)
    → now ≡ appended before (take at p) → after ≡ appended now (take n (take (length p - at) (drop at p)))
    → after ≡ appended before (take (at + n) p)
put_next before now after p at n first next =
    next ∙ ap (λ s. appended s (take n (take (length p - at) (drop at p)))) first
    ∙ appended-appended before (take at p) (take n (take (length p - at) (drop at p)))
    ∙ ap (appended before) (sym (take-next p at n))

-- what came before `at`, and `n` more after it, as the buffer holds them
pub got_next : (before now after : Option (List ℕ)) (xs ys : List ℕ) (at k n : ℕ) → at ≤ length xs → n ≤ length ys
    → now ≡ appended before (take at xs) → after ≡ appended now (take n ys)
    → after ≡ appended before (take (at + n) (put_mid at k xs ys))
got_next before now after xs ys at k n within more first next =
    next ∙ ap (λ s. appended s (take n ys)) first ∙ appended-appended before (take at xs) (take n ys)
    ∙ ap (appended before) (sym (take-filled xs ys at k n within more))

pub gave_next : (before now after : Option (List ℕ)) (xs ys : List ℕ) (at k n : ℕ) → at ≤ length xs → n ≤ length ys
    → before ≡ prepended (take at xs) now → now ≡ prepended (take n ys) after
    → before ≡ prepended (take (at + n) (put_mid at k xs ys)) after
gave_next before now after xs ys at k n within more first next =
    first ∙ ap (prepended (take at xs)) next ∙ prepended-prepended (take at xs) (take n ys) after
    ∙ ap (λ x. prepended x after) (sym (take-filled xs ys at k n within more))

-- what came before `at`, as the buffer holds it where nothing more came
pub got_none : (before now after : Option (List ℕ)) (xs ys : List ℕ) (at k : ℕ) → at ≤ length xs
    → now ≡ appended before (take at xs) → after ≡ now → after ≡ appended before (take at (put_mid at k xs ys))
got_none before now after xs ys at k within first same =
    let end : at + 0 ≡ at = omega arith in
    subst (λ (m : ℕ). after ≡ appended before (take m (put_mid at k xs ys))) end
    (got_next before now after xs ys at k 0 within (omega arith) first (same ∙ sym (appended-nil now)))

pub gave_none : (before now after : Option (List ℕ)) (xs ys : List ℕ) (at k : ℕ) → at ≤ length xs
    → before ≡ prepended (take at xs) now → after ≡ now → before ≡ prepended (take at (put_mid at k xs ys)) after
gave_none before now after xs ys at k within first same =
    let end : at + 0 ≡ at = omega arith in
    subst (λ (m : ℕ). before ≡ prepended (take m (put_mid at k xs ys)) after) end
    (gave_next before now after xs ys at k 0 within (omega arith) first (sym same ∙ sym (prepended-nil after)))

-- where no byte came, the same is to come, and the same was received
pub nothing_gave : (now after : Option (List ℕ)) (ys : List ℕ) (n : ℕ) → n ≡ 0 → now ≡ prepended (take n ys) after → after ≡ now
nothing_gave now after ys n none gave = sym (gave ∙ ap (λ (k : ℕ). prepended (take k ys) after) none ∙ prepended-nil after)

pub nothing_got : (now after : Option (List ℕ)) (ys : List ℕ) (n : ℕ) → n ≡ 0 → after ≡ appended now (take n ys) → after ≡ now
nothing_got now after ys n none got = got ∙ ap (λ (k : ℕ). appended now (take k ys)) none ∙ appended-nil now

-- what is copied from `&text[at..]` is what lay ahead at `at`
pub gave_front : (text slice buf : List ℕ) (at n : ℕ) → slice ≡ text → take n buf ≡ take n (take (length slice - at) (drop at slice))
    → drop at text ≡ take n buf ++ drop (at + n) text
gave_front text slice buf at n same copied =
    let front : take n buf ≡ take n (drop at text) =
    copied ∙ ap (λ s. take n (take (length s - at) (drop at s))) same ∙ ap (take n) (take_rest text at) in
    sym (take-append-drop n (drop at text)) ∙ ap (λ f. f ++ drop n (drop at text)) (sym front)
    ∙ ap (λ r. take n buf ++ r) (drop-drop n at text)

pub got_front : (text slice buf : List ℕ) (at n : ℕ) → slice ≡ text → take n buf ≡ take n (take (length slice - at) (drop at slice))
    → take (at + n) text ≡ take at text ++ take n buf
got_front text slice buf at n same copied =
    let front : take n buf ≡ take n (drop at text) =
    copied ∙ ap (λ s. take n (take (length s - at) (drop at s))) same ∙ ap (take n) (take_rest text at) in
    take-add at n text ∙ ap (λ r. take at text ++ r) (sym front)
