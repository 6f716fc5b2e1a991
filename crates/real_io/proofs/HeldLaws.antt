-- The bytes that were put stay whole, however many of them went out.
use Rattle.std.proofs.Common.{◌≡◌, ℕ, ◌+◌, ◌-◌, ◌≤◌, List, [], ◌++◌, length, take, drop, Option, sym, ap, ◌∙◌, arith, drop-drop, take_all, length-drop}
use Rattle.std.proofs.lemmas.List.{take-append-drop}
use Rattle.jk_io.specs.Told.{appended}
use Rattle.jk_io.proofs.ToldLaws.{appended-appended, appended-nil}

-- the slice from a place on, as the call sees it
rest_of : (bytes seen : List ℕ) (len gone : ℕ) → seen ≡ bytes → length bytes ≤ len → take (len - gone) (drop gone seen) ≡ drop gone bytes
rest_of bytes seen len gone same most =
    ap (λ s. take (len - gone) (drop gone s)) same
    ∙ take_all (len - gone) (drop gone bytes) (omega (arith, most, length-drop gone bytes))

-- all that was held went out
pub all_went : (told now : Option (List ℕ)) (bytes seen held : List ℕ) (len gone count : ℕ) → seen ≡ bytes → length bytes ≤ len
    → drop gone bytes ≡ held → length (take (len - gone) (drop gone seen)) ≤ count
    → now ≡ appended told (take count (take (len - gone) (drop gone seen))) → appended now [] ≡ appended told held
all_went told now bytes seen held len gone count same most view all went =
    appended-nil now ∙ went
    ∙ ap (appended told) (take_all count (take (len - gone) (drop gone seen)) all ∙ rest_of bytes seen len gone same most ∙ view)

-- a front of what was held went out
pub front_went : (told now : Option (List ℕ)) (bytes seen held : List ℕ) (len gone count k : ℕ) → seen ≡ bytes → length bytes ≤ len
    → drop gone bytes ≡ held → k ≡ count → now ≡ appended told (take k (take (len - gone) (drop gone seen)))
    → appended now (drop (gone + count) bytes) ≡ appended told held
front_went told now bytes seen held len gone count k same most view all went =
    ap (λ s. appended s (drop (gone + count) bytes)) (went ∙ ap (λ n. appended told (take n (take (len - gone) (drop gone seen)))) all ∙ ap (λ s. appended told (take count s)) (rest_of bytes seen len gone same most))
    ∙ appended-appended told (take count (drop gone bytes)) (drop (gone + count) bytes)
    ∙ ap (λ rest. appended told (take count (drop gone bytes) ++ rest)) (sym (drop-drop count gone bytes))
    ∙ ap (appended told) (take-append-drop count (drop gone bytes) ∙ view)
