-- Notices, note after note.
use Rattle.std.specs.Bool.{⊤}
use Rattle.std.proofs.Common.{◌≡◌, ◌<◌, ◌+◌, ℕ, List, [], ◌∷◌, ◌++◌, length, take, drop, get_or, Option, Err, sym, ap, append-nil, ◌∙◌, subst}
use Rattle.std.proofs.lemmas.Grind.{flat_map-append}
use Rattle.std.proofs.lemmas.List.{take_more, take-append-drop}
use Rattle.std.specs.List.{flat_map}
use Rattle.jk_io.specs.Told.{appended}
use Rattle.jk_io.specs.declared.failures.IoError.TheVariants as Io
use Rattle.remarks.specs.Added.{IsFrontOfText}
use Rattle.remarks.proofs.AddedLemmas.{adds_then, front_more}

-- the notices up to the next note
notices_more : {A : Type 0} (notice : A → List ℕ) (notes : List A) (i : ℕ) (note : A) → i < length notes → note ≡ get_or notes i note
    → flat_map notice (take (i + 1) notes) ≡ flat_map notice (take i notes) ++ notice note
notices_more {A = A} notice notes i note within is =
    ap (flat_map notice) (take_more notes i note within) ∙ flat_map-append notice (take i notes) (get_or notes i note ∷ [])
    ∙ ap (λ (t : List ℕ). flat_map notice (take i notes) ++ t) (append-nil (notice (get_or notes i note)))
    ∙ ap (λ (n : A). flat_map notice (take i notes) ++ notice n) (sym is)

-- the notices so far and a front of the next one
pub note_cut : {A : Type 0} (notice : A → List ℕ) (notes : List A) (i : ℕ) (note : A) (start told new : Option (List ℕ)) → i < length notes → note ≡ get_or notes i note
    → told ≡ appended start (flat_map notice (take i notes)) → IsFrontOfText (appended told (notice note)) new
    → IsFrontOfText (appended start (flat_map notice notes)) new
note_cut notice notes i note start told new within is before cut =
    let so = flat_map notice in
    let more : IsFrontOfText (appended start (so (take i notes) ++ notice note)) new =
    adds_then {T = ⊤} (Err Io.NoMemory) start told new (so (take i notes)) (notice note) before cut in
    let front : IsFrontOfText (appended start (so (take (i + 1) notes))) new =
    subst (λ (text : List ℕ). IsFrontOfText (appended start text) new) (sym (notices_more notice notes i note within is)) more in
    let whole : so notes ≡ so (take (i + 1) notes) ++ so (drop (i + 1) notes) =
    ap so (sym (take-append-drop (i + 1) notes)) ∙ flat_map-append notice (take (i + 1) notes) (drop (i + 1) notes) in
    subst (λ (text : List ℕ). IsFrontOfText (appended start text) new) (sym whole) (front_more start new (so (take (i + 1) notes)) (so (drop (i + 1) notes)) front)
