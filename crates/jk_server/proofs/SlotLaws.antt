-- The slots of a run, served in their order and then taken apart, and the room for all that they leave.
use Rattle.std.proofs.Common.{ℕ, suc, ◌≡◌, ◌+◌, ◌<◌, ◌≤◌, List, [], ◌∷◌, ◌++◌, length, take, refl, subst, sym, ap, ◌∙◌, add-one, arith}
use Rattle.std.specs.Prelude.{slice_index_or}
use Rattle.std.specs.List.{All}
use Rattle.std.proofs.lemmas.List.Elements.{All-cons, All-nil}
use Rattle.std.proofs.Math.Seq.{take-append_seam}
use Rattle.std.proofs.lemmas.List.{append_assoc, append-nil}
use Rattle.jk_server.specs.Parts.{AllFour, AreDone, AreEach, DoneAndLeft, InEach}
use Rattle.jk_server.specs.Rooms.{HasRoomForEnds, HasSpace, PutsLeft}
use Rattle.jk_server.specs.declared.part.WorkerEnd.{WorkerEnd}
use Rattle.jk_server.specs.declared.part.Ran.{Ran}

-- The slots by their numbers, with all that was done in each.
pub done_of : {Q : Type 0} → (Did : ℕ → Q → Q → Type 0) (n : ℕ) (before after : List Q) → length after ≡ length before
    → ((i : ℕ) (d : Q) → i < length before → Did (n + i) (slice_index_or before i d) (slice_index_or after i d)) → AreDone Did n before after
done_of Did n [] [] len did = tt
done_of Did n [] (b ∷ after) len did = absurd (omega (arith, len))
done_of Did n (a ∷ before) [] len did = absurd (omega (arith, len))
done_of Did n (a ∷ before) (b ∷ after) len did = (
  subst (λ (k : ℕ). Did k a b) (omega arith) (did 0 a (omega arith)),
  done_of Did (n + 1) before after (omega (arith, len))
      (λ i d lt. subst (λ (k : ℕ). Did k (slice_index_or before i d) (slice_index_or after i d)) (omega arith) (did (suc i) d (omega (arith, lt)))),
)

-- So of the whole lists that were lent.
pub done_back : {Q : Type 0} → (Did : ℕ → Q → Q → Type 0) (before lent new after : List Q) → lent ≡ before → after ≡ new → length new ≡ length lent
    → InEach Did lent new → AreDone Did 0 before after
done_back {Q} Did before lent new after same written len did =
    subst (λ (qs : List Q). AreDone Did 0 qs after) same
    (subst (λ (qs : List Q). AreDone Did 0 lent qs) (sym written)
    (done_of Did 0 lent new len (λ i d lt. subst (λ (k : ℕ). Did k (slice_index_or lent i d) (slice_index_or new i d)) (omega arith) (did i d lt))))

-- The slots, with all that was done in each and was left of it then.
pub each_done : {Q G V E : Type 0} → (Did : ℕ → Q → Q → Type 0) (Leaves : Q → G → V → E → Type 0) (n : ℕ) (before after : List Q) (gs : List G) (ls : List V) (es : List E)
    → AreDone Did n before after → AllFour Leaves after gs ls es → AreEach (DoneAndLeft Did Leaves) n before gs ls es
each_done Did Leaves n [] [] [] [] [] did left = tt
each_done Did Leaves n [] [] [] [] (e ∷ es) did left = absurd left
each_done Did Leaves n [] [] [] (l ∷ ls) es did left = absurd left
each_done Did Leaves n [] [] (g ∷ gs) ls es did left = absurd left
each_done Did Leaves n [] (b ∷ after) gs ls es did left = absurd did
each_done Did Leaves n (a ∷ before) [] gs ls es did left = absurd did
each_done Did Leaves n (a ∷ before) (b ∷ after) [] ls es did left = absurd left
each_done Did Leaves n (a ∷ before) (b ∷ after) (g ∷ gs) [] es did left = absurd left
each_done Did Leaves n (a ∷ before) (b ∷ after) (g ∷ gs) (l ∷ ls) [] did left = absurd left
each_done Did Leaves n (a ∷ before) (b ∷ after) (g ∷ gs) (l ∷ ls) (e ∷ es) did left =
    (record { after = b; did = did.0; leaves = left.0 }, each_done Did Leaves (n + 1) before after gs ls es did.1 left.1)

-- As many slots are left, and what follows of what was done holds of each.
pub as_many_done : {Q : Type 0} → (Did : ℕ → Q → Q → Type 0) (n : ℕ) (before after : List Q) → AreDone Did n before after → length after ≡ length before
as_many_done Did n [] [] did = refl
as_many_done Did n [] (b ∷ after) did = absurd did
as_many_done Did n (a ∷ before) [] did = absurd did
as_many_done Did n (a ∷ before) (b ∷ after) did = omega (arith, as_many_done Did (n + 1) before after did.1)

pub over_after : {Q : Type 0} → (Did : ℕ → Q → Q → Type 0) (Is : Q → Type 0) (n : ℕ) (before after : List Q) → AreDone Did n before after
    → ((k : ℕ) (a b : Q) → Did k a b → Is b) → All Is after
over_after Did Is n [] [] did so = All-nil Is
over_after Did Is n [] (b ∷ after) did so = absurd did
over_after Did Is n (a ∷ before) [] did so = absurd did
over_after Did Is n (a ∷ before) (b ∷ after) did so = All-cons Is b after (so n a b did.0) (over_after Did Is (n + 1) before after did.1 so)

-- ---- slots that are taken apart one after another

-- what the slots so far left, with what the others leave put after it, is what all leave
abbrev pub IsSoFar : {P O V E : Type 0} → (P → O → V → E → Type 0) → (slots rest : List P) → List O → List V → List E → Type 0
IsSoFar {P} {O} {V} {E} Is slots rest outs lefts ends =
    (os : List O) (ls : List V) (es : List E) → AllFour Is rest os ls es → AllFour Is slots (outs ++ os) (lefts ++ ls) (ends ++ es)

pub none_taken : {P O V E : Type 0} → (Is : P → O → V → E → Type 0) (slots rest : List P) (outs : List O) (lefts : List V) (ends : List E)
    → outs ≡ [] → lefts ≡ [] → ends ≡ [] → rest ≡ slots → IsSoFar Is slots rest outs lefts ends
none_taken {P} Is slots rest outs lefts ends no_out no_left no_end all os ls es is =
    rw (no_out, no_left, no_end) (subst (λ (ps : List P). AllFour Is ps os ls es) all is)

pub one_taken : {P O V E : Type 0} → (Is : P → O → V → E → Type 0) (slots rest later : List P) (outs outs' : List O) (lefts lefts' : List V) (ends ends' : List E) (p : P) (o : O) (l : V) (e : E)
    → IsSoFar Is slots rest outs lefts ends → rest ≡ p ∷ later → Is p o l e
    → outs' ≡ outs ++ o ∷ [] → lefts' ≡ lefts ++ l ∷ [] → ends' ≡ ends ++ e ∷ [] → IsSoFar Is slots later outs' lefts' ends'
one_taken Is slots rest later outs outs' lefts lefts' ends ends' p o l e so_far cut is more_out more_left more_end os ls es all =
    rw (more_out, more_left, more_end, append_assoc outs (o ∷ []) os, append_assoc lefts (l ∷ []) ls, append_assoc ends (e ∷ []) es)
    (so_far (o ∷ os) (l ∷ ls) (e ∷ es) (rw cut (is, all)))

pub all_taken : {P O V E : Type 0} → (Is : P → O → V → E → Type 0) (slots rest : List P) (outs : List O) (lefts : List V) (ends : List E)
    → IsSoFar Is slots rest outs lefts ends → rest ≡ [] → AllFour Is slots outs lefts ends
all_taken {P} {O} {V} {E} Is slots rest outs lefts ends so_far cut =
    let none : AllFour Is rest [] [] [] = rw cut tt in
    subst (λ (os : List O). AllFour Is slots os lefts ends) (append-nil outs)
    (subst (λ (ls : List V). AllFour Is slots (outs ++ []) ls ends) (append-nil lefts)
    (subst (λ (es : List E). AllFour Is slots (outs ++ []) (lefts ++ []) es) (append-nil ends) (so_far [] [] [] none)))

-- ---- the whole run

-- what was written through a slice of a whole list is the list after it
pub written_back : {X : Type 0} → (n : ℕ) (new rest : List X) → n ≡ length new → take n (new ++ rest) ≡ new
written_back n new rest all = subst (λ (k : ℕ). take k (new ++ rest) ≡ new) (sym all) (take-append_seam new rest)

pub empty_of : {X : Type 0} → (xs : List X) → length xs ≡ 0 → xs ≡ []
empty_of [] none = refl
empty_of (x ∷ xs) none = absurd (omega (arith, none))

-- ---- room for what is left

-- Where there is room for what some workers leave, there is for the first of them.
pub space_for_one : {L V G Q : Type 0} → (room : Ran L V G) (rest later : List Q) (q : Q) → HasSpace (length rest) room → rest ≡ q ∷ later → HasSpace 1 room
space_for_one room rest later q space cut =
    let len : length rest ≡ suc (length later) = ap length cut in
    record {
      for_ends = omega (arith, space.for_ends, len);
      for_lefts = omega (arith, space.for_lefts, len);
      for_gears = omega (arith, space.for_gears, len);
    }

pub space_after : {L V G Q : Type 0} → (before after : Ran L V G) (end : WorkerEnd L) (left : V) (gear : G) (rest later : List Q) (q : Q)
    → PutsLeft before after end left gear → HasSpace (length rest) before → rest ≡ q ∷ later → HasSpace (length later) after
space_after before after end left gear rest later q put space cut = put.space (length later) (length rest) (ap length cut ∙ sym (add-one (length later))) space

-- So is room for as many.
pub room_so : {L V G : Type 0} → (room : Ran L V G) (many count : ℕ) → many ≡ count → HasRoomForEnds count room → HasRoomForEnds many room
room_so {L} {V} {G} room many count same has = subst (λ (n : ℕ). HasRoomForEnds n room) (sym same) has

-- ---- slots that were worked in

pub each_of : {Q : Type 0} → (Is : Q → Type 0) (lent slots : List Q) → lent ≡ slots → All Is slots → All Is lent
each_of {Q} Is lent slots same all = subst (λ (l : List Q). All Is l) (sym same) all

pub may_work : {Q : Type 0} → (Fits : Q → Type 0) (lent slots : List Q) (most : ℕ) → lent ≡ slots → length slots ≤ most → All Fits slots
    → (i : ℕ) (d : Q) → i < length lent → (i < most) × Fits (slice_index_or lent i d)
may_work Fits lent slots most same few fit i d lt = (omega (arith, lt, few, ap length same), each_of Fits lent slots same fit i d lt)

-- The items that were written through the slice of all slots are as many.
pub as_long_back : {Q : Type 0} → (n : ℕ) (lent slots new rest : List Q) → n ≡ length slots → lent ≡ slots → length new ≡ length lent → take n (new ++ rest) ≡ new
as_long_back n lent slots new rest whole same len = written_back n new rest (whole ∙ sym (ap length same) ∙ sym len)
