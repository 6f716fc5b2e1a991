-- The ticket of a spot, by the tables of Returns: it is out exactly where they have no number for it.
use Rattle.std.proofs.Common.{◌≡◌, ℕ, ◌<◌, true, false, ◌&&◌, List, [], ◌∷◌, length, reverse, Option, Some, None, get_or, sym, ap, subst, inl, inr, arith}
use Rattle.std.specs.Prelude.{◌==◌, option_and_then}
use Rattle.std.specs.List.{list_any}
use Rattle.std.proofs.lemmas.Bool.{cases_lt, or_right, or_left, or_cases, and_parts}
use Rattle.std.proofs.lemmas.List.{length-reverse}
use Rattle.std.proofs.lemmas.Option.{slice_get_past, slice_get_within}
use Rattle.lb_model.specs.Journal.{chosen_in}
use Rattle.lb_model.specs.Tickets.{gives_back, is_returned, is_out}
use Rattle.lb_model.specs.Legal.{IsLegal}
use Rattle.lb_model.specs.declared.journal.Entry.{Entry}
use Rattle.lb_model.specs.declared.opening.Opening.{Opening}
use Rattle.lb_rules.specs.declared.tickets.Spot.{Spot}
use Rattle.lb_rules.specs.Returns.{AreReturns, IsReturnedAt}
use Rattle.lb_rules.specs.Spots.{chosen_at, IsSpot, IsPlaced, returned_in}
use Rattle.lb_rules.proofs.SpotLaws.{spot_made, made_is_out, returned_is_not_out}

-- A spot is a place of the tables.
pub spot_placed : (o : Opening) (p h : List Entry) (kept early : List (Option ℕ)) (t m : ℕ) (spot : Spot)
    → length h ≡ length p → AreReturns o p kept early → IsSpot o h t m spot → IsPlaced spot kept early
spot_placed o p h kept early t m (Spot.Entry place) same are is =
    elim (cases_lt place (length h)) [
      | inl within ↦ omega (arith, are.whole, same, within)
      | inr past ↦
          let none : chosen_at h place ≡ None =
          ap (λ (found : Option Entry). option_and_then (λ (x : Entry). chosen_in x.answer) found) (slice_get_past h place past) in
          let some : chosen_at h place ≡ Some m = is.0 in
          absurd cc
    ]
spot_placed o p h kept early t m (Spot.Opening place) same are is =
    omega (arith, are.early_whole, slice_get_within o.out place (t, m) is)

-- The ticket of a spot by the tables: whether it came back.
pub spot_returned : (o : Opening) (p h : List Entry) (kept early : List (Option ℕ)) (t m : ℕ) (spot : Spot)
    → length h ≡ length p → AreReturns o p kept early → IsSpot o h t m spot → IsReturnedAt p t (returned_in kept early spot)
spot_returned o p h kept early t m (Spot.Entry place) same are is =
    let placed : place < length kept = spot_placed o p h kept early t m (Spot.Entry place) same are is in
    subst (λ (k : ℕ). IsReturnedAt p k (get_or kept place None)) (sym is.1) (are.own place (omega (arith, are.whole, placed)))
spot_returned o p h kept early t m (Spot.Opening place) same are is = are.older place (t, m) is

pub any-returned : (t n : ℕ) (p : List Entry) → list_any (λ (e : Entry). e.seq == n && gives_back t e.call) p ≡ true → is_returned t p ≡ true
any-returned t n [] is = is
any-returned t n (e ∷ q) is =
    elim (or_cases (e.seq == n && gives_back t e.call) (list_any (λ (x : Entry). x.seq == n && gives_back t x.call) q) is) [
      | inl this ↦ or_left (gives_back t e.call) (is_returned t q) (and_parts (e.seq == n) (gives_back t e.call) this).1
      | inr older ↦ or_right (gives_back t e.call) (is_returned t q) (any-returned t n q older)
    ]

-- A ticket of a spot is out exactly where the tables have no number for it.
pub spot_out : (v : ℕ) (o : Opening) (h : List Entry) (kept early : List (Option ℕ)) (t m : ℕ) (spot : Spot) → IsLegal v o h
    → AreReturns o (reverse h) kept early → IsSpot o h t m spot → None ≡ returned_in kept early spot → is_out o (reverse h) t ≡ true
spot_out v o h kept early t m spot legal are is none_is =
    made_is_out o (reverse h) t m (spot_made v o h t m spot legal is)
    (subst (λ (x : Option ℕ). IsReturnedAt (reverse h) t x) (sym none_is)
    (spot_returned o (reverse h) h kept early t m spot (sym (length-reverse h)) are is))

pub spot_back : (o : Opening) (h : List Entry) (kept early : List (Option ℕ)) (t m n : ℕ) (spot : Spot)
    → AreReturns o (reverse h) kept early → IsSpot o h t m spot → Some n ≡ returned_in kept early spot
    → IsReturnedAt (reverse h) t (Some n) × (is_out o (reverse h) t ≡ false)
spot_back o h kept early t m n spot are is some_is =
    let back : IsReturnedAt (reverse h) t (Some n) =
    subst (λ (x : Option ℕ). IsReturnedAt (reverse h) t x) (sym some_is)
    (spot_returned o (reverse h) h kept early t m spot (sym (length-reverse h)) are is) in
    (back, returned_is_not_out o (reverse h) t (any-returned t n (reverse h) back))
