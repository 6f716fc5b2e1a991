-- A lock whose value has one history: what holds between any two steps, and what each step tells. Read this first.
use Rattle.std.specs.Prelude.{◌≡◌, ◌≢◌, ℕ, ◌<◌, Bool, true, false, List, [], ◌∷◌, ◌++◌, map, length, Option, Some}
use Rattle.std.specs.List.{All}
use mathlib.Core.Option.{some}
use lib.ListN.{get_elem?}
use Rattle.atomic_table.specs.Table.{State, Me}
use Rattle.lb_shared.specs.declared.view.Claim.{Claim}
use Rattle.lb_shared.specs.declared.view.View.{View}

module _ {E : Type 0} where
  -- These entries, added by the seat of this number.
  abbrev pub by_seat : (number : ℕ) → List E → List (ℕ × E)
  by_seat number entries = map (λ e. (number, e)) entries

  -- A claim is true of the one history: it begins with what was seen, and no later entry is of this seat.
  pub record IsClaim (log : List (ℕ × E)) (c : Claim E) : Type 0 where
    pub later : List (ℕ × E)
    pub whole : log ≡ c.seen ++ later
    pub others : All (λ x. x.0 ≢ c.number) later

  -- One claim, with the lock's value or without it.
  abbrev pub seated : (holds : Bool) → (number : ℕ) → (seen : List (ℕ × E)) → View E
  seated holds number seen = record { holds = holds; claims = record { number = number; seen = seen } ∷ [] }

  -- A seat that knows nothing.
  abbrev pub nobody : View E
  nobody = record { holds = false; claims = [] }

  -- The claims of both seats.
  abbrev pub united : View E → View E → View E
  united v w = record { holds = v.holds; claims = v.claims ++ w.claims }

  -- The same claims, once the whole history was seen.
  abbrev pub caught_up : (log : List (ℕ × E)) → List (Claim E) → List (Claim E)
  caught_up log claims = map (λ c. record { number = c.number; seen = log }) claims

  -- No two claims have one number.
  abbrev pub AreApart : List (Claim E) → Type 0
  AreApart claims = (k m : ℕ) (c d : Claim E) → get_elem? claims k ≡ some c → get_elem? claims m ≡ some d → c.number ≡ d.number → k ≡ m

  -- Claim c stands at place k of seat i.
  pub record Stands (views : List (View E)) (i k : ℕ) (v : View E) (c : Claim E) : Type 0 where
    pub view : get_elem? views i ≡ some v
    pub claim : get_elem? v.claims k ≡ some c

module _ {S E : Type 0} where
  -- The rule between any two steps. The word is 0 while the lock is free: then the value is at home, the history says
  -- what it is, and no seat has it. Else at most one seat has it, and has seen the whole history. Each claim is true of the
  -- history, and no two claims have one number.
  pub record IsKept (tells : List (ℕ × E) → S → Type 0) (s : State (Option S) (View E)) : Type 0 where
    pub word : ℕ
    pub log : List (ℕ × E)
    pub words : s.words ≡ word ∷ []
    pub free : word ≡ 0 → (y : S) × (s.homes ≡ some (Some y) ∷ []) × tells log y
    pub none : word ≡ 0 → (i : ℕ) (v : View E) → get_elem? s.views i ≡ some v → v.holds ≡ false
    pub one : (i j : ℕ) (u v : View E) → get_elem? s.views i ≡ some u → get_elem? s.views j ≡ some v
        → u.holds ≡ true → v.holds ≡ true → i ≡ j
    pub claims : (i k : ℕ) (v : View E) (c : Claim E) → Stands s.views i k v c → IsClaim log c
    pub numbers : (i k : ℕ) (v : View E) (c : Claim E) → Stands s.views i k v c → c.number < length s.views
    pub held : (i k : ℕ) (v : View E) (c : Claim E) → Stands s.views i k v c → v.holds ≡ true → c.seen ≡ log
    pub alone : (i j k m : ℕ) (u v : View E) (c d : Claim E) → Stands s.views i k u c → Stands s.views j m v d
        → c.number ≡ d.number → (i ≡ j) × (k ≡ m)
    pub numbered : All (λ x. x.0 < length s.views) log

  -- The seat has the value. The history says what it is, begins with what the seat had seen, and has no further entry of it.
  -- No two of its claims have one number.
  pub record Took (tells : List (ℕ × E) → S → Type 0) (v : View E) (slots : List (ℕ × Option S)) (after : Me (Option S) (View E)) : Type 0 where
    pub log : List (ℕ × E)
    pub value : S
    pub told : tells log value
    pub claims : (k : ℕ) (c : Claim E) → get_elem? v.claims k ≡ some c → IsClaim log c
    pub apart : AreApart v.claims
    pub after_is : after ≡ (record { holds = true; claims = caught_up log v.claims }, (0, Some value) ∷ slots)

  -- This value came out last: there is one history that says what it is, and of which these claims are true. No two of them
  -- have one number.
  pub record IsLast (tells : List (ℕ × E) → S → Type 0) (claims : List (Claim E)) (value : S) : Type 0 where
    pub log : List (ℕ × E)
    pub told : tells log value
    pub true_of : (k : ℕ) (c : Claim E) → get_elem? claims k ≡ some c → IsClaim log c
    pub apart : AreApart claims

  -- The lock was free and was taken, or it wasn't, and the seat is as it was.
  pub record Enters (tells : List (ℕ × E) → S → Type 0) (me : Me (Option S) (View E)) (found : ℕ) (after : Me (Option S) (View E)) : Type 0 where
    pub free : found ≡ 0 → Took tells me.0 me.1 after
    pub taken : found ≢ 0 → after ≡ me

  -- The seat has the value, and the history that it has seen, with the new entries at its end, says what the value is.
  pub record IsToldLast (tells : List (ℕ × E) → S → Type 0) (news : S → List E) (me : Me (Option S) (View E)) : Type 0 where
    pub number : ℕ
    pub seen : List (ℕ × E)
    pub value : S
    pub is : me ≡ (seated true number seen, (0, Some value) ∷ [])
    pub told : tells (seen ++ by_seat number (news value)) value

  -- The value went home, and its new entries are the last ones of the history, added by this seat.
  abbrev pub Leaves : (S → List E) → (me after : Me (Option S) (View E)) → Type 0
  Leaves news me after =
      (number : ℕ) (seen : List (ℕ × E)) (y : S) → me ≡ (seated true number seen, (0, Some y) ∷ [])
      → after ≡ (seated false number (seen ++ by_seat number (news y)), [])

  -- A seat came that has seen nothing, with a number of its own.
  abbrev pub Comes : (after : Me (Option S) (View E)) → Type 0
  Comes after = (number : ℕ) × (after.0 ≡ seated false number [])
