-- Gears that were given logs.
use Rattle.std.proofs.Common.{ℕ, zero, suc, ◌≡◌, ◌+◌, ◌<◌, ◌≤◌, List, [], ◌∷◌, ◌++◌, length, map, take, get_or, set, Option, Some, refl, sym, ap, subst, ◌∙◌, append_assoc, arith}
use Rattle.std.specs.List.{All}
use Rattle.std.proofs.lemmas.List.{append-nil, map-append, take_all}
use Rattle.std.proofs.lemmas.List.Elements.{All-cons, All-head, All-nil, All-tail}
use Rattle.gear_parts.specs.Gears.{AreLogged, logged, unlogged}
use Rattle.gear_parts.specs.Putting.{PutsOne}
use Rattle.gear_parts.specs.Wants.{AreSuited}
use Rattle.gear_parts.specs.Worlds.{HandsAndTakes, WorldSide}
use Rattle.gear_parts.specs.declared.world.Gear.{Gear}
use Rattle.jk_io.specs.Told.{appended}
use Rattle.jk_io.proofs.ToldLaws.{appended-nil}
use Rattle.gear_parts.proofs.WorldLaws.{suited_and}

pub no_log_yet : {O : Type 0} (Is : ℕ → O → Type 0) (logs : List O) → length logs ≡ 0 → AreSuited Is 0 logs
no_log_yet Is [] none = tt
no_log_yet Is (log ∷ logs) none = absurd (omega (arith, none))

-- another log was made
pub log_on : {O : Type 0} (Is : ℕ → O → Type 0) (number : ℕ) (logs more : List O) → AreSuited Is 0 logs → number ≡ length logs → PutsOne (Is number) logs more
    → AreSuited Is 0 more
log_on {O} Is number logs more suited place put =
    let at : number ≡ 0 + length logs = omega (arith, place) in
    subst (λ (items : List O). AreSuited Is 0 items) (sym put.added)
    (suited_and Is 0 logs put.item suited (subst (λ (n : ℕ). Is n put.item) at put.is))

-- A list whose item at a place was changed.
take_set : {X : Type 0} (xs : List X) (i : ℕ) (x : X) → i < length xs → take (suc i) (set xs i x) ≡ take i xs ++ x ∷ []
take_set [] i x lt = absurd (omega (arith, lt))
take_set (y ∷ xs) zero x lt = refl
take_set {X} (y ∷ xs) (suc i) x lt = ap (λ (zs : List X). y ∷ zs) (take_set xs i x (omega (arith, lt)))

pub as_long_set : {X : Type 0} (xs : List X) (i : ℕ) (x : X) → length (set xs i x) ≡ length xs
as_long_set [] i x = refl
as_long_set (y ∷ xs) zero x = refl
as_long_set (y ∷ xs) (suc i) x = omega (arith, as_long_set xs i x)

-- A gear that was given a log keeps all else.
rest_set : {D G T K S O : Type 0} (gears : List (Gear D G T K S O)) (i : ℕ) (d a : Gear D G T K S O) → unlogged a ≡ unlogged (get_or gears i d)
    → map unlogged (set gears i a) ≡ map unlogged gears
rest_set [] i d a same = refl
rest_set {D} {G} {T} {K} {S} {O} (g ∷ gears) zero d a same = ap (λ (x : Gear D G T K S O). x ∷ map unlogged gears) same
rest_set {D} {G} {T} {K} {S} {O} (g ∷ gears) (suc i) d a same = ap (λ (xs : List (Gear D G T K S O)). unlogged g ∷ xs) (rest_set gears i d a same)

pub rest_put : {D G T K S O : Type 0} (gears : List (Gear D G T K S O)) (i : ℕ) (d a : Gear D G T K S O) (log : O) (first : List (Gear D G T K S O))
    → map unlogged gears ≡ map unlogged first → a ≡ logged (get_or gears i d) log → map unlogged (set gears i a) ≡ map unlogged first
rest_put {D} {G} {T} {K} {S} {O} gears i d a log first same is =
    rest_set gears i d a (ap (λ (x : Gear D G T K S O). unlogged x) is) ∙ same

-- It has this log, the next after those of the gears before it.
pub log_put : {D G T K S O : Type 0} (gears : List (Gear D G T K S O)) (i : ℕ) (d a : Gear D G T K S O) (log : O) (rest later : List O) (all : List (Option O))
    → i < length gears → map (λ (x : Gear D G T K S O). x.log) (take i gears) ++ map Some rest ≡ all → rest ≡ log ∷ later → a ≡ logged (get_or gears i d) log
    → map (λ (x : Gear D G T K S O). x.log) (take (i + 1) (set gears i a)) ++ map Some later ≡ all
log_put {D} {G} {T} {K} {S} {O} gears i d a log rest later all lt so_far cut is =
    let next : i + 1 ≡ suc i = omega arith in
    let here : a.log ≡ Some log = ap (λ (x : Gear D G T K S O). x.log) is in
    ap (λ (n : ℕ). map (λ (x : Gear D G T K S O). x.log) (take n (set gears i a)) ++ map Some later) next
    ∙ ap (λ (xs : List (Gear D G T K S O)). map (λ (x : Gear D G T K S O). x.log) xs ++ map Some later) (take_set gears i a lt)
    ∙ ap (λ (ls : List (Option O)). ls ++ map Some later) (map-append (λ (x : Gear D G T K S O). x.log) (take i gears) (a ∷ []))
    ∙ append_assoc (map (λ (x : Gear D G T K S O). x.log) (take i gears)) (a.log ∷ []) (map Some later)
    ∙ ap (λ (l : Option O). map (λ (x : Gear D G T K S O). x.log) (take i gears) ++ l ∷ map Some later) here
    ∙ ap (λ (ls : List O). map (λ (x : Gear D G T K S O). x.log) (take i gears) ++ map Some ls) (sym cut)
    ∙ so_far

-- All have their logs, and none is left.
pub all_have : {D G T K S O : Type 0} (gears : List (Gear D G T K S O)) (i : ℕ) (rest : List O) (all : List (Option O)) → length gears ≤ i
    → map (λ (x : Gear D G T K S O). x.log) (take i gears) ++ map Some rest ≡ all → length rest ≡ 0 → map (λ (x : Gear D G T K S O). x.log) gears ≡ all
all_have {D} {G} {T} {K} {S} {O} gears i [] all whole so_far none =
    ap (λ (xs : List (Gear D G T K S O)). map (λ (x : Gear D G T K S O). x.log) xs) (sym (take_all i gears whole))
    ∙ sym (append-nil (map (λ (x : Gear D G T K S O). x.log) (take i gears))) ∙ so_far
all_have gears i (log ∷ rest) all whole so_far none = absurd (omega (arith, none))

-- a gear by what it has but for its log, and by its log
pub logged_so : {D G T K S O : Type 0} (b a : Gear D G T K S O) (log : O) → unlogged a ≡ unlogged b → a.log ≡ Some log → a ≡ logged b log
logged_so {D} {G} {T} {K} {S} {O} b a log rest is =
    ap (λ (l : Option O). record a { log = l }) is ∙ ap (λ (x : Gear D G T K S O). logged x log) rest

-- Gears that keep all but their logs, and have these, were given them.
pub are_logged : {D G T K S O : Type 0} (Is : ℕ → O → Type 0) (number : ℕ) (gears given : List (Gear D G T K S O)) (logs : List O)
    → map unlogged given ≡ map unlogged gears → map (λ (x : Gear D G T K S O). x.log) given ≡ map Some logs → AreSuited Is number logs → AreLogged Is number gears given
are_logged Is number [] [] logs rest all suited = tt
are_logged Is number [] (a ∷ given) logs rest all suited = absurd cc
are_logged Is number (b ∷ gears) [] logs rest all suited = absurd cc
are_logged Is number (b ∷ gears) (a ∷ given) [] rest all suited = absurd cc
are_logged {D} {G} {T} {K} {S} {O} Is number (b ∷ gears) (a ∷ given) (log ∷ logs) rest all suited =
    let here : unlogged a ≡ unlogged b = cc in
    let more : map unlogged given ≡ map unlogged gears = cc in
    let is : a.log ≡ Some log = cc in
    let after : map (λ (x : Gear D G T K S O). x.log) given ≡ map Some logs = cc in
    ((log, suited.0, logged_so b a log here is), are_logged Is (number + 1) gears given logs more after suited.1)

-- Their tapes are idle as they were.
pub idle_kept : {D G T K S O : Type 0} (IsIdle : T → Type 0) (gears given : List (Gear D G T K S O)) → map unlogged given ≡ map unlogged gears
    → All (λ (g : Gear D G T K S O). IsIdle g.tape) gears → All (λ (g : Gear D G T K S O). IsIdle g.tape) given
idle_kept {D} {G} {T} {K} {S} {O} IsIdle gears [] rest all = All-nil (λ (g : Gear D G T K S O). IsIdle g.tape)
idle_kept IsIdle [] (a ∷ given) rest all = absurd cc
idle_kept {D} {G} {T} {K} {S} {O} IsIdle (b ∷ gears) (a ∷ given) rest all =
    let here : unlogged a ≡ unlogged b = cc in
    let more : map unlogged given ≡ map unlogged gears = cc in
    let same : a.tape ≡ b.tape = ap (λ (x : Gear D G T K S O). x.tape) here in
    All-cons (λ (x : Gear D G T K S O). IsIdle x.tape) a given
    (subst IsIdle (sym same) (All-head (λ (x : Gear D G T K S O). IsIdle x.tape) b gears all))
    (idle_kept IsIdle gears given more (All-tail (λ (x : Gear D G T K S O). IsIdle x.tape) b gears all))

-- The gears came back after a log was refused, which changed nothing but the faults.
pub given_after : {G : Type 0} (s m n : WorldSide G) (gears : List G) → m.handed ≡ s.handed → m.back ≡ s.back → m.out ≡ s.out → s.faults ≤ m.faults
    → n.back ≡ appended m.back gears → n.out + length gears ≡ m.out → n.handed ≡ m.handed → n.faults ≡ m.faults → HandsAndTakes s n [] gears
given_after {G} s m n gears handed back out more came_back fewer same_handed same_faults = record {
  handed = same_handed ∙ handed ∙ sym (appended-nil s.handed);
  came_back = came_back ∙ ap (λ (o : Option (List G)). appended o gears) back;
  counted = omega (arith, fewer, out);
  no_fewer = omega (arith, more, same_faults);
}
