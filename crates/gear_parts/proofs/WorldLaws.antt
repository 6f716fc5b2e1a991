-- Gears that a world handed out and took back.
use Rattle.std.proofs.Common.{ℕ, ◌≡◌, ◌+◌, ◌≤◌, List, [], ◌∷◌, ◌++◌, length, Option, Result, Ok, Err, zero, suc, refl, sym, ◌∙◌, ap, subst, arith, rules, length-append}
use Rattle.std.specs.List.{All}
use Rattle.std.specs.Prelude.{OnErr}
use Rattle.std.proofs.lemmas.List.Elements.{All-nil, All-push}
use Rattle.jk_io.specs.Told.{appended, HasCause}
use Rattle.jk_io.proofs.ToldLaws.{appended-appended, appended-nil, Rose-within}
use Rattle.jk_io.specs.declared.failures.IoError.{IoError}
use Rattle.jk_io.specs.declared.failures.IoError.TheVariants as io
use Rattle.site_config.specs.declared.config.Config.{Config}
use Rattle.gear_parts.specs.Steps.{AreTaken}
use Rattle.gear_parts.specs.Wants.{AreSuited, GearWants}
use Rattle.gear_parts.specs.Worlds.{GearTells, HandsAndTakes, HandsNone, IsMade, RefusesGear, HandsOutGear, WorldSide}
use Rattle.gear_parts.specs.declared.world.Gear.{Gear}

-- nothing was handed out, and nothing came back
pub nothing_passed : {G : Type 0} (s : WorldSide G) → HandsAndTakes s s [] []
nothing_passed s = record {
  handed = sym (appended-nil s.handed);
  came_back = sym (appended-nil s.back);
  counted = refl;
  no_fewer = omega arith;
}

-- one after the other
pub passed_on : {G : Type 0} (s m n : WorldSide G) (gears more back again : List G) → HandsAndTakes s m gears back → HandsAndTakes m n more again
    → HandsAndTakes s n (gears ++ more) (back ++ again)
passed_on s m n gears more back again first next = record {
  handed = next.handed ∙ ap (λ (o : Option (List _)). appended o more) first.handed ∙ appended-appended s.handed gears more;
  came_back = next.came_back ∙ ap (λ (o : Option (List _)). appended o again) first.came_back ∙ appended-appended s.back back again;
  counted =
      let a = length-append gears more in
      let b = length-append back again in
      omega (arith, first.counted, next.counted);
  no_fewer = omega (arith, first.no_fewer, next.no_fewer);
}

-- another gear came back, and the rest is to come
pub back_on : {G : Type 0} (s m n : Option (List G)) (rest rest' all : List G) (gear : G) → appended m rest ≡ appended s all → rest ≡ gear ∷ rest' → n ≡ appended m (gear ∷ [])
    → appended n rest' ≡ appended s all
back_on {G} s m n rest rest' all gear so_far next back =
    ap (λ (o : Option (List G)). appended o rest') back ∙ appended-appended m (gear ∷ []) rest' ∙ ap (λ (l : List G). appended m l) (sym next) ∙ so_far

-- all came back
pub back_all : {G : Type 0} (s m : Option (List G)) (rest all : List G) → appended m rest ≡ appended s all → length rest ≡ 0 → m ≡ appended s all
back_all s m [] all so_far none = sym (appended-nil m) ∙ so_far
back_all s m (gear ∷ rest) all so_far none = absurd (omega (arith, none))

-- another gear was handed out
pub handed_on : {G : Type 0} (s m n : WorldSide G) (gears more : List G) (gear : G) → HandsAndTakes s m gears [] → more ≡ gears ++ gear ∷ []
    → n.handed ≡ appended m.handed (gear ∷ []) → n.back ≡ m.back → n.out ≡ m.out + 1 → m.faults ≤ n.faults → HandsAndTakes s n more []
handed_on {G} s m n gears more gear so_far pushed handed same out no_fewer = record {
  handed =
      handed ∙ ap (λ (o : Option (List G)). appended o (gear ∷ [])) so_far.handed ∙ appended-appended s.handed gears (gear ∷ [])
      ∙ ap (λ (l : List G). appended s.handed l) (sym pushed);
  came_back = same ∙ so_far.came_back;
  counted = let l : length more ≡ length gears + 1 = ap length pushed ∙ length-append gears (gear ∷ []) in omega (arith, so_far.counted);
  no_fewer = omega (arith, so_far.no_fewer);
}

-- those that were handed out came back
pub all_back : {G : Type 0} (s m n : WorldSide G) (gears : List G) → HandsAndTakes s m gears [] → n.back ≡ appended m.back gears
    → n.out + length gears ≡ m.out → n.handed ≡ m.handed → n.faults ≡ m.faults → HandsAndTakes s n gears gears
all_back {G} s m n gears taken back out handed faults = record {
  handed = handed ∙ taken.handed;
  came_back = back ∙ ap (λ (o : Option (List G)). appended o gears) (taken.came_back ∙ appended-nil s.back);
  counted = omega (arith, taken.counted);
  no_fewer = omega (arith, taken.no_fewer);
}

-- a refused gear was none
pub none_handed : {G : Type 0} (s m n : WorldSide G) (gears : List G) → HandsAndTakes s m gears [] → n.handed ≡ m.handed → n.back ≡ m.back → n.out ≡ m.out
    → m.faults ≤ n.faults → HandsAndTakes s n gears []
none_handed s m n gears taken handed back out no_fewer = record {
  handed = handed ∙ taken.handed;
  came_back = back ∙ taken.came_back;
  counted = omega (arith, taken.counted);
  no_fewer = omega (arith, taken.no_fewer);
}

-- what is so of all and of another
pub all_and : {X : Type 0} (P : X → Type 0) (xs more : List X) (x : X) → more ≡ xs ++ x ∷ [] → All P xs → P x → All P more
all_and P xs more x pushed all one = rw pushed (All-push P xs x all one)

-- and of each by its place
pub suited_and : {G : Type 0} (Suits : ℕ → G → Type 0) (first : ℕ) (xs : List G) (x : G) → AreSuited Suits first xs → Suits (first + length xs) x → AreSuited Suits first (xs ++ x ∷ [])
suited_and Suits first [] x all one = (subst (λ (n : ℕ). Suits n x) (omega arith) one, tt)
suited_and Suits first (y ∷ xs) x all one =
    let place : first + length (y ∷ xs) ≡ first + 1 + length xs = omega arith in
    (all.0, suited_and Suits (first + 1) xs x all.1 (subst (λ (n : ℕ). Suits n x) place one))

-- none is taken yet
pub none_yet : {D G T K S O C : Type 0} (tells : GearTells D G T K S O C) (wanted : GearWants) (cfg : Option Config) (s : WorldSide (Gear D G T K S O)) (gears : List (Gear D G T K S O))
    → length gears ≡ 0 → AreTaken tells wanted cfg s s gears
none_yet {D} {G} {T} {K} {S} {O} tells wanted cfg s [] none = record {
  passed = nothing_passed s;
  made = All-nil (λ (g : Gear D G T K S O). IsMade wanted.clients (tells.told g));
  idle = All-nil (λ (g : Gear D G T K S O). tells.is_idle g.tape);
  suited = tt;
}
none_yet tells wanted cfg s (g ∷ gears) none = absurd (omega (arith, none))

-- another one was taken
pub taken_on : {D G T K S O C : Type 0} (tells : GearTells D G T K S O C) (number : ℕ) (wanted : GearWants) (cfg : Option Config) (s m n : WorldSide (Gear D G T K S O)) (gears more : List (Gear D G T K S O))
    → AreTaken tells wanted cfg s m gears → number ≡ length gears → HandsOutGear tells number wanted cfg m n gears more → AreTaken tells wanted cfg s n more
taken_on {D} {G} {T} {K} {S} {O} tells number wanted cfg s m n gears more so_far place taken =
    let at : number ≡ 0 + length gears = omega (arith, place) in record {
      passed = handed_on s m n gears more taken.gear so_far.passed taken.added taken.handed taken.came_back taken.counted taken.no_fewer;
      made = all_and (λ (g : Gear D G T K S O). IsMade wanted.clients (tells.told g)) gears more taken.gear taken.added so_far.made taken.made;
      idle = all_and (λ (g : Gear D G T K S O). tells.is_idle g.tape) gears more taken.gear taken.added so_far.idle taken.idle;
      suited =
          subst (λ (gs : List (Gear D G T K S O)). AreSuited (λ (k : ℕ). tells.suits k wanted cfg) 0 gs) (sym taken.added)
          (suited_and (λ (k : ℕ). tells.suits k wanted cfg) 0 gears taken.gear so_far.suited
          (subst (λ (k : ℕ). tells.suits k wanted cfg taken.gear) at taken.suited));
    }

-- the next was refused
pub taken_still : {D G T K S O C : Type 0} (tells : GearTells D G T K S O C) (wanted : GearWants) (cfg : Option Config) (s m n : WorldSide (Gear D G T K S O)) (gears more : List (Gear D G T K S O))
    → AreTaken tells wanted cfg s m gears → HandsNone m n → more ≡ gears → AreTaken tells wanted cfg s n more
taken_still tells wanted cfg s m n gears more so_far none same = rw same (record {
  passed = none_handed s m n gears so_far.passed none.handed none.came_back none.counted none.no_fewer;
  made = so_far.made;
  idle = so_far.idle;
  suited = so_far.suited;
})

-- what succeeded has no cause
pub no_cause : {T : Type 0} (before now : ℕ) (x : T) → now ≡ before → HasCause before now (Ok x)
no_cause before now x same = record { no_fewer = omega (arith, same); failed = λ no. absurd cc; wanted = λ no. absurd cc }

-- what failed has the same cause while no more faults came
pub cause_again : {T U : Type 0} (before now later : ℕ) (e : IoError) → HasCause {T = T} before now (Err e) → later ≡ now
    → HasCause {T = U} before later (Err e)
cause_again before now later io.Failed cause same =
    record { no_fewer = rw same cause.no_fewer; failed = λ _. rw same (cause.failed refl); wanted = λ no. absurd cc }
cause_again before now later io.NoMemory cause same =
    record { no_fewer = rw same cause.no_fewer; failed = λ no. absurd cc; wanted = λ _. same ∙ cause.wanted refl }

-- what failed in a part of a call, before which there was no fault, has the same cause in the whole
pub cause_on : {T U : Type 0} (first before now : ℕ) (e : IoError) → before ≡ first → HasCause {T = T} before now (Err e) → HasCause {T = U} first now (Err e)
cause_on first before now io.Failed none cause = record {
  no_fewer = omega (arith, cause.no_fewer, none);
  failed = λ _. rw (sym none) (cause.failed refl);
  wanted = λ no. absurd cc;
}
cause_on first before now io.NoMemory none cause = record {
  no_fewer = omega (arith, cause.no_fewer, none);
  failed = λ no. absurd cc;
  wanted = λ _. cause.wanted refl ∙ none;
}

-- no memory for the gears of some workers
pub none_taken : {G : Type 0} (threads : ℕ) (s : WorldSide G) → (threads ≡ 0 → ⊥) → RefusesGear threads s s
none_taken zero s some = absurd (some refl)
none_taken (suc n) s some = record { gears = []; passed = nothing_passed s; fewer = omega arith }

pub on_err : {T E : Type 0} (r : Result T E) (P : Type 0) → P → OnErr r P
on_err (Ok x) P is = tt
on_err (Err e) P is = is

-- those that came back after it was taken
pub then_back : {G : Type 0} (s m n : WorldSide G) (gears back : List G) → HandsAndTakes s m gears [] → HandsAndTakes m n [] back → HandsAndTakes s n gears back
then_back {G} s m n gears back taken given = record {
  handed = given.handed ∙ appended-nil m.handed ∙ taken.handed;
  came_back = given.came_back ∙ ap (λ (o : Option (List G)). appended o back) (taken.came_back ∙ appended-nil s.back);
  counted = omega (arith, taken.counted, given.counted);
  no_fewer = omega (arith, taken.no_fewer, given.no_fewer);
}

pub all_given : {G : Type 0} (m n : WorldSide G) (back : List G) → n.back ≡ appended m.back back → n.out + length back ≡ m.out → n.handed ≡ m.handed → n.faults ≡ m.faults
    → HandsAndTakes m n [] back
all_given m n back came_back out handed faults = record {
  handed = handed ∙ sym (appended-nil m.handed);
  came_back = came_back;
  counted = omega (arith, out);
  no_fewer = omega (arith, faults);
}

-- no more come back than are out
pub few_out : {G : Type 0} (s m : WorldSide G) (gears : List G) (count : ℕ) → HandsAndTakes s m gears [] → count ≤ length gears → count ≤ m.out
few_out s m gears count taken few = omega (arith, taken.counted, few)
