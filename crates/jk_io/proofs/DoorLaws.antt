-- One client more that came and went back, and a fact of all but the last.
use Rattle.std.proofs.Common.{◌≡◌, List, [], ◌∷◌, ◌++◌, Option, sym, ap, ◌∙◌, arith}
use Rattle.std.specs.List.{All}
use Rattle.std.proofs.lemmas.List.Elements.{All-head, All-tail}
use Rattle.jk_io.specs.Told.{appended, prepended}
use Rattle.jk_io.specs.declared.traits.surroundings.Peer.{Peer}
use Rattle.jk_io.proofs.ToldLaws.{appended-appended, appended-nil, prepended-prepended, prepended-nil}
use Rattle.jk_io.specs.Doors.{AllButLast, DoorSide, GaveAndGot, Gives, GivesNone}

-- nobody came yet
pub none_came : {C : Type 0} → (door : DoorSide C) → GaveAndGot door door [] []
none_came door = record { gave = sym (prepended-nil door.coming); got = sym (appended-nil door.left); no_fewer = omega arith }

-- a client came, and its link went back
pub one_more : {C : Type 0} → (first before mid after : DoorSide C) (clients : List (C × Peer)) (links : List C) (link back : C) (peer : Peer)
    → GaveAndGot first before clients links → Gives before mid link peer
    → after.coming ≡ mid.coming → after.left ≡ appended mid.left (back ∷ []) → after.faults ≡ mid.faults
    → GaveAndGot first after (clients ++ (link, peer) ∷ []) (links ++ back ∷ [])
one_more {C} first before mid after clients links link back peer so_far gives coming left faults = record {
  gave =
      so_far.gave
      ∙ ap (λ (x : Option (List (C × Peer))). prepended clients x) (gives.client ∙ ap (λ (x : Option (List (C × Peer))). prepended ((link, peer) ∷ []) x) (sym coming))
      ∙ prepended-prepended clients ((link, peer) ∷ []) after.coming;
  got =
      left
      ∙ ap (λ (x : Option (List C)). appended x (back ∷ [])) (gives.left ∙ so_far.got)
      ∙ appended-appended first.left links (back ∷ []);
  no_fewer = (let f = gives.faults in let n = so_far.no_fewer in omega (arith, f, n, faults));
}

-- no client came any more
pub none_more : {C : Type 0} → (first before after : DoorSide C) (clients : List (C × Peer)) (links : List C)
    → GaveAndGot first before clients links → GivesNone before after → GaveAndGot first after clients links
none_more {C} first before after clients links so_far none = record {
  gave = so_far.gave ∙ ap (λ (x : Option (List (C × Peer))). prepended clients x) (sym none.coming);
  got = none.left ∙ so_far.got;
  no_fewer = (let m = none.no_fewer in let n = so_far.no_fewer in omega (arith, m, n));
}

-- what holds of each holds of all but the last
pub all_but_last : {T : Type 0} → (P : T → Type 0) (xs : List T) → All P xs → AllButLast P xs
all_but_last P [] all = tt
all_but_last P (x ∷ []) all = tt
all_but_last P (x ∷ (y ∷ rest)) all = (All-head P x (y ∷ rest) all, all_but_last P (y ∷ rest) (All-tail P x (y ∷ rest) all))

-- and so it does where one more comes after them
pub but_one_more : {T : Type 0} → (P : T → Type 0) (xs : List T) (last : T) → All P xs → AllButLast P (xs ++ last ∷ [])
but_one_more P [] last all = tt
but_one_more P (x ∷ []) last all = (All-head P x [] all, tt)
but_one_more P (x ∷ (y ∷ rest)) last all =
    (All-head P x (y ∷ rest) all, but_one_more P (y ∷ rest) last (All-tail P x (y ∷ rest) all))
