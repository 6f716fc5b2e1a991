-- Balancers that were looked at, one after the other.
use Rattle.std.proofs.Common.{◌≡◌, OnOk, Result, ℕ, ◌+◌, List, [], ◌∷◌, ◌++◌, ◌<◌, ◌≤◌, length, take, get_or, refl, sym, subst, arith, ap, ◌∙◌, Some}
use Rattle.std.proofs.lemmas.List.{append_assoc, length-take-le, take_all}
use Rattle.std.proofs.lemmas.Option.{slice_get_read}
use Rattle.status_worker.proofs.CommandLaws.{next_taken}
use Rattle.lb_book.specs.Desks.{DeskState}
use Rattle.site_config.specs.declared.balancer.Lb.{Lb}
use Rattle.site_config.specs.declared.config.Config.{Config}
use Rattle.status_worker.specs.declared.page.PagePart.{PagePart}
use Rattle.status_worker.specs.Pages.{AreSeen, IsPageOf, IsSeen}

pub one_more_seen : (desk : DeskState) (place : ℕ) (lbs : List Lb) (parts : List PagePart) (lb : Lb) (part : PagePart) → AreSeen desk place lbs parts
    → IsSeen desk (place + length lbs) lb part → AreSeen desk place (lbs ++ lb ∷ []) (parts ++ part ∷ [])
one_more_seen desk place [] [] lb part seen one = (subst (λ (k : ℕ). IsSeen desk k lb part) (omega arith) one, refl)
one_more_seen desk place [] (other ∷ parts) lb part seen one = absurd cc
one_more_seen desk place (first ∷ lbs) [] lb part seen one = absurd seen
one_more_seen desk place (first ∷ lbs) (other ∷ parts) lb part seen one =
    (seen.0, one_more_seen desk (place + 1) lbs parts lb part seen.1 (subst (λ (k : ℕ). IsSeen desk k lb part) (omega arith) one))

short_take : {X : Type 0} (xs : List X) (i : ℕ) → i < length xs → length (take i xs) ≡ i
short_take xs i within = length-take-le i xs (omega (arith, within))

-- the balancer at this place was looked at too
pub sees_on : (desk now : DeskState) (items : List Lb) (i place : ℕ) (lb : Lb) (parts parts' : List PagePart) (part : PagePart) → i < length items
    → lb ≡ get_or items i lb → now ≡ desk → place ≡ i → AreSeen desk 0 (take i items) parts → IsSeen now place lb part → parts' ≡ parts ++ part ∷ []
    → AreSeen desk 0 (take (i + 1) items) parts'
sees_on desk now items i place lb parts parts' part within is same at seen one more =
    subst (λ (ps : List PagePart). AreSeen desk 0 (take (i + 1) items) ps) (sym more)
    (subst (λ (ls : List Lb). AreSeen desk 0 ls (parts ++ part ∷ [])) (sym (next_taken items i lb within is))
    (one_more_seen desk 0 (take i items) parts lb part seen
    (subst (λ (k : ℕ). IsSeen desk k lb part) (omega (arith, at, short_take items i within)) (subst (λ (d : DeskState). IsSeen d place lb part) same one))))

pub all_seen : (desk : DeskState) (items lbs : List Lb) (i : ℕ) (parts : List PagePart) → length items ≤ i → items ≡ lbs
    → AreSeen desk 0 (take i items) parts → AreSeen desk 0 lbs parts
all_seen desk items lbs i parts past are seen = subst (λ (ls : List Lb). AreSeen desk 0 ls parts) (take_all i items past ∙ are) seen

-- a page of the one balancer at a place
pub sees_one : (cfg : Config) (desk : DeskState) (place : ℕ) (lb : Lb) (parts : List PagePart) (part : PagePart) → place < length cfg.lbs
    → lb ≡ get_or cfg.lbs place lb → IsSeen desk place lb part → parts ≡ part ∷ [] → IsPageOf cfg desk (Some place) parts
sees_one cfg desk place lb parts part within is seen one =
    (lb, part, slice_get_read cfg.lbs (length cfg.lbs) place lb refl within is, seen, one)

-- five pieces were put, one after the other
five_put : (r0 r1 r2 r3 r4 r5 a b c d e : List ℕ) → r1 ≡ r0 ++ a → r2 ≡ r1 ++ b → r3 ≡ r2 ++ c → r4 ≡ r3 ++ d → r5 ≡ r4 ++ e
    → r5 ≡ r0 ++ (a ++ b ++ c ++ d ++ e)
five_put r0 r1 r2 r3 r4 r5 a b c d e p1 p2 p3 p4 p5 =
    let q2 : r2 ≡ r0 ++ (a ++ b) = p2 ∙ ap (λ (r : List ℕ). r ++ b) p1 ∙ append_assoc r0 a b in
    let q3 : r3 ≡ r0 ++ (a ++ b ++ c) = p3 ∙ ap (λ (r : List ℕ). r ++ c) q2 ∙ append_assoc r0 (a ++ b) c in
    let q4 : r4 ≡ r0 ++ (a ++ b ++ c ++ d) = p4 ∙ ap (λ (r : List ℕ). r ++ d) q3 ∙ append_assoc r0 (a ++ b ++ c) d in
    p5 ∙ ap (λ (r : List ℕ). r ++ e) q4 ∙ append_assoc r0 (a ++ b ++ c ++ d) e

-- six pieces were
pub six_put : (r0 r1 r2 r3 r4 r5 r6 a b c d e f : List ℕ) → r1 ≡ r0 ++ a → r2 ≡ r1 ++ b → r3 ≡ r2 ++ c → r4 ≡ r3 ++ d → r5 ≡ r4 ++ e → r6 ≡ r5 ++ f
    → r6 ≡ r0 ++ (a ++ b ++ c ++ d ++ e ++ f)
six_put r0 r1 r2 r3 r4 r5 r6 a b c d e f p1 p2 p3 p4 p5 p6 =
    p6 ∙ ap (λ (r : List ℕ). r ++ f) (five_put r0 r1 r2 r3 r4 r5 a b c d e p1 p2 p3 p4 p5) ∙ append_assoc r0 (a ++ b ++ c ++ d ++ e) f

-- three pieces were put, or memory was wanted for the last
pub three_put : {T E : Type 0} (result : Result T E) (r0 r1 r2 r3 a b c : List ℕ) → r1 ≡ r0 ++ a → r2 ≡ r1 ++ b → OnOk result (r3 ≡ r2 ++ c)
    → OnOk result (r3 ≡ r0 ++ (a ++ b ++ c))
three_put result r0 r1 r2 r3 a b c p1 p2 last =
    let q2 : r2 ≡ r0 ++ (a ++ b) = p2 ∙ ap (λ (r : List ℕ). r ++ b) p1 ∙ append_assoc r0 a b in
    subst (λ (text : List ℕ). OnOk result (r3 ≡ text)) (ap (λ (r : List ℕ). r ++ c) q2 ∙ append_assoc r0 (a ++ b) c) last
