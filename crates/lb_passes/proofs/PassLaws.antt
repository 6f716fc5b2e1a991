-- The passes of a new table, one after the other.
use Rattle.std.proofs.Common.{◌≡◌, ◌≢◌, ℕ, ◌+◌, ◌≤◌, List, [], ◌∷◌, ◌++◌, length, set, refl, sym, ap, ◌∙◌, subst, ⊎_elim, arith, length-append, length-set}
use mathlib.Core.Option.{some}
use lib.ListN.{get_elem?}
use Rattle.atomic_table.specs.Seated.{TableId}
use Rattle.atomic_table.specs.Table.{Me, opening}
use Rattle.atomic_table.proofs.Lists.{at_set}
use Rattle.lb_book.specs.Journal.{IsSound, Journal}
use Rattle.lb_passes.specs.Plays.{giver_after, next_caller}
use Rattle.lb_passes.specs.Turns.{IsBookOf, IsPassTable, first_view}
use Rattle.lb_passes.specs.declared.pass_view.Origin.{Origin}
use Rattle.lb_passes.specs.declared.pass_view.PassView.{PassView}
use Rattle.lb_passes.proofs.EndLaws.{begins}
use Rattle.lb_book.proofs.HistoryLaws.{begins_here}
use Rattle.lb_passes.proofs.SeatLaws.{at_end}
use Rattle.lb_passes.specs.Passes.{AreNewPasses, IsNewPass, origin_of}
use Rattle.lb_passes.specs.declared.pass.Pass.{Pass}

-- The table of a Book without an entry.
pub begins_table : (b v : Journal) (cut_at : ℕ) (items : List Journal) → v ≡ b → items ≡ b ∷ [] → b.rules ≡ 2 → b.entries ≡ [] → IsSound b
    → IsPassTable (origin_of v cut_at) (opening (0 ∷ 0 ∷ 0 ∷ []) items (first_view (origin_of v cut_at)))
begins_table b v cut_at items same all rules empty sound =
    let here = begins_here b rules empty sound in
    let stands : IsBookOf (origin_of b cut_at) [] b = record {
      whole = here.1;
      sound = sound;
      counted = let sum : b.added ≡ b.added + 0 = omega arith in sum;
      uncut = λ never. refl;
    } in
    subst (λ (x : Journal). IsPassTable (origin_of x cut_at) (opening (0 ∷ 0 ∷ 0 ∷ []) items (first_view (origin_of x cut_at)))) (sym same)
    (subst (λ (xs : List Journal). IsPassTable (origin_of b cut_at) (opening (0 ∷ 0 ∷ 0 ∷ []) xs (first_view (origin_of b cut_at)))) (sym all)
    (begins (origin_of b cut_at) b here.0 stands))

-- The first pass after it gave a number.
pub giver_new : (o : Origin) (table : TableId) (n : ℕ) (p q : Pass) → IsNewPass o table n 0 p → q.seat.table_id ≡ p.seat.table_id → q.number ≡ p.number
    → q.seat.me ≡ (giver_after p.seat.me.0, p.seat.me.1) → IsNewPass o table (n + 1) 0 q
giver_new o table n p q is of number me =
    let view : q.seat.me.0 ≡ giver_after p.seat.me.0 = ap (λ (x : Me Journal PassView). x.0) me in
    record {
      of = of ∙ is.of;
      number = number ∙ is.number;
      view = record {
        origin = ap (λ (x : PassView). x.origin) view ∙ is.view.origin;
        numbered = ap (λ (x : PassView). x.number) view ∙ is.view.numbered;
        seen = ap (λ (x : PassView). x.seen) view ∙ is.view.seen;
        owns = ap (λ (x : PassView). x.owns) view ∙ is.view.owns;
      };
      root = λ here. ap (λ (x : PassView). x.given) view ∙ ap (λ (k : ℕ). k + 1) (is.root refl);
    }

-- The pass of the number that it gave.
pub caller_new : (o : Origin) (table : TableId) (n : ℕ) (p q : Pass) → 1 ≤ n → IsNewPass o table n 0 p → q.seat.table_id ≡ p.seat.table_id → q.number ≡ n
    → q.seat.me ≡ (next_caller p.seat.me.0, []) → IsNewPass o table (n + 1) n q
caller_new o table n p q above is of number me =
    let view : q.seat.me.0 ≡ next_caller p.seat.me.0 = ap (λ (x : Me Journal PassView). x.0) me in
    record {
      of = of ∙ is.of;
      number = number;
      view = record {
        origin = ap (λ (x : PassView). x.origin) view ∙ is.view.origin;
        numbered = ap (λ (x : PassView). x.number) view ∙ is.root refl;
        seen = ap (λ (x : PassView). x.seen) view ∙ is.view.seen;
        owns = ap (λ (x : PassView). x.owns) view ∙ ap (λ (k : ℕ). (k, []) ∷ []) (is.root refl);
      };
      root = λ none. absurd (omega arith);
    }

pub deal_step : (o : Origin) (table : TableId) (n : ℕ) (xs ys : List Pass) (p q : Pass) → AreNewPasses o table n xs → ys ≡ set xs 0 p ++ q ∷ []
    → IsNewPass o table (n + 1) 0 p → IsNewPass o table (n + 1) n q → AreNewPasses o table (n + 1) ys
deal_step o table n xs ys p q are is first last =
    subst (λ (zs : List Pass). AreNewPasses o table (n + 1) zs) (sym is) (record {
      many = omega (arith, length-append (set xs 0 p) (q ∷ []), length-set xs 0 p, are.many);
      each = λ i r at.
          ⊎_elim
          (λ (old : get_elem? (set xs 0 p) i ≡ some r).
          ⊎_elim
          (λ (here : (i ≡ 0) × (p ≡ r)).
          subst (λ (k : ℕ). IsNewPass o table (n + 1) k r) (sym here.0) (subst (λ (x : Pass). IsNewPass o table (n + 1) 0 x) here.1 first))
          (λ (other : (i ≢ 0) × (get_elem? xs i ≡ some r)).
          let was : IsNewPass o table n i r = are.each i r other.1 in
          record { of = was.of; number = was.number; view = was.view; root = λ zero_is. absurd (other.0 zero_is) })
          (at_set xs 0 i p r old))
          (λ (new : (i ≡ length (set xs 0 p)) × (q ≡ r)).
          let place : i ≡ n = new.0 ∙ length-set xs 0 p ∙ are.many in
          subst (λ (k : ℕ). IsNewPass o table (n + 1) k r) (sym place) (subst (λ (x : Pass). IsNewPass o table (n + 1) n x) new.1 last))
          (at_end (set xs 0 p) q r i at);
    })
