-- All passes come together, one after the other, and the Book is taken out.
use Rattle.std.proofs.Common.{◌≡◌, ℕ, zero, suc, ◌<◌, List, [], ◌∷◌, ◌++◌, refl, sym, ap, ◌∙◌, subst, lt_of_not-le}
use mathlib.Core.Option.{some, some-injective, some-ne-none}
use native.Mathlib.Decide.{dec_le, ℕ_discrete}
use lib.ListN.{get_elem?}
use Rattle.atomic_table.specs.Seated.{TableId}
use Rattle.atomic_table.specs.Table.{Final, Me, Seen}
use Rattle.atomic_table.specs.declared.shared.Seat.{Seat}
use Rattle.atomic_table.proofs.Lists.{at_longer}
use Rattle.lb_model.specs.declared.journal.Entry.{Entry}
use Rattle.lb_book.specs.Journal.{Journal}
use Rattle.lb_book.specs.Histories.{IsHistory}
use Rattle.lb_passes.specs.Plays.{joined}
use Rattle.lb_passes.specs.Turns.{Carries, IsBookOf, IsPassTable}
use Rattle.lb_passes.specs.declared.pass_view.Origin.{Origin}
use Rattle.lb_passes.specs.declared.pass_view.PassView.{PassView}
use Rattle.lb_passes.proofs.EndLaws.{IsEnd, ends}
use Rattle.lb_passes.proofs.SeatLaws.{carries_one}
use Rattle.lb_passes.specs.Closing.{AreAllPasses, HasGathered, HasNumber, CloseInOne, IsJoiner}
use Rattle.lb_passes.specs.Holds.{IsIdle, own_in}
use Rattle.lb_passes.specs.PassDesks.{view_of}
use Rattle.lb_passes.specs.declared.pass.Pass.{Pass}

carries_left : (xs ys : List (ℕ × List Entry)) (n : ℕ) (es : List Entry) → Carries xs n es → Carries (xs ++ ys) n es
carries_left xs ys n es c = record { place = c.place; found = at_longer xs ys c.place (n, es) c.found }

carries_right : (xs ys : List (ℕ × List Entry)) (n : ℕ) (es : List Entry) → Carries ys n es → Carries (xs ++ ys) n es
carries_right [] ys n es c = record { place = c.place; found = c.found }
carries_right (x ∷ xs) ys n es c = let rest = carries_right xs ys n es c in record { place = suc rest.place; found = rest.found }

carries_pass : (p : Pass) → p.seat.me.0.number ≡ p.number → IsIdle p.seat.me → Carries p.seat.me.0.owns p.number (own_in (view_of p))
carries_pass p numbered idle =
    subst (λ (n : ℕ). Carries p.seat.me.0.owns n (own_in (view_of p))) numbered
    (subst (λ (xs : List (ℕ × List Entry)). Carries xs p.seat.me.0.number (own_in (view_of p))) (sym idle.owns) (carries_one p.seat.me.0.number (own_in (view_of p))))

-- The first one.
pub gathered_one : (table : TableId) (p : Pass) (seat : Seat Journal PassView) → seat.table_id ≡ table → seat.me ≡ p.seat.me → HasGathered table (p ∷ []) seat
gathered_one table p seat of me =
    let idle : IsIdle p.seat.me = p.idle in
    record {
      of = of;
      joiner = subst (λ (m : Me Journal PassView). IsJoiner m) (sym me) (record { turn = idle.turn; empty = idle.empty });
      carries = λ k r at.
          let here = only k r at in
          subst (λ (x : Pass). Carries seat.me.0.owns x.number (own_in (view_of x))) here
          (subst (λ (m : Me Journal PassView). Carries m.0.owns p.number (own_in (view_of p))) (sym me) (carries_pass p p.numbered idle));
      root = λ has.
          let here = only has.place has.pass has.at in
          let zero_is : p.number ≡ 0 = ap (λ (x : Pass). x.number) here ∙ has.number in
          record {
            place = 0;
            pass = p;
            at = refl;
            number = zero_is;
            roots = ap (λ (m : Me Journal PassView). m.0.roots) me ∙ p.root zero_is;
            given = ap (λ (m : Me Journal PassView). m.0.given) me;
            origin = ap (λ (m : Me Journal PassView). m.0.origin) me;
          };
    }
  where
    only : (k : ℕ) (r : Pass) → get_elem? (p ∷ []) k ≡ some r → p ≡ r
    only zero r at = some-injective p r at
    only (suc k) r at = absurd (some-ne-none r (sym at))

-- One more.
pub gathered_first : (table : TableId) (done : List Pass) (p : Pass) (seat next : Seat Journal PassView) → HasGathered table done seat → p.number ≡ 0
    → next.table_id ≡ table → next.me ≡ (joined p.seat.me.0 seat.me.0, []) → HasGathered table (p ∷ done) next
gathered_first table done p seat next had zero_is of me =
    let view : next.me.0 ≡ joined p.seat.me.0 seat.me.0 = ap (λ (m : Me Journal PassView). m.0) me in
    let owns : p.seat.me.0.owns ++ seat.me.0.owns ≡ next.me.0.owns = sym (ap (λ (v : PassView). v.owns) view) in
    record {
      of = of;
      joiner = record { turn = ap (λ (v : PassView). v.turn) view ∙ p.idle.turn; empty = ap (λ (m : Me Journal PassView). m.1) me };
      carries = λ k r at. subst (λ (xs : List (ℕ × List Entry)). Carries xs r.number (own_in (view_of r))) owns (each k r at);
      root = λ has. record {
        place = 0;
        pass = p;
        at = refl;
        number = zero_is;
        roots = ap (λ (v : PassView). v.roots) view ∙ p.root zero_is;
        given = ap (λ (v : PassView). v.given) view;
        origin = ap (λ (v : PassView). v.origin) view;
      };
    }
  where
    each : (k : ℕ) (r : Pass) → get_elem? (p ∷ done) k ≡ some r → Carries (p.seat.me.0.owns ++ seat.me.0.owns) r.number (own_in (view_of r))
    each zero r at =
        subst (λ (x : Pass). Carries (p.seat.me.0.owns ++ seat.me.0.owns) x.number (own_in (view_of x))) (some-injective p r at)
        (carries_left p.seat.me.0.owns seat.me.0.owns p.number (own_in (view_of p)) (carries_pass p p.numbered p.idle))
    each (suc k) r at = carries_right p.seat.me.0.owns seat.me.0.owns r.number (own_in (view_of r)) (had.carries k r at)

pub gathered_other : (table : TableId) (done : List Pass) (p : Pass) (seat next : Seat Journal PassView) → HasGathered table done seat → (p.number ≡ 0 → ⊥)
    → next.table_id ≡ table → next.me ≡ (joined seat.me.0 p.seat.me.0, []) → HasGathered table (p ∷ done) next
gathered_other table done p seat next had other of me =
    let view : next.me.0 ≡ joined seat.me.0 p.seat.me.0 = ap (λ (m : Me Journal PassView). m.0) me in
    let owns : seat.me.0.owns ++ p.seat.me.0.owns ≡ next.me.0.owns = sym (ap (λ (v : PassView). v.owns) view) in
    record {
      of = of;
      joiner = record { turn = ap (λ (v : PassView). v.turn) view ∙ had.joiner.turn; empty = ap (λ (m : Me Journal PassView). m.1) me };
      carries = λ k r at. subst (λ (xs : List (ℕ × List Entry)). Carries xs r.number (own_in (view_of r))) owns (each k r at);
      root = λ has.
          let gave = had.root (earlier has.place has.pass has.at has.number) in
          record {
            place = suc gave.place;
            pass = gave.pass;
            at = gave.at;
            number = gave.number;
            roots = ap (λ (v : PassView). v.roots) view ∙ gave.roots;
            given = ap (λ (v : PassView). v.given) view ∙ gave.given;
            origin = ap (λ (v : PassView). v.origin) view ∙ gave.origin;
          };
    }
  where
    each : (k : ℕ) (r : Pass) → get_elem? (p ∷ done) k ≡ some r → Carries (seat.me.0.owns ++ p.seat.me.0.owns) r.number (own_in (view_of r))
    each zero r at =
        subst (λ (x : Pass). Carries (seat.me.0.owns ++ p.seat.me.0.owns) x.number (own_in (view_of x))) (some-injective p r at)
        (carries_right seat.me.0.owns p.seat.me.0.owns p.number (own_in (view_of p)) (carries_pass p p.numbered p.idle))
    each (suc k) r at = carries_left seat.me.0.owns p.seat.me.0.owns r.number (own_in (view_of r)) (had.carries k r at)

    earlier : (k : ℕ) (r : Pass) → get_elem? (p ∷ done) k ≡ some r → r.number ≡ 0 → HasNumber done 0
    earlier zero r at zero_is = absurd (other (ap (λ (x : Pass). x.number) (some-injective p r at) ∙ zero_is))
    earlier (suc k) r at zero_is = record { place = k; pass = r; at = at; number = zero_is }

pub gathered_more : (table : TableId) (done : List Pass) (p : Pass) (seat next : Seat Journal PassView) → HasGathered table done seat → next.table_id ≡ table
    → (p.number ≡ 0 → next.me ≡ (joined p.seat.me.0 seat.me.0, [])) → ((p.number ≡ 0 → ⊥) → next.me ≡ (joined seat.me.0 p.seat.me.0, []))
    → HasGathered table (p ∷ done) next
gathered_more table done p seat next had of first other =
    elim (ℕ_discrete p.number 0) [
      | yes zero_is ↦ gathered_first table done p seat next had zero_is of (first zero_is)
      | no not_zero ↦ gathered_other table done p seat next had not_zero of (other not_zero)
    ]

-- The end.
pub closes : (table : TableId) (passes : List Pass) (seat : Seat Journal PassView) (o : Origin) (words : List ℕ) (xs : List Journal) (b : Journal) → AreAllPasses table passes
    → HasGathered table passes seat → Final (Seen (IsPassTable o) seat.id seat.me.0) words xs → get_elem? xs 0 ≡ some b → CloseInOne passes b
closes table passes seat o words xs b are had final taken =
    let gave = had.root are.root in
    let v : PassView = seat.me.0 in
    let carried : (n : ℕ) → n < v.given → (es : List Entry) × Carries v.owns n es =
    λ n lt.
    (let has = are.all gave.place gave.pass gave.at gave.number n (subst (λ (k : ℕ). n < k) gave.given lt) in
    (own_in (view_of has.pass), subst (λ (k : ℕ). Carries v.owns k (own_in (view_of has.pass))) has.number (had.carries has.place has.pass has.at))) in
    let end : IsEnd v xs = ends o seat.id v words xs had.joiner.turn gave.roots carried final in
    let same : end.book ≡ b = some-injective end.book b (sym end.found ∙ taken) in
    record {
      first = record { place = gave.place; pass = gave.pass; at = gave.at; number = gave.number };
      log = end.log;
      history = subst (λ (x : Origin). IsHistory x.opening end.log) gave.origin end.history;
      stands = subst (λ (x : Origin). IsBookOf x end.log b) gave.origin (subst (λ (x : Journal). IsBookOf v.origin end.log x) same end.stands);
      own = λ k p at. end.own p.number (own_in (view_of p)) (had.carries k p at);
      no_others = λ n nobody.
          elim (dec_le v.given n) [
            | yes above ↦ end.no_others n above
            | no below ↦ absurd (nobody (are.all gave.place gave.pass gave.at gave.number n (subst (λ (k : ℕ). n < k) gave.given (lt_of_not-le below))))
          ];
    }
