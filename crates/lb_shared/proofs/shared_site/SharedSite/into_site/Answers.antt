use Rattle.std.proofs.Common.{◌≡◌, ℕ, List, [], ◌∷◌, ◌++◌, map, sym, ap, ◌∙◌, subst, append-nil, append_assoc, arith}
use Rattle.std.specs.List.{All}
use Rattle.std.proofs.lemmas.List.Elements.{All-append, All-cons, All-head, All-nil, All-tail}
use mathlib.Core.Option.{some}
use lib.ListN.{get_elem?}
use Rattle.lb_book.specs.Journal.{Journal}
use Rattle.lb_shared.specs.Seats.{AreApart, IsClaim}
use Rattle.lb_shared.specs.declared.view.Claim.{Claim}
use Rattle.lb_shared.specs.Histories.{IsMadeBy, SeatNote, Step}
use Rattle.lb_shared.proofs.LeftLaws.{IsTold, claim_of, closed_by, joined_more, no_seats}
use Rattle.lb_shared.proofs.shared_site.SharedSite.into_site.Goals as goal

pub loop-other-init : goal.loop-other-init
loop-other-init g c =
    let all = c.into_iter-other-iterator.ensures.into_iter_gives.0 ∙ c.into_vec-other-items.ensures in
    record {
      here = subst (λ (ss : List SeatNote). All (λ s. s.lock ≡ c.args.self.lock.table.shared.table_id) ss) (sym all) c.requires.here;
      table = c.seat-seat.ensures.of;
      done = [];
      told = All-nil (IsTold g.L.SiteName.starts);
      split = all;
      number = c.seat-seat.ensures.new.0;
      joined = c.seat-seat.ensures.new.1;
    }

pub join-requires-clause-of : goal.join-requires-clause-of
join-requires-clause-of g c = (
  c.loop-other.invariant.table,
  c.into_seat.ensures.lock
      ∙ All-head (λ (s : SeatNote). s.lock ≡ c.args.self.lock.table.shared.table_id) c.in-Some.other _
      (subst (λ (ss : List SeatNote). All (λ s. s.lock ≡ c.args.self.lock.table.shared.table_id) ss) c.in-Some.ensures.steps.0 c.loop-other.invariant.here),
)

pub join-requires-clause-out : goal.join-requires-clause-out
join-requires-clause-out g c =
    (ap (λ m. m.0.holds) c.loop-other.invariant.joined, ap (λ m. m.0.holds) c.into_seat.ensures.me, ap (λ m. m.1) c.into_seat.ensures.me)

pub loop-other-preserved : goal.loop-other-preserved
loop-other-preserved g c =
    let I = c.loop-other.invariant in
    let is = c.in-Some.ensures.steps.0 in
    record {
      here =
          All-tail (λ (s : SeatNote). s.lock ≡ c.args.self.lock.table.shared.table_id) c.in-Some.other _
          (subst (λ (ss : List SeatNote). All (λ s. s.lock ≡ c.args.self.lock.table.shared.table_id) ss) is I.here);
      table = c.join.ensures.of ∙ I.table;
      done = I.done ++ c.in-Some.other ∷ [];
      told = All-append (IsTold g.L.SiteName.starts) I.done (c.in-Some.other ∷ []) I.told
          (All-cons (IsTold g.L.SiteName.starts) c.in-Some.other [] c.into_seat.ensures.seen (All-nil (IsTold g.L.SiteName.starts)));
      split = append_assoc I.done (c.in-Some.other ∷ []) _ ∙ ap (λ (ss : List SeatNote). I.done ++ ss) (sym is) ∙ I.split;
      number = I.number;
      joined = joined_more I.number I.done c.in-Some.other c.loop-other.seat.me c.into_seat.result.me c.join.new.seat.me I.joined c.into_seat.ensures.me c.join.ensures.both;
    }

pub close-requires-clause-of : goal.close-requires-clause-of
close-requires-clause-of g c = c.loop-other.invariant.table

pub close-requires-clause-out : goal.close-requires-clause-out
close-requires-clause-out g c = (ap (λ m. m.0.holds) c.loop-other.invariant.joined, ap (λ m. m.1) c.loop-other.invariant.joined)

pub returns : goal.returns
returns g c =
    let I = c.loop-other.invariant in
    let none = no_seats c.loop-other.other-iterator.rest.items (omega (arith, c.in-None.ensures.steps.0, c.loop-other.other-iterator.rest.ok.0)) in
    let all : I.done ≡ c.args.seats = sym (append-nil I.done) ∙ ap (λ (ss : List SeatNote). I.done ++ ss) (sym none) ∙ I.split in
    let claims = ap (λ m. m.0.claims) I.joined ∙ ap (λ (ss : List SeatNote). record { number = I.number; seen = [] } ∷ map claim_of ss) all in
    closed_by g.L.SiteName.starts c.into_site.result c.args.cuts.amount c.close.ensures.log (record { number = I.number; seen = [] }) c.args.seats
    (subst (λ (bs : List Journal). IsMadeBy g.L.SiteName.starts c.close.ensures.log bs) (sym c.into_site.ensures.books) c.close.ensures.told.0)
    (sym c.close.ensures.told.1 ∙ sym c.into_site.ensures.counted)
    (subst (λ (ss : List SeatNote). All (IsTold g.L.SiteName.starts) ss) all I.told)
    (subst (λ (cs : List (Claim Step)). (k : ℕ) (x : Claim Step) → get_elem? cs k ≡ some x → IsClaim c.close.ensures.log x) claims c.close.ensures.true_of)
    (subst (λ (cs : List (Claim Step)). AreApart cs) claims c.close.ensures.apart)
