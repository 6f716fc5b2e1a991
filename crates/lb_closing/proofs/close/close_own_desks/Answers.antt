-- A closing with the lock's own desks: by their seats and shares the history has no steps of others.
use Rattle.std.proofs.Common.{◌≡◌, List, subst, sym, ◌∙◌}
use Rattle.std.specs.List.{All}
use Rattle.std.proofs.lemmas.List.Elements.{All-map}
use Rattle.lb_shared.specs.Histories.{IsClosedAfter, SeatNote, cut_count, own_count}
use Rattle.lb_closing.proofs.CloseLaws.{differs_left, err_left, ok_both, ok_left}
use Rattle.lb_closing.proofs.WholeLaws.{amounts, whole_by}
use Rattle.lb_closing.proofs.close.close_own_desks.Goals as goal

pub returns-clause-differs : goal.returns-clause-differs
returns-clause-differs g c =
    err_left _ _ c.close_gathered.result
    (λ d is.
    let left = differs_left g.L.SiteName.sizes g.L.SiteName.firsts _ _ _ _ _ _ d g.L.SiteName.starts _ _ c.in_ok-gather.ensures.forgot.0 c.in_ok-gather.ensures.noted c.in_ok-gather.ensures.amount is in
    let here = subst (λ (ss : List SeatNote). IsClosedAfter g.L.SiteName.starts ss c.in_ok-gather.field-0.cuts.amount left.1.books) c.in_ok-gather.ensures.seats left.2 in
    record {
      differs = left.1;
      whole = whole_by g.L.SiteName.starts _ _ left.1.books here
          (amounts (λ s. own_count s) (λ l. l.seat) (λ l. l.share.amount) c.args.leaving (λ l. l.own) ∙ sym left.1.counted)
          (amounts (λ s. cut_count s) (λ l. l.seat) (λ l. l.cuts.amount) c.args.leaving (λ l. l.own_cuts) ∙ sym c.in_ok-gather.ensures.cuts);
    })
    c.close_gathered.ensures.differs

-- Their seats are those of the desks.
pub close_gathered-requires-clause-here : goal.close_gathered-requires-clause-here
close_gathered-requires-clause-here g c =
    subst (λ (ss : List SeatNote). All (λ s. s.lock ≡ c.args.site.lock.table.shared.table_id) ss) (sym c.in_ok-gather.ensures.seats)
    (All-map (λ (s : SeatNote). s.lock ≡ c.args.site.lock.table.shared.table_id) _ _ c.requires.here)

-- The history has no steps of others, since the shares count all that the Books added, and all cuts.
pub returns-clause-whole : goal.returns-clause-whole
returns-clause-whole g c =
    ok_left _ _ c.close_gathered.result
    (λ closed is.
    let here = subst (λ (ss : List SeatNote). IsClosedAfter g.L.SiteName.starts ss c.in_ok-gather.field-0.cuts.amount closed.books) c.in_ok-gather.ensures.seats is.0 in
    whole_by g.L.SiteName.starts _ _ closed.books here
    (amounts (λ s. own_count s) (λ l. l.seat) (λ l. l.share.amount) c.args.leaving (λ l. l.own) ∙ sym c.in_ok-gather.ensures.amount ∙ sym is.1 ∙ closed.every)
    (amounts (λ s. cut_count s) (λ l. l.seat) (λ l. l.cuts.amount) c.args.leaving (λ l. l.own_cuts) ∙ sym c.in_ok-gather.ensures.cuts))
    (ok_both _ _ c.close_gathered.result c.close_gathered.ensures.history c.close_gathered.ensures.counted)
