use Rattle.std.proofs.Common.{not, arith, sym, ◌∙◌, ap}
use Rattle.std.specs.Option.{is_some}
use Rattle.site_workers.proofs.FirstsLemmas.{firsts_new, firsts_again}
use Rattle.site_workers.proofs.firsts.firsts.Goals as goal
use Rattle.site_workers.proofs.firsts.firsts.Goals.{then-is_none+in_ok-add+in_ok-push, else-is_none}

pub loop-listing-preserved : goal.loop-listing-preserved
loop-listing-preserved c =
    let so_far = c.loop-listing.invariant.so_far in
    let seen_are = c.loop-listing.invariant.seen_are in
    elim c.if-is_none.branch [
      | then-is_none+in_ok-add+in_ok-push w ↦
          let none = ap is_some (sym c.find.ensures) ∙ c.is_none.ensures ∙ ap not w.if-is_none.true in
          let both = firsts_new c.args.listings.now c.loop-listing.listing-index _ c.loop-listing.out.items c.loop-listing.seen (omega arith) so_far seen_are none in
          record {
            so_far = rw (w.out-is, w.in_ok-push.ensures.items) both.0;
            seen_are = rw (w.seen-is, w.in_ok-add.ensures.ok) both.1;
          }
      | else-is_none w ↦
          let there = ap is_some (sym c.find.ensures) ∙ c.is_none.ensures ∙ ap not w.if-is_none.false in
          let both = firsts_again c.args.listings.now c.loop-listing.listing-index _ c.loop-listing.out.items c.loop-listing.seen (omega arith) so_far seen_are there in
          record { so_far = rw w.out-is both.0; seen_are = rw w.seen-is both.1 }
    ]
