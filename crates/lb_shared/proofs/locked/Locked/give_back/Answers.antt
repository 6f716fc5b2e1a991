-- A hold that takes a lease back cuts as others do, but where memory is wanting.
use Rattle.std.proofs.Common.{ℕ, ◌<◌, ◌∙◌, length, sym, ap, subst}
use Rattle.std.specs.Prelude.{IsErr}
use Rattle.lb_shared.specs.Holds.{cut_in}
use Rattle.lb_shared.specs.SharedDesks.{CutsOrWants}
use Rattle.lb_shared.proofs.LockLaws.{cuts_or_wants, sited_within}
use Rattle.lb_shared.proofs.locked.Locked.give_back.Goals as goal

pub returns-clause-when : goal.returns-clause-when
returns-clause-when g c =
    let cut = c.cut_first-cut.result in
    let within = subst (λ (lb : ℕ). lb < length g.L.SiteName.sizes) (sym c.lb.ensures) c.requires.lb in
    subst (λ (lb : ℕ). CutsOrWants g.L.SiteName.sizes g.L.SiteName.cut_at lb (cut_in cut) (IsErr cut)) c.lb.ensures
    (cuts_or_wants g.L.SiteName.sizes g.L.SiteName.firsts g.L.SiteName.cut_at c.lb.result _ c.cut_first-cut.new.self.books cut c.cut_first-cut.ensures.sited.0
    (sited_within g.L.SiteName.sizes g.L.SiteName.firsts _ c.lb.result c.cut_first-cut.ensures.sited.0 within) c.cut_first-cut.ensures.ok c.cut_first-cut.ensures.when)

pub returns-clause-ends : goal.returns-clause-ends
returns-clause-ends g c = record {
  news = (c.take_back-done.ensures.news.0, c.take_back-done.ensures.news.1, c.take_back-done.ensures.uncut ∙ c.cut_first-cut.ensures.told, c.take_back-done.ensures.uncounted ∙ c.cut_first-cut.ensures.counted);
  parts = c.take_back-done.ensures.kept.parts;
  room = c.take_back-done.ensures.kept.room;
  counted = ap (λ s. s.amount) c.take_back-done.ensures.kept.cuts ∙ c.cut_first-cut.ensures.amount;
  few = c.take_back-done.ensures.few;
}
