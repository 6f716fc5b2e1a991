-- The page was written, or it broke off, or memory was wanted before.
use Rattle.std.proofs.Common.{ℕ, List, Err, refl, inl, inr, subst}
use Rattle.client_session.specs.Standings.{client_at}
use Rattle.client_session.specs.Writing.{WritesPart}
use Rattle.client_session.proofs.SurroundingsLaws.{keeps_still}
use Rattle.client_session.proofs.status.send_page.Goals as goal

pub page_at-requires-clause-within : goal.page_at-requires-clause-within
page_at-requires-clause-within g c = c.requires.within

pub page_at-requires-clause-sizes : goal.page_at-requires-clause-sizes
page_at-requires-clause-sizes g c = c.requires.sizes

pub returns-in_default-clause-sent : goal.returns-in_default-clause-sent
returns-in_default-clause-sent g c = record { step = inl (refl, refl); kept = keeps_still g.C.Meanings _ }

pub returns-in_default-clause-seen : goal.returns-in_default-clause-seen
returns-in_default-clause-seen g c = c.page_at.ensures.same

pub returns-in-Ok-send-clause-sent : goal.returns-in-Ok-send-clause-sent
returns-in-Ok-send-clause-sent g c = record {
  step = (c.in-Ok.page, rw c.kind_of.ensures at c.in-Ok.ensures.page, rw c.as_slice.ensures at c.in-Ok-send.ensures.step, refl);
  kept = c.send.ensures.kept;
}

pub returns-in-Ok-send-clause-seen : goal.returns-in-Ok-send-clause-seen
returns-in-Ok-send-clause-seen g c = c.page_at.ensures.same

pub returns-clause-sent : goal.returns-clause-sent
returns-clause-sent g c = record {
  step = inr (
    c.in-Ok.page,
    rw c.kind_of.ensures at c.in-Ok.ensures.page,
    subst (λ (bytes : List ℕ). WritesPart {T = Unit {0}} bytes (client_at g.C.Meanings c.args.client.now) (client_at g.C.Meanings c.send.new.client) (Err c.in-Err.stop)) c.as_slice.ensures
        c.in-Err.ensures.step,
  );
  kept = c.send.ensures.kept;
}

pub returns-clause-seen : goal.returns-clause-seen
returns-clause-seen g c = c.page_at.ensures.same
