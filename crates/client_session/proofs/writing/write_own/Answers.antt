-- An own answer was delivered, or its delivery broke off.
use Rattle.std.proofs.Common.{Err, List, ℕ, subst, ◌∙◌}
use Rattle.http_out.specs.Own.{status_of}
use Rattle.exchange.specs.Deliveries.{Delivers}
use Rattle.client_session.specs.Standings.{Puts, client_at}
use Rattle.client_session.proofs.OwnLaws.{bytes_at}
use Rattle.client_session.proofs.WritingLaws.{own_broken, part_written}
use Rattle.client_session.proofs.writing.write_own.Goals as goal

pub returns-in-Ok : goal.returns-in-Ok
returns-in-Ok g c = record {
  step = (
    c.status.ensures,
    subst (Puts (client_at g.C.Meanings c.args.client.now) (client_at g.C.Meanings c.deliver.new.sink))
        (c.as_slice.ensures ∙ c.answer.ensures ∙ bytes_at c.args.own c.args.kind) (part_written _ _ _ _ c.in-Ok.ensures.delivered),
  );
  kept = record { beside = c.deliver.ensures.beside; no_fewer = c.deliver.ensures.no_fewer };
}

pub returns-in-Err : goal.returns-in-Err
returns-in-Err g c = record {
  step = rw c.stop_of.ensures
      (own_broken (status_of c.args.own) c.args.kind _ _ c.in-Err.error c.deliver.ensures.no_fewer
      (subst (λ (bytes : List ℕ). Delivers {T = Unit {0}} bytes (client_at g.C.Meanings c.args.client.now) (client_at g.C.Meanings c.deliver.new.sink) (Err c.in-Err.error))
      (c.as_slice.ensures ∙ c.answer.ensures ∙ bytes_at c.args.own c.args.kind) c.in-Err.ensures.delivered));
  kept = record { beside = c.deliver.ensures.beside; no_fewer = c.deliver.ensures.no_fewer };
}
