-- A write failed, or wanted memory before the end.
use Rattle.std.proofs.Common.{Err, ap, ◌∙◌, arith}
use Rattle.exchange.proofs.DeliveryLaws.{puts_front, puts_short}
use Rattle.exchange.proofs.delivery.deliver.Goals as goal

pub returns-in-Err-Failed-clause-delivered : goal.returns-in-Err-Failed-clause-delivered
returns-in-Err-Failed-clause-delivered g c =
    let e = c.write_counted.ensures in
    record {
      written = (puts_front _ _ _ _ e.put, e.cause.failed (c.in-Err-Failed.is ∙ ap Err c.in-Err-Failed.field-0-is));
      incoming = e.same.0;
      received = e.same.1;
    }

pub returns-in-Err-NoMemory-clause-delivered : goal.returns-in-Err-NoMemory-clause-delivered
returns-in-Err-NoMemory-clause-delivered g c =
    let e = c.write_counted.ensures in
    record {
      written = (
        puts_short _ _ _ _ e.put (omega (arith, c.if-written-piece.true)),
        e.cause.wanted (c.in-Err-NoMemory.is ∙ ap Err c.in-Err-NoMemory.field-0-is),
      );
      incoming = e.same.0;
      received = e.same.1;
    }
