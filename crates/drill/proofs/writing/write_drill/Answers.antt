use Rattle.std.proofs.Common.{ℕ, List, subst}
use Rattle.drill.specs.Ends.{IsCompared}
use Rattle.drill.specs.Written.{Told, WritesTold}
use Rattle.drill.proofs.writing.write_drill.Goals as goal

pub returns-in-Ok : goal.returns-in-Ok
returns-in-Ok g c =
    Told (record {
      told = c.in-Ok.drilled.text;
      book = c.in-Ok.drilled.book;
      drill = record {
        summary = c.in-Ok.ensures.summary;
        journal = c.in-Ok.ensures.journal;
        drilled = c.in-Ok.ensures.drilled;
        compared =
            subst
            (λ (n : ℕ). IsCompared c.args.order.seed c.args.order.threads c.args.order.requests c.args.order.passes n c.in-Ok.drilled.book)
            c.in-Ok.ensures.bodies c.in-Ok.ensures.compared;
        book = c.in-Ok.ensures.book;
      };
      written =
          subst
          (λ (text : List ℕ). WritesTold (g.O.Meanings.sent c.args.out.now) (g.O.Meanings.sent c.put_text.new.out)
          (g.O.Meanings.faults c.args.out.now) (g.O.Meanings.faults c.put_text.new.out) text c.put_text.result)
          c.as_slice.ensures c.put_text.ensures;
    })
