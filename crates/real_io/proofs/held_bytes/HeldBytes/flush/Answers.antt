use Rattle.std.proofs.Common.{◌≡◌, ◌-◌, ap, ◌∙◌, arith, length}
use Rattle.jk_io.specs.Told.{appended}
use Rattle.real_io.proofs.HeldLaws.{all_went, front_went}
use Rattle.real_io.proofs.held_bytes.HeldBytes.flush.Goals as goal

pub returns-in-Ok-clause-whole : goal.returns-in-Ok-clause-whole
returns-in-Ok-clause-whole g c =
    ap (λ rest. appended (g.S.Meanings.sent c.write_counted.new.sink) rest) c.clear.ensures
    ∙ all_went (g.S.Meanings.sent c.args.sink.now) (g.S.Meanings.sent c.write_counted.new.sink) c.self.inside.bytes.items c.deref.result.now c.args.self.now
    (length c.deref.result.now) c.self.inside.gone (c.write_counted.new.written - 0)
    c.deref.ensures.value (omega (arith, ap length c.deref.ensures.value)) c.self.view_is (omega (arith, c.in-Ok.ensures.whole)) c.write_counted.ensures.put

pub returns-in-Err-clause-whole : goal.returns-in-Err-clause-whole
returns-in-Err-clause-whole g c =
    front_went (g.S.Meanings.sent c.args.sink.now) (g.S.Meanings.sent c.write_counted.new.sink) c.self.inside.bytes.items c.deref.result.now c.args.self.now
    (length c.deref.result.now) c.self.inside.gone c.write_counted.new.written (c.write_counted.new.written - 0)
    c.deref.ensures.value (omega (arith, ap length c.deref.ensures.value)) c.self.view_is (omega arith) c.write_counted.ensures.put
