-- The data that came stands after the front of the piece; or none did.
use Rattle.std.proofs.Common.{◌≡◌, ℕ, ◌+◌, ◌-◌, ◌≤◌, length, take, arith, sym, ap, ◌∙◌}
use Rattle.std.proofs.lemmas.List.{length-take-le}
use Rattle.std.proofs.lemmas.Grind.{common_steps}
use Rattle.jk_io.specs.Told.{prepended}
use Rattle.jk_io.proofs.PieceLaws.{take-filled}
use Rattle.jk_io.proofs.ToldLaws.{prepended-nil}
use Rattle.http_front.specs.declared.fault.BodyFault.TheVariants as fault
use Rattle.http_front.proofs.ReadLemmas.{read-done, read-refused}
use Rattle.http_front.proofs.WalkLemmas.{fault_of-kind, length-put_mid}
use Rattle.http_front.proofs.walk.take_data.Goals as goal

pub returns-in-Ok-eq0-clause-err : goal.returns-in-Ok-eq0-clause-err
returns-in-Ok-eq0-clause-err g c =
    let now = prepended c.next_data.new.inbox (g.C.Meanings.incoming c.next_data.new.client) in
    sym (c.in-Ok-eq0.ensures.came ∙ ap (λ (n : ℕ). prepended (take n c.next_data.new.buf) now) c.in-Ok-eq0.field-0-test ∙ prepended-nil now)

pub returns-in-Ok-eq0-clause-steps : goal.returns-in-Ok-eq0-clause-steps
returns-in-Ok-eq0-clause-steps g c = record {
  reads = read-done g.C.Meanings _ _ _ _ (λ is. cc) c.in-Ok-eq0.ensures.reads;
  unasked = c.next_data.ensures.unasked;
  end = λ is. c.in-Ok-eq0.ensures.end c.in-Ok-eq0.field-0-test;
  kind = (λ is. cc, λ is. cc);
}

pub returns-in-Ok-clause-steps : goal.returns-in-Ok-clause-steps
returns-in-Ok-clause-steps g c = record {
  reads = read-done g.C.Meanings _ _ _ _ (λ is. cc) c.in-Ok.ensures.reads;
  unasked = c.next_data.ensures.unasked;
  end = λ is. cc;
  kind = (λ is. cc, λ is. cc);
}

pub returns-in-Ok-clause-within : goal.returns-in-Ok-clause-within
returns-in-Ok-clause-within g c =
    let e = c.in-Ok.ensures in
    let k = c.args.count + c.count_of-want.result - c.args.count in
    let fits : c.args.count + k ≤ length c.args.piece.now = omega (arith, c.count_of-want.ensures, c.requires.room) in
    let len : length c.next_data.new.buf ≡ k = grind (arith, common_steps, c.next_data.auto.buf, fits) in
    let long = length-put_mid c.args.count k c.args.piece.now c.next_data.new.buf (omega (arith, c.requires.room)) fits len in
    (omega arith, omega (arith, e.count, len, c.count_of-want.ensures), omega (arith, long, fits, len, e.count))

pub returns-in-Ok-clause-put : goal.returns-in-Ok-clause-put
returns-in-Ok-clause-put g c =
    let e = c.in-Ok.ensures in
    let came = c.in-Ok.came in
    let k = c.args.count + c.count_of-want.result - c.args.count in
    record {
      dropped = record {
        gone = take came c.next_data.new.buf;
        count = length-take-le came c.next_data.new.buf e.count;
        used = e.came;
        inside = λ some. (let gave = e.inside some in cc);
      };
      put = take-filled c.args.piece.now c.next_data.new.buf c.args.count k came (omega (arith, c.requires.room)) e.count;
    }

pub returns-in-Err-clause-steps : goal.returns-in-Err-clause-steps
returns-in-Err-clause-steps g c =
    let told = c.fault_of.ensures in
    let other = fault_of-kind c.in-Err.error in
    record {
      reads = read-refused g.C.Meanings _ _ c.in-Err.error c.fault_of.result told c.in-Err.ensures.reads;
      unasked = c.next_data.ensures.unasked;
      end = λ is. (let why : c.fault_of.result ≡ fault.Truncated = cc in absurd (other.0 (sym told ∙ why)));
      kind = (
        λ is. (let why : c.fault_of.result ≡ fault.BadChunk = cc in other.1 (sym told ∙ why)),
        λ is. (let why : c.fault_of.result ≡ fault.TooLong = cc in other.2 (sym told ∙ why)),
      );
    }
