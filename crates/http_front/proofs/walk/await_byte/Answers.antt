-- A byte is there, or it is awaited.
use Rattle.std.proofs.Common.{◌≡◌, ◌∙◌, length, refl, sym, arith}
use Rattle.http_front.specs.declared.fault.BodyFault.TheVariants as fault
use Rattle.http_front.proofs.AwaitLemmas.{none_more, none_there, not_awaited, one_there, some_more}
use Rattle.http_front.proofs.ReadLemmas.{none-failed, read-done, read-refused}
use Rattle.http_front.proofs.WalkLemmas.{fault_of-kind}
use Rattle.http_front.proofs.walk.await_byte.Goals as goal

pub returns-then-not-is_empty : goal.returns-then-not-is_empty
returns-then-not-is_empty g c = record {
  ok = one_there (length c.args.inbox.now) c.is_empty.result c.is_empty.ensures c.if-not-is_empty.true;
  inside = λ _. refl;
  unread = refl;
  steps = record {
    reads = none-failed g.C.Meanings fault.Fault _ _ _ _ (λ is. cc) refl refl refl;
    unasked = λ _. refl;
    end = λ is. cc;
    kind = (λ is. cc, λ is. cc);
  };
}

pub returns-in-Ok-eq0 : goal.returns-in-Ok-eq0
returns-in-Ok-eq0 g c =
    let e = c.in-Ok-eq0.ensures in
    let none = none_there (length c.args.inbox.now) c.is_empty.result c.is_empty.ensures c.if-not-is_empty.false in
    let awaited = not_awaited (length c.args.inbox.now) c.is_empty.result c.is_empty.ensures c.if-not-is_empty.false in
    record {
      ok = tt;
      inside = λ some. absurd (awaited some);
      unread = c.read_more.ensures.unread;
      steps = record {
        reads = read-done g.C.Meanings _ _ _ _ (λ is. cc) e.reads;
        unasked = λ some. absurd (awaited some);
        end = λ _. none_more c.args.inbox.now c.read_more.new.self e.more.0 (g.C.Meanings.incoming c.read_more.new.client) none
            (e.more.1 ∙ c.in-Ok-eq0.field-0-test) e.more.2 (e.end c.in-Ok-eq0.field-0-test);
        kind = (λ is. cc, λ is. cc);
      };
    }

pub returns-in-Ok : goal.returns-in-Ok
returns-in-Ok g c =
    let e = c.in-Ok.ensures in
    let awaited = not_awaited (length c.args.inbox.now) c.is_empty.result c.is_empty.ensures c.if-not-is_empty.false in
    record {
      ok = some_more c.args.inbox.now c.read_more.new.self e.more.0 _ e.more.1 e.more.2 (omega arith);
      inside = λ some. absurd (awaited some);
      unread = c.read_more.ensures.unread;
      steps = record {
        reads = read-done g.C.Meanings _ _ _ _ (λ is. cc) e.reads;
        unasked = λ some. absurd (awaited some);
        end = λ is. cc;
        kind = (λ is. cc, λ is. cc);
      };
    }

pub returns-in-Err : goal.returns-in-Err
returns-in-Err g c =
    let awaited = not_awaited (length c.args.inbox.now) c.is_empty.result c.is_empty.ensures c.if-not-is_empty.false in
    let told = c.fault_of.ensures in
    let other = fault_of-kind c.in-Err.error in
    record {
      ok = tt;
      inside = λ some. absurd (awaited some);
      unread = c.read_more.ensures.unread;
      steps = record {
        reads = read-refused g.C.Meanings _ _ c.in-Err.error c.fault_of.result told c.in-Err.ensures.reads;
        unasked = λ some. absurd (awaited some);
        end = λ is. (let why : c.fault_of.result ≡ fault.Truncated = cc in absurd (other.0 (sym told ∙ why)));
        kind = (
          λ is. (let why : c.fault_of.result ≡ fault.BadChunk = cc in other.1 (sym told ∙ why)),
          λ is. (let why : c.fault_of.result ≡ fault.TooLong = cc in other.2 (sym told ∙ why)),
        );
      };
    }
