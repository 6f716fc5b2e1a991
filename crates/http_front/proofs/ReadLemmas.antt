-- Reads of a client, one after another, and as the answers of a body tell of them.
use Rattle.std.proofs.Common.{◌≡◌, ℕ, List, Result, Ok, Err, refl, ap, subst, ◌∙◌}
use Rattle.std.specs.Prelude.{IsErrOf}
use Rattle.jk_io.specs.Told.{Rose}
use Rattle.jk_io.specs.declared.failures.IoError.{IoError}
use Rattle.jk_io.specs.declared.traits.streams.Meanings.{Ghosts}
use Rattle.http_front.specs.Faults.{IsCalmBody, IsNoFailure, fault_of}
use Rattle.http_front.specs.Reads.{ReadsClient, ReadsOnce, StepsOn}
use Rattle.http_front.specs.declared.fault.BodyFault.{BodyFault}
use Rattle.http_front.specs.declared.fault.BodyFault.TheVariants as fault
use Rattle.http_front.proofs.AwaitLemmas.{failed_as, wanted_as}
use Rattle.http_front.proofs.WalkLemmas.{kept-count, risen-count}

-- no read failed
pub none-failed : {C B E T : Type 0} (told : Ghosts C B) (failed : E) (is_calm : Type 0) (before now : C) (result : Result T E) → (IsErrOf result failed → ⊥)
    → told.sent now ≡ told.sent before → told.beside now ≡ told.beside before → told.faults now ≡ told.faults before
    → ReadsClient told failed is_calm before now result
none-failed told failed is_calm before now result none sent beside steady = record {
  same = (sent, beside);
  fault = λ is. absurd (none is);
  steady = λ _. steady;
  no_fewer = kept-count _ _ steady;
}

-- reads that failed nowhere, and then those of a call whose error is the answer
pub reads-then : {C B U T : Type 0} (told : Ghosts C B) (before mid now : C) (why : BodyFault) (result : Result T BodyFault) → result ≡ Err why
    → told.sent mid ≡ told.sent before → told.beside mid ≡ told.beside before → told.faults mid ≡ told.faults before
    → ReadsClient {T = U} told fault.Fault (IsNoFailure why) mid now (Err why) → ReadsClient told fault.Fault (IsCalmBody result) before now result
reads-then told before mid now why (Ok t) is sent beside steady r = absurd cc
reads-then told before mid now why (Err w) is sent beside steady r =
    let same : w ≡ why = cc in
    record {
      same = (r.same.0 ∙ sent, r.same.1 ∙ beside);
      fault = λ h. (let failed : why ≡ fault.Fault = cc in subst (λ (k : ℕ). Rose k (told.faults now)) steady (r.fault (ap Err failed)));
      steady = λ calm. r.steady (subst (λ (e : BodyFault). IsNoFailure e) same calm) ∙ steady;
      no_fewer = risen-count _ _ _ steady r.no_fewer;
    }

-- a read that gave what it has
pub read-done : {C B U T : Type 0} (told : Ghosts C B) (before now : C) (came : U) (result : Result T BodyFault) → (IsErrOf result fault.Fault → ⊥)
    → ReadsOnce told before now (Ok came) → ReadsClient told fault.Fault (IsCalmBody result) before now result
read-done told before now came result none r = none-failed told fault.Fault (IsCalmBody result) before now result none r.same.0 r.same.1 (r.steady refl)

-- a read that was refused, as a body tells it
pub read-refused : {C B U T : Type 0} (told : Ghosts C B) (before now : C) (error : IoError) (why : BodyFault) → why ≡ fault_of error
    → ReadsOnce {T = U} told before now (Err error) → ReadsClient {T = T} told fault.Fault (IsNoFailure why) before now (Err why)
read-refused told before now error why is r = record {
  same = r.same;
  fault = λ h. (let failed : why ≡ fault.Fault = cc in r.cause.failed (ap Err (failed_as error why is failed)));
  steady = λ calm. r.cause.wanted (ap Err (wanted_as error why is calm));
  no_fewer = r.cause.no_fewer;
}

-- the step of a call whose error is the answer
pub step-refused : {C B U T : Type 0} (told : Ghosts C B) (inbox inbox_now : List ℕ) (before now : C) (why : BodyFault) (result : Result T BodyFault) → result ≡ Err why
    → StepsOn {T = U} told inbox inbox_now before now (Err why) → StepsOn told inbox inbox_now before now result
step-refused told inbox inbox_now before now why (Ok t) is s = absurd cc
step-refused told inbox inbox_now before now why (Err w) is s = record {
  reads = reads-then told before before now why (Err w) is refl refl refl s.reads;
  unasked = s.unasked;
  end = λ h. (let ended : why ≡ fault.Truncated = cc in s.end (ap Err ended));
  kind = (
    λ h. (let bad : why ≡ fault.BadChunk = cc in s.kind.0 (ap Err bad)),
    λ h. (let long : why ≡ fault.TooLong = cc in s.kind.1 (ap Err long)),
  );
}

-- the step of a call that was done, and so is the answer
pub step-done : {C B U T : Type 0} (told : Ghosts C B) (inbox mid inbox_now : List ℕ) (before now : C) (came : U) (answer : T)
    → StepsOn told inbox mid before now (Ok came) → StepsOn told inbox inbox_now before now (Ok answer)
step-done told inbox mid inbox_now before now came answer s = record {
  reads = none-failed told fault.Fault _ before now (Ok answer) (λ is. cc) s.reads.same.0 s.reads.same.1 (s.reads.steady tt);
  unasked = s.unasked;
  end = λ is. cc;
  kind = (λ is. cc, λ is. cc);
}
