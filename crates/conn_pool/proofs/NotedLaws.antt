-- A noted read and a noted write of the running talk's link: its tape, its faults and the link afterwards.
use Rattle.std.proofs.Common.{◌≡◌, ℕ, ◌<◌, ◌≤◌, List, take, length, Result, Ok, Err, IsErrAnd, refl, sym, ◌∙◌, subst, arith}
use Rattle.std.specs.Prelude.{Option, IfOk, OnErr, IsOk}
use Rattle.jk_io.specs.Told.{appended, HasCause}
use Rattle.jk_io.specs.declared.failures.IoError.{IoError}
use Rattle.jk_io.specs.declared.failures.IoError.TheVariants as Io
use Rattle.conn_pool.specs.Reaches.{LentState, MarksRefusal, ReadsLink, ReadsNoted, StaysLent, WritesLink, WritesNoted}

-- a call of the link itself, marked where it was refused
pub stays : {L : Type 0} (before after : LentState L) (result : Result ℕ IoError) → MarksRefusal before after result → StaysLent before after result
stays before after (Ok n) marks = record { same = marks.same; ok = marks.ok; failed = λ is. cc; marked = λ marked. marks.ok ∙ marked }
stays before after (Err e) marks = record { same = marks.same; ok = tt; failed = λ _. marks.err; marked = λ _. marks.err }

-- no memory for the note of a read
pub unread : {L : Type 0} (lent : LentState L) (received received' : Option (List ℕ)) (count : ℕ) (buf : List ℕ) (result : Result ℕ IoError)
    → received' ≡ received → IsErrAnd result (λ e. e ≡ Io.NoMemory) → ReadsNoted lent lent received received' count count buf result
unread lent received received' count buf (Ok n) same wanted = absurd wanted
unread lent received received' count buf (Err e) same wanted = record {
  count = tt;
  got = tt;
  kept_on_error = same;
  cause = record { no_fewer = omega arith; failed = λ is. cc; wanted = λ _. refl };
  steady = λ is. cc;
  talk = (
    record {
      gave = tt;
      got = tt;
      end = tt;
      kept_on_error = (refl, refl);
      same = refl;
      cause = record { no_fewer = omega arith; failed = λ is. cc; wanted = λ _. refl };
      steady = λ is. cc;
    },
    record { same = refl; ok = tt; failed = λ is. cc; marked = λ marked. marked },
  );
}

-- a read that the link answered so, noted where it gave bytes
pub read_noted : {L : Type 0} (before after : LentState L) (received received' : Option (List ℕ)) (count count' : ℕ) (buf : List ℕ) (answer result : Result ℕ IoError)
    → result ≡ answer → IfOk answer (λ n. n ≤ length buf) → ReadsLink before.link after.link buf answer
    → MarksRefusal before after answer
    → HasCause count count' answer → (IsOk answer → count' ≡ count)
    → IfOk answer (λ n. received' ≡ appended received (take n buf)) → OnErr answer (received' ≡ received)
    → ReadsNoted before after received received' count count' buf result
read_noted before after received received' count count' buf answer result is within reads marks cause steady got kept =
    subst (λ (r : Result ℕ IoError). ReadsNoted before after received received' count count' buf r) (sym is) (record {
      count = within;
      got = got;
      kept_on_error = kept;
      cause = cause;
      steady = steady;
      talk = (reads, stays before after answer marks);
    })

-- no memory for the note of a write
pub unwritten : {L : Type 0} (lent : LentState L) (sent sent' : Option (List ℕ)) (count : ℕ) (piece : List ℕ) (result : Result ℕ IoError)
    → sent' ≡ sent → IsErrAnd result (λ e. e ≡ Io.NoMemory) → WritesNoted lent lent sent sent' count count piece result
unwritten lent sent sent' count piece (Ok n) same wanted = absurd wanted
unwritten lent sent sent' count piece (Err e) same wanted = record {
  count = tt;
  put = tt;
  kept_on_error = same;
  cause = record { no_fewer = omega arith; failed = λ is. cc; wanted = λ _. refl };
  steady = λ is. cc;
  talk = (
    record {
      put = tt;
      kept_on_error = refl;
      same = (refl, refl);
      cause = record { no_fewer = omega arith; failed = λ is. cc; wanted = λ _. refl };
      steady = λ is. cc;
    },
    record { same = refl; ok = tt; failed = λ is. cc; marked = λ marked. marked },
  );
}

pub write_noted : {L : Type 0} (before after : LentState L) (sent sent' : Option (List ℕ)) (count count' : ℕ) (piece : List ℕ) (answer result : Result ℕ IoError)
    → result ≡ answer → IfOk answer (λ n. (0 < n) × (n ≤ length piece)) → WritesLink before.link after.link piece answer
    → MarksRefusal before after answer
    → HasCause count count' answer → (IsOk answer → count' ≡ count)
    → IfOk answer (λ n. sent' ≡ appended sent (take n piece)) → OnErr answer (sent' ≡ sent)
    → WritesNoted before after sent sent' count count' piece result
write_noted before after sent sent' count count' piece answer result is within writes marks cause steady put kept =
    subst (λ (r : Result ℕ IoError). WritesNoted before after sent sent' count count' piece r) (sym is) (record {
      count = within;
      put = put;
      kept_on_error = kept;
      cause = cause;
      steady = steady;
      talk = (writes, stays before after answer marks);
    })

-- a read that the link refused
pub read_refused : {L : Type 0} (before after : LentState L) (received received' : Option (List ℕ)) (count count' : ℕ) (buf : List ℕ) (answer told result : Result ℕ IoError) (e : IoError)
    → told ≡ answer → IfOk answer (λ n. n ≤ length buf) → ReadsLink before.link after.link buf answer
    → MarksRefusal before after answer
    → HasCause count count' told → (IsOk told → count' ≡ count)
    → told ≡ Err e → result ≡ Err e → received' ≡ received → ReadsNoted before after received received' count count' buf result
read_refused before after received received' count count' buf answer told result e same within link marks cause steady is ends still =
    read_noted before after received received' count count' buf answer result (ends ∙ sym is ∙ same) within link marks
    (subst (λ (r : Result ℕ IoError). HasCause count count' r) same cause) (subst (λ (r : Result ℕ IoError). IsOk r → count' ≡ count) same steady)
    (subst (λ (r : Result ℕ IoError). IfOk r (λ n. received' ≡ appended received (take n buf))) (sym is ∙ same) tt)
    (subst (λ (r : Result ℕ IoError). OnErr r (received' ≡ received)) (sym is ∙ same) still)

-- a read that the link did
pub read_done : {L : Type 0} (before after : LentState L) (received received' : Option (List ℕ)) (count count' : ℕ) (buf : List ℕ) (answer told result : Result ℕ IoError) (n : ℕ)
    → told ≡ answer → IfOk answer (λ n. n ≤ length buf) → ReadsLink before.link after.link buf answer
    → MarksRefusal before after answer
    → HasCause count count' told → (IsOk told → count' ≡ count)
    → told ≡ Ok n → result ≡ Ok n → received' ≡ appended received (take n buf) → ReadsNoted before after received received' count count' buf result
read_done before after received received' count count' buf answer told result n same within link marks cause steady is ends more =
    read_noted before after received received' count count' buf answer result (ends ∙ sym is ∙ same) within link marks
    (subst (λ (r : Result ℕ IoError). HasCause count count' r) same cause) (subst (λ (r : Result ℕ IoError). IsOk r → count' ≡ count) same steady)
    (subst (λ (r : Result ℕ IoError). IfOk r (λ (m : ℕ). received' ≡ appended received (take m buf))) (sym is ∙ same) more)
    (subst (λ (r : Result ℕ IoError). OnErr r (received' ≡ received)) (sym is ∙ same) tt)

-- a write that the link refused
pub write_refused : {L : Type 0} (before after : LentState L) (sent sent' : Option (List ℕ)) (count count' : ℕ) (piece : List ℕ) (answer told result : Result ℕ IoError) (e : IoError)
    → told ≡ answer → IfOk answer (λ n. (0 < n) × (n ≤ length piece)) → WritesLink before.link after.link piece answer
    → MarksRefusal before after answer
    → HasCause count count' told → (IsOk told → count' ≡ count)
    → told ≡ Err e → result ≡ Err e → sent' ≡ sent → WritesNoted before after sent sent' count count' piece result
write_refused before after sent sent' count count' piece answer told result e same within link marks cause steady is ends still =
    write_noted before after sent sent' count count' piece answer result (ends ∙ sym is ∙ same) within link marks
    (subst (λ (r : Result ℕ IoError). HasCause count count' r) same cause) (subst (λ (r : Result ℕ IoError). IsOk r → count' ≡ count) same steady)
    (subst (λ (r : Result ℕ IoError). IfOk r (λ n. sent' ≡ appended sent (take n piece))) (sym is ∙ same) tt)
    (subst (λ (r : Result ℕ IoError). OnErr r (sent' ≡ sent)) (sym is ∙ same) still)

-- a write that the link did
pub write_done : {L : Type 0} (before after : LentState L) (sent sent' : Option (List ℕ)) (count count' : ℕ) (piece : List ℕ) (answer told result : Result ℕ IoError) (n : ℕ)
    → told ≡ answer → IfOk answer (λ n. (0 < n) × (n ≤ length piece)) → WritesLink before.link after.link piece answer
    → MarksRefusal before after answer
    → HasCause count count' told → (IsOk told → count' ≡ count)
    → told ≡ Ok n → result ≡ Ok n → sent' ≡ appended sent (take n piece) → WritesNoted before after sent sent' count count' piece result
write_done before after sent sent' count count' piece answer told result n same within link marks cause steady is ends more =
    write_noted before after sent sent' count count' piece answer result (ends ∙ sym is ∙ same) within link marks
    (subst (λ (r : Result ℕ IoError). HasCause count count' r) same cause) (subst (λ (r : Result ℕ IoError). IsOk r → count' ≡ count) same steady)
    (subst (λ (r : Result ℕ IoError). IfOk r (λ (m : ℕ). sent' ≡ appended sent (take m piece))) (sym is ∙ same) more)
    (subst (λ (r : Result ℕ IoError). OnErr r (sent' ≡ sent)) (sym is ∙ same) tt)
