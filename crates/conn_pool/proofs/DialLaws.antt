-- A begin over a link that was dialled: refused, without memory for its note, or a talk over the new link.
use Rattle.std.proofs.Common.{◌≡◌, Bool, true, false, List, [], ◌∷◌, Some, None, Result, Ok, Err, IsErrAnd, refl, sym, ap, ◌∙◌, subst}
use Rattle.std.specs.Prelude.{Option, IfSome, IsSomeAnd, IfOk, IfErr, OnOk, OnErr, IsErrOf, is_some}
use Rattle.jk_io.specs.Told.{appended, IsEmpty}
use Rattle.jk_io.specs.declared.failures.IoError.{IoError}
use Rattle.jk_io.specs.declared.failures.IoError.TheVariants as Io
use Rattle.jk_io.specs.declared.reaching.Begun.{Begun}
use Rattle.jk_io.specs.declared.reaching.Talk.{Talk}
use Rattle.conn_pool.specs.Begins.{Opens, TapeRests, TapeSight, talks_refused}
use Rattle.conn_pool.specs.Reaches.{LentState}
use Rattle.conn_pool.proofs.BeginLaws.{link_of}

-- what is told of such a begin: of its answer, the dial's, the link and the tape
pub record DialledBegin {L : Type 0} (Running Idle : Type 0) (b : Begun) (talk : Talk) (talks : Option (List Talk)) (now : TapeSight)
    (lent : Option (LentState L)) (answer : Result L IoError) (result : Result Bool IoError) : Type 0 where
  pub new_link : IfOk result (λ dialled. dialled ≡ true)
  pub began : OnOk result (Opens b talks now lent)
  pub refused : IfErr result (λ e. TapeRests (talks_refused talk talks e) now)
  pub running : OnOk result Running
  pub idle : OnErr result ((lent ≡ None) × Idle)
  pub given : OnOk result (IsSomeAnd lent (λ l. answer ≡ Ok l.given))
  pub fails : IsErrOf result Io.Failed → IsErrOf answer Io.Failed

refused_so : {L : Type 0} (Running Idle : Type 0) (b : Begun) (talk : Talk) (talks : Option (List Talk)) (now : TapeSight) (lent : Option (LentState L))
    (answer told : Result L IoError) (e : IoError) → told ≡ Err e → (IsErrOf told Io.Failed → told ≡ answer)
    → (IsErrOf told Io.Failed → now.talks ≡ appended talks (talk ∷ [])) → (IsErrOf told Io.NoMemory → now.talks ≡ talks)
    → IsEmpty now.sent × IsEmpty now.received → (lent ≡ None) × Idle
    → DialledBegin Running Idle b talk talks now lent answer (Err e)
refused_so Running Idle b talk talks now lent answer told Io.Failed is same failed wanted empty idle = record {
  new_link = tt;
  began = tt;
  refused = record { empty = empty; talks_kept = failed is };
  running = tt;
  idle = idle;
  given = tt;
  fails = λ _. sym (same is) ∙ is;
}
refused_so Running Idle b talk talks now lent answer told Io.NoMemory is same failed wanted empty idle = record {
  new_link = tt;
  began = tt;
  refused = record { empty = empty; talks_kept = wanted is };
  running = tt;
  idle = idle;
  given = tt;
  fails = λ no. absurd cc;
}

-- the dial was refused, or its note
pub refused_dial : {L : Type 0} (Running Idle : Type 0) (b : Begun) (talk : Talk) (talks : Option (List Talk)) (now : TapeSight) (lent : Option (LentState L))
    (answer told : Result L IoError) (result : Result Bool IoError) (e : IoError) → told ≡ Err e → result ≡ Err e
    → (IsErrOf told Io.Failed → told ≡ answer)
    → (IsErrOf told Io.Failed → now.talks ≡ appended talks (talk ∷ [])) → (IsErrOf told Io.NoMemory → now.talks ≡ talks)
    → IsEmpty now.sent × IsEmpty now.received → (lent ≡ None) × Idle
    → DialledBegin Running Idle b talk talks now lent answer result
refused_dial Running Idle b talk talks now lent answer told result e is ends same failed wanted empty idle =
    subst (λ (r : Result Bool IoError). DialledBegin Running Idle b talk talks now lent answer r) (sym ends)
    (refused_so Running Idle b talk talks now lent answer told e is same failed wanted empty idle)

-- no memory for the note of the talk
pub unnoted_dial : {L : Type 0} (Running Idle : Type 0) (b : Begun) (talk : Talk) (talks mid : Option (List Talk)) (now : TapeSight) (lent : Option (LentState L))
    (answer : Result L IoError) (result : Result Bool IoError) → IsErrAnd result (λ e. e ≡ Io.NoMemory) → mid ≡ talks → now.talks ≡ mid
    → IsEmpty now.sent × IsEmpty now.received → (lent ≡ None) × Idle
    → DialledBegin Running Idle b talk talks now lent answer result
unnoted_dial Running Idle b talk talks mid now lent answer (Ok d) wanted before after empty idle = absurd wanted
unnoted_dial Running Idle b talk talks mid now lent answer (Err e) wanted before after empty idle =
    subst (λ (x : IoError). DialledBegin Running Idle b talk talks now lent answer (Err x)) (sym wanted) (record {
      new_link = tt;
      began = tt;
      refused = record { empty = empty; talks_kept = after ∙ before };
      running = tt;
      idle = idle;
      given = tt;
      fails = λ no. absurd cc;
    })

given_so : {L : Type 0} (lent : Option (LentState L)) (answer : Result L IoError) (link : L) → is_some lent ≡ true
    → IfSome lent (λ l. (l.dialled ≡ true) × (l.given ≡ link)) → answer ≡ Ok link → IsSomeAnd lent (λ l. answer ≡ Ok l.given)
given_so None answer link there new is = absurd cc
given_so (Some l) answer link there new is = is ∙ ap Ok (sym new.1)

dialled_so : {L : Type 0} (lent : Option (LentState L)) (link : L) → IfSome lent (λ l. (l.dialled ≡ true) × (l.given ≡ link)) → IfSome lent (λ l. l.dialled ≡ true)
dialled_so None link new = tt
dialled_so (Some l) link new = new.0

-- a talk over the new link
pub noted_dial : {L : Type 0} (Running Idle : Type 0) (b : Begun) (talk : Talk) (talks mid : Option (List Talk)) (now : TapeSight) (lent : Option (LentState L))
    (answer told : Result L IoError) (link : L) → b.dialled ≡ true → told ≡ Ok link → told ≡ answer → mid ≡ talks → now.talks ≡ mid
    → IsEmpty now.sent × IsEmpty now.received → is_some lent ≡ true → IfSome lent (λ l. (l.lb ≡ b.lb) × (l.member ≡ b.member))
    → IfSome lent (λ l. (l.began ≡ l.link.faults) × (l.faulty ≡ false)) → IfSome lent (λ l. (l.dialled ≡ true) × (l.given ≡ link))
    → Running → IfSome now.begun (λ x. x ≡ b)
    → DialledBegin Running Idle b talk talks now lent answer (Ok true)
noted_dial Running Idle b talk talks mid now lent answer told link new is same before after empty there whose begins given running begun = record {
  new_link = refl;
  began = record {
    link = link_of b lent there whose begins (subst (λ (x : Bool). IfSome lent (λ l. l.dialled ≡ x)) (sym new) (dialled_so lent link given));
    fresh = λ _. new;
    begun = begun;
    empty = empty;
    talks_kept = after ∙ before;
  };
  refused = tt;
  running = running;
  idle = tt;
  given = given_so lent answer link there given (sym same ∙ is);
  fails = λ no. absurd cc;
}
