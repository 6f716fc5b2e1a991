-- A whole begin, put together from its steps.
use Rattle.std.proofs.Common.{◌≡◌, ℕ, Bool, true, false, List, [], ◌∷◌, Some, None, Result, Ok, Err, refl, sym, ap, ◌∙◌, subst, arith}
use Rattle.std.specs.Prelude.{Option, IfSome, IsSomeAnd, IfOk, IfErr, OnOk, OnErr, IsOk, IsErrOf, is_some, is_ok}
use Rattle.std.proofs.lemmas.Bool.{true≢false}
use Rattle.jk_io.specs.Told.{appended, IsEmpty, HasCause, Rose}
use Rattle.jk_io.specs.Talks.{failed_talk_of}
use Rattle.jk_io.specs.declared.failures.IoError.{IoError}
use Rattle.jk_io.specs.declared.failures.IoError.TheVariants as Io
use Rattle.jk_io.specs.declared.reaching.Begun.{Begun}
use Rattle.jk_io.specs.declared.reaching.Talk.{Talk}
use Rattle.jk_io.specs.declared.reaching.TalkAsked.{TalkAsked}
use Rattle.conn_pool.specs.Begins.{Opens, IsLinkOf, TapeRests, TapeSight, talks_refused}
use Rattle.conn_pool.specs.Reaches.{LentState, told_begun}

some_if : {X : Type 0} (o : Option X) (P Q : X → Type 0) → IsSomeAnd o P → ((x : X) → P x → Q x) → IfSome o Q
some_if None P Q some then = absurd some
some_if (Some x) P Q some then = then x some

none_if : {X : Type 0} (o : Option X) (Q : X → Type 0) → o ≡ None → IfSome o Q
none_if None Q none = tt
none_if (Some x) Q none = absurd cc

there_is : {X : Type 0} (o : Option X) (P : X → Type 0) → IsSomeAnd o P → is_some o ≡ true
there_is None P some = absurd some
there_is (Some x) P some = refl

-- what is always new is never kept
pub never_kept : {P : Type 0} (result : Result Bool IoError) → IfOk result (λ dialled. dialled ≡ true) → result ≡ Ok false → P
never_kept (Ok dialled) new kept = absurd (cc (new, kept))
never_kept (Err e) new kept = absurd cc

answered : {L : Type 0} (o : Option (LentState L)) (answer : Result L IoError) → IsSomeAnd o (λ l. answer ≡ Ok l.given) → is_ok answer ≡ true
answered None answer some = absurd some
answered (Some l) answer some = ap is_ok some

-- a link that is there, of which each part is known
pub link_of : {L : Type 0} (b : Begun) (lent : Option (LentState L)) → is_some lent ≡ true → IfSome lent (λ l. (l.lb ≡ b.lb) × (l.member ≡ b.member))
    → IfSome lent (λ l. (l.began ≡ l.link.faults) × (l.faulty ≡ false)) → IfSome lent (λ l. l.dialled ≡ b.dialled) → IsSomeAnd lent (λ l. IsLinkOf b l)
link_of b None there whose begins new = absurd cc
link_of b (Some l) there whose begins new = record { whose = whose; dialled = new; begins = begins }

-- what a begin says, clause by clause: of the dial, the talks and the count of faults before, and of all parts after
pub record BeginFacts {D L : Type 0} (gives : D → L → D → Type 0) (faults : D → ℕ) (asked : TalkAsked)
    (dial : D) (talks : Option (List Talk)) (count : ℕ) (dial' : D) (now : TapeSight) (lent : Option (LentState L)) (count' : ℕ) (result : Result Bool IoError) : Type 0 where
  pub runs : is_some lent ≡ is_ok result
  pub whose : IfSome lent (λ l. (l.lb ≡ asked.lb) × (l.member ≡ asked.member))
  pub begins : IfSome lent (λ l. (l.began ≡ l.link.faults) × (l.faulty ≡ false))
  pub new_link : IfOk result (λ dialled. asked.fresh ≡ true → dialled ≡ true)
  pub dialled : IfOk result (λ dialled. IfSome lent (λ l. l.dialled ≡ dialled))
  pub given : result ≡ Ok true → IfSome lent (λ l. gives dial l.given dial')
  pub begun : IfOk result (λ dialled. IfSome now.begun (λ b. b ≡ told_begun asked dialled))
  pub nothing_yet : IsEmpty now.sent × IsEmpty now.received
  pub idle : IfOk result (λ dialled. dialled ≡ false → dial' ≡ dial)
  pub clean : IsOk result → faults dial' ≡ faults dial
  pub dial_failed : IsErrOf result Io.Failed → Rose (faults dial) (faults dial')
  pub ok : OnOk result (now.talks ≡ talks)
  pub failed : IsErrOf result Io.Failed → now.talks ≡ appended talks (failed_talk_of asked ∷ [])
  pub wanted : IsErrOf result Io.NoMemory → now.talks ≡ talks
  pub cause : HasCause count count' result
  pub steady : IsOk result → count' ≡ count
  pub want_of_memory : IsErrOf result Io.NoMemory → count' ≡ count

-- no memory for the note of a talk over an idle link
pub wants_facts : {D L : Type 0} (gives : D → L → D → Type 0) (faults : D → ℕ) (asked : TalkAsked)
    (dial : D) (talks : Option (List Talk)) (count : ℕ) (now : TapeSight) (lent : Option (LentState L)) (result : Result Bool IoError) → result ≡ Err Io.NoMemory → lent ≡ None
    → IsEmpty now.sent × IsEmpty now.received → now.talks ≡ talks → BeginFacts gives faults asked dial talks count dial now lent count result
wants_facts gives faults asked dial talks count now lent (Ok d) is none empty same = absurd cc
wants_facts gives faults asked dial talks count now lent (Err e) is none empty same = record {
  runs = ap is_some none;
  whose = none_if lent _ none;
  begins = none_if lent _ none;
  new_link = tt;
  dialled = tt;
  given = λ no. absurd cc;
  begun = tt;
  nothing_yet = empty;
  idle = tt;
  clean = λ no. absurd cc;
  dial_failed = λ no. absurd cc;
  ok = tt;
  failed = λ no. absurd cc;
  wanted = λ _. same;
  cause = record { no_fewer = omega arith; failed = λ no. absurd cc; wanted = λ _. refl };
  steady = λ _. refl;
  want_of_memory = λ _. refl;
}

-- a talk over an idle link
pub idle_facts : {D L : Type 0} (gives : D → L → D → Type 0) (faults : D → ℕ) (asked : TalkAsked)
    (dial : D) (talks : Option (List Talk)) (count : ℕ) (now : TapeSight) (lent : Option (LentState L)) (there : Bool) → there ≡ true → is_some lent ≡ there
    → IfSome lent (λ l. (l.lb ≡ asked.lb) × (l.member ≡ asked.member)) → IfSome lent (λ l. (l.began ≡ l.link.faults) × (l.faulty ≡ false)) → IfSome lent (λ l. l.dialled ≡ false)
    → (asked.fresh ≡ true → there ≡ false) → (there ≡ true → IfSome now.begun (λ b. b ≡ told_begun asked false)) → IsEmpty now.sent × IsEmpty now.received
    → now.talks ≡ talks → BeginFacts gives faults asked dial talks count dial now lent count (Ok false)
idle_facts gives faults asked dial talks count now lent there is some whose begins idle other told empty same = record {
  runs = some ∙ is;
  whose = whose;
  begins = begins;
  new_link = λ yes. absurd (true≢false (sym is ∙ other yes));
  dialled = idle;
  given = λ no. absurd cc;
  begun = told is;
  nothing_yet = empty;
  idle = λ _. refl;
  clean = λ _. refl;
  dial_failed = λ no. absurd cc;
  ok = same;
  failed = λ no. absurd cc;
  wanted = λ no. absurd cc;
  cause = record { no_fewer = omega arith; failed = λ no. absurd cc; wanted = λ no. absurd cc };
  steady = λ _. refl;
  want_of_memory = λ no. absurd cc;
}

-- a talk over the link that the dial answered, or none
pub dialled_facts : {D L : Type 0} (gives : D → L → D → Type 0) (faults : D → ℕ) (asked : TalkAsked)
    (dial : D) (talks : Option (List Talk)) (count : ℕ) (dial' : D) (now : TapeSight) (lent : Option (LentState L)) (count' : ℕ) (result : Result Bool IoError)
    (answer : Result L IoError) (mid : Option (List Talk)) → mid ≡ talks → IfOk result (λ d. d ≡ true)
    → OnOk result (Opens (told_begun asked true) mid now lent)
    → IfErr result (λ e. TapeRests (talks_refused (failed_talk_of asked) mid e) now) → OnErr result (lent ≡ None)
    → OnOk result (IsSomeAnd lent (λ l. answer ≡ Ok l.given)) → (IsErrOf result Io.Failed → IsErrOf answer Io.Failed)
    → IfOk answer (λ link. gives dial link dial') → (IsOk answer → faults dial' ≡ faults dial) → HasCause (faults dial) (faults dial') answer
    → HasCause count count' result → (IsOk result → count' ≡ count) → (IsErrOf result Io.NoMemory → count' ≡ count)
    → BeginFacts gives faults asked dial talks count dial' now lent count' result
dialled_facts gives faults asked dial talks count dial' now lent count' (Ok d) answer mid same is began refused none given fails gave clean dials cause steady wants = record {
  runs = there_is lent _ began.link;
  whose = some_if lent _ _ began.link (λ l of. of.whose);
  begins = some_if lent _ _ began.link (λ l of. of.begins);
  new_link = λ _. is;
  dialled = some_if lent _ _ began.link (λ l of. of.dialled ∙ sym is);
  given = λ _. some_if lent _ _ given (λ l e. subst (λ (a : Result _ IoError). IfOk a (λ link. gives dial link dial')) e gave);
  begun = subst (λ (x : Bool). IfSome now.begun (λ b. b ≡ told_begun asked x)) (sym is) began.begun;
  nothing_yet = began.empty;
  idle = λ no. absurd cc;
  clean = λ _. clean (answered lent answer given);
  dial_failed = λ no. absurd cc;
  ok = began.talks_kept ∙ same;
  failed = λ no. absurd cc;
  wanted = λ no. absurd cc;
  cause = cause;
  steady = steady;
  want_of_memory = wants;
}
dialled_facts gives faults asked dial talks count dial' now lent count' (Err Io.Failed) answer mid same is began refused none given fails gave clean dials cause steady wants = record {
  runs = ap is_some none;
  whose = none_if lent _ none;
  begins = none_if lent _ none;
  new_link = tt;
  dialled = tt;
  given = λ no. absurd cc;
  begun = tt;
  nothing_yet = refused.empty;
  idle = tt;
  clean = λ no. absurd cc;
  dial_failed = λ _. dials.failed (fails refl);
  ok = tt;
  failed = λ _. refused.talks_kept ∙ ap (λ (o : Option (List Talk)). appended o (failed_talk_of asked ∷ [])) same;
  wanted = λ no. absurd cc;
  cause = cause;
  steady = steady;
  want_of_memory = wants;
}
dialled_facts gives faults asked dial talks count dial' now lent count' (Err Io.NoMemory) answer mid same is began refused none given fails gave clean dials cause steady wants = record {
  runs = ap is_some none;
  whose = none_if lent _ none;
  begins = none_if lent _ none;
  new_link = tt;
  dialled = tt;
  given = λ no. absurd cc;
  begun = tt;
  nothing_yet = refused.empty;
  idle = tt;
  clean = λ no. absurd cc;
  dial_failed = λ no. absurd cc;
  ok = tt;
  failed = λ no. absurd cc;
  wanted = λ _. refused.talks_kept ∙ same;
  cause = cause;
  steady = steady;
  want_of_memory = wants;
}
