-- The run that a machine has, and what is shown of it.
use Rattle.std.proofs.Common.{◌≡◌, ℕ, Bool, true, false, List, Option, Some, None, Result, Ok, Err, IfOk, inl, refl, subst, ◌∙◌}
use Rattle.lb_book.specs.Journal.{past_of}
use Rattle.jk_io.specs.declared.failures.NoMemory.{NoMemory}
use Rattle.lb_model.specs.Present.{IsPresent}
use Rattle.lb_model.specs.declared.journal.Entry.{Entry}
use Rattle.lb_model.specs.declared.opening.Opening.{Opening}
use Rattle.std.specs.Prelude.{reverse}
use Rattle.journal_verdict.specs.Followed.{FollowsBytes, IsFollowed, IsOpened, IsShown}
use Rattle.journal_verdict.specs.Lines.{RunState, Stand}
use Rattle.journal_verdict.specs.Machines.{HasRunState, KnowsAs, IsRunSoFar, IsStanding, ShowsRun, Knows, FollowerState, HasFed}
use Rattle.journal_verdict.specs.declared.known.Known.{Known}
use Rattle.journal_verdict.specs.declared.known.Known.TheVariants as known
use Rattle.journal_verdict.specs.declared.machine.Machine.{Machine}
use Rattle.journal_verdict.specs.declared.run.Run.{Run}
use Rattle.journal_verdict.specs.declared.view.FollowView.{FollowView}

-- what the machine's run stands for
pub record StandsFor (among : Bool) (r : Run) (state : Option RunState) : Type 0 where
  pub run : RunState
  pub known : state ≡ Some run
  pub is : IsRunSoFar among r run

pub run_of : (among : Bool) (found : Option Run) (state : Option RunState) (r : Run) → HasRunState among found state → found ≡ Some r → StandsFor among r state
run_of among None state r has is = absurd (let none : None ≡ Some r = is in cc)
run_of among (Some x) None r has is = absurd has
run_of among (Some x) (Some run) r has is =
    let same : x ≡ r = cc in
    record { run = run; known = refl; is = subst (λ (y : Run). IsRunSoFar among y run) same has }

present_of : (among : Bool) (r : Run) (run : RunState) (v : FollowView) → IsStanding among r run → IsPresent r.book.rules r.book.opening (past_of r.book) v.view
    → IsPresent run.rules run.opening (reverse run.entries) v.view
present_of true r run v stands present =
    subst (λ (p : List Entry). IsPresent run.rules run.opening p v.view) stands.past (
    subst (λ (o : Opening). IsPresent run.rules o (past_of r.book) v.view) stands.opening (
    subst (λ (n : ℕ). IsPresent n r.book.opening (past_of r.book) v.view) stands.rules present))
present_of false r run v stands present = stands.view v.view present

pub shown : (m : Machine) (number : ℕ) (part bytes : List ℕ) (r : Run) (v : FollowView) → Knows (known.Going m number) part bytes
    → m.run ≡ Some r → ShowsRun r v → (s : Stand) × FollowsBytes bytes s × IsShown s v
shown m number part bytes r v knows is view =
    let s : Stand = knows.2 in
    let at : KnowsAs m s = knows.4 in
    let has = run_of s.among m.run s.run r at.run is in (
      s,
      record { lines = knows.0; part = part; cut = knows.1; takes = knows.3 },
      record {
        run = has.run;
        known = has.known;
        name = view.name ∙ has.is.name;
        direct = view.direct ∙ has.is.direct;
        method = view.method ∙ has.is.method;
        view = present_of s.among r has.run v has.is.stands view.view;
      },
    )

-- what is shown while no line was refused
pub opened : (f : FollowerState) (m : Machine) (number : ℕ) (bytes : List ℕ) (r : Result (Option FollowView) NoMemory) → f.known ≡ known.Going m number → HasFed f bytes
    → ((n : ℕ) (part all : List ℕ) → Knows (known.Going m n) part all → IfOk r (IsOpened all)) → IfOk r (IsOpened bytes)
opened f m number bytes r is fed says = says number f.part bytes (subst (λ (k : Known). Knows k f.part bytes) is fed)

pub followed : (bytes : List ℕ) (r : Result (Option FollowView) NoMemory) → IfOk r (IsOpened bytes) → IfOk r (IsFollowed bytes)
followed bytes (Ok None) h = inl h
followed bytes (Ok (Some v)) h = h
followed bytes (Err e) h = tt
