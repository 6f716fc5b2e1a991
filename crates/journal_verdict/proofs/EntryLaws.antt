-- A line among the entries.
use Rattle.std.proofs.Common.{◌≡◌, ℕ, Bool, true, false, List, [], ◌∷◌, ◌++◌, Option, Some, None, Result, Ok, Err, IfErr, OnOk, refl, sym, subst, ap, ◌∙◌}
use Rattle.std.specs.Result.{IsErrAnd}
use Rattle.journal_text.specs.Readings.{line_of}
use Rattle.journal_text.specs.Reading.{rules_at}
use Rattle.journal_text.specs.declared.line.Line.{Line}
use Rattle.journal_text.specs.declared.line.Line.TheVariants as line
use Rattle.lb_model.specs.declared.journal.Entry.{Entry}
use Rattle.journal_text.specs.declared.reader.Reader.{Reader}
use Rattle.journal_verdict.specs.declared.ruling.Ruling.{Ruling}
use Rattle.journal_verdict.specs.Lines.{DiffersEntry, IsBadLine, IsUnreadLine, RefusesLineAt, RunState, Stand, StandTakes, TakesEntry, TakesLine, is_among}
use Rattle.journal_verdict.specs.declared.error.FollowError.{FollowError}
use Rattle.journal_verdict.specs.declared.error.FollowError.TheVariants as wrong
use Rattle.journal_verdict.specs.Machines.{DiffersBy, EndsRun, HasRunState, KnowsAs, IsRunSoFar, TakesOn}
use Rattle.journal_verdict.specs.declared.machine.Machine.{Machine}
use Rattle.journal_verdict.specs.declared.run.Run.{Run}
use Rattle.journal_verdict.proofs.RunLaws.{run_of}

unread_by : (among : Bool) (state : Option RunState) (s : Stand) (text : List ℕ) (run : RunState) → among ≡ true → state ≡ Some run
    → is_among (line_of run.rules text) ≡ false → IsUnreadLine among state s text
unread_by true None s text run is known without = absurd (let none : None ≡ Some run = known in cc)
unread_by true (Some x) s text run is known without = let same : x ≡ run = cc in rw same without
unread_by false state s text run is known without = absurd (let wrong : false ≡ true = is in cc)

-- the line can't stand there
pub unread : (m : Machine) (s : Stand) (text : List ℕ) (r : Run) (found : Option Line) → KnowsAs m s → m.among ≡ true → m.run ≡ Some r
    → found ≡ line_of (rules_at m.reader.place) text → is_among found ≡ false → IsUnreadLine s.among s.run s text
unread m s text r found at among is found_is without =
    let has = run_of s.among m.run s.run r at.run is in
    let rules : rules_at m.reader.place ≡ has.run.rules = ap (λ (q : Reader). rules_at q.place) at.reader ∙ at.rules has.run (sym at.among ∙ among) has.known in
    unread_by s.among s.run s text has.run (sym at.among ∙ among) has.known (subst (λ (n : ℕ). is_among (line_of n text) ≡ false) rules (ap is_among (sym found_is) ∙ without))

takes_by : (among : Bool) (state : Option RunState) (s : Stand) (text : List ℕ) (run : RunState) (t : Stand) → among ≡ true → state ≡ Some run
    → TakesEntry s run (line_of run.rules text) t → TakesLine among state s text t
takes_by true None s text run t is known h = absurd (let none : None ≡ Some run = known in cc)
takes_by true (Some x) s text run t is known h = let same : x ≡ run = cc in subst (λ (y : RunState). TakesEntry s y (line_of y.rules text) t) (sym same) h
takes_by false state s text run t is known h = absurd (let wrong : false ≡ true = is in cc)

refuses_by : (among : Bool) (state : Option RunState) (s : Stand) (text : List ℕ) (run : RunState) (kept ruled : Ruling) → among ≡ true → state ≡ Some run
    → DiffersEntry run (line_of run.rules text) kept ruled → IsBadLine among state s text kept ruled
refuses_by true None s text run kept ruled is known h = absurd (let none : None ≡ Some run = known in cc)
refuses_by true (Some x) s text run kept ruled is known h =
    let same : x ≡ run = cc in subst (λ (y : RunState). DiffersEntry y (line_of y.rules text) kept ruled) (sym same) h
refuses_by false state s text run kept ruled is known h = absurd (let wrong : false ≡ true = is in cc)

-- the line as the run's rules have it
line_is : (m : Machine) (s : Stand) (text : List ℕ) (found : Option Line) (run : RunState) → KnowsAs m s → m.among ≡ true → s.run ≡ Some run
    → found ≡ line_of (rules_at m.reader.place) text → found ≡ line_of run.rules text
line_is m s text found run at among known is =
    is ∙ ap (λ (n : ℕ). line_of n text) (ap (λ (q : Reader). rules_at q.place) at.reader ∙ at.rules run (sym at.among ∙ among) known)

rules_of : (x run : RunState) → Some x ≡ Some run → x.rules ≡ run.rules
rules_of x run is = let same : x ≡ run = cc in ap (λ (o : RunState). o.rules) same

-- a further entry is taken
pub takes_entry : (m : Machine) (s : Stand) (text : List ℕ) (r : Run) (e : Entry) (after : Run) → KnowsAs m s → m.among ≡ true → m.run ≡ Some r
    → Some (line.Entry e) ≡ line_of (rules_at m.reader.place) text → ((run : RunState) → IsRunSoFar true r run → TakesOn run e after)
    → (t : Stand) × StandTakes s text t × KnowsAs (record m { run = Some after }) t
takes_entry m s text r e after at among is found takes =
    let has = run_of s.among m.run s.run r at.run is in
    let on = takes has.run (subst (λ (b : Bool). IsRunSoFar b r has.run) (sym at.among ∙ among) has.is) in
    let t : Stand = record s { run = Some (record has.run { entries = has.run.entries ++ e ∷ [] }) } in
    let line' = line_is m s text (Some (line.Entry e)) has.run at among has.known found in (
      t,
      takes_by s.among s.run s text has.run t (sym at.among ∙ among) has.known (subst (λ (l : Option Line). TakesEntry s has.run l t) line' (on.0, refl)),
      record {
        reader = at.reader;
        empty = at.empty;
        among = at.among;
        outside = at.outside;
        taken = at.taken;
        run = subst (λ (b : Bool). HasRunState b (Some after) t.run) (sym among ∙ at.among) on.1;
        rules = λ run there known. at.rules has.run there has.known ∙ rules_of (record has.run { entries = has.run.entries ++ e ∷ [] }) run known;
      },
    )

-- a segment's end is taken
pub takes_end : (m : Machine) (s : Stand) (text : List ℕ) (r : Run) (count number : ℕ) (after : Run) → KnowsAs m s → m.among ≡ true → m.run ≡ Some r
    → Some (line.End count) ≡ line_of (rules_at m.reader.place) text → ((run : RunState) → IsRunSoFar true r run → EndsRun run count number after (Ok tt))
    → (t : Stand) × StandTakes s text t × KnowsAs (record m { run = Some after; among = false }) t
takes_end m s text r count number after at among is found takes =
    let has = run_of s.among m.run s.run r at.run is in
    let on = takes has.run (subst (λ (b : Bool). IsRunSoFar b r has.run) (sym at.among ∙ among) has.is) in
    let t : Stand = record s { among = false } in
    let line' = line_is m s text (Some (line.End count)) has.run at among has.known found in (
      t,
      takes_by s.among s.run s text has.run t (sym at.among ∙ among) has.known (subst (λ (l : Option Line). TakesEntry s has.run l t) line' (on.0, refl)),
      record {
        reader = at.reader;
        empty = at.empty;
        among = refl;
        outside = at.outside;
        taken = at.taken;
        run = rw has.known on.1;
        rules = λ run there known. absurd (let wrong : false ≡ true = there in cc);
      },
    )

-- an entry isn't taken
pub differs_entry : (m : Machine) (s : Stand) (text : List ℕ) (r : Run) (e : Entry) (number : ℕ) (error : FollowError) → KnowsAs m s → m.among ≡ true → m.run ≡ Some r
    → Some (line.Entry e) ≡ line_of (rules_at m.reader.place) text → ((run : RunState) → IsRunSoFar true r run → DiffersBy run e number error) → RefusesLineAt s number text error
differs_entry m s text r e number (wrong.Unreadable number') at among is found differs =
    let has = run_of s.among m.run s.run r at.run is in
    absurd (differs has.run (subst (λ (b : Bool). IsRunSoFar b r has.run) (sym at.among ∙ among) has.is))
differs_entry m s text r e number (wrong.Bad number' kept ruled) at among is found differs =
    let has = run_of s.among m.run s.run r at.run is in
    let by = differs has.run (subst (λ (b : Bool). IsRunSoFar b r has.run) (sym at.among ∙ among) has.is) in
    let line' = line_is m s text (Some (line.Entry e)) has.run at among has.known found in
    (by.0, refuses_by s.among s.run s text has.run kept ruled (sym at.among ∙ among) has.known (subst (λ (l : Option Line). DiffersEntry has.run l kept ruled) line' by.1))
differs_entry m s text r e number wrong.NoMemory at among is found differs = tt

-- what an entry makes of the machine, or of the line
pub entered_ok : (m : Machine) (s : Stand) (text : List ℕ) (r : Run) (e : Entry) (after : Run) (result : Result (Unit {0}) FollowError) → KnowsAs m s → m.among ≡ true → m.run ≡ Some r
    → Some (line.Entry e) ≡ line_of (rules_at m.reader.place) text → ((run : RunState) → IsRunSoFar true r run → OnOk result (TakesOn run e after))
    → OnOk result ((t : Stand) × StandTakes s text t × KnowsAs (record m { run = Some after }) t)
entered_ok m s text r e after (Ok done) at among is found takes = takes_entry m s text r e after at among is found takes
entered_ok m s text r e after (Err error) at among is found takes = tt

-- and a segment's end
pub ended_ok : (m : Machine) (s : Stand) (text : List ℕ) (r : Run) (count number : ℕ) (after : Run) (result : Result (Unit {0}) FollowError) → KnowsAs m s → m.among ≡ true → m.run ≡ Some r
    → Some (line.End count) ≡ line_of (rules_at m.reader.place) text → ((run : RunState) → IsRunSoFar true r run → EndsRun run count number after result)
    → OnOk result ((t : Stand) × StandTakes s text t × KnowsAs (record m { run = Some after; among = false }) t)
ended_ok m s text r count number after (Ok done) at among is found ends = takes_end m s text r count number after at among is found ends
ended_ok m s text r count number after (Err error) at among is found ends = tt

-- what a refusal is that was passed on
pub told_err : (r : Result (Unit {0}) FollowError) (x : FollowError) (P : FollowError → Type 0) → IsErrAnd r (λ e. e ≡ x) → P x → IfErr r P
told_err (Ok m) x P told h = tt
told_err (Err e) x P told h = subst P (sym told) h
