-- A pooled reach and the link of its running talk as contracts see them, and both after a read and after a write.
use Rattle.std.specs.Prelude.{◌≡◌, ℕ, ◌<◌, ◌≤◌, List, length, take, Option, None, IsSome, IfSome, Bool, true, false, Result, IsOk, IfOk, OnOk, OnErr, IsErrOf, is_some}
use Rattle.jk_io.specs.Told.{appended, prepended, IsEmpty, HasCause}
use Rattle.jk_io.specs.Moments.{Moment}
use Rattle.jk_io.specs.Talks.{begun_with}
use Rattle.jk_io.specs.declared.traits.streams.Awaited.{Awaited}
use Rattle.jk_io.specs.declared.traits.streams.Awaited.TheVariants as awaited
use Rattle.jk_io.specs.declared.failures.IoError.{IoError}
use Rattle.jk_io.specs.declared.failures.IoError.TheVariants.{Failed}
use Rattle.jk_io.specs.declared.reaching.Begun.{Begun}
use Rattle.jk_io.specs.declared.reaching.Beside.{Beside}
use Rattle.jk_io.specs.declared.reaching.Talk.{Talk}
use Rattle.jk_io.specs.declared.reaching.TalkAsked.{TalkAsked}

-- the link of a running talk: whose it is, whether this talk's begin dialled it, the link as the talk got it, what it
-- tells now, its count of faults when the talk began, and whether a call of it was refused in the talk
pub record LentState (L : Type 0) : Type 0 where
  pub lb : ℕ
  pub member : ℕ
  pub dialled : Bool
  pub given : L
  pub link : Moment
  pub began : ℕ
  pub faulty : Bool

-- a link that was given back: whose it is, what it told then, the looks since its last talk, and in whose pool it is idle, as
-- lb and member; in none where it was closed, since the pool was full
pub record BackState : Type 0 where
  pub lb : ℕ
  pub member : ℕ
  pub link : Moment
  pub looks : ℕ
  pub home : Option (ℕ × ℕ)

-- a reach's dial and tape, the link of the running talk, the link that the last finish handed to a pool, the number of
-- members of each balancer, and how many calls failed
pub record PooledState (D T L : Type 0) : Type 0 where
  pub dial : D
  pub tape : T
  pub lent : Option (LentState L)
  pub back : Option BackState
  pub sizes : List ℕ
  pub faults : ℕ

-- a read put the next bytes at the front of `buf` and answered how many, 0 at the end; or it was refused and gave none
pub record ReadsLink (before after : Moment) (buf : List ℕ) (result : Result ℕ IoError) : Type 0 where
  pub gave : IfOk result (λ n. before.incoming ≡ prepended (take n buf) after.incoming)
  pub got : IfOk result (λ n. after.received ≡ appended before.received (take n buf))
  pub end : IfOk result (λ n. n ≡ 0 → IsEmpty after.incoming)
  pub kept_on_error : OnErr result ((after.incoming ≡ before.incoming) × (after.received ≡ before.received))
  pub same : after.sent ≡ before.sent
  pub cause : HasCause before.faults after.faults result
  pub steady : IsOk result → after.faults ≡ before.faults

-- a write took bytes from the front of `piece` and answered how many; or it was refused and took none
pub record WritesLink (before after : Moment) (piece : List ℕ) (result : Result ℕ IoError) : Type 0 where
  pub put : IfOk result (λ n. after.sent ≡ appended before.sent (take n piece))
  pub kept_on_error : OnErr result (after.sent ≡ before.sent)
  pub same : (after.incoming ≡ before.incoming) × (after.received ≡ before.received)
  pub cause : HasCause before.faults after.faults result
  pub steady : IsOk result → after.faults ≡ before.faults

-- a flush of a talk's link, which stays whose it is; it is marked where the flush was refused
pub record FlushesLink {L : Type 0} (before after : LentState L) (result : Result Unit IoError) : Type 0 where
  pub bytes : after.link ≡ record before.link { faults = after.link.faults }
  pub same : after ≡ record before { link = after.link; faulty = after.faulty }
  pub ok : OnOk result (after ≡ before)
  pub refused : OnErr result (after.faulty ≡ true)
  pub cause : HasCause before.link.faults after.link.faults result

-- a link that shows what the talk's link shows was told what is awaited
abbrev pub HearsLink : {L : Type 0} → (moment_of : L → Moment) → (heard : L → Awaited → L → Type 0) → LentState L → Awaited → Type 0
HearsLink moment_of heard lent what = (before : _) × (after : _) × heard before what after × (moment_of before ≡ lent.link) × (moment_of after ≡ lent.link)

-- the dial was told what its next links await; else it stayed
abbrev pub HearsDial : {D : Type 0} → (heard : D → ℕ → Bool → D → Type 0) → D → Awaited → D → Type 0
HearsDial heard before (awaited.Link millis keepalive) after = heard before millis keepalive after
HearsDial heard before other after = after ≡ before

-- a reach was told what is awaited: so was its talk's link, and where none runs its dial
abbrev pub HearsReach : {D T L : Type 0} → (moment_of : L → Moment) → (link_heard : L → Awaited → L → Type 0) → (dial_heard : D → ℕ → Bool → D → Type 0) → PooledState D T L → Awaited → PooledState D T L → Type 0
HearsReach moment_of link_heard dial_heard before what after =
    IfSome before.lent (λ lent. HearsLink moment_of link_heard lent what) × (before.lent ≡ None → HearsDial dial_heard before.dial what after.dial)

-- a call within a talk: the link stays whose it is, and is marked where the call failed
pub record StaysLent {L : Type 0} (before after : LentState L) (result : Result ℕ IoError) : Type 0 where
  pub same : after ≡ record before { link = after.link; faulty = after.faulty }
  pub ok : OnOk result (after.faulty ≡ before.faulty)
  pub failed : IsErrOf result Failed → after.faulty ≡ true
  pub marked : before.faulty ≡ true → after.faulty ≡ true

-- a call of a talk's link, which stays whose it is, and is marked where the call was refused
pub record MarksRefusal {L : Type 0} (before after : LentState L) (result : Result ℕ IoError) : Type 0 where
  pub same : after ≡ record before { link = after.link; faulty = after.faulty }
  pub ok : OnOk result (after.faulty ≡ before.faulty)
  pub err : OnErr result (after.faulty ≡ true)

-- a read within a talk, noted on its tape, which `received` so many bytes, and counted where it failed
pub record ReadsNoted {L : Type 0} (before after : LentState L) (received received_now : Option (List ℕ)) (failed failed_now : ℕ) (buf : List ℕ)
    (result : Result ℕ IoError) : Type 0 where
  pub count : IfOk result (λ n. n ≤ length buf)
  pub got : IfOk result (λ n. received_now ≡ appended received (take n buf))
  pub kept_on_error : OnErr result (received_now ≡ received)
  pub cause : HasCause failed failed_now result
  pub steady : IsOk result → failed_now ≡ failed
  pub talk : ReadsLink before.link after.link buf result × StaysLent before after result

-- the same of a write
pub record WritesNoted {L : Type 0} (before after : LentState L) (sent sent_now : Option (List ℕ)) (failed failed_now : ℕ) (piece : List ℕ)
    (result : Result ℕ IoError) : Type 0 where
  pub count : IfOk result (λ n. (0 < n) × (n ≤ length piece))
  pub put : IfOk result (λ n. sent_now ≡ appended sent (take n piece))
  pub kept_on_error : OnErr result (sent_now ≡ sent)
  pub cause : HasCause failed failed_now result
  pub steady : IsOk result → failed_now ≡ failed
  pub talk : WritesLink before.link after.link piece result × StaysLent before after result

-- at the end of its talk a link is handed to the pool of its member where it is to be kept and none of its calls was
-- refused, and so only where its count of faults is still that of the talk's begin; else it is closed
pub record GoesBack {L : Type 0} (lent : LentState L) (keep : Bool) (back : Option BackState) : Type 0 where
  pub kept : keep ≡ true → lent.faulty ≡ false → IsSome back
  pub closed : keep ≡ false → back ≡ None
  pub refused : lent.faulty ≡ true → back ≡ None
  pub whose : IfSome back (λ b. (b.lb ≡ lent.lb) × (b.member ≡ lent.member))
  pub same : IfSome back (λ b. b.link ≡ lent.link)
  pub sound : IfSome back (λ b. b.link.faults ≡ lent.began)
  -- its idle time begins
  pub used : IfSome back (λ b. b.looks ≡ 0)
  -- no link is idle in another member's pool
  pub home : IfSome back (λ b. IfSome b.home (λ at. at ≡ (lent.lb, lent.member)))

-- what no read and no write of a reach changes, with what its tape tells of the running talk and of those that ended
abbrev pub beside_of : {D T L : Type 0} → (T → Option Begun) → (T → Option (List Talk)) → PooledState D T L → Beside
beside_of begun talks reach = record {
  runs = is_some reach.lent;
  sizes = reach.sizes;
  begun = begun reach.tape;
  talks = talks reach.tape;
}

-- what a tape is told of a talk; it isn't told what the link had to come
abbrev pub told_begun : TalkAsked → (dialled : Bool) → Begun
told_begun asked dialled = begun_with asked dialled None
