-- The tape and the link of a talk after its begin.
use Rattle.std.specs.Prelude.{◌≡◌, ℕ, List, [], ◌∷◌, Option, Result, IfErr, IfSome, IsSomeAnd, true, false}
use Rattle.jk_io.specs.Told.{appended, IsEmpty}
use Rattle.jk_io.specs.declared.failures.IoError.{IoError}
use Rattle.jk_io.specs.declared.failures.IoError.TheVariants as Io
use Rattle.jk_io.specs.declared.reaching.Begun.{Begun}
use Rattle.jk_io.specs.declared.reaching.Talk.{Talk}
use Rattle.conn_pool.specs.Reaches.{LentState}

-- what a tape tells
pub record TapeSight : Type 0 where
  pub talks : Option (List Talk)
  pub begun : Option Begun
  pub sent : Option (List ℕ)
  pub received : Option (List ℕ)

abbrev pub sight_of : {T : Type 0} → (T → Option (List Talk)) → (T → Option Begun) → (T → Option (List ℕ)) → (T → Option (List ℕ)) → T → TapeSight
sight_of talks begun sent received tape = record { talks = talks tape; begun = begun tape; sent = sent tape; received = received tape }

-- the link is one of the member of this begin, it was dialled or not as the begin says, and no call was made of it
pub record IsLinkOf {L : Type 0} (b : Begun) (lent : LentState L) : Type 0 where
  pub whose : (lent.lb ≡ b.lb) × (lent.member ≡ b.member)
  pub dialled : lent.dialled ≡ b.dialled
  pub begins : (lent.began ≡ lent.link.faults) × (lent.faulty ≡ false)

-- a talk began with b over such a link, and nothing was said in it; the talks that ended are these
pub record Opens {L : Type 0} (b : Begun) (talks : Option (List Talk)) (now : TapeSight) (lent : Option (LentState L)) : Type 0 where
  pub link : IsSomeAnd lent (λ l. IsLinkOf b l)
  pub fresh : b.fresh ≡ true → b.dialled ≡ true
  pub begun : IfSome now.begun (λ begun. begun ≡ b)
  pub empty : IsEmpty now.sent × IsEmpty now.received
  pub talks_kept : now.talks ≡ talks

-- nothing is told of a running talk, and the talks that ended are these
pub record TapeRests (talks : Option (List Talk)) (now : TapeSight) : Type 0 where
  pub empty : IsEmpty now.sent × IsEmpty now.received
  pub talks_kept : now.talks ≡ talks

-- the talks after a begin that was refused: one that failed is a talk, one that wanted memory is none
abbrev pub talks_refused : Talk → Option (List Talk) → IoError → Option (List Talk)
talks_refused talk talks Io.Failed = appended talks (talk ∷ [])
talks_refused talk talks Io.NoMemory = talks

-- where a begin was refused its tape is quiet, and this talk is noted if it failed
abbrev pub IsRefusedBegin : {A : Type 0} → Talk → Option (List Talk) → Result A IoError → TapeSight → Type 0
IsRefusedBegin talk talks r now = IfErr r (λ e. TapeRests (talks_refused talk talks e) now)
