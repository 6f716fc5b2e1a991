-- A write to the client: the piece went out whole, or a front of it and then nothing more.
use Rattle.std.specs.Prelude.{◌≡◌, ℕ, ◌≤◌, true, ◌||◌, List, length, nat_lt, Option, Result, Ok, Err, IsErrOf, ⊤}
use Rattle.jk_io.specs.Told.{appended, PutsFront, Rose}
use Rattle.jk_io.specs.declared.traits.streams.Meanings.{Ghosts}
use Rattle.http_out.specs.declared.passage.Passage.{Passage}
use Rattle.http_out.specs.declared.reply_head.OutError.{OutError}
use Rattle.http_out.specs.declared.reply_head.OutError.TheVariants as Out

-- a front of the piece was written, and nothing more will be
pub record IsBroken (piece : List ℕ) (before after : Passage) (sent sent_now : Option (List ℕ)) : Type 0 where
  pub puts : PutsFront sent sent_now piece
  pub passed : after.passed ≡ (before.passed || nat_lt 0 (length puts.front))
  pub failed : after.failed ≡ true

-- the piece was written whole, or its write broke off
abbrev pub IsSent : List ℕ → Passage → Passage → Option (List ℕ) → Option (List ℕ) → Result Unit OutError → Type 0
IsSent piece before after sent sent_now (Ok _) =
    (sent_now ≡ appended sent piece) × (after ≡ record before { passed = before.passed || nat_lt 0 (length piece) })
IsSent piece before after sent sent_now (Err Out.Fault) = IsBroken piece before after sent sent_now
IsSent piece before after sent sent_now (Err Out.NoMemory) = IsBroken piece before after sent sent_now
IsSent piece before after sent sent_now (Err Out.BadReply) = ⊥
IsSent piece before after sent sent_now (Err Out.Disagree) = ⊥

-- no write failed
abbrev pub IsCalm : {T : Type 0} → Result T OutError → Type 0
IsCalm (Ok value) = ⊤
IsCalm (Err Out.Disagree) = ⊤
IsCalm (Err Out.BadReply) = ⊤
IsCalm (Err Out.Fault) = ⊥
IsCalm (Err Out.NoMemory) = ⊤

-- writes to a client: nothing is read of it, and its count of faults never falls, rose where the answer is a write that
-- failed, and stayed where it is none
pub record WritesClient {C B T : Type 0} (told : Ghosts C B) (before now : C) (result : Result T OutError) : Type 0 where
  pub same : (told.incoming now ≡ told.incoming before) × (told.received now ≡ told.received before) × (told.beside now ≡ told.beside before)
  pub no_fewer : told.faults before ≤ told.faults now
  pub cause : IsErrOf result Out.Fault → Rose (told.faults before) (told.faults now)
  pub steady : IsCalm result → told.faults now ≡ told.faults before
