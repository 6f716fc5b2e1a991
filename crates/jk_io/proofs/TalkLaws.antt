-- The note of a talk, as the one who began, wrote and read it knows it.
use Rattle.std.proofs.Common.{◌≡◌, ℕ, List, ◌++◌, Option, Some, None, Bool, subst, sym, ap, refl}
use Rattle.std.specs.Prelude.{IfSome}
use Rattle.jk_io.specs.Told.{appended, IsEmpty}
use Rattle.jk_io.specs.Talks.{talk_of, IsNoteOf}
use Rattle.jk_io.specs.declared.reaching.Begun.{Begun}
use Rattle.jk_io.specs.declared.reaching.Beside.{Beside}

-- what was added since there was nothing is all that there is
pub appended-since_empty : (before now : Option (List ℕ)) (bytes : List ℕ) → IsEmpty before → now ≡ appended before bytes
    → IfSome now (λ all. all ≡ bytes)
appended-since_empty None now bytes empty added =
    let P : Option (List ℕ) → Type 0 = λ told. IfSome told (λ all. all ≡ bytes) in subst P (sym added) tt
appended-since_empty (Some before) now bytes empty added =
    let P : Option (List ℕ) → Type 0 = λ told. IfSome told (λ all. all ≡ bytes) in
    subst P (sym added) (ap (λ b. b ++ bytes) empty)

-- begun as `b`, with these bytes sent and received since
pub note_of_talk : (before now : Beside) (b : Begun) (sent0 sent1 received0 received1 : Option (List ℕ)) (sent received : List ℕ) (keep : Bool)
    → IfSome before.begun (λ x. x ≡ b) → now ≡ before → IsEmpty sent0 × IsEmpty received0
    → sent1 ≡ appended sent0 sent → received1 ≡ appended received0 received
    → IsNoteOf now.begun sent1 received1 keep (talk_of b sent received keep)
note_of_talk before now b sent0 sent1 received0 received1 sent received keep begun same empty wrote read =
    let P : Beside → Type 0 = λ beside. IfSome beside.begun (λ x. x ≡ b) in
    record {
      begun_with = subst P (sym same) begun;
      sent_in = appended-since_empty sent0 sent1 sent empty.0 wrote;
      received_in = appended-since_empty received0 received1 received empty.1 read;
      kept = refl;
    }
