-- A step of the writer, from what its one write left behind.
use Rattle.std.proofs.Common.{◌≡◌, ℕ, Bool, true, false, List, [], ◌++◌, length, refl, inl, inr, Option, Some, Result, Ok, Err}
use Rattle.std.specs.Prelude.{OnOk}
use Rattle.std.proofs.lemmas.Bool.{cases_Bool}
use Rattle.http_out.specs.declared.framing.RequestKind.{RequestKind}
use Rattle.http_out.specs.declared.framing.Framing.{Framing}
use Rattle.http_out.specs.declared.passage.Passage.{Passage}
use Rattle.http_out.specs.declared.reply_head.OutError.{OutError}
use Rattle.http_out.specs.declared.reply_head.OutError.TheVariants as Out
use Rattle.http_out.specs.Framing.{framed, is_passed, closing_bytes, spent, is_beyond, is_complete}
use Rattle.http_out.specs.Passage.{IsSent}
use Rattle.http_out.specs.Writer.{Writer, IsStep, IsEndStep, IsChunkStep, IsOpenReply, after_bytes, after_chunk, writes_chunk, framing_now}

-- the writer with these parts
abbrev pub writer_with : RequestKind → Framing → List ℕ → Passage → Bool → Writer
writer_with kind f held p ended = record { kind = kind; framing = Some f; held = held; passed = p.passed; failed = p.failed; ended = ended }

-- a write of these bytes in a state where no write failed
pub sent_step : (kind : RequestKind) (before f : Framing) (held bytes : List ℕ) (was ended : Bool) (p q : Passage)
    (sent now : Option (List ℕ)) (r : Result Unit OutError) → p.failed ≡ false → IsSent bytes p q sent now r
    → IsStep false bytes (writer_with kind before held p was) (writer_with kind f held p ended) (after_bytes (writer_with kind f held p ended) bytes)
    (writer_with kind f [] q ended) sent now r
sent_step kind before f held bytes was ended p q sent now (Ok u) fine s = (refl, rw s.1 refl, s.0)
sent_step kind before f held bytes was ended p q sent now (Err Out.Fault) fine s =
    (refl, fine, record { puts = s.puts; state = rw (s.passed, s.failed) refl })
sent_step kind before f held bytes was ended p q sent now (Err Out.NoMemory) fine s =
    (refl, fine, record { puts = s.puts; state = rw (s.passed, s.failed) refl })
sent_step kind before f held bytes was ended p q sent now (Err Out.BadReply) fine s = absurd s
sent_step kind before f held bytes was ended p q sent now (Err Out.Disagree) fine s = absurd s

pub end_step : (kind : RequestKind) (f : Framing) (held : List ℕ) (p q : Passage) (was : Bool)
    (sent now : Option (List ℕ)) (r : Result Unit OutError) → is_complete f ≡ true → p.failed ≡ false
    → IsSent (held ++ closing_bytes f) p q sent now r
    → IsEndStep (writer_with kind f held p was) (writer_with kind f [] q true) sent now r
end_step kind f held p q was sent now r complete fine s =
    rw (complete, fine) (rw fine at (sent_step kind f f held (held ++ closing_bytes f) was true p q sent now r fine s))

pub chunk_step : (kind : RequestKind) (f : Framing) (held chunk : List ℕ) (p q : Passage) (ended : Bool)
    (sent now : Option (List ℕ)) (r : Result Unit OutError) → is_beyond f (length chunk) ≡ false → p.failed ≡ false → is_passed f chunk ≡ true
    → IsSent (held ++ framed f chunk) p q sent now r
    → IsChunkStep (writer_with kind f held p ended) chunk (writer_with kind (spent f (length chunk)) [] q ended) sent now r
chunk_step kind f held chunk p q ended sent now r within fine passes s =
    rw (within, fine, passes) (rw fine at (sent_step kind f (spent f (length chunk)) held (held ++ framed f chunk) ended ended p q sent now r fine s))

-- a chunk leaves the reply open
pub open-after_chunk : (w : Writer) (chunk : List ℕ) → IsOpenReply w → IsOpenReply (after_chunk w chunk)
open-after_chunk w chunk h =
    elim (cases_Bool (writes_chunk w chunk)) as (λ _. IsOpenReply (after_chunk w chunk)) [
      | inl writes ↦ rw writes (record { framing = spent (framing_now w) (length chunk); given = refl; goes_on = h.goes_on })
      | inr none ↦ rw none (record { framing = spent (framing_now w) (length chunk); given = refl; goes_on = h.goes_on })
    ]

pub open-from_step : (w now : Writer) (chunk : List ℕ) (sent sent_now : Option (List ℕ)) (r : Result Unit OutError) → IsOpenReply w
    → IsChunkStep w chunk now sent sent_now r → OnOk r (IsOpenReply now)
open-from_step w now chunk sent sent_now (Ok u) h s = rw s.1 (open-after_chunk w chunk h)
open-from_step w now chunk sent sent_now (Err e) h s = tt
