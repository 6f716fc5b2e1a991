-- A message that was read, and why none was, from the read of a packet.
use Rattle.std.proofs.Common.{◌≡◌, ◌≢◌, ℕ, ◌≤◌, ◌<◌, true, List, length, refl, sym, ap, subst, ◌∙◌, arith, Result, Ok, Err, IfOk, IsTrue, inl, inr}
use Rattle.jk_io.specs.Told.{Rose, IsEmpty}
use Rattle.ajp_wire.specs.Packet.{ReadsPacket, CameAs, count_of, says_end, says_fault, says_calm, IsPart}
use Rattle.ajp_wire.specs.declared.errors.PacketError.{PacketError}
use Rattle.ajp_wire.specs.declared.errors.PacketError.TheVariants as Read
use Rattle.ajp_wire.specs.declared.errors.DecodeError.{DecodeError}
use Rattle.ajp_wire.specs.declared.errors.DecodeError.TheVariants as Decode
use Rattle.ajp_reply.specs.declared.message.Message.{Message}
use Rattle.ajp_reply.specs.Spelling.{Spells, IsMessage, BeginsHead}
use Rattle.ajp_reply.proofs.StreamLaws.{no_packet-begins, too_long-begins, unread-begins}
use Rattle.http_front.specs.Walks.{counted}
use Rattle.ajp_talk.specs.Hearing.{unheard, undecoded}
use Rattle.jk_io.specs.Moments.{Moment}
use Rattle.ajp_talk.specs.Moments.{IsSteady}
use Rattle.ajp_talk.specs.Talk.{IsNext}
use Rattle.ajp_talk.specs.Turns.{Came, IsHeard, IsUnheard}
use Rattle.ajp_talk.specs.declared.turn.Unheard.TheVariants as unheard_is
use Rattle.ajp_talk.proofs.MessageLaws.{part-nil}

module _ (packet : ℕ) (l l' : Moment) where
  abbrev pub Reads : Result (List ℕ) PacketError → Type 0
  Reads result = ReadsPacket true packet result l l'

  pub narrow : (result : Result (List ℕ) PacketError) → Reads result → IfOk result (λ payload. length payload < 65536)
  narrow (Ok payload) r = r.are.fits.narrow
  narrow (Err e) r = tt

  -- what every read of a packet says: the bytes, and their count
  came : (result : Result (List ℕ) PacketError) (count count' n : ℕ) (r : Reads result) → n ≡ count_of result → n < 4294967400 → count' ≡ counted count n
      → l'.sent ≡ l.sent → l.faults ≤ l'.faults → Came l l' count count' r.bytes
  came result count count' n r value small counts sent no_fewer =
      let long : n ≡ length r.bytes = value ∙ r.counted in
      record { came = r.came; sent = sent; counts = counts ∙ ap (counted count) long; small = omega (arith, small, long); no_fewer = no_fewer }

  pub heard-from : (most : ℕ) (payload : List ℕ) (message : Message) (count count' n : ℕ) → Reads (Ok payload) → n ≡ count_of (Ok payload) → n < 4294967400
      → count' ≡ counted count n → l'.sent ≡ l.sent → l.faults ≤ l'.faults → count' < most → IsSteady l l' → Spells message payload → IsMessage message
      → IsHeard packet most l l' count count' message
  heard-from most payload message count count' n r value small counts sent no_fewer below steady spelled fits = record {
    bytes = r.bytes;
    came = came (Ok payload) count count' n r value small counts sent no_fewer;
    steady = steady;
    is = record { payload = payload; packet = r.are; spelled = spelled };
    fits = fits;
    below = below;
  }

  next-of : (result : Result (List ℕ) PacketError) (bytes : List ℕ) → CameAs true packet result bytes → IsNext packet bytes
  next-of (Ok payload) bytes are = inl (payload, are)
  next-of (Err (Read.End n)) bytes are = inr (inl (subst (IsPart true packet) (sym are) (part-nil packet)))
  next-of (Err (Read.Short n)) bytes are = inr (inl are.1)
  next-of (Err (Read.BadMagic n)) bytes are = inr (inr (no_packet-begins packet bytes are.begins_none))
  next-of (Err (Read.TooLong n)) bytes are = inr (inr (too_long-begins packet bytes are))
  next-of (Err (Read.Fault n)) bytes are = inr (inl are)
  next-of (Err (Read.NoMemory n)) bytes are = inr (inl are)

  pub too_long-from : (most : ℕ) (result : Result (List ℕ) PacketError) (count count' n : ℕ) → Reads result → n ≡ count_of result → n < 4294967400
      → count' ≡ counted count n → l'.sent ≡ l.sent → l.faults ≤ l'.faults → most ≤ count' → IsUnheard packet most l l' count count' unheard_is.TooLong
  too_long-from most result count count' n r value small counts sent no_fewer reached = record {
    bytes = r.bytes;
    came = came result count count' n r value small counts sent no_fewer;
    as_said = (reached, next-of result r.bytes r.are);
  }

  pub unheard-from : (most : ℕ) (error : PacketError) (count count' n : ℕ) → Reads (Err error) → n ≡ count_of (Err error) → n < 4294967400
      → count' ≡ counted count n → l'.sent ≡ l.sent → l.faults ≤ l'.faults → count' < most
      → (IsTrue (says_end error) → IsEmpty l'.incoming) → (IsTrue (says_fault error) → Rose l.faults l'.faults) → (IsTrue (says_calm error) → IsSteady l l')
      → IsUnheard packet most l l' count count' (unheard error)
  unheard-from most (Read.End k) count count' n r value small counts sent no_fewer below end fault calm = record {
    bytes = r.bytes;
    came = came (Err (Read.End k)) count count' n r value small counts sent no_fewer;
    as_said = (below, subst (IsPart true packet) (sym r.are) (part-nil packet), end refl);
  }
  unheard-from most (Read.Short k) count count' n r value small counts sent no_fewer below end fault calm = record {
    bytes = r.bytes;
    came = came (Err (Read.Short k)) count count' n r value small counts sent no_fewer;
    as_said = (below, r.are.1, end refl);
  }
  unheard-from most (Read.BadMagic k) count count' n r value small counts sent no_fewer below end fault calm = record {
    bytes = r.bytes;
    came = came (Err (Read.BadMagic k)) count count' n r value small counts sent no_fewer;
    as_said = (below, no_packet-begins packet r.bytes r.are.begins_none);
  }
  unheard-from most (Read.TooLong k) count count' n r value small counts sent no_fewer below end fault calm = record {
    bytes = r.bytes;
    came = came (Err (Read.TooLong k)) count count' n r value small counts sent no_fewer;
    as_said = (below, too_long-begins packet r.bytes r.are);
  }
  unheard-from most (Read.Fault k) count count' n r value small counts sent no_fewer below end fault calm = record {
    bytes = r.bytes;
    came = came (Err (Read.Fault k)) count count' n r value small counts sent no_fewer;
    as_said = (below, r.are, fault refl);
  }
  unheard-from most (Read.NoMemory k) count count' n r value small counts sent no_fewer below end fault calm = record {
    bytes = r.bytes;
    came = came (Err (Read.NoMemory k)) count count' n r value small counts sent no_fewer;
    as_said = (below, inl r.are, calm refl);
  }

  -- the payload spells no message
  unread : (most : ℕ) (payload : List ℕ) (count count' n : ℕ) → Reads (Ok payload) → n ≡ count_of (Ok payload) → n < 4294967400
      → count' ≡ counted count n → l'.sent ≡ l.sent → l.faults ≤ l'.faults → count' < most → ((message : Message) → Spells message payload → ⊥)
      → IsUnheard packet most l l' count count' unheard_is.Wrong
  unread most payload count count' n r value small counts sent no_fewer below none = record {
    bytes = r.bytes;
    came = came (Ok payload) count count' n r value small counts sent no_fewer;
    as_said = (below, unread-begins packet payload r.bytes r.are none);
  }

  pub undecoded-from : (most : ℕ) (payload : List ℕ) (error : DecodeError) (count count' n : ℕ) → Reads (Ok payload) → n ≡ count_of (Ok payload) → n < 4294967400
      → count' ≡ counted count n → l'.sent ≡ l.sent → l.faults ≤ l'.faults → count' < most
      → (error ≢ Decode.NoMemory → (message : Message) → Spells message payload → ⊥) → (error ≡ Decode.NoMemory → BeginsHead payload) → IsSteady l l'
      → IsUnheard packet most l l' count count' (undecoded error)
  undecoded-from most payload Decode.NoMemory count count' n r value small counts sent no_fewer below none head steady = record {
    bytes = r.bytes;
    came = came (Ok payload) count count' n r value small counts sent no_fewer;
    as_said = (below, inr (payload, r.are, head refl), steady);
  }
  undecoded-from most payload (Decode.Short at) count count' n r value small counts sent no_fewer below none head steady =
      unread most payload count count' n r value small counts sent no_fewer below (none (λ e. absurd cc))
  undecoded-from most payload (Decode.BadCode at) count count' n r value small counts sent no_fewer below none head steady =
      unread most payload count count' n r value small counts sent no_fewer below (none (λ e. absurd cc))
  undecoded-from most payload (Decode.BadMark at) count count' n r value small counts sent no_fewer below none head steady =
      unread most payload count count' n r value small counts sent no_fewer below (none (λ e. absurd cc))
  undecoded-from most payload (Decode.BadBoolean at) count count' n r value small counts sent no_fewer below none head steady =
      unread most payload count count' n r value small counts sent no_fewer below (none (λ e. absurd cc))
  undecoded-from most payload (Decode.Extra at) count count' n r value small counts sent no_fewer below none head steady =
      unread most payload count count' n r value small counts sent no_fewer below (none (λ e. absurd cc))
  undecoded-from most payload (Decode.TooMany at) count count' n r value small counts sent no_fewer below none head steady =
      unread most payload count count' n r value small counts sent no_fewer below (none (λ e. absurd cc))
  undecoded-from most payload (Decode.Absent at) count count' n r value small counts sent no_fewer below none head steady =
      unread most payload count count' n r value small counts sent no_fewer below (none (λ e. absurd cc))
