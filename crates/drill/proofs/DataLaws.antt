-- The data of a request's body as the container took them, and what the answer rests on.
use Rattle.std.proofs.Common.{◌≡◌, ℕ, ◌+◌, ◌≤◌, Bool, true, false, List, [], ◌∷◌, ◌++◌, length, refl, sym, ap, ◌∙◌, arith, inl, inr, length-append}
use Rattle.ajp_wire.specs.Spelling.{int}
use Rattle.ajp_wire.specs.Packet.{body_payload}
use Rattle.ajp_wire.proofs.PacketLaws.{int-only}
use Rattle.ajp_request.specs.declared.forward.Forward.{Forward}
use Rattle.ajp_container.specs.Answer.{answer_by, answer_of}
use Rattle.ajp_container.specs.Applications.{is_echo}
use Rattle.ajp_container.specs.Request.{application_of, has_first}
use Rattle.ajp_container.specs.Turns.{CameAnswers, CameFirst, CameTaken, IsPacketSpelling, SpellsPiece, data_of}
use Rattle.ajp_container.specs.declared.app_config.AppConfig.{AppConfig}
use Rattle.ajp_container.specs.declared.application.Application.{Application}
use Rattle.ajp_container.specs.declared.application.Application.TheVariants.{Forbidden, Who, Echo, Size, Status, Session, DropAtOnce, DropBehindHead, DropBehindChunk, Unknown}

-- ---- no more data than bytes

piece-within : (most : ℕ) (piece bytes : List ℕ) → IsPacketSpelling (SpellsPiece piece) most bytes → length piece ≤ length bytes
piece-within most piece bytes p = of p.spelled
  where
    all : length bytes ≡ length p.payload + 4
    all = ap length p.packet.whole ∙ omega arith

    of : SpellsPiece piece p.payload → length piece ≤ length bytes
    of (inl (narrow, is)) =
        let len : length p.payload ≡ length (int (length piece) ++ piece) = ap length is in
        let all' = all in
        omega (arith, len, all')
    of (inr (none, is)) = let len : length piece ≡ 0 = ap length none in omega (arith, len)

answers-within : (most : ℕ) (first : List ℕ) (pieces : List (List ℕ)) (bytes : List ℕ) → CameAnswers most pieces bytes
    → length (data_of first pieces) ≤ length first + length bytes
answers-within most first [] bytes c = omega arith
answers-within most first (piece ∷ pieces) bytes (before, last, c, p, whole) =
    let so_far = answers-within most first pieces before c in
    let here = piece-within most piece last p in
    let data' = length-append (data_of first pieces) piece in
    let all : length bytes ≡ length before + length last = ap length whole ∙ length-append before last in
    omega (arith, so_far, here, data', all)

first-within : (most : ℕ) (has : Bool) (first bytes : List ℕ) → CameFirst most has first bytes → length first ≤ length bytes
first-within most true first bytes p = piece-within most first bytes p
first-within most false first bytes (none, nothing) = let len : length first ≡ 0 = ap length none in omega (arith, len)

pub taken-within : (app : AppConfig) (f : Forward) (first : List ℕ) (pieces : List (List ℕ)) (bytes : List ℕ) → CameTaken app f first pieces bytes
    → length (data_of first pieces) ≤ length bytes
taken-within app f first pieces bytes c =
    let front = first-within app.packet (has_first f) first c.front c.begun in
    let rest = answers-within app.packet first pieces c.answers c.answered in
    let all : length bytes ≡ length c.front + length c.answers = ap length c.whole ∙ length-append c.front c.answers in
    omega (arith, front, rest, all)

-- ---- an answer that is no echo doesn't rest on the data

answer_by-same : (app : AppConfig) (f : Forward) (x y : List ℕ) (a : Application) → is_echo a ≡ false → answer_by app f x a ≡ answer_by app f y a
answer_by-same app f x y Forbidden none = refl
answer_by-same app f x y Who none = refl
answer_by-same app f x y Echo none = absurd cc
answer_by-same app f x y (Size n) none = refl
answer_by-same app f x y (Status n) none = refl
answer_by-same app f x y Session none = refl
answer_by-same app f x y DropAtOnce none = refl
answer_by-same app f x y DropBehindHead none = refl
answer_by-same app f x y DropBehindChunk none = refl
answer_by-same app f x y Unknown none = refl

pub answer-same : (app : AppConfig) (f : Forward) (x y : List ℕ) → is_echo (application_of app f) ≡ false → answer_of app f x ≡ answer_of app f y
answer-same app f x y none = answer_by-same app f x y (application_of app f) none

-- ---- a body packet has one piece

pub piece-only : (piece t : List ℕ) → SpellsPiece piece (body_payload t) → piece ≡ t
piece-only piece [] (inl (narrow, is)) = absurd cc
piece-only piece [] (inr (none, is)) = none
piece-only piece (b ∷ t) (inl (narrow, is)) = sym (int-only (length (b ∷ t)) (length piece) (b ∷ t) piece is).1
piece-only piece (b ∷ t) (inr (none, is)) = absurd cc
