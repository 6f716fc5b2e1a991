-- How a body is taken: its first packet, and the answers to asks.
use Rattle.std.proofs.Common.{◌≡◌, ◌≢◌, ℕ, ◌≤◌, Bool, true, false, IsTrue, List, [], ◌∷◌, ◌++◌, length, Result, Ok, Err, refl, sym, ap, subst, ◌∙◌, append_assoc, add-one, arith}
use Rattle.std.specs.Prelude.{replicate, not, ◌&&◌, if◌then◌else◌}
use Rattle.std.proofs.lemmas.List.{append-nil, replicate_more}
use Rattle.ajp_wire.specs.Packet.{packet, HasCome}
use Rattle.ajp_request.specs.declared.forward.Forward.{Forward}
use Rattle.ajp_reply.specs.declared.message.Message.{Message}
use Rattle.ajp_reply.specs.Spelling.{payload_of}
use Rattle.ajp_container.specs.declared.app_config.AppConfig.{AppConfig}
use Rattle.ajp_container.specs.declared.ends.Stopped.{Stopped}
use Rattle.ajp_container.specs.Applications.{drops}
use Rattle.ajp_container.specs.Request.{application_of, content_length, has_first, asks_body}
use Rattle.ajp_container.specs.Answer.{answer_of, bytes_of}
use Rattle.ajp_container.specs.Turns.{Awaited, Taken, data_of, has_ended, is_enough, asks_on, ask}
use Rattle.jk_io.specs.Moments.{Moment}
use Rattle.ajp_container.specs.Ends.{Goes, Within, Stops, StopsWithin, drops_at}
use Rattle.ajp_container.specs.Steps.{NotTaken, TookPiece, NotSent, TookFirstPacket, asks, AnsweredAsks, TookRest, StopsAsking, TakesRest, TookBody, TakesBody}
use Rattle.ajp_container.proofs.StepLaws.{comes-then, goes-none, goes-then, stops-then, stops-reading, stops-sending}

pub bytes_of-append : (a b : List Message) → bytes_of (a ++ b) ≡ bytes_of a ++ bytes_of b
bytes_of-append [] b = refl
bytes_of-append (m ∷ a) b =
    ap (λ (x : List ℕ). packet true (payload_of m) ++ x) (bytes_of-append a b) ∙ sym (append_assoc (packet true (payload_of m)) (bytes_of a) (bytes_of b))

asks-more : (app : AppConfig) (piece : List ℕ) (past : List (List ℕ)) → asks app (piece ∷ past) ≡ asks app past ++ ask app ∷ []
asks-more app piece past = sym (replicate_more (length past) (ask app) ∙ ap (λ (n : ℕ). replicate n (ask app)) (add-one (length past)))

pub goes-same : (m0 m1 : Moment) (x y a b : List ℕ) → x ≡ y → a ≡ b → Goes m0 m1 x a → Goes m0 m1 y b
goes-same m0 m1 x y a b p q goes = subst (λ (v : List ℕ). Goes m0 m1 v b) p (subst (λ (w : List ℕ). Goes m0 m1 x w) q goes)

-- so far each answer had data
pub record AsksOn (app : AppConfig) (forward : Forward) (first body : List ℕ) (m0 m1 : Moment) : Type 0 where
  pub past : List (List ℕ)
  pub asked : AnsweredAsks app forward first m0 m1 past
  pub going_on : has_ended past ≡ false
  pub body_is : body ≡ data_of first past

pub asks-started : (app : AppConfig) (forward : Forward) (first : List ℕ) (m : Moment) → AsksOn app forward first first m m
asks-started app forward first m = record {
  past = [];
  asked = record { bytes = []; came = refl; asked = tt; goes = goes-none m };
  going_on = refl;
  body_is = refl;
}

-- the container asks for more where the bytes aren't enough
more-asked : (app : AppConfig) (forward : Forward) (first body : List ℕ) (m0 m1 : Moment) (a : AsksOn app forward first body m0 m1)
    → asks_body app forward ≡ true → is_enough (content_length forward) (length body) ≡ false → asks_on app forward first a.past ≡ true
more-asked app forward first body m0 m1 a echo few =
    let few_data : is_enough (content_length forward) (length (data_of first a.past)) ≡ false =
    ap (λ (b : List ℕ). is_enough (content_length forward) (length b)) (sym a.body_is) ∙ few in
    all_three (asks_body app forward) (has_ended a.past) (is_enough (content_length forward) (length (data_of first a.past))) echo a.going_on few_data
  where
    all_three : (p q r : Bool) → p ≡ true → q ≡ false → r ≡ false → (p && (not q && not r)) ≡ true
    all_three p q r e f g = rw (e, f, g) refl

pub all-asked : (app : AppConfig) (forward : Forward) (first body : List ℕ) (m0 m1 : Moment) (a : AsksOn app forward first body m0 m1)
    → is_enough (content_length forward) (length body) ≡ true → TookRest app forward first m0 m1 body
all-asked app forward first body m0 m1 a enough = record {
  past = a.past;
  asked = a.asked;
  all =
      let enough_data : is_enough (content_length forward) (length (data_of first a.past)) ≡ true =
      ap (λ (b : List ℕ). is_enough (content_length forward) (length b)) (sym a.body_is) ∙ enough in
      not_third (asks_body app forward) (has_ended a.past) (is_enough (content_length forward) (length (data_of first a.past))) enough_data;
  body_is = a.body_is;
}
  where
    not_third : (p q r : Bool) → r ≡ true → (p && (not q && not r)) ≡ false
    not_third true true r e = refl
    not_third true false r e = rw e refl
    not_third false q r e = refl

pub ask-failed : (app : AppConfig) (forward : Forward) (first body : List ℕ) (m0 m1 m2 : Moment) (stop : Stopped) (a : AsksOn app forward first body m0 m1)
    → asks_body app forward ≡ true → is_enough (content_length forward) (length body) ≡ false → NotSent (bytes_of (ask app ∷ [])) m1 m2 stop
    → StopsAsking app forward first m0 m2 stop
ask-failed app forward first body m0 m1 m2 stop a echo few s = record {
  past = a.past;
  bytes = a.asked.bytes;
  rest = [];
  came = a.asked.came;
  asked = a.asked.asked;
  comes = comes-then m0 m1 m2 a.asked.bytes [] a.asked.goes.came s.comes;
  more = more-asked app forward first body m0 m1 a echo few;
  stops =
      subst (λ (b : List ℕ). Stops app.packet Within true false b m0 m2 [] stop) (sym (bytes_of-append (asks app a.past) (ask app ∷ [])))
      (stops-then app.packet Within true false m0 m1 m2 a.asked.bytes (bytes_of (asks app a.past)) (bytes_of (ask app ∷ [])) [] stop a.asked.goes
      (stops-sending app.packet Within true false m1 m2 (bytes_of (ask app ∷ [])) stop s));
}

-- the ask was sent
ask-sent : (app : AppConfig) (forward : Forward) (first body : List ℕ) (m0 m1 m2 : Moment) (a : AsksOn app forward first body m0 m1)
    → Goes m1 m2 [] (bytes_of (ask app ∷ [])) → Goes m0 m2 a.asked.bytes (bytes_of (asks app a.past ++ ask app ∷ []))
ask-sent app forward first body m0 m1 m2 a goes =
    goes-same m0 m2 (a.asked.bytes ++ []) a.asked.bytes _ _ (append-nil a.asked.bytes) (sym (bytes_of-append (asks app a.past) (ask app ∷ [])))
    (goes-then m0 m1 m2 a.asked.bytes [] (bytes_of (asks app a.past)) (bytes_of (ask app ∷ [])) a.asked.goes goes)

pub piece-failed : (app : AppConfig) (forward : Forward) (first body : List ℕ) (m0 m1 m2 m3 : Moment) (stop : Stopped) (a : AsksOn app forward first body m0 m1)
    → asks_body app forward ≡ true → is_enough (content_length forward) (length body) ≡ false → Goes m1 m2 [] (bytes_of (ask app ∷ []))
    → NotTaken app.packet Within m2 m3 stop → StopsAsking app forward first m0 m3 stop
piece-failed app forward first body m0 m1 m2 m3 stop a echo few sent t =
    let goes = ask-sent app forward first body m0 m1 m2 a sent in
    record {
      past = a.past;
      bytes = a.asked.bytes;
      rest = t.bytes;
      came = a.asked.came;
      asked = a.asked.asked;
      comes = comes-then m0 m2 m3 a.asked.bytes t.bytes goes.came t.comes;
      more = more-asked app forward first body m0 m1 a echo few;
      stops =
          subst (λ (b : List ℕ). Stops app.packet Within true false b m0 m3 t.bytes stop) (append-nil (bytes_of (asks app a.past ++ ask app ∷ [])))
          (stops-then app.packet Within true false m0 m2 m3 a.asked.bytes (bytes_of (asks app a.past ++ ask app ∷ [])) [] t.bytes stop goes
          (stops-reading app.packet Within false m2 m3 stop t));
    }

-- the answer came
piece-asked : (app : AppConfig) (forward : Forward) (first body : List ℕ) (m0 m1 m2 m3 : Moment) (body_after : List ℕ) (len : ℕ) (a : AsksOn app forward first body m0 m1)
    → asks_body app forward ≡ true → is_enough (content_length forward) (length body) ≡ false → Goes m1 m2 [] (bytes_of (ask app ∷ []))
    → (t : TookPiece app.packet body m2 m3 body_after len) → AnsweredAsks app forward first m0 m3 (t.piece ∷ a.past)
piece-asked app forward first body m0 m1 m2 m3 body_after len a echo few sent t = record {
  bytes = a.asked.bytes ++ t.bytes;
  came = (a.asked.bytes, t.bytes, a.asked.came, t.packet, refl);
  asked = (more-asked app forward first body m0 m1 a echo few, a.asked.asked);
  goes =
      goes-same m0 m3 (a.asked.bytes ++ t.bytes) (a.asked.bytes ++ t.bytes) _ _ refl
      (append-nil (bytes_of (asks app a.past ++ ask app ∷ [])) ∙ ap bytes_of (sym (asks-more app t.piece a.past)))
      (goes-then m0 m2 m3 a.asked.bytes t.bytes (bytes_of (asks app a.past ++ ask app ∷ [])) []
      (ask-sent app forward first body m0 m1 m2 a sent) t.goes);
}

pub piece-added : (app : AppConfig) (forward : Forward) (first body : List ℕ) (m0 m1 m2 m3 : Moment) (body_after : List ℕ) (len : ℕ) (a : AsksOn app forward first body m0 m1)
    → asks_body app forward ≡ true → is_enough (content_length forward) (length body) ≡ false → Goes m1 m2 [] (bytes_of (ask app ∷ []))
    → TookPiece app.packet body m2 m3 body_after len → len ≢ 0 → AsksOn app forward first body_after m0 m3
piece-added app forward first body m0 m1 m2 m3 body_after len a echo few sent t some = record {
  past = t.piece ∷ a.past;
  asked = piece-asked app forward first body m0 m1 m2 m3 body_after len a echo few sent t;
  going_on = some-data t.piece (λ e. some (t.counted ∙ e));
  body_is = t.added ∙ ap (λ (b : List ℕ). b ++ t.piece) a.body_is;
}
  where
    some-data : (piece : List ℕ) → (length piece ≡ 0 → ⊥) → has_ended (piece ∷ a.past) ≡ false
    some-data [] some = absurd (some refl)
    some-data (b ∷ piece) some = refl

-- a count that did not fall twice
pub risen-then : (before mid now : ℕ) → before ≤ mid → mid ≤ now → before ≤ now
risen-then before mid now first next = omega arith

-- so much came that no more is asked for
pub body-enough : (app : AppConfig) (forward : Forward) (first body : List ℕ) (m0 m1 : Moment) → AsksOn app forward first body m0 m1
    → is_enough (content_length forward) (length body) ≡ true → TookRest app forward first m0 m1 body
body-enough app forward first body m0 m1 a enough = record {
  past = a.past;
  asked = a.asked;
  all = not-third (asks_body app forward) (has_ended a.past) _ (ap (λ (b : List ℕ). is_enough (content_length forward) (length b)) (sym a.body_is) ∙ enough);
  body_is = a.body_is;
}
  where
    not-third : (p q r : Bool) → r ≡ true → (p && (not q && not r)) ≡ false
    not-third true true r e = refl
    not-third true false r e = rw e refl
    not-third false q r e = refl

pub body-ended : (app : AppConfig) (forward : Forward) (first body : List ℕ) (m0 m1 m2 m3 : Moment) (body_after : List ℕ) (len : ℕ) (a : AsksOn app forward first body m0 m1)
    → asks_body app forward ≡ true → is_enough (content_length forward) (length body) ≡ false → Goes m1 m2 [] (bytes_of (ask app ∷ []))
    → TookPiece app.packet body m2 m3 body_after len → len ≡ 0 → TookRest app forward first m0 m3 body_after
body-ended app forward first body m0 m1 m2 m3 body_after len a echo few sent t none = record {
  past = t.piece ∷ a.past;
  asked = piece-asked app forward first body m0 m1 m2 m3 body_after len a echo few sent t;
  all = not-second (asks_body app forward) (has_ended (t.piece ∷ a.past)) _ (no-data t.piece (sym t.counted ∙ none));
  body_is = t.added ∙ ap (λ (b : List ℕ). b ++ t.piece) a.body_is;
}
  where
    no-data : (piece : List ℕ) → length piece ≡ 0 → has_ended (piece ∷ a.past) ≡ true
    no-data [] e = refl
    no-data (b ∷ piece) e = absurd (omega arith)

    not-second : (p q r : Bool) → q ≡ true → (p && (not q && r)) ≡ false
    not-second true q r e = rw e refl
    not-second false q r e = refl

-- ---- a body whole

pub first-failed : (app : AppConfig) (forward : Forward) (m0 m1 : Moment) (stop : Stopped) → IsTrue (has_first forward)
    → NotTaken app.packet Within m0 m1 stop → StopsWithin app forward m0 m1 stop
first-failed app forward m0 m1 stop has t = record {
  body = Awaited;
  front = [];
  rest = t.bytes;
  came = (has, refl);
  comes = t.comes;
  stops = stops-reading app.packet Within (drops_at app forward Awaited) m0 m1 stop t;
}

pub first-alone : (app : AppConfig) (forward : Forward) (m0 m1 : Moment) (first : List ℕ) → TookFirstPacket app forward m0 m1 first → asks_body app forward ≡ false
    → TookBody app forward m0 m1 first
first-alone app forward m0 m1 first t no_echo = record {
  first = first;
  past = [];
  bytes = t.bytes;
  came = record { front = t.bytes; answers = []; begun = t.begun; answered = refl; asked = tt; whole = sym (append-nil t.bytes) };
  all = rw no_echo refl;
  body_is = refl;
  goes = t.goes;
}

-- the rest after the first packet
pub body-taken : (app : AppConfig) (forward : Forward) (m0 m1 m2 : Moment) (first : List ℕ) (result : Result (List ℕ) Stopped) → TookFirstPacket app forward m0 m1 first
    → TakesRest app forward first m1 m2 result → TakesBody app forward m0 m2 result
body-taken app forward m0 m1 m2 first (Ok body) t r = record {
  first = first;
  past = r.past;
  bytes = t.bytes ++ r.asked.bytes;
  came = record { front = t.bytes; answers = r.asked.bytes; begun = t.begun; answered = r.asked.came; asked = r.asked.asked; whole = refl };
  all = r.all;
  body_is = r.body_is;
  goes = goes-then m0 m1 m2 t.bytes r.asked.bytes [] (bytes_of (asks app r.past)) t.goes r.asked.goes;
}
body-taken app forward m0 m1 m2 first (Err stop) t r = record {
  body = Taken first r.past;
  front = t.bytes ++ r.bytes;
  rest = r.rest;
  came = record { front = t.bytes; answers = r.bytes; begun = t.begun; answered = r.came; asked = r.asked; whole = refl };
  comes = subst (HasCome m0 m2) (sym (append_assoc t.bytes r.bytes r.rest)) (comes-then m0 m1 m2 t.bytes (r.bytes ++ r.rest) t.goes.came r.comes);
  stops =
      subst (λ (b : Bool). Stops app.packet Within b (not b && drops (application_of app forward))
      (bytes_of (asks app r.past ++ (if b then ask app ∷ [] else answer_of app forward (data_of first r.past)))) m0 m2 r.rest stop) (sym r.more)
      (stops-then app.packet Within true false m0 m1 m2 t.bytes [] (bytes_of (asks app r.past ++ ask app ∷ [])) r.rest stop t.goes r.stops);
}
