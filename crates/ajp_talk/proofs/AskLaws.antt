-- The data that asks take, and the packets that answer them.
use Rattle.std.proofs.Common.{◌≡◌, ℕ, ◌+◌, ◌-◌, ◌<◌, ◌||◌, Bool, true, List, [], ◌∷◌, ◌++◌, length, take, drop, refl, sym, ap, subst, ◌∙◌, arith, append_assoc, append-nil, length-append, length-drop, Option, Some, None, IfSome, IsTrue, inl, inr}
use Rattle.std.specs.Prelude.{nat_le}
use Rattle.std.specs.Option.{option_map}
use Rattle.std.proofs.lemmas.Bool.{cases_Bool, cond-true, le-leb, lt-leb, leb-true, leb-false}
use Rattle.std.proofs.lemmas.List.{drop-drop}
use Rattle.jk_io.specs.Told.{appended, prepended}
use Rattle.jk_io.proofs.ToldLaws.{appended-appended, appended-nil, prepended-prepended, prepended-nil}
use Rattle.ajp_wire.specs.Packet.{body_packet, HasCome}
use Rattle.http_front.specs.Body.{Data, Uses, behind, data_from, data_of, dropped, reaches, place_behind}
use Rattle.http_front.specs.State.{place_of, taken_of, failed_of}
use Rattle.http_front.specs.declared.body.BodyIn.{BodyIn}
use Rattle.http_front.specs.Places.{is_limited, step}
use Rattle.http_front.specs.declared.place.Place.{Place}
use Rattle.http_front.specs.declared.place.Place.TheVariants as at
use Rattle.http_front.proofs.BodyLemmas.{Uses-nil, Uses-then, data_from-append, next-place}
use Rattle.jk_io.specs.Moments.{Moment}
use Rattle.ajp_talk.specs.Moments.{BodyAt, data_at, Traffic, TakesOfBody, IsUsed, IsFrontOf}
use Rattle.ajp_talk.specs.Owed.{behind_first, answer}
use Rattle.ajp_talk.specs.Turns.{GivesData, Sends, IsUntaken}

-- ---- the data

pub dropped-dropped : (a n : ℕ) (t : Option Data) → dropped n (dropped a t) ≡ dropped (a + n) t
dropped-dropped a n None = refl
dropped-dropped a n (Some d) = ap (λ (bytes : List ℕ). Some (record { bytes = bytes; whole = d.whole; bad = d.bad })) (drop-drop n a d.bytes)

pub dropped-none : (t : Option Data) → t ≡ dropped 0 t
dropped-none None = refl
dropped-none (Some d) = refl

same-or : (a b x : Bool) → a ≡ b → (a || x) ≡ (b || x)
same-or a b x e = ap (λ (c : Bool). c || x) e

pub reaches-behind : (a n : ℕ) (d : Data) → 0 < n → reaches n (behind_first a d) ≡ reaches (a + n) d
reaches-behind a n d some =
    let left : length (drop a d.bytes) ≡ length d.bytes - a = length-drop a d.bytes in
    let same : nat_le n (length (drop a d.bytes)) ≡ nat_le (a + n) (length d.bytes) =
    elim (cases_Bool (nat_le (a + n) (length d.bytes))) [
      | inl holds ↦ le-leb n (length (drop a d.bytes)) (let within = leb-true (a + n) (length d.bytes) holds in omega (arith, left)) ∙ sym holds
      | inr no_ ↦ lt-leb n (length (drop a d.bytes)) (let short = leb-false (a + n) (length d.bytes) no_ in omega (arith, left)) ∙ sym no_
    ] in
    same-or _ _ d.whole same

-- what is said of the data that is left, of the data that was there
pub left-then : (a : ℕ) (t m : Option Data) (P Q : Data → Type 0) → m ≡ dropped a t → ((d : Data) → P (behind_first a d) → Q d) → IfSome m P → IfSome t Q
left-then a None m P Q e f h = tt
left-then a (Some d) m P Q e f h = f d (subst (λ (o : Option Data). IfSome o P) e h)

pub told-answer : (n : ℕ) (d : Data) (piece : List ℕ) → (piece ≡ take n d.bytes) × IsTrue (reaches n d) → body_packet piece ≡ answer n d
told-answer n d piece h = ap body_packet h.0 ∙ sym (cond-true (reaches n d) (body_packet (take n d.bytes)) [] h.1)

-- ---- fronts

pub front-all : (xs : List ℕ) → IsFrontOf xs xs
front-all xs = record { rest = []; joined = sym (append-nil xs) }

pub front-none : (xs : List ℕ) → IsFrontOf [] xs
front-none xs = record { rest = xs; joined = refl }

pub front-behind : (front xs ys : List ℕ) → IsFrontOf xs ys → IsFrontOf (front ++ xs) (front ++ ys)
front-behind front xs ys f = record { rest = f.rest; joined = ap (λ (l : List ℕ). front ++ l) f.joined ∙ sym (append_assoc front xs f.rest) }

pub front-longer : (xs ys more : List ℕ) → IsFrontOf xs ys → IsFrontOf xs (ys ++ more)
front-longer xs ys more f = record { rest = f.rest ++ more; joined = ap (λ (l : List ℕ). l ++ more) f.joined ∙ append_assoc xs f.rest more }

-- ---- what went over the link

pub traffic-came : (s m n : Moment) (pong came bytes put : List ℕ) → Traffic s m (pong ++ came) put
    → HasCome m n bytes → n.sent ≡ m.sent → Traffic s n (pong ++ (came ++ bytes)) put
traffic-came s m n pong came bytes put t h same =
    let joined : (pong ++ came) ++ bytes ≡ pong ++ (came ++ bytes) = append_assoc pong came bytes in
    record {
      came = record {
        used = t.came.used ∙ ap (prepended (pong ++ came)) h.used ∙ prepended-prepended (pong ++ came) bytes n.incoming
            ∙ ap (λ (l : List ℕ). prepended l n.incoming) joined;
        kept = h.kept ∙ ap (λ (o : Option (List ℕ)). appended o bytes) t.came.kept ∙ appended-appended s.received (pong ++ came) bytes
            ∙ ap (appended s.received) joined;
      };
      sent = same ∙ t.sent;
    }

pub traffic-sent : (s m n : Moment) (got put more : List ℕ) (before after : ℕ) → Traffic s m got put → Sends m n before after more → Traffic s n got (put ++ more)
traffic-sent s m n got put more before after t d = record {
  came = record {
    used = t.came.used ∙ ap (prepended got) (sym d.incoming);
    kept = d.received ∙ t.came.kept;
  };
  sent = d.sent ∙ ap (λ (o : Option (List ℕ)). appended o more) t.sent ∙ appended-appended s.sent put more;
}

pub traffic-none : (s : Moment) → Traffic s s [] []
traffic-none s = record { came = record { used = sym (prepended-nil s.incoming); kept = sym (appended-nil s.received) }; sent = sym (appended-nil s.sent) }

-- ---- the body

pub untaken-same : (b b' : BodyAt) → IsUntaken b b' → b' ≡ b
untaken-same b b' u =
    ap (λ (x : BodyIn). record { body = x; unread = b'.unread }) u.body
    ∙ ap (λ (o : Option (List ℕ)). record { body = b.body; unread = o }) u.unread

pub takes-none : (b : BodyAt) → failed_of b.body ≡ None → TakesOfBody b b []
takes-none b going = record { uses = Uses-nil b.unread (place_of b.body); counted = omega arith; going = going; most = refl }

pub takes-then : (n : ℕ) (s m b : BodyAt) (taken piece : List ℕ) → TakesOfBody s m taken → GivesData n m b piece → taken_of m.body + length piece < 18446744073709551616
    → TakesOfBody s b (taken ++ piece)
takes-then n s m b taken piece t g fits = record {
  uses = Uses-then s.unread m.unread b.unread (place_of s.body) (place_of m.body) (place_of b.body) taken piece t.uses g.uses;
  counted = omega (arith, g.counts, t.counted, length-append taken piece);
  going = g.going;
  most = g.most ∙ t.most;
}

pub used-takes : (s n : BodyAt) (taken : List ℕ) → TakesOfBody s n taken → IsUsed s n
used-takes s n taken t = record { gone = t.uses.gone; used = t.uses.used; most = t.most }

pub used-then : (s m n : BodyAt) → IsUsed s m → IsUsed m n → IsUsed s n
used-then s m n a b = record {
  gone = a.gone ++ b.gone;
  used = a.used ∙ ap (prepended a.gone) b.used ∙ prepended-prepended a.gone b.gone n.unread;
  most = b.most ∙ a.most;
}

pub used-gives : (n : ℕ) (b b' : BodyAt) (piece : List ℕ) → GivesData n b b' piece → IsUsed b b'
used-gives n b b' piece g = record { gone = g.uses.gone; used = g.uses.used; most = g.most }

nothing : (xs : List ℕ) (a b : ℕ) → a ≡ b + length xs → a ≡ b → xs ≡ []
nothing [] a b e f = refl
nothing (x ∷ xs) a b e f = absurd (omega (arith, e, f))

behind-none : (d : Data) → behind [] d ≡ d
behind-none d = refl

-- where no data was taken the data is as before
pub untaken-data : (s n : BodyAt) (taken : List ℕ) → TakesOfBody s n taken → taken_of n.body ≡ taken_of s.body → data_at n ≡ data_at s
untaken-data s n taken t same = of s.unread n.unread t.uses
  where
    empty : taken ≡ []
    empty = nothing taken (taken_of n.body) (taken_of s.body) t.counted same

    told : (before : Option (List ℕ)) (ys : List ℕ) → Uses before (Some ys) (place_of s.body) (place_of n.body) taken
        → Some (data_from ys (place_of n.body)) ≡ data_of (place_of s.body) before
    told before ys u = sym (
        ap (data_of (place_of s.body)) u.used
        ∙ ap Some (data_from-append u.gone ys (place_of s.body) (place_of n.body) u.own
        ∙ ap (λ (l : List ℕ). behind l (data_from ys (place_of n.body))) (u.brings ∙ empty))
        )

    of : (before after : Option (List ℕ)) → Uses before after (place_of s.body) (place_of n.body) taken
        → data_of (place_of n.body) after ≡ data_of (place_of s.body) before
    of before None u = sym (ap (data_of (place_of s.body)) u.used)
    of before (Some ys) u = told before ys u

-- the data was what was taken, and what is left
pub takes-data : (s n : BodyAt) (taken : List ℕ) → TakesOfBody s n taken → data_at s ≡ option_map (behind taken) (data_at n)
takes-data s n taken t = of s.unread n.unread t.uses
  where
    told : (before : Option (List ℕ)) (ys : List ℕ) → Uses before (Some ys) (place_of s.body) (place_of n.body) taken
        → data_of (place_of s.body) before ≡ Some (behind taken (data_from ys (place_of n.body)))
    told before ys u =
        ap (data_of (place_of s.body)) u.used
        ∙ ap Some (data_from-append u.gone ys (place_of s.body) (place_of n.body) u.own
        ∙ ap (λ (l : List ℕ). behind l (data_from ys (place_of n.body))) u.brings)

    of : (before after : Option (List ℕ)) → Uses before after (place_of s.body) (place_of n.body) taken
        → data_of (place_of s.body) before ≡ option_map (behind taken) (data_of (place_of n.body) after)
    of before None u = ap (data_of (place_of s.body)) u.used
    of before (Some ys) u = told before ys u

limited-step : (p : Place) (b : ℕ) → is_limited (step p b) ≡ true → is_limited p ≡ true
limited-step (at.Exact n) b e = e
limited-step (at.Digits c s) b e = refl
limited-step (at.Extension s c) b e = refl
limited-step (at.LineFeed s) b e = refl
limited-step (at.Chunk l) b e = refl
limited-step at.DataFeed b e = refl
limited-step (at.Trailer l) b e = refl
limited-step (at.TrailerLine l) b e = refl
limited-step (at.TrailerLineFeed l) b e = refl
limited-step at.TrailerFeed b e = refl
limited-step at.Done b e = e
limited-step at.Bad b e = e

limited-start : (gone : List ℕ) (p q : Place) → place_behind gone p ≡ Some q → is_limited q ≡ true → is_limited p ≡ true
limited-start [] p q e limited = (let same : p ≡ q = cc in ap is_limited same ∙ limited)
limited-start (b ∷ gone) p q e limited = limited-step p b (limited-start gone (step p b) q (next-place b gone p q e).1 limited)

-- a body that is chunked was so at first
pub takes-limited : (s n : BodyAt) (taken : List ℕ) → TakesOfBody s n taken → is_limited (place_of n.body) ≡ true → is_limited (place_of s.body) ≡ true
takes-limited s n taken t limited = limited-start t.uses.gone (place_of s.body) (place_of n.body) t.uses.own limited
