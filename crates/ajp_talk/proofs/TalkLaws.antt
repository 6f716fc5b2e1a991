-- The end of a talk, from how it stood and from its last turn.
use Rattle.std.proofs.Common.{◌≡◌, ◌≢◌, ℕ, ◌≤◌, false, ◌&&◌, not, length, refl, sym, ap, subst, ◌∙◌, Ok, inl, inr}
use Rattle.jk_io.specs.Moments.{Moment}
use Rattle.jk_io.specs.declared.failures.NoMemory.{NoMemory}
use Rattle.http_front.specs.State.{taken_of}
use Rattle.ajp_talk.specs.Moments.{BodyAt, TalkMoment}
use Rattle.ajp_talk.specs.Talk.{IsTalk, IsCalmEnd, IsGone}
use Rattle.ajp_talk.specs.Turns.{IsCalmTurn, IsTurn}
use Rattle.ajp_talk.specs.Courses.{At}
use Rattle.ajp_talk.specs.Drains.{IsLostEnd}
use Rattle.ajp_talk.specs.Ends.{IsPlan, bytes_end, ended_by}
use Rattle.ajp_talk.specs.declared.plan.TalkPlan.{TalkPlan}
use Rattle.ajp_talk.specs.declared.course.Course.{Course}
use Rattle.ajp_talk.specs.declared.ending.TalkEnd.{TalkEnd}
use Rattle.ajp_talk.specs.declared.turn.Turn.{Turn}
use Rattle.ajp_talk.specs.declared.turn.Turn.TheVariants as turn_is
use Rattle.ajp_talk.proofs.TurnLaws.{failed}
use Rattle.ajp_talk.proofs.EndLaws.{done, cut, unread, bad, wanted}
use Rattle.ajp_talk.proofs.LostLaws.{LostAt, lost_at_end, lost_gone, lost_drained}

pub ended_talk : (plan : TalkPlan) (s m n : TalkMoment) (c c' : Course) (want : NoMemory) (taken : ℕ) (turn : Turn) → At plan s m c → IsPlan plan → taken_of s.body.body ≡ length plan.first
    → s.line.faults ≤ m.line.faults → s.client.faults ≤ m.client.faults → taken ≡ taken_of n.body.body → turn ≢ turn_is.On → turn ≢ turn_is.Lost → IsTurn plan m n c c' turn
    → IsTalk plan s n (ended_by want plan c' taken turn)
ended_talk plan s m n c c' want taken turn a fit first line client counted over stays t =
    subst (λ (k : ℕ). IsTalk plan s n (ended_by want plan c' k turn)) (sym counted) (of turn over stays t)
  where
    of : (turn : Turn) → turn ≢ turn_is.On → turn ≢ turn_is.Lost → IsTurn plan m n c c' turn → IsTalk plan s n (ended_by want plan c' (taken_of n.body.body) turn)
    of turn_is.On over stays t = absurd (over refl)
    of (turn_is.Done reuse) over stays t = done plan s m n c c' a reuse fit t
    of (turn_is.Failed cause) over stays t = inl (failed plan s m n c c' a cause fit first line t)
    of turn_is.Lost over stays t = absurd (stays refl)
    of (turn_is.LostAtEnd reuse) over stays t = lost_at_end plan s m n c c' a reuse (reuse && not plan.close_on_client) fit client refl t
    of turn_is.Unread over stays t = unread plan s m n c c' a fit client t
    of turn_is.Cut over stays t = cut plan s m n c c' a fit t
    of (turn_is.Bad own) over stays t = bad plan s m n c c' a own fit t
    of turn_is.NoMemory over stays t = inl (wanted plan s m n c c' a fit t)

same-moment : (n p : TalkMoment) → p.line ≡ n.line → p.client ≡ n.client → p.body ≡ n.body → p ≡ n
same-moment n p line client body =
    ap (λ (l : Moment). record { line = l; client = p.client; body = p.body }) line
    ∙ ap (λ (w : Moment). record { line = n.line; client = w; body = p.body }) client
    ∙ ap (λ (b : BodyAt). record { line = n.line; client = n.client; body = b }) body

pub lost_talk : (plan : TalkPlan) (s n p : TalkMoment) (c c' : Course) (end : TalkEnd) → IsPlan plan → LostAt plan s n c → p.body ≡ n.body → n.client.faults ≤ p.client.faults
    → IsLostEnd plan n.line p.line n.client p.client c c' end → IsTalk plan s p (Ok end)
lost_talk plan s n p c c' end fit a body faults (inl h) =
    let gone : IsGone plan s p false false (bytes_end c) =
    subst (λ (q : TalkMoment). IsGone plan s q false false (bytes_end c)) (sym (same-moment n p h.2 h.3 body)) (lost_gone plan s n c fit h.0 a) in
    subst (λ (e : TalkEnd). IsTalk plan s p (Ok e)) (sym h.1) gone
lost_talk plan s n p c c' end fit a body faults (inr h) =
    subst (λ (e : TalkEnd). IsTalk plan s p (Ok e)) (sym h.1.3) (lost_drained plan s n p c c' h.1.0 h.1.1 fit a h.1.2 h.0 body faults)

-- ---- the client's count of faults

-- an end that tells of no fault of the client comes of such a turn
pub calm_turn : (want : NoMemory) (plan : TalkPlan) (c : Course) (taken : ℕ) (turn : Turn) → turn ≢ turn_is.Lost → IsCalmEnd (ended_by want plan c taken turn) → IsCalmTurn turn
calm_turn want plan c taken turn_is.On stays calm = tt
calm_turn want plan c taken (turn_is.Done reuse) stays calm = tt
calm_turn want plan c taken (turn_is.Failed cause) stays calm = tt
calm_turn want plan c taken turn_is.Lost stays calm = absurd (stays refl)
calm_turn want plan c taken (turn_is.LostAtEnd reuse) stays calm = calm
calm_turn want plan c taken turn_is.Unread stays calm = calm
calm_turn want plan c taken turn_is.Cut stays calm = tt
calm_turn want plan c taken (turn_is.Bad own) stays calm = tt
calm_turn want plan c taken turn_is.NoMemory stays calm = calm

-- and none where a write to the client failed
pub lost_calm : (plan : TalkPlan) (l l' w w' : Moment) (c c' : Course) (end : TalkEnd) → IsLostEnd plan l l' w w' c c' end → IsCalmEnd (Ok end) → ⊥
lost_calm plan l l' w w' c c' end (inl h) calm = subst (λ (e : TalkEnd). IsCalmEnd (Ok e)) h.1 calm
lost_calm plan l l' w w' c c' end (inr h) calm = subst (λ (e : TalkEnd). IsCalmEnd (Ok e)) h.1.3 calm
