-- A talk that was held on its link, as the reach notes it.
use Rattle.std.proofs.Common.{◌≡◌, ℕ, ◌≤◌, Bool, true, List, [], ◌∷◌, Option, Some, None, IfSome, Result, ap, ◌∙◌, subst, inl}
use Rattle.jk_io.specs.Told.{appended, IsEmpty}
use Rattle.jk_io.specs.Talks.{IsNoteOf}
use Rattle.jk_io.specs.declared.failures.NoMemory.{NoMemory}
use Rattle.jk_io.specs.declared.reaching.Begun.{Begun}
use Rattle.jk_io.specs.declared.reaching.Beside.{Beside}
use Rattle.jk_io.specs.declared.reaching.Talk.{Talk}
use Rattle.ajp_talk.specs.Complete.{Completes}
use Rattle.jk_io.specs.Moments.{Moment}
use Rattle.ajp_talk.specs.Talk.{IsCalmEnd, IsTalk}
use Rattle.ajp_talk.specs.declared.ending.TalkEnd.{TalkEnd}
use Rattle.ajp_talk.specs.declared.plan.TalkPlan.{TalkPlan}
use Rattle.site_config.specs.declared.endpoint.Endpoint.{Endpoint}
use Rattle.exchange.specs.OneTalk.{Around, IsOneTalk, begun_with, keeps, plan_on}

onto : (told : Option Begun) (a b : Begun) → IfSome told (λ x. x ≡ a) → a ≡ b → IfSome told (λ x. x ≡ b)
onto None a b is same = is
onto (Some x) a b is same = is ∙ same

pub was_held : (lb member : ℕ) (endpoint : Endpoint) (plan : TalkPlan) (fresh dialled : Bool) (s n : Around) (opened closed : Moment)
    (answer : Result TalkEnd NoMemory) (b c : Beside)
    → (fresh ≡ true → dialled ≡ true) → IsEmpty opened.sent × IsEmpty opened.received
    → IsTalk (plan_on plan endpoint dialled)
    (record { line = opened; client = s.client; body = s.body }) (record { line = closed; client = n.client; body = n.body }) answer
    → Completes (plan_on plan endpoint dialled)
    (record { line = opened; client = s.client; body = s.body }) (record { line = closed; client = n.client; body = n.body }) answer
    → IfSome b.begun (λ begun. begun ≡ begun_with lb member endpoint fresh dialled opened) → c ≡ b → b.talks ≡ s.talks
    → ((note : Talk) → IsNoteOf c.begun closed.sent closed.received (keeps answer) note → n.talks ≡ appended c.talks (note ∷ []))
    → opened.faults ≡ s.faults → opened.faults ≤ closed.faults → n.faults ≡ closed.faults → s.client.faults ≤ n.client.faults
    → (IsCalmEnd answer → n.client.faults ≡ s.client.faults) → IsOneTalk lb member endpoint plan fresh s n answer
was_held lb member endpoint plan fresh dialled s n opened closed answer b c new_link nothing_yet talk complete begun same talks noted before within after client calm =
    let for_b : (note : Talk) → IsNoteOf b.begun closed.sent closed.received (keeps answer) note → n.talks ≡ appended b.talks (note ∷ []) =
    subst (λ (x : Beside). (note : Talk) → IsNoteOf x.begun closed.sent closed.received (keeps answer) note → n.talks ≡ appended x.talks (note ∷ [])) same noted in
    inl (record {
      dialled = dialled;
      opened = opened;
      closed = closed;
      new_link = new_link;
      nothing_yet = nothing_yet;
      talk = talk;
      complete = complete;
      noted = λ note is. for_b note (record {
        begun_with = onto b.begun _ _ begun is.begun_with;
        sent_in = is.sent_in;
        received_in = is.received_in;
        kept = is.kept;
      }) ∙ ap (λ (t : Option (List Talk)). appended t (note ∷ [])) talks;
      faults_before = before;
      faults_within = within;
      faults_after = after;
      client_faults = client;
      calm = calm;
    })
