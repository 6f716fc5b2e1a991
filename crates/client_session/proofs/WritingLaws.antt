-- Writing to the client, whole or broken off.
use Rattle.std.proofs.Common.{◌≡◌, ◌≤◌, ℕ, Bool, List, Option, Result, Ok, Err, true, [], ◌∷◌, codes, sym, subst, inr, if◌then◌else◌}
use Rattle.jk_io.specs.Moments.{Moment}
use Rattle.jk_io.specs.declared.failures.IoError.{IoError}
use Rattle.jk_io.specs.declared.failures.IoError.TheVariants as io
use Rattle.exchange.specs.Deliveries.{Delivers}
use Rattle.http_out.specs.declared.own_answers.OwnKind.{OwnKind}
use Rattle.httpdate.specs.declared.date.HttpDate.{HttpDate}
use Rattle.status_worker.specs.Refusals.{refusal_bytes}
use Rattle.status_worker.specs.declared.refusal.PageRefusal.{PageRefusal}
use Rattle.client_session.specs.Answers.{own_for}
use Rattle.http_front.specs.Refusal.{status_of}
use Rattle.http_front.specs.declared.answers.Form.{Form}
use Rattle.http_front.specs.declared.head.Head.{Head}
use Rattle.lb_model.specs.declared.served.Served.{Served}
use Rattle.client_session.specs.Finishing.{AddsRefused, RefusesHead}
use Rattle.client_session.specs.Requests.{awaits_continue, continue_for, refused_kind}
use Rattle.client_session.specs.Sessions.{refused_row}
use Rattle.client_session.specs.Standings.{Puts}
use Rattle.client_session.specs.Writing.{WritesOwn, WritesPart, WritesRefusal, stop_by}
use Rattle.client_session.specs.declared.ending.SessionStop.{SessionStop}
use Rattle.client_session.specs.declared.ending.SessionStop.TheVariants as stop
use Rattle.client_session.specs.declared.ending.Why.{Why}

-- what a delivery answers, as a part that was written or broke off
pub part_written : (bytes : List ℕ) (s n : Moment) (value : Unit {0}) → Delivers {T = Unit {0}} bytes s n (Ok value) → Puts s n bytes
part_written bytes s n value delivered =
    record { sent = delivered.written.0; steady = delivered.written.1; incoming = delivered.incoming; received = delivered.received }

pub part_broken : (T : Type 0) (bytes : List ℕ) (s n : Moment) (error : IoError) → s.faults ≤ n.faults → Delivers {T = Unit {0}} bytes s n (Err error)
    → WritesPart {T = T} bytes s n (Err (stop_by error))
part_broken T bytes s n io.Failed no_fewer delivered = (
  delivered.written.1,
  record { sent = delivered.written.0; no_fewer = no_fewer; incoming = delivered.incoming; received = delivered.received },
)
part_broken T bytes s n io.NoMemory no_fewer delivered =
    record { sent = delivered.written.0; steady = delivered.written.1; incoming = delivered.incoming; received = delivered.received }

-- the same of an own answer
pub own_broken : (status : ℕ) (kind : OwnKind) (s n : Moment) (error : IoError) → s.faults ≤ n.faults
    → Delivers {T = Unit {0}} (own_for status kind) s n (Err error) → WritesOwn status kind s n (stop_by error)
own_broken status kind s n io.Failed no_fewer delivered = (
  delivered.written.1,
  record { sent = delivered.written.0; no_fewer = no_fewer; incoming = delivered.incoming; received = delivered.received },
)
own_broken status kind s n io.NoMemory no_fewer delivered =
    record { sent = delivered.written.0; steady = delivered.written.1; incoming = delivered.incoming; received = delivered.received }

-- ---- the answer to a refused request

pub refusal_broken : (refusal : PageRefusal) (kind : OwnKind) (s n : Moment) (error : IoError) → s.faults ≤ n.faults
    → Delivers {T = Unit {0}} (refusal_bytes refusal kind) s n (Err error) → WritesRefusal refusal kind s n (stop_by error)
refusal_broken refusal kind s n io.Failed no_fewer delivered = (
  delivered.written.1,
  record { sent = delivered.written.0; no_fewer = no_fewer; incoming = delivered.incoming; received = delivered.received },
)
refusal_broken refusal kind s n io.NoMemory no_fewer delivered =
    record { sent = delivered.written.0; steady = delivered.written.1; incoming = delivered.incoming; received = delivered.received }

-- ---- other bytes

-- where the client waits for it, 100 Continue is what it is told
pub sent_continue : (head : Head) (s n : Moment) (answer : Result (Unit {0}) SessionStop) → awaits_continue head ≡ true
    → WritesPart (codes "HTTP/1.1 100 Continue\r\n\r\n") s n answer → WritesPart (continue_for head) s n answer
sent_continue head s n answer is writes =
    subst (λ (b : Bool). WritesPart (if b then codes "HTTP/1.1 100 Continue\r\n\r\n" else []) s n answer) (sym is) writes

-- a refused head was answered, and its row was put
pub refused_closed : (date : Option HttpDate) (form : Form) (s n : Moment) (puts : List Served → Type 0) (stop' : SessionStop) (w : Why) → stop' ≡ stop.Closed w
    → WritesOwn (status_of form) (refused_kind date) s n stop' → puts (refused_row (status_of form) ∷ []) → RefusesHead date form s n puts stop'
refused_closed date form s n puts stop' w is writes put = inr (writes, subst (AddsRefused (status_of form) puts) (sym is) put)
