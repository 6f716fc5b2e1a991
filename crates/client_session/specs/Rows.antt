-- The row of a request that is under way.
use Rattle.std.specs.Prelude.{ℕ, ◌≡◌, ◌≤◌, Bool, List, length, Some, None, vec_capacity}
use Rattle.lb_model.specs.declared.served.Asked.{Asked}
use Rattle.lb_model.specs.declared.served.Asked.TheVariants as asked
use Rattle.lb_model.specs.declared.served.Served.{Served}
use Rattle.http_front.specs.declared.head.Head.{Head}
use Rattle.status_worker.specs.Pages.{sent_of}
use Rattle.status_worker.specs.Refusals.{code_of, refusal_body}
use Rattle.status_worker.specs.declared.refusal.PageRefusal.{PageRefusal}
use Rattle.client_session.specs.Answers.{own_len}
use Rattle.client_session.specs.declared.rows.Row.{Row}

abbrev pub worker_row : Asked → (status body : ℕ) → (worker : List ℕ) → Served
worker_row asked' status body worker = record { asked = asked'; status = status; body = body; worker = Some worker }

abbrev pub own_row_by : Asked → (status : ℕ) → (head_only : Bool) → Served
own_row_by asked' status head_only = record { asked = asked'; status = status; body = own_len status head_only; worker = None }

abbrev pub refusal_row_by : Asked → PageRefusal → (head_only : Bool) → Served
refusal_row_by asked' refusal head_only =
    record { asked = asked'; status = code_of refusal; body = length (sent_of head_only (refusal_body refusal)); worker = None }

-- the row of this request, with room for a name of that length
pub record IsRowOf (head : Head) (longest : ℕ) (row : Row) : Type 0 where
  pub asked' : row.asked ≡ asked.Line head.method head.target head.old
  pub room : longest ≤ vec_capacity row.name
