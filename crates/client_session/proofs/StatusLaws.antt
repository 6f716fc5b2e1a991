-- A status worker's request, from what was asked to what its client has.
use Rattle.std.proofs.Common.{◌≡◌, ℕ, Bool, List, Option, Result, Ok, Err, refl, sym, subst, inl, inr}
use Rattle.jk_io.specs.Moments.{Moment}
use Rattle.http_front.specs.declared.head.Head.{Head}
use Rattle.http_out.specs.declared.framing.RequestKind.{RequestKind}
use Rattle.site_config.specs.declared.config.Status.{Status}
use Rattle.client_session.specs.Answers.{HasPage, IsStatusAnswer, IsStatusBegun, IsStatusLess}
use Rattle.status_worker.specs.Commands.{IsBrokenCommand, IsDone, TurnsAway}
use Rattle.status_worker.specs.Pages.{IsPage, shown_for}
use Rattle.status_worker.specs.Refusals.{refusal_bytes}
use Rattle.client_session.specs.Requests.{Visit, kind_at, own_kind_at, visit_in}
use Rattle.lb_book.specs.Desks.{DeskState}
use Rattle.status_worker.specs.Desks.{DeskSide}
use Rattle.client_session.specs.Standings.{Puts, PutsLess, PutsPart, ClientStanding}
use Rattle.client_session.specs.Surroundings.{SendsPage, Shows}
use Rattle.client_session.specs.Writing.{WritesPart, WritesRefusal}
use Rattle.client_session.specs.declared.ending.SessionStop.{SessionStop}
use Rattle.client_session.specs.declared.ending.SessionStop.TheVariants as stop
use Rattle.client_session.specs.declared.inquiry.Inquiry.{Inquiry}
use Rattle.client_session.specs.declared.ending.Why.{Why}
use Rattle.status_worker.specs.declared.refusal.PageRefusal.{PageRefusal}
use Rattle.status_worker.specs.declared.pages.Page.{Page}

-- the desk's side alone went on
abbrev asked_on : ClientStanding → DeskSide → ClientStanding
asked_on s d = record s { desk = d }

-- and then something was written
abbrev written_on : ClientStanding → DeskSide → Moment → ClientStanding
written_on s d w = record s { desk = d; client = w }

refusal_begun : (v : Visit) (status : Status) (head : Head) (last : Bool) (s : ClientStanding) (d : DeskSide) (w : Moment) (refusal : PageRefusal)
    → TurnsAway v.cfg v.session status head.query s.desk d refusal → PutsPart s.client w (refusal_bytes refusal (own_kind_at v head))
    → IsStatusBegun v status head last s (written_on s d w)
refusal_begun v status head last s d w refusal turned puts =
    inr (asked_on s d, refusal, record { turned = turned; alone = refl }, record { puts = puts; alone = refl })

refusal_less : (v : Visit) (status : Status) (head : Head) (last : Bool) (s : ClientStanding) (d : DeskSide) (w : Moment) (refusal : PageRefusal)
    → TurnsAway v.cfg v.session status head.query s.desk d refusal → PutsLess s.client w (refusal_bytes refusal (own_kind_at v head))
    → IsStatusLess v status head last s (written_on s d w)
refusal_less v status head last s d w refusal turned puts =
    inr (asked_on s d, refusal, record { turned = turned; alone = refl }, record { puts = puts; alone = refl })

pub refusal_answered : (v : Visit) (status : Status) (head : Head) (last : Bool) (s : ClientStanding) (d : DeskSide) (w : Moment) (refusal : PageRefusal) (stop' : SessionStop)
    → TurnsAway v.cfg v.session status head.query s.desk d refusal → WritesRefusal refusal (own_kind_at v head) s.client w stop'
    → IsStatusAnswer v status head last s (written_on s d w) (Err stop')
refusal_answered v status head last s d w refusal (stop.Closed x) turned writes =
    subst (λ (y : Why). IsStatusAnswer v status head last s (written_on s d w) (Err (stop.Closed y))) (sym writes.0)
    (asked_on s d, record { turned = turned; alone = refl }, record { puts = writes.1; alone = refl })
refusal_answered v status head last s d w refusal stop.ClientFault turned writes =
    (writes.0, refusal_begun v status head last s d w refusal turned writes.1)
refusal_answered v status head last s d w refusal stop.Truncated turned writes = absurd writes
refusal_answered v status head last s d w refusal (stop.Stray ticket returned_at) turned writes = absurd writes
refusal_answered v status head last s d w refusal stop.NoMemory turned writes = inl (refusal_less v status head last s d w refusal turned writes)

has_page : (v : Visit) (status : Status) (query : Option (List ℕ)) (s : ClientStanding) (d : DeskSide) (only : Option ℕ) (kind : RequestKind) (page : Page)
    → IsDone v.cfg v.session status query s.desk d only → (seen : IsPage v.cfg status query d.state only kind page)
    → HasPage v status query s (asked_on s d) (shown_for status query seen.0)
has_page v status query s d only kind page done seen = record {
  only = only;
  done = done;
  alone = refl;
  parts = seen.0;
  seen = seen.1;
  is = refl;
}

page_answered : (v : Visit) (status : Status) (head : Head) (last : Bool) (s : ClientStanding) (d : DeskSide) (w : Moment) (only : Option ℕ) (page : Page)
    → IsDone v.cfg v.session status head.query s.desk d only → IsPage v.cfg status head.query d.state only (kind_at v head last) page → Puts s.client w page.reply
    → IsStatusAnswer v status head last s (written_on s d w) (Ok page.len)
page_answered v status head last s d w only page done seen puts = (
  asked_on s d,
  shown_for status head.query seen.0,
  has_page v status head.query s d only (kind_at v head last) page done seen,
  record { puts = rw (← seen.2) puts; alone = refl },
  seen.3,
)

page_begun : (v : Visit) (status : Status) (head : Head) (last : Bool) (s : ClientStanding) (d : DeskSide) (w : Moment) (only : Option ℕ) (page : Page)
    → IsDone v.cfg v.session status head.query s.desk d only → IsPage v.cfg status head.query d.state only (kind_at v head last) page → PutsPart s.client w page.reply
    → IsStatusBegun v status head last s (written_on s d w)
page_begun v status head last s d w only page done seen puts =
    inl (
      asked_on s d,
      shown_for status head.query seen.0,
      has_page v status head.query s d only (kind_at v head last) page done seen,
      record { puts = rw (← seen.2) puts; alone = refl },
    )

page_less : (v : Visit) (status : Status) (head : Head) (last : Bool) (s : ClientStanding) (d : DeskSide) (w : Moment) (only : Option ℕ) (page : Page)
    → IsDone v.cfg v.session status head.query s.desk d only → IsPage v.cfg status head.query d.state only (kind_at v head last) page → PutsLess s.client w page.reply
    → IsStatusLess v status head last s (written_on s d w)
page_less v status head last s d w only page done seen puts =
    inl (
      asked_on s d,
      shown_for status head.query seen.0,
      has_page v status head.query s d only (kind_at v head last) page done seen,
      record { puts = rw (← seen.2) puts; alone = refl },
    )

page_broken : (v : Visit) (status : Status) (head : Head) (last : Bool) (s : ClientStanding) (d : DeskSide) (w : Moment) (only : Option ℕ) (page : Page) (stop' : SessionStop)
    → IsDone v.cfg v.session status head.query s.desk d only → IsPage v.cfg status head.query d.state only (kind_at v head last) page
    → WritesPart {T = Unit {0}} page.reply s.client w (Err stop') → IsStatusAnswer v status head last s (written_on s d w) (Err stop')
page_broken v status head last s d w only page (stop.Closed why') done seen writes = absurd writes
page_broken v status head last s d w only page stop.ClientFault done seen writes =
    (writes.0, page_begun v status head last s d w only page done seen writes.1)
page_broken v status head last s d w only page stop.Truncated done seen writes = absurd writes
page_broken v status head last s d w only page (stop.Stray ticket returned_at) done seen writes = absurd writes
page_broken v status head last s d w only page stop.NoMemory done seen writes = inl (page_less v status head last s d w only page done seen writes)

nothing_seen : (v : Visit) (status : Status) (head : Head) (last : Bool) (s : ClientStanding) (d : DeskSide) (only : Option ℕ)
    → IsDone v.cfg v.session status head.query s.desk d only → IsStatusAnswer v status head last s (asked_on s d) (Err stop.NoMemory)
nothing_seen v status head last s d only done = inr (record { alone = refl; why = inr (only, done) })

-- ---- the same, where looks left the desk as it was

abbrev side : DeskState → Option (List ℕ) → DeskSide
side state clock = record { state = state; clock = clock }

unseen_at : (v : Visit) (status : Status) (head : Head) (last : Bool) (s : ClientStanding) (seen now : DeskState) (clock : Option (List ℕ)) (only : Option ℕ) → now ≡ seen
    → IsDone v.cfg v.session status head.query s.desk (side seen clock) only → IsStatusAnswer v status head last s (asked_on s (side now clock)) (Err stop.NoMemory)
unseen_at v status head last s seen now clock only same done =
    subst (λ (d : DeskState). IsStatusAnswer v status head last s (asked_on s (side d clock)) (Err stop.NoMemory)) (sym same)
    (nothing_seen v status head last s (side seen clock) only done)

answered_at : (v : Visit) (status : Status) (head : Head) (last : Bool) (s : ClientStanding) (seen now : DeskState) (clock : Option (List ℕ)) (w : Moment) (only : Option ℕ) (page : Page) → now ≡ seen
    → IsDone v.cfg v.session status head.query s.desk (side seen clock) only → IsPage v.cfg status head.query seen only (kind_at v head last) page → Puts s.client w page.reply
    → IsStatusAnswer v status head last s (written_on s (side now clock) w) (Ok page.len)
answered_at v status head last s seen now clock w only page same done is_seen puts =
    subst (λ (d : DeskState). IsStatusAnswer v status head last s (written_on s (side d clock) w) (Ok page.len)) (sym same)
    (page_answered v status head last s (side seen clock) w only page done is_seen puts)

broken_at : (v : Visit) (status : Status) (head : Head) (last : Bool) (s : ClientStanding) (seen now : DeskState) (clock : Option (List ℕ)) (w : Moment) (only : Option ℕ) (page : Page) (stop' : SessionStop) → now ≡ seen
    → IsDone v.cfg v.session status head.query s.desk (side seen clock) only → IsPage v.cfg status head.query seen only (kind_at v head last) page
    → WritesPart {T = Unit {0}} page.reply s.client w (Err stop') → IsStatusAnswer v status head last s (written_on s (side now clock) w) (Err stop')
broken_at v status head last s seen now clock w only page stop' same done is_seen writes =
    subst (λ (d : DeskState). IsStatusAnswer v status head last s (written_on s (side d clock) w) (Err stop')) (sym same)
    (page_broken v status head last s (side seen clock) w only page stop' done is_seen writes)

-- the page was sent, or it broke off
pub page_sent : (i : Inquiry) (status : Status) (s : ClientStanding) (seen now : DeskState) (clock : Option (List ℕ)) (w : Moment) (only : Option ℕ) (answer : Result ℕ SessionStop) → now ≡ seen
    → IsDone i.site.now.cfg.now i.site.now.session status i.head.now.query s.desk (side seen clock) only → SendsPage i status only seen s.client w answer
    → Shows i status s (written_on s (side now clock) w) answer
page_sent i status s seen now clock w only (Ok len) same done (page, is_page, puts, len_is) =
    rw len_is (answered_at (visit_in i) status i.head.now i.last s seen now clock w only page same done is_page puts)
page_sent i status s seen now clock w only (Err stop') same done sent =
    elim sent [
      | inl (wanted, unwritten) ↦ rw (wanted, unwritten) (unseen_at (visit_in i) status i.head.now i.last s seen now clock only same done)
      | inr (page, is_page, writes) ↦ broken_at (visit_in i) status i.head.now i.last s seen now clock w only page stop' same done is_page writes
    ]

-- memory was wanted before all that was asked was done
pub never_done : (v : Visit) (status : Status) (head : Head) (last : Bool) (s : ClientStanding) (d : DeskSide) → IsBrokenCommand v.cfg v.session status head.query s.desk d
    → IsStatusAnswer v status head last s (asked_on s d) (Err stop.NoMemory)
never_done v status head last s d broken = inr (record { alone = refl; why = inl broken })
