-- What the threads of a drill made: the bytes of the bodies in the rows of their sessions, and the receipts that their desks got
-- in these. Read this after Bodies.
use Rattle.std.specs.Prelude.{◌≡◌, ◌<◌, ◌≤◌, ℕ, List, [], ◌∷◌, length, map, slice_index_or, Option, Some, IfSome}
use Rattle.std.specs.List.{flat_map}
use mathlib.Core.Option.{some}
use lib.ListN.{get_elem?}
use Rattle.jk_io.specs.declared.traits.surroundings.Peer.{Peer}
use Rattle.lb_model.specs.declared.served.Served.{Served}
use Rattle.lb_book.specs.declared.receipt.Receipt.{Receipt}
use Rattle.site_config.specs.declared.config.Config.{Config}
use Rattle.site_mounts.specs.declared.rule.Rule.{Rule}
use Rattle.client_session.specs.Requests.{Visit, undated, visit}
use Rattle.client_session.specs.Sessions.{Serves}
use Rattle.client_session.specs.Standings.{ClientStanding}
use Rattle.client_session.specs.declared.ending.SessionEnd.{SessionEnd}
use Rattle.drill.specs.Bodies.{all_together, AreCounted, with_bodies}
use Rattle.drill.specs.Requests.{RequestsState, requests_of, texts_of}
use Rattle.drill.specs.Sites.{IsDrillSite}
use Rattle.drill.specs.declared.plan.Plan.{Plan}
use Rattle.drill.specs.declared.site.DrillSite.{DrillSite}
use Rattle.drill.specs.declared.thread.Post.{Post}

-- the visits of thread t, whose sessions have its number, and whose answers tell no moment
abbrev pub visit_by : Config → List Rule → Peer → (t : ℕ) → Visit
visit_by cfg rules peer t = undated (visit cfg rules t peer)

-- the visits of the thread at this post
abbrev pub visit_at : Post → Visit
visit_at post = visit_by post.site.now.cfg post.site.now.map post.peer.now post.number

-- A client with these bytes had a session over a desk that had the receipts `had` before it and has `now` after it, and the
-- session added these rows.
pub record HasRows (v : Visit) (text : List ℕ) (had now : List Receipt) (rows : List Served) : Type 0 where
  pub first : List ℕ → ClientStanding
  pub last : List ℕ → ClientStanding
  pub end : SessionEnd
  pub asks : (first []).client.incoming ≡ Some text
  pub began : (first []).desk.state.receipts ≡ had
  pub serves : Serves v first last (λ gained. gained ≡ rows) end
  pub left : (last serves.inbox).desk.state.receipts ≡ now

-- The bodies in the rows of such a session came to a count.
abbrev pub CountsRows : Visit → (text : List ℕ) → (had now : List Receipt) → (before after : ℕ) → Type 0
CountsRows v text had now before after = (rows : List Served) × HasRows v text had now rows × AreCounted before after rows

-- A session of a thread: its requests, its rows, and the receipts that the thread's desk had after it.
pub record SessionNote : Type 0 where
  pub requests : List ℕ
  pub rows : List Served
  pub receipts : List Receipt

-- These are sessions of at most a thousand requests each, one after the other over one desk, which had the receipts `had` before
-- the first and has `now` after the last.
abbrev pub AreDeskSessions : Visit → (seed : ℕ) → (had : List Receipt) → List SessionNote → (now : List Receipt) → Type 0
AreDeskSessions v seed had [] now = now ≡ had
AreDeskSessions v seed had (s ∷ later) now =
    (length s.requests ≤ 1000) × HasRows v (texts_of seed s.requests) had s.receipts s.rows × AreDeskSessions v seed s.receipts later now

-- The requests were made in such sessions, and the bodies in all their rows came to a count.
pub record CountsSessions (v : Visit) (seed : ℕ) (requests : List ℕ) (had now : List Receipt) (before after : ℕ) : Type 0 where
  pub sessions : List SessionNote
  pub made : flat_map (λ s. s.requests) sessions ≡ requests
  pub each : AreDeskSessions v seed had sessions now
  pub count : after ≡ with_bodies before (flat_map (λ s. s.rows) sessions)

-- The requests that the thread at this post had still to make were made so.
abbrev pub CountsLeft : Post → RequestsState → (had now : List Receipt) → (before after : ℕ) → Type 0
CountsLeft post requests had now before after = CountsSessions (visit_at post) requests.seed requests.left had now before after

-- Thread t made all its requests on this site, and the bodies in the rows of its sessions had these bytes. Its desk had the
-- receipts `had` before, and has `now`.
abbrev pub CountsThread : Config → List Rule → (seed threads requests t : ℕ) → (had now : List Receipt) → (bytes : ℕ) → Type 0
CountsThread cfg rules seed threads requests t had now bytes =
    (peer : Peer) × CountsSessions (visit_by cfg rules peer t) seed (requests_of threads requests t) had now 0 bytes

-- What a thread made, where it made all its requests, and the receipts that its desk has.
abbrev pub MadeNote : Type 0
MadeNote = List Receipt × Option ℕ

-- so it is of thread t, whose desk had these receipts before
abbrev pub IsMadeBy : DrillSite → Plan → (t : ℕ) → (had : List Receipt) → MadeNote → Type 0
IsMadeBy site plan t had made =
    IfSome made.1 (λ bytes. CountsThread site.cfg site.map plan.seed plan.threads plan.requests t had made.0 bytes)

-- so it is of each thread, in order, whose desks had no receipt before
abbrev pub AreMade : DrillSite → Plan → List MadeNote → Type 0
AreMade site plan made = (t : ℕ) (own : MadeNote) → get_elem? made t ≡ some own → IsMadeBy site plan t [] own

-- Each of these threads made what its slot then notes: the receipts that its desk has, and its count. The slot at a place is
-- that of the thread of this number.
abbrev pub MakesEach : {A : Type 0} → DrillSite → Plan → (number : (place : ℕ) → A → ℕ) → (note : A → MadeNote) → (old new : List A) → Type 0
MakesEach {A} site plan number note old new =
    (i : ℕ) (d : A) → i < length old
    → IsMadeBy site plan (number i (slice_index_or old i d)) (note (slice_index_or old i d)).0 (note (slice_index_or new i d))

-- Each thread of the drill made all its requests on one site, over a desk of its own. These are the receipts that each desk got,
-- in the threads' order, and the bytes of the bodies in the rows of all their sessions together.
pub record CountsDrill (seed threads requests : ℕ) (told : List (List Receipt)) (bytes : ℕ) : Type 0 where
  pub cfg : Config
  pub rules : List Rule
  pub site : IsDrillSite cfg rules
  pub counts : List ℕ
  pub many : length counts ≡ threads
  pub lists : length told ≡ threads
  pub each : (t own : ℕ) (receipts : List Receipt) → get_elem? counts t ≡ some own → get_elem? told t ≡ some receipts
      → CountsThread cfg rules seed threads requests t [] receipts own
  pub sum : all_together (map Some counts) ≡ Some bytes
