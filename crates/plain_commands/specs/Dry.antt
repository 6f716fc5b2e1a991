-- The output of `dry` and `log`: one session over memory. Of them read this first.
use Rattle.std.specs.Prelude.{◌≡◌, ℕ, Bool, List, [], ◌∷◌, Some, IsSomeAnd, codes, reverse}
use Rattle.request_log.specs.Lines.{log_of}
use Rattle.request_log.specs.declared.format.Part.{Part}
use Rattle.jk_io.specs.Memory.{MemLinkState}
use Rattle.jk_io.specs.MemReaches.{MemReachState}
use Rattle.jk_io.specs.declared.reaching.Talk.{Talk}
use Rattle.lb_model.specs.declared.served.Served.{Served}
use Rattle.lb_book.specs.Journal.{Journal}
use Rattle.lb_book.specs.PlainDesks.{plain_state}
use Rattle.site_reports.specs.Starts.{AreStarts}
use Rattle.site_config.specs.declared.config.Config.{Config}
use Rattle.site_mounts.specs.declared.rule.Rule.{Rule}
use Rattle.site_reports.specs.Reports.{OfSite}
use Rattle.client_session.specs.Parts.{HasParts}
use Rattle.client_session.specs.Requests.{Visit, undated, visit}
use Rattle.client_session.specs.Sessions.{IsSession}
use Rattle.client_session.specs.Standings.{ClientStanding}
use Rattle.client_session.specs.Whole.{HoldsOfEach}
use Rattle.client_session.specs.declared.ending.SessionEnd.{SessionEnd}
use Rattle.client_session.specs.declared.ending.SessionStop.TheVariants as stop
use Rattle.client_session.specs.declared.ending.Why.TheVariants as why
use Rattle.plain_commands.specs.DryLines.{dry_text, end_words}
use Rattle.plain_commands.specs.DryLinks.{AreTalksOver, reply_link}

-- ---- how it starts

-- the session's worker has the number 0, and its client this address
abbrev pub dry_visit : Config → List Rule → Visit
dry_visit c rules = undated (visit c rules 0 (record { addr = codes "127.0.0.1" }))

-- Nothing was done yet: the Books as they start, a clock whose every answer is 0, no talk, and all bytes of the client are
-- to come.
abbrev pub first_standing : List Journal → (request : List ℕ) → ClientStanding
first_standing books request = record {
  desk = record { state = plain_state books [] [] 0 0 0; clock = Some [] };
  reach = record { talks = Some []; faults = 0 };
  client = record { incoming = Some request; received = Some []; sent = Some []; faults = 0 };
  inbox = [];
}

-- ---- how it goes

-- One session from this standing to its end, in which no call of a link failed: the talks that it had, the bytes that its
-- client has, its end, and a row for each request that was answered. It doesn't end for a client that waits, since in memory none does. The client has the parts of
-- its requests joined; an own answer has its cause; the client's bytes decide what they can; and what nothing disturbs is
-- answered with exactly its member's reply.
pub record IsSessionRun (v : Visit) (first : ClientStanding) (talks : List Talk) (sent : List ℕ) (end : SessionEnd)
    (rows : List Served) : Type 0 where
  pub last : ClientStanding
  pub session : IsSession v first last rows end
  pub talked : last.reach.talks ≡ Some talks
  pub written : last.client.sent ≡ Some sent
  pub calm : (last.reach.faults ≡ 0) × (last.client.faults ≡ 0)
  pub parts : HasParts v first last end
  pub awake : end.stop ≡ stop.Closed why.Idle → ⊥
  pub each : HoldsOfEach v end

-- The first link that was dialled had the reply to come, and each later one nothing.
abbrev pub AreOverReply : (reply : List ℕ) → List Talk → Type 0
AreOverReply reply talks =
    (past : List Talk) × (now : MemReachState) × (talks ≡ reverse past) × AreTalksOver (reply_link reply ∷ []) past now

-- One session over this site, of a client that sends these bytes; the first link to a member has that reply to come.
pub record IsDryRun (c : Config) (rules : List Rule) (request reply : List ℕ) (talks : List Talk) (sent : List ℕ) (end : SessionEnd)
    (rows : List Served) : Type 0 where
  pub books : List Journal
  pub started : AreStarts c.lbs 0 0 books
  pub run : IsSessionRun (dry_visit c rules) (first_standing books request) talks sent end rows
  pub over : AreOverReply reply talks

-- the same of a client's link and a reach as they were before it and are after it, unless a call of theirs failed
abbrev pub RunsIfCalm : Config → List Rule → (reply : List ℕ) → (client client_now : MemLinkState) → (reach_now : MemReachState) → SessionEnd → List Served → Type 0
RunsIfCalm c rules reply client client_now reach_now end rows = (reach_now.faults ≡ 0) × (client_now.faults ≡ 0)
    → IsDryRun c rules client.incoming reply reach_now.book.talks client_now.sent end rows

-- ---- what is printed

-- such a session: its three lines, and its rows
pub record Runs (c : Config) (rules : List Rule) (request reply lines : List ℕ) (rows : List Served) : Type 0 where
  pub talks : List Talk
  pub sent : List ℕ
  pub end : SessionEnd
  pub run : IsDryRun c rules request reply talks sent end rows
  pub printed : IsSomeAnd (end_words end) (λ words. lines ≡ dry_text talks sent words)

-- `dry` prints the lines
abbrev pub Dries : Config → List Rule → (request reply out : List ℕ) → Type 0
Dries c rules request reply out = (rows : List Served) × Runs c rules request reply out rows

-- `log` prints the log of the rows
abbrev pub Logs : Config → List Rule → (format : List Part) → (request reply out : List ℕ) → Type 0
Logs c rules format request reply out =
    (lines : List ℕ) × (rows : List Served) × Runs c rules request reply lines rows × (out ≡ log_of format rows)

-- `dry` of a client's bytes and a reply's, over a site's two files
abbrev pub ReportsDry : (request reply workers map out : List ℕ) → (refused : Bool) → Type 0
ReportsDry request reply workers map out refused = OfSite workers map (λ c rules out. Dries c rules request reply out) out refused

-- and `log` of them, in this format
abbrev pub ReportsLog : (format : List Part) → (request reply workers map out : List ℕ) → (refused : Bool) → Type 0
ReportsLog format request reply workers map out refused = OfSite workers map (λ c rules out. Logs c rules format request reply out) out refused

-- the site where no files are named: one worker that is listed itself, with defaults and retries 1, mounted everywhere
abbrev pub default_workers : List ℕ
default_workers = codes "worker.list=w1\nworker.w1.retries=1\n"

abbrev pub default_map : List ℕ
default_map = codes "/*=w1\n"
