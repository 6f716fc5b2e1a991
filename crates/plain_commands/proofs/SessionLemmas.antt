-- A session over memory, and the text that is printed of it, put together from their parts.
use Rattle.std.proofs.Common.{◌≡◌, ℕ, List, [], ◌++◌, Option, Some, None, Result, Ok, Err, IfOk, OnOk, IsSomeAnd, refl, sym, ap, subst, ◌∙◌, append_assoc}
use Rattle.jk_io.specs.Memory.{MemLinkState}
use Rattle.jk_io.specs.MemReaches.{MemReachState}
use Rattle.jk_io.specs.declared.reaching.Talk.{Talk}
use Rattle.lb_model.specs.declared.served.Served.{Served}
use Rattle.lb_book.specs.Desks.{DeskState}
use Rattle.lb_book.specs.Journal.{Journal}
use Rattle.lb_book.specs.PlainDesks.{plain_state}
use Rattle.client_session.specs.Parts.{HasParts}
use Rattle.client_session.specs.Requests.{Visit}
use Rattle.client_session.specs.Sessions.{Serves}
use Rattle.client_session.specs.Standings.{ClientStanding}
use Rattle.client_session.specs.Whole.{HoldsOfEach}
use Rattle.client_session.specs.declared.ending.SessionEnd.{SessionEnd}
use Rattle.client_session.specs.declared.ending.SessionStop.TheVariants as stop
use Rattle.client_session.specs.declared.ending.Why.TheVariants as why
use Rattle.plain_commands.specs.Dry.{IsSessionRun, first_standing}
use Rattle.plain_commands.specs.DryLines.{dry_text}

-- what is known at first of these, where nothing of the client's bytes was read
abbrev pub first_of : DeskState → (clock : List ℕ) → MemReachState → MemLinkState → ClientStanding
first_of desk clock reach client = record {
  desk = record { state = desk; clock = Some clock };
  reach = record { talks = Some reach.book.talks; faults = reach.faults };
  client = record { incoming = Some client.incoming; received = Some client.received; sent = Some client.sent; faults = client.faults };
  inbox = [];
}

-- it is the first standing where nothing was done yet
pub first_is : (desk : DeskState) (clock : List ℕ) (reach : MemReachState) (client : MemLinkState) (books : List Journal)
    → desk ≡ plain_state books [] [] 0 0 0 → clock ≡ [] → reach.book.talks ≡ [] → reach.faults ≡ 0
    → client.received ≡ [] → client.sent ≡ [] → client.faults ≡ 0
    → first_of desk clock reach client ≡ first_standing books client.incoming
first_is desk clock reach client books d k talks faults received sent failed =
    rw (d, k, talks, faults, received, sent, failed) refl

-- what a session's contract says of the way that it went
pub run_from : (v v' : Visit) (first : ClientStanding) (at_first at_last : List ℕ → ClientStanding) (puts : List Served → Type 0) (end : SessionEnd) (talks : List Talk) (sent : List ℕ)
    → (way : Serves v at_first at_last puts end) → v ≡ v' → at_first [] ≡ first
    → (at_last way.inbox).reach.talks ≡ Some talks → (at_last way.inbox).client.sent ≡ Some sent
    → ((at_last way.inbox).reach.faults ≡ 0) × ((at_last way.inbox).client.faults ≡ 0)
    → HasParts v (at_first []) (at_last way.inbox) end → (end.stop ≡ stop.Closed why.Idle → ⊥)
    → HoldsOfEach v end → IsSessionRun v' first talks sent end way.gained
run_from v v' first at_first at_last puts end talks sent way same begun talked written calm parts awake each =
    subst (λ (w : Visit). IsSessionRun w first talks sent end way.gained) same (subst (λ (s : ClientStanding). IsSessionRun v s talks sent end way.gained) begun (record {
      last = at_last way.inbox;
      session = way.session;
      talked = talked;
      written = written;
      calm = calm;
      parts = parts;
      awake = awake;
      each = each;
    }))

-- its rows are those that were listed
pub run_listed : (v : Visit) (first : ClientStanding) (talks : List Talk) (sent : List ℕ) (end : SessionEnd) (rows gained : List Served) → rows ≡ gained
    → IsSessionRun v first talks sent end gained → IsSessionRun v first talks sent end rows
run_listed v first talks sent end rows gained same run = subst (λ (listed : List Served). IsSessionRun v first talks sent end listed) (sym same) run

-- ---- texts

-- a word and a number that were added, as one text
pub as_words : {T E : Type 0} (result : Result T E) (before now word number : List ℕ)
    → OnOk result (now ≡ before ++ word ++ number) → OnOk result (now ≡ before ++ (word ++ number))
as_words (Ok t) before now word number added = added ∙ append_assoc before word number
as_words (Err e) before now word number added = tt

-- the lines with these words
pub with_words : {E : Type 0} (shown : Option (List ℕ)) (words : List ℕ) (talks : List Talk) (sent : List ℕ) (result : Result (List ℕ) E)
    → IsSomeAnd shown (λ w. words ≡ w) → IfOk result (λ text. text ≡ dry_text talks sent words)
    → IfOk result (λ text. IsSomeAnd shown (λ w. text ≡ dry_text talks sent w))
with_words (Some w) words talks sent (Ok text) same told = told ∙ ap (λ (ws : List ℕ). dry_text talks sent ws) same
with_words (Some w) words talks sent (Err e) same told = tt
with_words None words talks sent result same told = absurd same
