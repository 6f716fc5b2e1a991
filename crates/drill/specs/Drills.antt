-- The entries of a drill's requests, those of each thread in their order. Read this after Requests.
use Rattle.std.specs.Prelude.{◌≡◌, ℕ, zero, suc, ◌<◌, ◌==◌, Bool, List, [], ◌∷◌, filter, length}
use Rattle.lb_model.specs.declared.ask.Ask.{Ask}
use Rattle.lb_model.specs.declared.journal.Answer.TheVariants as answer
use Rattle.lb_model.specs.declared.journal.Call.TheVariants as call
use Rattle.lb_model.specs.declared.journal.Entry.{Entry}
use Rattle.lb_model.specs.declared.journal.How.{How}
use Rattle.lb_model.specs.declared.journal.Kind.TheVariants as kind
use Rattle.lb_model.specs.declared.journal.Outcome.{Outcome}
use Rattle.drill.specs.Requests.{requests_of}

-- The entry is a Select that chose, and made this ticket.
pub record Chose (ticket : ℕ) (e : Entry) : Type 0 where
  pub ask : Ask
  pub member : ℕ
  pub how : How
  pub probe : Bool
  pub asked : e.call ≡ call.Select ask
  pub chose : e.answer ≡ answer.Chosen member ticket how probe

-- The entry is the Return Done of this ticket.
pub record GaveBack (ticket : ℕ) (e : Entry) : Type 0 where
  pub outcome : Outcome
  pub returned : e.call ≡ call.Return ticket outcome
  pub done : outcome.kind ≡ kind.Done

-- A request was answered whole: its Select chose, and its ticket came back Done.
pub record IsAnsweredWhole (select back : Entry) : Type 0 where
  pub ticket : ℕ
  pub chose : Chose ticket select
  pub gave_back : GaveBack ticket back

-- The entries are those of n requests, each answered whole, one after the other.
abbrev pub AreAnswered : (n : ℕ) → List Entry → Type 0
AreAnswered zero [] = Unit {0}
AreAnswered zero (e ∷ entries) = ⊥
AreAnswered (suc n) [] = ⊥
AreAnswered (suc n) (select ∷ []) = ⊥
AreAnswered (suc n) (select ∷ back ∷ entries) = IsAnsweredWhole select back × AreAnswered n entries

-- the entries of a thread's calls, in order; each thread is a session of its own number
abbrev pub entries_of : (t : ℕ) → List Entry → List Entry
entries_of t h = filter (λ e. e.session == t) h

-- In the journal the entries of each thread are, in order, those of its requests.
abbrev pub IsDrilled : (threads requests : ℕ) → List Entry → Type 0
IsDrilled threads requests h =
    (t : ℕ) → t < threads → AreAnswered (length (requests_of threads requests t)) (entries_of t h)
