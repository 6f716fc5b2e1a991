-- The rule of callers that take turns at a Book, which holds between any two of their steps.
-- The table has three words, the turns drawn, the turns served and the count of all entries, and one slot, for the Book.
use Rattle.std.specs.Prelude.{◌≡◌, ℕ, ◌+◌, ◌%◌, ◌^◌, ◌<◌, ◌≤◌, Bool, true, false, List, [], ◌∷◌, length}
use mathlib.Core.Option.{Option, none, some}
use lib.ListN.{get_elem?}
use Rattle.atomic_table.specs.Table.{State}
use Rattle.lb_model.specs.declared.journal.Entry.{Entry}
use Rattle.lb_book.specs.Journal.{IsSound, Journal}
use Rattle.lb_book.specs.Histories.{BeginsWith, IsHistory, IsHistoryOf, own_of}
use Rattle.lb_passes.specs.declared.pass_view.Origin.{Origin}
use Rattle.lb_passes.specs.declared.pass_view.PassView.{PassView}
use Rattle.lb_passes.specs.declared.pass_view.Turn.{Turn}
use Rattle.lb_passes.specs.declared.pass_view.Turn.TheVariants.{Idle, Waits, Out, Spent}

-- Caller n's entries are carried, and they are es.
pub record Carries (owns : List (ℕ × List Entry)) (n : ℕ) (es : List Entry) : Type 0 where
  pub place : ℕ
  pub found : get_elem? {A = ℕ × List Entry} owns place ≡ some (n, es)

-- A caller that was joined to another knows nothing any more.
abbrev pub IsLive : Turn → Type 0
IsLive Idle = Unit {0}
IsLive (Waits t) = Unit {0}
IsLive (Out t) = Unit {0}
IsLive Spent = ⊥

-- The state of the queue: whether the Book is out, how many turns were served, and the numbers of the callers that wait, the
-- first of which is served.
pub record Queue : Type 0 where
  pub out : Bool
  pub served : ℕ
  pub waiting : List ℕ

-- A caller that waits has its place in the queue; at the first place it may take the Book.
pub record IsWaiting (q : Queue) (v : PassView) (t : ℕ) : Type 0 where
  pub place : ℕ
  pub turn : t ≡ q.served + place
  pub queued : get_elem? q.waiting place ≡ some v.number
  pub home : place ≡ 0 → q.out ≡ false
  pub own : List Entry
  pub carried : Carries v.owns v.number own

-- A caller that has the Book is the first one, and has seen all.
pub record HasTurn (q : Queue) (log : List Entry) (v : PassView) (t : ℕ) : Type 0 where
  pub turn : t ≡ q.served
  pub queued : get_elem? q.waiting 0 ≡ some v.number
  pub taken : q.out ≡ true
  pub all_seen : v.seen ≡ log
  pub own : List Entry
  pub carried : Carries v.owns v.number own

abbrev pub TurnFits : Queue → (log : List Entry) → PassView → Turn → Type 0
TurnFits q log v Idle = (n k : ℕ) (es : List Entry) → Carries v.owns n es → get_elem? q.waiting k ≡ some n → ⊥
TurnFits q log v (Waits t) = IsWaiting q v t
TurnFits q log v (Out t) = HasTurn q log v t
TurnFits q log v Spent = (n : ℕ) (es : List Entry) → Carries v.owns n es → ⊥

-- The sound Book b has this whole history, and counted each of its entries once. One that is never cut has all of them.
pub record IsBookOf (o : Origin) (log : List Entry) (b : Journal) : Type 0 where
  pub whole : IsHistoryOf o.opening log b
  pub sound : IsSound b
  pub counted : b.added ≡ o.added + length log
  pub uncut : o.cut_at ≡ 0 → b.opening ≡ o.opening

-- A caller's view is true.
pub record ViewFits (o : Origin) (q : Queue) (given : ℕ) (log : List Entry) (v : PassView) : Type 0 where
  pub origin : IsLive v.turn → v.origin ≡ o
  pub seen : BeginsWith log v.seen
  pub met : BeginsWith log v.met
  pub owns : (n : ℕ) (es : List Entry) → Carries v.owns n es → (n < given) × (es ≡ own_of n log)
  pub root : v.roots ≡ true → (v.given ≡ given) × (es : List Entry) × Carries v.owns 0 es
  pub turn : TurnFits q log v v.turn

-- The Book is in its slot with the whole history, or out with the first caller of the queue.
abbrev pub SlotFits : Origin → (waiting : List ℕ) → (log : List Entry) → List (Option Journal) → (out : Bool) → Type 0
SlotFits o waiting log homes false = (b : Journal) × (homes ≡ some b ∷ []) × IsBookOf o log b
SlotFits o waiting log homes true = (homes ≡ none ∷ []) × (0 < length waiting)

-- The rule, for a history of this origin: `log` is all of it, also where the Book was cut, and `given` numbers were given to
-- callers.
pub record IsPassTable (o : Origin) (st : State Journal PassView) : Type 0 where
  pub queue : Queue
  pub given : ℕ
  pub log : List Entry
  pub words : st.words ≡ ((queue.served + length queue.waiting) % 2 ^ 64) ∷ (queue.served % 2 ^ 64) ∷ (length log % 2 ^ 64) ∷ []
  pub few : given ≤ 64
  pub queued : (k n : ℕ) → get_elem? queue.waiting k ≡ some n → n < given
  pub apart : (j k n : ℕ) → get_elem? queue.waiting j ≡ some n → get_elem? queue.waiting k ≡ some n → j ≡ k
  pub history : IsHistory o.opening log
  pub numbered : (n : ℕ) → given ≤ n → own_of n log ≡ []
  pub slot : SlotFits o queue.waiting log st.homes queue.out
  pub fits : (j : ℕ) (u : PassView) → get_elem? st.views j ≡ some u → ViewFits o queue given log u
  pub alone : (i j n : ℕ) (u v : PassView) (es fs : List Entry) → get_elem? st.views i ≡ some u → get_elem? st.views j ≡ some v
      → Carries u.owns n es → Carries v.owns n fs → i ≡ j

-- The first caller of a history that begins here: it gives the numbers, and has the first one.
abbrev pub first_view : Origin → PassView
first_view o = record {
  origin = o;
  number = 0;
  turn = Idle;
  seen = [];
  met = [];
  owns = (0, []) ∷ [];
  roots = true;
  given = 1;
}
