-- The one history of a balancer: all entries from an opening on, whoever added them, and whatever was cut since.
use Rattle.std.specs.Prelude.{◌≡◌, ℕ, ◌==◌, ◌⊎◌, Bool, true, List, [], ◌∷◌, ◌++◌, reverse, filter}
use Rattle.std.specs.List.{filter_map, list_any}
use Rattle.lb_model.specs.Legal.{IsLegal}
use Rattle.lb_model.specs.Limits.{modern_rules}
use Rattle.lb_model.specs.Present.{IsEnding}
use Rattle.lb_model.specs.Tickets.{is_returned, ticket_in}
use Rattle.lb_model.specs.declared.journal.Entry.{Entry}
use Rattle.lb_model.specs.declared.opening.Opening.{Opening}
use Rattle.lb_book.specs.Journal.{Journal}

-- The entries of caller n, in their order.
abbrev pub own_of : (n : ℕ) → List Entry → List Entry
own_of n h = filter (λ e. e.session == n) h

-- All these entries are those of caller n.
abbrev pub AreOf : (n : ℕ) → List Entry → Type 0
AreOf n [] = Unit {0}
AreOf n (e ∷ es) = (e.session ≡ n) × AreOf n es

-- Whether one of the entries made ticket t.
abbrev pub has_made : (t : ℕ) → List Entry → Bool
has_made t h = list_any (λ x. x.0 == t) (filter_map (λ e. ticket_in e.seq e.answer) h)

-- The history h begins with the entries `seen`.
pub record BeginsWith (h seen : List Entry) : Type 0 where
  pub rest : List Entry
  pub is : h ≡ seen ++ rest

-- Each ticket that a caller gives back is one that it got.
abbrev pub AreOwnReturns : List Entry → Type 0
AreOwnReturns h = (n t : ℕ) → is_returned t (own_of n h) ≡ true → has_made t (own_of n h) ≡ true

-- A history from the opening o, under rules 2: it is legal, and who gives a ticket back is who got it.
pub record IsHistory (o : Opening) (h : List Entry) : Type 0 where
  pub legal : IsLegal modern_rules o h
  pub returns : AreOwnReturns h

-- The opening `later` is the one to which the entries `front` lead from o: o itself, or what a journal of them ends with.
abbrev pub LeadsTo : Opening → (front : List Entry) → (later : Opening) → Type 0
LeadsTo o front later =
    ((front ≡ []) × (later ≡ o)) ⊎ (IsLegal modern_rules o front × IsEnding modern_rules o (reverse front) later)

-- h is the whole history of a Book from the opening o: what was cut from it, and then its kept entries.
pub record IsHistoryOf (o : Opening) (h : List Entry) (b : Journal) : Type 0 where
  pub rules : b.rules ≡ modern_rules
  pub front : List Entry
  pub leads : LeadsTo o front b.opening
  pub whole : h ≡ front ++ b.entries
