-- The opening that goes on where a Book's journal ends.
use Rattle.std.specs.Prelude.{◌≡◌, ℕ, ◌<◌, ◌↔◌, not, List, [], ◌∷◌, length, filter, Option, Some, None, slice_index_or}
use Rattle.std.specs.List.{filter_map}
use Rattle.lb_model.specs.Present.{IsEnding, IsPresent}
use Rattle.lb_model.specs.Ranges.{IsInRange}
use Rattle.lb_model.specs.Tickets.{Ticket, is_returned, ticket_in}
use Rattle.lb_model.specs.declared.config.LbConfig.{LbConfig}
use Rattle.lb_model.specs.declared.journal.Entry.{Entry}
use Rattle.lb_model.specs.declared.member.MemberConfig.{MemberConfig}
use Rattle.lb_model.specs.declared.view.View.{View}
use Rattle.lb_rules.specs.declared.standing.Standing.{Standing}
use Rattle.lb_rules.specs.Returns.{IsReturnedAt}
use Rattle.lb_book.specs.Journal.{Journal, next_number, past_of}

-- The ticket, if there is one and it didn't come back.
abbrev pub still_out : (returned : Option ℕ) → Option Ticket → List Ticket
still_out None None = []
still_out None (Some x) = x ∷ []
still_out (Some n) ticket = []

-- The tickets that these entries made, and those of some tickets that p didn't return.
abbrev pub tickets_made : List Entry → List Ticket
tickets_made h = filter_map (λ e. ticket_in e.seq e.answer) h

abbrev pub unreturned : (p : List Entry) → List Ticket → List Ticket
unreturned p tickets = filter (λ x. not (is_returned x.0 p)) tickets

-- For each of these tickets the number of its Return in p, if there is one.
pub record AreEarly (p : List Entry) (out : List Ticket) (early : List (Option ℕ)) : Type 0 where
  pub at : (i : ℕ) (d : Ticket) → i < length out → IsReturnedAt p (slice_index_or out i d).0 (slice_index_or early i None)

-- For each of these entries the number of the Return of its ticket in p, if there is one.
pub record AreOwn (p h : List Entry) (kept : List (Option ℕ)) : Type 0 where
  pub at : (k : ℕ) (d : Entry) → k < length h → IsReturnedAt p (slice_index_or h k d).seq (slice_index_or kept k None)

-- A member's configuration with the setting of its row.
abbrev pub ending_member : MemberConfig → Standing → MemberConfig
ending_member c row = record {
  name = c.name;
  route = c.route;
  factor = row.factor;
  distance = row.distance;
  activation = row.activation;
  redirect = row.redirect;
  pool = c.pool;
}

-- Each such configuration is in its ranges.
abbrev pub AreEndingInRange : List MemberConfig → List Standing → Type 0
AreEndingInRange members rows =
    (m : ℕ) (c : MemberConfig) (d : Standing) → m < length rows
    → IsInRange (length rows) m (ending_member (slice_index_or members m c) (slice_index_or rows m d))

-- The first n members have the settings of their rows.
pub record AreSettled (members : List MemberConfig) (rows : List Standing) (n : ℕ) (new : List MemberConfig) : Type 0 where
  pub whole : length new ≡ n
  pub each : (m : ℕ) (c : MemberConfig) (s : Standing) (d : MemberConfig) → m < n
      → slice_index_or new m d ≡ ending_member (slice_index_or members m c) (slice_index_or rows m s)

-- The same rules of balancing, with members of such settings.
pub record IsSettled (old : LbConfig) (rows : List Standing) (new : LbConfig) : Type 0 where
  pub method : new.method ≡ old.method
  pub sticky : new.sticky ≡ old.sticky
  pub force : new.force ≡ old.force
  pub direct : new.direct ≡ old.direct
  pub maintain : new.maintain ≡ old.maintain
  pub recover : new.recover ≡ old.recover
  pub members : AreSettled old.members rows (length old.members) new.members

-- A Book's journal was cut: it goes on from an opening that is where it was, with no entry. Nothing else is to be seen.
pub record IsCut (old new : Journal) : Type 0 where
  pub ending : IsEnding old.rules old.opening (past_of old) new.opening
  pub rules : new.rules ≡ old.rules
  pub empty : new.entries ≡ []
  pub added : new.added ≡ old.added
  pub next : next_number new ≡ next_number old
  pub view : (view : View)
      → IsPresent new.rules new.opening (past_of new) view ↔ IsPresent old.rules old.opening (past_of old) view
