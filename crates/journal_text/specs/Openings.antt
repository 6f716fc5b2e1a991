-- The opening that the lines before an entry say, and whether a segment may begin with it.
use Rattle.std.specs.Prelude.{◌≡◌, ℕ, ◌<◌, ◌≤◌, ◌==◌, List, [], length, count_by, slice_index_or}
use Rattle.lb_model.specs.Tickets.{Ticket}
use Rattle.lb_model.specs.declared.config.LbConfig.{LbConfig}
use Rattle.lb_model.specs.declared.member.MemberConfig.{MemberConfig}
use Rattle.lb_model.specs.declared.opening.Opening.{Opening}
use Rattle.lb_model.specs.declared.segment.Segment.{Segment}
use Rattle.lb_model.specs.declared.view.MemberRow.{MemberRow}
use Rattle.journal_text.specs.declared.line.Beginning.{Beginning}
use Rattle.journal_text.specs.declared.line.MemberValues.{MemberValues}
use Rattle.journal_text.specs.declared.draft.OpeningDraft.{OpeningDraft}

-- the configuration and the row of a member's line; the tickets are counted where the opening is whole
abbrev pub config_of : (name route : List ℕ) → MemberValues → MemberConfig
config_of name route v = record {
  name = name;
  route = route;
  factor = v.factor;
  distance = v.distance;
  activation = v.activation;
  redirect = v.redirect;
  pool = v.pool;
}

abbrev pub row_of : (name : List ℕ) → MemberValues → MemberRow
row_of name v = record {
  name = name;
  state = v.state;
  load = v.load;
  busy = 0;
  activation = v.activation;
  factor = v.factor;
  distance = v.distance;
  redirect = v.redirect;
}

-- the first n rows have the count of the tickets on their members, and are as they were in all else
pub record AreCounted (out : List Ticket) (n : ℕ) (old new : List MemberRow) : Type 0 where
  pub whole : length new ≡ length old
  pub below : (m : ℕ) (d : MemberRow) → m < n → m < length old
      → slice_index_or new m d ≡ record (slice_index_or old m d) { busy = count_by (λ x. x.1 == m) out }
  pub above : (m : ℕ) (d : MemberRow) → n ≤ m → slice_index_or new m d ≡ slice_index_or old m d

-- the configuration that the lines say, each value in its range
pub record IsConfigured (d : OpeningDraft) (c : LbConfig) : Type 0 where
  pub method : c.method ≡ d.values.method
  pub sticky : c.sticky ≡ d.values.sticky
  pub force : c.force ≡ d.values.force
  pub direct : c.direct ≡ d.values.direct
  pub maintain : c.maintain ≡ d.values.maintain
  pub recover : c.recover ≡ d.values.recover
  pub members : c.members ≡ d.members

-- the opening that the lines say
pub record IsOpened (d : OpeningDraft) (b : Beginning) (o : Opening) : Type 0 where
  pub config : IsConfigured d o.config
  pub rows : AreCounted d.out (length d.rows) d.rows o.rows
  pub out : o.out ≡ d.out
  pub next : o.next ≡ b.next
  pub at : o.at ≡ b.at
  pub maintained : o.maintained ≡ b.maintained
  pub chosen : o.chosen ≡ b.chosen

-- a segment of these rules that begins with the opening that the lines say, and has no entries yet
pub record Begins (rules : ℕ) (d : OpeningDraft) (b : Beginning) (s : Segment) : Type 0 where
  pub ruled : s.rules ≡ rules
  pub opening : IsOpened d b s.opening
  pub entries : s.entries ≡ []
