-- A segment as the lines of a journal's text.
use Rattle.std.specs.Prelude.{ℕ, List, [], ◌∷◌, ◌++◌, length, map}
use Rattle.lb_model.specs.Tickets.{Ticket}
use Rattle.lb_model.specs.declared.config.LbConfig.{LbConfig}
use Rattle.lb_model.specs.declared.journal.Entry.{Entry}
use Rattle.lb_model.specs.declared.member.MemberConfig.{MemberConfig}
use Rattle.lb_model.specs.declared.opening.Opening.{Opening}
use Rattle.lb_model.specs.declared.segment.Segment.{Segment}
use Rattle.lb_model.specs.declared.view.MemberRow.{MemberRow}
use Rattle.journal_text.specs.Lines.{lines_text}
use Rattle.journal_text.specs.declared.line.BalancerValues.{BalancerValues}
use Rattle.journal_text.specs.declared.line.Beginning.{Beginning}
use Rattle.journal_text.specs.declared.line.Line.{Line}
use Rattle.journal_text.specs.declared.line.Line.TheVariants as line
use Rattle.journal_text.specs.declared.line.MemberValues.{MemberValues}

-- lb NAME METHOD STICKY FORCE DIRECT MAINTAIN RECOVER MEMBERS
abbrev pub balancer_values : LbConfig → BalancerValues
balancer_values c = record {
  method = c.method;
  sticky = c.sticky;
  force = c.force;
  direct = c.direct;
  maintain = c.maintain;
  recover = c.recover;
  members = length c.members;
}

-- member NAME ROUTE FACTOR DISTANCE ACTIVATION REDIRECT POOL STATE LOAD
abbrev pub member_values : MemberConfig → MemberRow → MemberValues
member_values c r = record {
  factor = c.factor;
  distance = c.distance;
  activation = c.activation;
  redirect = c.redirect;
  pool = c.pool;
  state = r.state;
  load = r.load;
}

abbrev pub member_line : MemberConfig → MemberRow → Line
member_line c r = line.Member c.name c.route (member_values c r)

-- a line for each member, with what its row adds
abbrev pub member_lines : List MemberConfig → List MemberRow → List Line
member_lines [] rows = []
member_lines (c ∷ members) [] = []
member_lines (c ∷ members) (r ∷ rows) = member_line c r ∷ member_lines members rows

-- lease TICKET MEMBER, for each ticket that is out
abbrev pub lease_lines : List Ticket → List Line
lease_lines out = map (λ x. line.Lease x.0 x.1) out

-- from NEXT MOMENT MAINTAINED CHOSEN
abbrev pub beginning : Opening → Beginning
beginning o = record { next = o.next; at = o.at; maintained = o.maintained; chosen = o.chosen }

-- the lines of an opening
abbrev pub opening_lines : (name : List ℕ) → Opening → List Line
opening_lines name o =
    line.Balancer name (balancer_values o.config)
    ∷ (member_lines o.config.members o.rows ++ (lease_lines o.out ++ line.From (beginning o) ∷ []))

abbrev pub entry_lines : List Entry → List Line
entry_lines entries = map (λ e. line.Entry e) entries

-- the lines of a segment whose last line says this count
abbrev pub segment_lines : (name : List ℕ) → Segment → (count : ℕ) → List Line
segment_lines name s count =
    line.Rules s.rules ∷ (opening_lines name s.opening ++ (entry_lines s.entries ++ line.End count ∷ []))

-- the text that a segment is written as: the last line has the count of its entries
abbrev pub segment_text : (name : List ℕ) → Segment → List ℕ
segment_text name s = lines_text s.rules (segment_lines name s (length s.entries))
