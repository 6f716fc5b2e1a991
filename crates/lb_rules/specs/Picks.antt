-- The choice over the rows: which member an ask gets. Row m is that of member m, and d stands where there is no row.
use Rattle.std.specs.Prelude.{ℕ, ◌<◌, ◌==◌, ◌&&◌, Bool, not, List, length, Option, None, slice_index_or, if◌then◌else◌}
use Rattle.lb_model.specs.States.{is_balanced}
use Rattle.lb_model.specs.Choice.{IsChosenIn, IsLeastIn, IsOpenIn, IsPickIn, Seen, any_usable_in, begin_after, is_candidate_in, is_forced_in, member_within, routed_in}
use Rattle.lb_model.specs.declared.ask.Ask.{Ask}
use Rattle.lb_model.specs.declared.config.LbConfig.{LbConfig}
use Rattle.lb_model.specs.declared.journal.Answer.{Answer}
use Rattle.lb_model.specs.declared.journal.How.{How}
use Rattle.lb_rules.specs.declared.standing.Standing.{Standing}
use Rattle.lb_rules.specs.declared.among.Among.{Among}
use Rattle.lb_rules.specs.Standings.{passes, serves_row}
use Rattle.lb_rules.specs.Least.{row_before}

abbrev pub serves_at : List Standing → Standing → Ask → ℕ → Bool
serves_at rows d ask m = serves_row ask m (slice_index_or rows m d)

abbrev pub redirect_at : List Standing → Standing → ℕ → Option ℕ
redirect_at rows d m = (slice_index_or rows m d).redirect

abbrev pub passes_at : Among → List Standing → Standing → Ask → ℕ → Bool
passes_at among rows d ask m = passes among ask m (slice_index_or rows m d)

-- The member that the ask is routed to: only a sticky balancer looks at it, and only where there is one.
abbrev pub home_of : LbConfig → Ask → Option ℕ
home_of config ask = if config.sticky then member_within (length config.members) ask.routed else None

-- The members as the rows show them.
abbrev pub seen_at : List Standing → Standing → Ask → Seen
seen_at rows d ask = record {
  count = length rows;
  serves = serves_at rows d ask;
  usable = passes_at Among.Usable rows d ask;
  revivable = passes_at Among.Revivable rows d ask;
  redirect = redirect_at rows d;
  distance = λ m. (slice_index_or rows m d).distance;
  load = λ m. (slice_index_or rows m d).load;
  state = λ m. (slice_index_or rows m d).state;
}

-- The choice over the rows, and its parts.
abbrev pub routed_at : LbConfig → List Standing → Standing → Ask → Option (ℕ × How)
routed_at config rows d ask = routed_in (seen_at rows d ask) (home_of config ask)

abbrev pub is_forced_at : LbConfig → List Standing → Standing → Ask → Bool
is_forced_at config rows d ask = is_forced_in (seen_at rows d ask) (home_of config ask) config.force

abbrev pub IsOpenAt : LbConfig → List Standing → Standing → Ask → Type 0
IsOpenAt config rows d ask = IsOpenIn (seen_at rows d ask) (home_of config ask) config.force

abbrev pub any_usable_at : List Standing → Standing → Ask → Bool
any_usable_at rows d ask = any_usable_in (seen_at rows d ask)

abbrev pub is_candidate_at : (v : ℕ) → List Standing → Standing → Ask → (m : ℕ) → Bool
is_candidate_at v rows d ask m = is_candidate_in v (seen_at rows d ask) m

-- Member j comes before member m, whichever the ask is.
abbrev pub is_before_at : List Standing → Standing → (last : Option ℕ) → (j m : ℕ) → Bool
is_before_at rows d last j m =
    row_before (length rows) (begin_after last) j (slice_index_or rows j d) m (slice_index_or rows m d)

abbrev pub IsLeastAt : (v : ℕ) → List Standing → Standing → (last : Option ℕ) → Ask → (m : ℕ) → Type 0
IsLeastAt v rows d last ask m = IsLeastIn v (seen_at rows d ask) last m

abbrev pub IsChosenAt : (v : ℕ) → LbConfig → List Standing → Standing → (last : Option ℕ) → Ask → How → (m : ℕ) → Type 0
IsChosenAt v config rows d last ask how m = IsChosenIn v (seen_at rows d ask) (home_of config ask) config.force last how m

-- The answer that the rows give an ask under rules v and the number `next`, where `last` was chosen last.
abbrev pub IsPickAt : (v : ℕ) → LbConfig → List Standing → Standing → (last : Option ℕ) → (next : ℕ) → Ask → Answer → Type 0
IsPickAt v config rows d last next ask a = IsPickIn v (seen_at rows d ask) (home_of config ask) config.force last next a

-- The answer was a balanced one and no member was usable: then those that may be are revived.
abbrev pub revives_at : (v : ℕ) → List Standing → Standing → Ask → Answer → Bool
revives_at v rows d ask a = (v == 2) && (is_balanced a && not (any_usable_at rows d ask))

-- There is a row m, and a place in its member's pool is left.
abbrev pub HasRoomAt : List Standing → ℕ → Type 0
HasRoomAt rows m = (m < length rows) × ((d : Standing) → (slice_index_or rows m d).busy < (slice_index_or rows m d).pool)

-- The member that was chosen has a place left.
abbrev pub HasRoomFor : List Standing → Answer → Type 0
HasRoomFor rows (Answer.Chosen m t how probe) = HasRoomAt rows m
HasRoomFor rows Answer.NoMember = Unit {0}
HasRoomFor rows Answer.Forced = Unit {0}
HasRoomFor rows Answer.Done = Unit {0}
