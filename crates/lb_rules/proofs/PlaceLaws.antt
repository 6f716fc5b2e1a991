-- Who is chosen has a place left.
use Rattle.std.proofs.Common.{◌≡◌, ◌<◌, ℕ, Bool, true, not, ◌&&◌, List, length, Option, Some, None, sym, subst, inl, inr}
use Rattle.std.specs.Prelude.{nat_lt, slice_index_or}
use Rattle.std.proofs.lemmas.Bool.{and_parts, cases_Bool, ltb-true}
use Rattle.std.proofs.lemmas.List.{get_or_default}
use Rattle.lb_model.specs.Free.{is_in, is_ready, is_error, is_active, is_stopped}
use Rattle.lb_model.specs.Choice.{member_within}
use Rattle.lb_model.specs.declared.ask.Ask.{Ask}
use Rattle.lb_model.specs.declared.config.LbConfig.{LbConfig}
use Rattle.lb_model.specs.declared.journal.Answer.{Answer}
use Rattle.lb_model.specs.declared.journal.How.{How}
use Rattle.lb_rules.specs.declared.standing.Standing.{Standing}
use Rattle.lb_rules.specs.declared.among.Among.{Among}
use Rattle.lb_rules.specs.Least.{IsLeastRow}
use Rattle.lb_rules.specs.Picks.{HasRoomAt, HasRoomFor, home_of}
use Rattle.lb_rules.specs.Standings.{counted_row, passes, serves_row}

room_of : (right tried active : Bool) (busy pool : ℕ) → ((right && (not tried && nat_lt busy pool)) && active) ≡ true → busy < pool
room_of right tried active busy pool is =
    let free = and_parts (right && (not tried && nat_lt busy pool)) active is in
    let roomy = and_parts right (not tried && nat_lt busy pool) free.0 in
    let parts = and_parts (not tried) (nat_lt busy pool) roomy.1 in
    ltb-true busy pool parts.1

-- A row that passes has a place left in its pool.
passes_room : (among : Among) (ask : Ask) (m : ℕ) (row : Standing) → passes among ask m row ≡ true → row.busy < row.pool
passes_room Among.Usable ask m row is =
    room_of (is_ready row.state) (is_in ask.tried m) (is_active (counted_row ask m row)) row.busy row.pool is
passes_room Among.Revivable ask m row is =
    room_of (is_error row.state) (is_in ask.tried m) (is_active (counted_row ask m row)) row.busy row.pool is

-- The least row has a place left in its pool.
pub least_room : (among : Among) (rows : List Standing) (ask : Ask) (begin m : ℕ) → IsLeastRow among rows ask begin (length rows) m → HasRoomAt rows m
least_room among rows ask begin m first = (first.within, λ d. passes_room among ask m (slice_index_or rows m d) (first.passing d))

pub chosen_room : (rows : List Standing) (a : Answer) (m next : ℕ) (how : How) (probe : Bool) → a ≡ Answer.Chosen m next how probe
    → HasRoomAt rows m → HasRoomFor rows a
chosen_room rows a m next how probe is room = subst (λ (b : Answer). HasRoomFor rows b) (sym is) room

-- A member that serves has one.
serves_room : (ask : Ask) (m : ℕ) (row : Standing) → serves_row ask m row ≡ true → row.busy < row.pool
serves_room ask m row is =
    room_of (is_ready row.state) (is_in ask.tried m) (not (is_stopped (counted_row ask m row))) row.busy row.pool is

pub place_room : (rows : List Standing) (ask : Ask) (m : ℕ) (e : Standing) → m < length rows → serves_row ask m (slice_index_or rows m e) ≡ true
    → HasRoomAt rows m
place_room rows ask m e within is = (
  within,
  λ d. subst (λ (r : Standing). r.busy < r.pool) (get_or_default rows m e d within) (serves_room ask m (slice_index_or rows m e) is),
)

-- The member that an ask is routed to is there.
member_there : (n : ℕ) (routed : Option ℕ) (m : ℕ) → member_within n routed ≡ Some m → m < n
member_there n None m is = cc
member_there n (Some j) m is =
    elim (cases_Bool (nat_lt j n)) [
      | inl below ↦
          let found : Some j ≡ Some m = rw below at is in
          let same : j ≡ m = cc in
          subst (λ (k : ℕ). k < n) same (ltb-true j n below)
      | inr above ↦ let none : None ≡ Some m = rw above at is in cc
    ]

pub home_there : (config : LbConfig) (ask : Ask) (m : ℕ) → home_of config ask ≡ Some m → m < length config.members
home_there config ask m is =
    elim (cases_Bool config.sticky) [
      | inl sticky ↦ let found : member_within (length config.members) ask.routed ≡ Some m = rw sticky at is in member_there (length config.members) ask.routed m found
      | inr free ↦ let none : None ≡ Some m = rw free at is in cc
    ]
