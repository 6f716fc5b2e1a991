-- The balancer as a Book's journal leaves it, which the Book keeps beside, and where each ticket came back.
use Rattle.std.specs.Prelude.{◌≡◌, ℕ, ◌+◌, ◌*◌, ◌^◌, ◌<◌, ◌≤◌, List, length, reverse, Option, IfSome, slice_index_or}
use Rattle.lb_model.specs.Journal.{members, next_of, moment_of, maintained_of, last_chosen}
use Rattle.lb_model.specs.Settings.{activation_of, distance_of, factor_of, redirect_of, pool_of, unit_of}
use Rattle.lb_model.specs.Tickets.{out, busy_of}
use Rattle.lb_model.specs.States.{state_of}
use Rattle.lb_model.specs.Loads.{load_of}
use Rattle.lb_model.specs.Legal.{IsLegal}
use Rattle.lb_model.specs.declared.journal.Entry.{Entry}
use Rattle.lb_model.specs.declared.opening.Opening.{Opening}
use Rattle.lb_rules.specs.declared.standing.Standing.{Standing}
use Rattle.lb_rules.specs.Returns.{AreReturns}
use Rattle.lb_book.specs.declared.present.Present.{Present}

-- The row of member m after p, with the bounds that keep its numbers small.
pub record IsStanding (v : ℕ) (o : Opening) (p : List Entry) (m : ℕ) (row : Standing) : Type 0 where
  pub state : row.state ≡ state_of v o p m
  pub load : row.load ≡ load_of v o p m
  pub busy : row.busy ≡ busy_of o p m
  pub pool : row.pool ≡ pool_of o m
  pub unit : row.unit ≡ unit_of o p m
  pub activation : row.activation ≡ activation_of o p m
  pub factor : row.factor ≡ factor_of o p m
  pub distance : row.distance ≡ distance_of o p m
  pub redirect : row.redirect ≡ redirect_of o p m
  pub within : row.busy ≤ row.pool
  pub small : row.pool < 2 ^ 32
  pub narrow : row.unit < 2 ^ 32
  pub light : row.load ≤ next_of o p * 2 ^ 76
  pub target : IfSome row.redirect (λ t. t < members o)

-- The balancer after p.
pub record IsNow (v : ℕ) (o : Opening) (p : List Entry) (now : Present) : Type 0 where
  pub whole : length now.rows.items ≡ members o
  pub rows : (m : ℕ) (d : Standing) → m < members o → IsStanding v o p m (slice_index_or now.rows.items m d)
  pub tickets : now.out ≡ length (out o p)
  pub moment : now.at ≡ moment_of o p
  pub maintained : now.maintained ≡ maintained_of o p
  pub chosen : now.chosen ≡ last_chosen o p

-- A Book's fields, with the room for the Return of each ticket that is out.
pub record IsKept (v : ℕ) (o : Opening) (h : List Entry) (now : Present) (kept early : List (Option ℕ)) (added entries_room kept_room : ℕ) : Type 0 where
  pub legal : IsLegal v o h
  pub present : IsNow v o (reverse h) now
  pub returns : AreReturns o (reverse h) kept early
  pub room : length h + length (out o (reverse h)) ≤ entries_room
  pub returns_room : length h + length (out o (reverse h)) ≤ kept_room
  pub counted : added ≤ o.next + length h
