-- The end of a history: the view of it, and the opening of the journal that goes on from there.
use Rattle.std.specs.Prelude.{◌≡◌, ℕ, List, length, reverse, Some, slice_get}
use Rattle.lb_model.specs.Journal.{last_chosen, maintained_of, members, moment_of, next_of}
use Rattle.lb_model.specs.Loads.{load_of}
use Rattle.lb_model.specs.Settings.{activation_of, distance_of, factor_of, name_of, redirect_of}
use Rattle.lb_model.specs.States.{state_of}
use Rattle.lb_model.specs.Tickets.{busy_of, out}
use Rattle.lb_model.specs.declared.journal.Entry.{Entry}
use Rattle.lb_model.specs.declared.member.MemberConfig.{MemberConfig}
use Rattle.lb_model.specs.declared.opening.Opening.{Opening}
use Rattle.lb_model.specs.declared.view.MemberRow.{MemberRow}
use Rattle.lb_model.specs.declared.view.View.{View}

-- The row of member m after a history.
pub record IsPresentRow (v : ℕ) (o : Opening) (p : List Entry) (m : ℕ) (r : MemberRow) : Type 0 where
  pub name : r.name ≡ name_of o m
  pub state : r.state ≡ state_of v o p m
  pub load : r.load ≡ load_of v o p m
  pub busy : r.busy ≡ busy_of o p m
  pub activation : r.activation ≡ activation_of o p m
  pub factor : r.factor ≡ factor_of o p m
  pub distance : r.distance ≡ distance_of o p m
  pub redirect : r.redirect ≡ redirect_of o p m

-- The rows of the first n members.
pub record ArePresentRows (v : ℕ) (o : Opening) (p : List Entry) (n : ℕ) (rows : List MemberRow) : Type 0 where
  pub count : length rows ≡ n
  pub row : (m : ℕ) (r : MemberRow) → slice_get rows m ≡ Some r → IsPresentRow v o p m r

-- The view of a history.
pub record IsPresent (v : ℕ) (o : Opening) (p : List Entry) (view : View) : Type 0 where
  pub next : view.next ≡ next_of o p
  pub at : view.at ≡ moment_of o p
  pub rows : ArePresentRows v o p (members o) view.rows

-- A member's configuration after a history.
pub record IsPresentMember (o : Opening) (p : List Entry) (m : ℕ) (former c : MemberConfig) : Type 0 where
  pub name : c.name ≡ former.name
  pub route : c.route ≡ former.route
  pub pool : c.pool ≡ former.pool
  pub factor : c.factor ≡ factor_of o p m
  pub distance : c.distance ≡ distance_of o p m
  pub activation : c.activation ≡ activation_of o p m
  pub redirect : c.redirect ≡ redirect_of o p m

-- The opening that goes on where a history ends.
pub record IsEnding (v : ℕ) (o : Opening) (p : List Entry) (new : Opening) : Type 0 where
  pub next : new.next ≡ next_of o p
  pub at : new.at ≡ moment_of o p
  pub maintained : new.maintained ≡ maintained_of o p
  pub chosen : new.chosen ≡ last_chosen o p
  pub out : new.out ≡ reverse (out o p)
  pub rows : ArePresentRows v o p (members o) new.rows
  pub method : new.config.method ≡ o.config.method
  pub sticky : new.config.sticky ≡ o.config.sticky
  pub force : new.config.force ≡ o.config.force
  pub direct : new.config.direct ≡ o.config.direct
  pub maintain : new.config.maintain ≡ o.config.maintain
  pub recover : new.config.recover ≡ o.config.recover
  pub count : members new ≡ members o
  pub member : (m : ℕ) (former c : MemberConfig) → slice_get o.config.members m ≡ Some former
      → slice_get new.config.members m ≡ Some c → IsPresentMember o p m former c
