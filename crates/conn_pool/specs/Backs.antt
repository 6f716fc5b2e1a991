-- The link that a reach handed to a pool, as contracts see it: whose it is, its looks, and its home.
use Rattle.std.specs.Prelude.{Option}
use Rattle.std.specs.Option.{option_map}
use Rattle.jk_io.specs.Moments.{Moment}
use Rattle.conn_pool.specs.Reaches.{BackState}
use Rattle.conn_pool.specs.declared.idle.Idle.{Idle}
use Rattle.conn_pool.specs.declared.pool.HandedIn.{HandedIn}

-- `at` is what a link tells
abbrev pub back_of : {L : Type 0} → (at : L → Moment) → Option (HandedIn (Idle L)) → Option BackState
back_of at back = option_map (λ b. record {
  lb = b.link.value.lb;
  member = b.link.value.member;
  link = at b.link.value.link.value;
  looks = b.link.value.looks;
  home = option_map (λ at. (at.lb, at.member)) b.home;
}) back
