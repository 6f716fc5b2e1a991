use Rattle.gear_parts.proofs.gears.take_gear.Goals as goal

pub returns-clause-ok : goal.returns-clause-ok
returns-clause-ok g c =
    let made = c.in_ok-gear.ensures in record {
      gear = c.in_ok-gear.gear;
      added = c.push_reserved.ensures.items;
      handed = made.handed;
      came_back = made.same;
      counted = made.one_more;
      no_fewer = made.cause.no_fewer;
      made = record { few = made.few; none_left = made.none_left; no_talk = made.no_talk };
      idle = made.idle;
      suited = made.suited;
    }
