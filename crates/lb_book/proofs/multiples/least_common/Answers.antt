use Rattle.lb_book.proofs.MultipleLaws.{none_among, some_is_least}
use Rattle.lb_book.proofs.multiples.least_common.Goals as goal

pub returns : goal.returns
returns c = record {
  some = some_is_least c.lcm_of.result c.args.factors.now c.requires c.lcm_of.ensures.value;
  none = none_among c.lcm_of.result c.args.factors.now c.requires c.lcm_of.ensures.value;
}
