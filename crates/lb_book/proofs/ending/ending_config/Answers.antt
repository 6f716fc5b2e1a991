use Rattle.std.proofs.Common.{ℕ, ◌<◌, ◌^◌, List, length, sym, ◌∙◌, subst, ap}
use Rattle.lb_model.specs.Multiple.{multiple_of}
use Rattle.lb_model.specs.Ranges.{AreInRange, IsCount, factors_in}
use Rattle.lb_model.specs.declared.member.MemberConfig.{MemberConfig}
use Rattle.lb_book.specs.Ending.{AreSettled}
use Rattle.lb_book.proofs.ChoiceLaws.{nobody}
use Rattle.lb_book.proofs.EndedLaws.{settled_narrow, settled_ranges}
use Rattle.lb_book.proofs.ending.ending_config.Goals as goal

pub invariant_of-result : goal.invariant_of-result
invariant_of-result c =
    let are : AreSettled c.args.config.now.members c.args.rows.now (length c.args.config.now.members) c.in_ok-members.members.items =
    rw c.as_slice.ensures at c.in_ok-members.ensures in
    record {
      count = subst (λ (n : ℕ). IsCount n) (sym (ap length c.from_vec.ensures ∙ are.whole)) c.args.config.now.count;
      in_range = subst (λ (ms : List MemberConfig). AreInRange ms) (sym c.from_vec.ensures)
          (settled_ranges c.args.config.now.members c.args.rows.now c.in_ok-members.members.items are c.requires.whole c.requires.ranges);
      maintains = c.args.config.now.maintains;
      recovers = c.args.config.now.recovers;
      narrow = subst (λ (ms : List MemberConfig). multiple_of (factors_in ms) < 2 ^ 32) (sym c.from_vec.ensures)
          (settled_narrow c.args.config.now.members c.args.rows.now c.in_ok-members.members.items are c.requires.whole (c.requires.narrow nobody));
    }
