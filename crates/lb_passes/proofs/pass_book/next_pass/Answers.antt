-- The next number goes to a new caller.
use Rattle.std.proofs.Common.{◌∙◌, ap, arith, refl, subst, sym}
use Rattle.atomic_table.specs.Table.{Me}
use Rattle.lb_book.specs.Journal.{Journal}
use Rattle.lb_passes.specs.Holds.{IsIdle}
use Rattle.lb_passes.specs.declared.pass_view.PassView.{PassView}
use Rattle.lb_passes.proofs.JoinLaws.{splits}
use Rattle.lb_passes.proofs.pass_book.next_pass.Goals as goal

pub split_seat-seat-requires : goal.split_seat-seat-requires
split_seat-seat-requires c =
    (c.requires.of, omega (arith, c.args.book.now.words), splits _ _ _ c.args.first.now.idle.turn (c.args.first.now.root c.requires.root) (omega (arith, c.requires.few, c.requires.next)))

pub invariant_of-result : goal.invariant_of-result
invariant_of-result c =
    let is = c.split_seat-seat.ensures.4 in
    record {
      numbered = ap (λ (m : Me Journal PassView). m.0.number) is ∙ c.requires.next;
      idle = subst (λ (m : Me Journal PassView). IsIdle m) (sym is) (record { turn = refl; empty = refl; owns = refl });
      root = λ none. absurd (omega (arith, none, c.requires.above));
    }
