use Rattle.std.proofs.Common.{◌<◌, ◌^◌, ℕ, List, length, get_or, sym, subst}
use Rattle.std.specs.Prelude.{All}
use Rattle.std.specs.Option.{SomeIff}
use Rattle.lb_model.specs.Multiple.{multiple_of}
use Rattle.lb_book.specs.Commanded.{setting_commanded}
use Rattle.lb_book.proofs.ChoiceLaws.{nobody}
use Rattle.lb_book.proofs.CommandLaws.{each-above}
use Rattle.lb_book.proofs.commanded.common_commanded.Goals as goal

pub lcm_of-requires : goal.lcm_of-requires
lcm_of-requires c =
    subst (λ (xs : List ℕ). All (λ f. 0 < f) xs) (sym (c.put_factors.ensures.front nobody))
    (each-above (length c.args.rows.now) (λ m. (setting_commanded c.args.command.now m (get_or c.args.rows.now m nobody)).factor)
    (λ m lt. c.requires.some m nobody lt))

pub returns : goal.returns
returns c = λ d.
    subst (λ (xs : List ℕ). SomeIff c.lcm_of.result (multiple_of xs < 2 ^ 32) (multiple_of xs)) (c.put_factors.ensures.front d)
    c.lcm_of.ensures.value
