use Rattle.std.proofs.Common.{◌≡◌, ℕ, ◌<◌, length, get_or, take, ◌∙◌, ap, sym, arith}
use Rattle.std.proofs.lemmas.List.{get_or_default}
use Rattle.lb_model.specs.Journal.{each}
use Rattle.lb_rules.specs.declared.standing.Standing.{Standing}
use Rattle.lb_book.specs.Commanded.{setting_commanded}
use Rattle.lb_book.proofs.CommandLaws.{each-set}
use Rattle.lb_book.proofs.commanded.put_factors.Goals as goal

pub loop-i-preserved : goal.loop-i-preserved
loop-i-preserved c = λ d.
    let within : c.loop-i.i < length c.args.rows.now = omega arith in
    each-set _ _ _ _ (omega (arith, c.loop-i.auto.table, c.requires, within)) (c.loop-i.invariant d)
    (c.factor_commanded.ensures
    ∙ ap (λ (r : Standing). (setting_commanded c.args.command.now c.loop-i.i r).factor) (get_or_default c.args.rows.now c.loop-i.i _ d within))

pub returns : goal.returns
returns c = record {
  front = λ d.
      let end : c.loop-i.i ≡ length c.args.rows.now = omega arith in
      ap (λ (n : ℕ). take n c.loop-i.table) (sym end) ∙ c.loop-i.invariant d
      ∙ ap (λ (n : ℕ). each n (λ m. (setting_commanded c.args.command.now m (get_or c.args.rows.now m d)).factor)) end;
}
