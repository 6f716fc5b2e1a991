-- All passes have the number of the first.
use Rattle.std.proofs.Common.{◌≡◌, ◌∙◌, ℕ, List, [], sym, ap, subst}
use mathlib.Core.Option.{some}
use lib.ListN.{get_elem?}
use Rattle.lb_book.specs.declared.receipt.Receipt.{Receipt}
use Rattle.lb_passes.specs.PassDesks.{IsPassDesk, desk_value}
use Rattle.lb_passes.specs.declared.pass.Pass.{Pass}
use Rattle.lb_passes.proofs.NoteLaws.{new_desk, number_all}
use Rattle.lb_passes.proofs.pass_desk.PassDesk.new.Goals as goal

pub invariant_of-result-2 : goal.invariant_of-result-2
invariant_of-result-2 g c =
    let first = subst (λ (xs : List Pass). (p : Pass) → get_elem? xs 0 ≡ some p → c.number_of-number.result ≡ p.number) c.as_slice.ensures.value c.number_of-number.ensures in
    subst (λ (hs : List (ℕ × ℕ)). IsPassDesk c.args.books.now c.into_vec-passes.result.items c.number_of-number.result hs) (sym c.new-2.ensures.items)
    (new_desk c.args.books.now c.args.passes c.into_vec-passes.result.items c.number_of-number.result c.into_vec-passes.ensures c.requires.passes first)

pub returns : goal.returns
returns g c =
    let n = c.number_of-number.result in
    let first = subst (λ (xs : List Pass). (p : Pass) → get_elem? xs 0 ≡ some p → n ≡ p.number) (c.as_slice.ensures.value ∙ c.into_vec-passes.ensures) c.number_of-number.ensures in (
      n,
      number_all c.args.passes n c.requires.passes.one first,
      ap (λ (xs : List Pass). desk_value n xs c.new.result.items c.new-2.result.items 0 0) c.into_vec-passes.ensures
          ∙ ap (λ (rs : List Receipt). desk_value n c.args.passes rs c.new-2.result.items 0 0) c.new.ensures.items
          ∙ ap (λ (hs : List (ℕ × ℕ)). desk_value n c.args.passes [] hs 0 0) c.new-2.ensures.items,
    )
