-- The one pass comes out.
use Rattle.std.proofs.Common.{◌≡◌, ◌∙◌, List, Some, sym, ap, subst}
use lib.ListN.{get_elem?}
use Rattle.lb_passes.specs.Holds.{entries_in, own_in}
use Rattle.lb_passes.specs.PassDesks.{view_of}
use Rattle.lb_passes.specs.Placed.{IsBack}
use Rattle.lb_passes.specs.declared.pass.Pass.{Pass}
use Rattle.lb_passes.proofs.PlacedLaws.{last_of_one, never_none, one_of}
use Rattle.lb_passes.proofs.placed_desk.PlacedDesk.into_pass.Goals as goal

pub returns-clause-back : goal.returns-clause-back
returns-clause-back g c =
    let placed = c.args.self.placed in
    let one = one_of c.args.self.desk.passes placed.only in
    let is = last_of_one c.pop.new.self c.in-Some.pass one.0 (sym one.1 ∙ sym c.into_passes-passes.ensures ∙ c.in-Some.ensures.some) in
    subst (λ (p : Pass). IsBack g.P.PassPlace.table g.P.PassPlace.origin g.P.PassPlace.given p) (sym is) (placed.back one.0 (ap (λ (xs : List Pass). get_elem? xs 0) one.1))

pub returns-clause-number : goal.returns-clause-number
returns-clause-number g c =
    let placed = c.args.self.placed in
    let one = one_of c.args.self.desk.passes placed.only in
    let is = last_of_one c.pop.new.self c.in-Some.pass one.0 (sym one.1 ∙ sym c.into_passes-passes.ensures ∙ c.in-Some.ensures.some) in
    placed.caller one.0 (ap (λ (xs : List Pass). get_elem? xs 0) one.1) ∙ ap (λ (p : Pass). Some p.number) (sym is)

pub returns-clause-own : goal.returns-clause-own
returns-clause-own g c =
    let placed = c.args.self.placed in
    let one = one_of c.args.self.desk.passes placed.only in
    let is = last_of_one c.pop.new.self c.in-Some.pass one.0 (sym one.1 ∙ sym c.into_passes-passes.ensures ∙ c.in-Some.ensures.some) in
    subst (λ (p : Pass). own_in (view_of p) ≡ entries_in c.args.self.desk.desk.receipts) (sym is) (placed.owns one.0 (ap (λ (xs : List Pass). get_elem? xs 0) one.1))

pub unreachable-requires : goal.unreachable-requires
unreachable-requires g c =
    let one = one_of c.args.self.desk.passes c.args.self.placed.only in
    absurd (never_none one.0 c.args.self.desk.passes one.1 (sym c.into_passes-passes.ensures ∙ c.in-None.ensures.none.0))
