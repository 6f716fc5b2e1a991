-- The pass stays in its place when a note is made of it.
use Rattle.std.proofs.Common.{◌∙◌, List, ap, arith}
use lib.ListN.{get_elem?}
use Rattle.lb_book.specs.Desks.{DeskState}
use Rattle.lb_passes.specs.declared.pass.Pass.{Pass}
use Rattle.lb_passes.proofs.PlacedLaws.{one_of, own_noted, placed_stay}
use Rattle.lb_passes.proofs.placed_desk.PlacedDesk.note.Goals as goal

pub note-requires : goal.note-requires
note-requires g c = record { known = omega (arith, c.args.self.now.placed.sized) }

pub invariant_of-self : goal.invariant_of-self
invariant_of-self g c = record {
  placed = placed_stay _ _ _ _ _ c.args.self.now.placed c.note.ensures.same.stay (ap (λ (d : DeskState). d.caller) c.note.ensures.same.desk) (ap (λ (d : DeskState). d.sizes) c.note.ensures.same.desk)
      (own_noted _ _ c.note.ensures.views c.note.ensures.same.desk c.args.self.now.placed.owns);
}

pub returns-clause-of : goal.returns-clause-of
returns-clause-of g c =
    let placed = c.args.self.now.placed in
    let one = one_of c.args.self.now.desk.passes placed.only in
    let at = ap (λ (xs : List Pass). get_elem? xs 0) one.1 in
    (c.note.ensures.note one.0 at).of ∙ (placed.back one.0 at).of
