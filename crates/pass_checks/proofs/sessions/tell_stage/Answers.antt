-- The passes of the one book, which know of its one member, and that both came back.
use Rattle.std.proofs.Common.{◌∙◌, ap, arith, refl}
use Rattle.lb_model.specs.Journal.{members}
use Rattle.pass_checks.proofs.NoteLaws.{belong, both_back, place_of}
use Rattle.lb_passes.proofs.PlacedLaws.{new_origin}
use Rattle.lb_passes.specs.declared.pass_view.Origin.{Origin}
use Rattle.pass_checks.proofs.sessions.tell_stage.Goals as goal

pub over_list-requires-clause-pair : goal.over_list-requires-clause-pair
over_list-requires-clause-pair g c κs within = record {
  of = place_of _ _ c.in_ok-book.passes c.in_ok-book.ensures;
  dealt = belong _ _ c.in_ok-book.passes c.in_ok-book.ensures;
  two = refl;
}

pub over_list-requires-clause-one : goal.over_list-requires-clause-one
over_list-requires-clause-one g c κs within =
    ap (λ (o : Origin). members o.opening) (new_origin _ _ 2 _ (omega arith) c.in_ok-book.ensures) ∙ c.requires.one

pub close_passes-requires : goal.close_passes-requires
close_passes-requires g c = record { all = both_back _ _ c.in_ok-book.passes _ c.in_ok-book.ensures c.in_ok-left.ensures }
