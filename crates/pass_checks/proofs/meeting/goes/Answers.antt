-- The passes of the one book.
use Rattle.std.proofs.Common.{rules, refl}
use Rattle.pass_checks.proofs.NoteLaws.{belong, place_of}
use Rattle.pass_checks.proofs.meeting.goes.Goals as goal

pub go_in-requires : goal.go_in-requires
go_in-requires g c = (
  search rules,
  (
    search rules,
    (
      search rules,
      record {
        of = place_of _ _ c.in_ok-book.passes c.in_ok-book.ensures;
        dealt = belong _ _ c.in_ok-book.passes c.in_ok-book.ensures;
        two = refl;
      },
    ),
  ),
)
