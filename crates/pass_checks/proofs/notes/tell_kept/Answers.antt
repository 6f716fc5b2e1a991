-- The passes of the one book, and that both came back.
use Rattle.std.proofs.Common.{refl}
use Rattle.pass_checks.proofs.NoteLaws.{belong, both_back, place_of}
use Rattle.pass_checks.proofs.notes.tell_kept.Goals as goal

pub meet_in-requires : goal.meet_in-requires
meet_in-requires g c = record {
  pair = record {
    of = place_of _ _ c.in_ok-book.passes c.in_ok-book.ensures;
    dealt = belong _ _ c.in_ok-book.passes c.in_ok-book.ensures;
    two = refl;
  };
}

pub close_passes-requires : goal.close_passes-requires
close_passes-requires g c = record { all = both_back _ _ c.in_ok-book.passes c.in_ok-back.back c.in_ok-book.ensures c.in_ok-back.ensures }
