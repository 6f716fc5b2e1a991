-- A Book that is put back as it was.
use Rattle.std.proofs.Common.{◌≡◌, ℕ, List, Some, sym, ◌∙◌}
use Rattle.std.specs.Prelude.{slice_get, slice_set}
use Rattle.std.proofs.lemmas.List.{map-id}
use Rattle.std.proofs.lemmas.Option.{get_or_from_slice_get}
use Rattle.std.proofs.Math.Seq.{map-set_same}
use Rattle.lb_book.specs.Journal.{Journal}

pub put_back : (books shown : List Journal) (lb : ℕ) (old new : Journal) → slice_get books lb ≡ Some old → new ≡ old → books ≡ shown → slice_set books lb new ≡ shown
put_back books shown lb old new here same view =
    sym (map-id (slice_set books lb new)) ∙ map-set_same (λ (b : Journal). b) books lb new old (same ∙ sym (get_or_from_slice_get books lb old old here)) ∙ map-id books ∙ view
