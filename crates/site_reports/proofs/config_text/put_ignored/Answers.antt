use Rattle.std.proofs.Common.{◌≡◌, ◌+◌, ◌<◌, ◌++◌, ◌∙◌, ℕ, List, [], length, take, refl, sym, ap, arith}
use Rattle.std.proofs.lemmas.List.{append-nil, append_assoc, take_more}
use Rattle.std.proofs.lemmas.List.Concat.{flat_map-append}
use Rattle.std.proofs.lemmas.Option.{slice_get-get_or}
use Rattle.std.specs.List.{flat_map, slice_get}
use Rattle.site_reports.specs.ConfigText.{ignored_at, ignored_line}
use Rattle.site_reports.proofs.config_text.put_ignored.Goals as goal

-- one line more
line_more : (entries : List (ℕ × List ℕ)) (i : ℕ) → i < length entries → flat_map ignored_line (take (i + 1) entries) ≡ flat_map ignored_line (take i entries) ++ ignored_at (slice_get entries i)
line_more entries i h =
    let none : ℕ × List ℕ = (0, []) in
    rw (take_more entries i none h, flat_map-append, slice_get-get_or entries i none h, append-nil) refl

pub loop-place-preserved : goal.loop-place-preserved
loop-place-preserved c =
    let entries = c.args.ignored.now in
    let i = c.loop-place.place in
    c.in_ok-put_ignored_at.ensures
    ∙ ap (λ (out : List ℕ). out ++ ignored_at (slice_get entries i)) c.loop-place.invariant
    ∙ append_assoc c.args.out.now (flat_map ignored_line (take i entries)) (ignored_at (slice_get entries i))
    ∙ ap (λ (more : List ℕ). c.args.out.now ++ more) (sym (line_more entries i (omega arith)))
