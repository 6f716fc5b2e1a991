-- A log of a format that asks for nothing but rows.
use Rattle.std.proofs.Common.{◌≡◌, ℕ, List, [], ◌∷◌, ◌++◌, refl, ap, ◌∙◌}
use Rattle.std.specs.Prelude.{codes}
use Rattle.std.specs.List.{All, flat_map}
use Rattle.std.proofs.lemmas.List.Elements.{All-head, All-tail}
use Rattle.lb_model.specs.declared.served.Served.{Served}
use Rattle.request_log.specs.declared.format.Part.{Part}
use Rattle.request_log.specs.declared.format.Part.TheVariants as part
use Rattle.request_log.specs.declared.seen.Seen.{Seen}
use Rattle.request_log.specs.Lines.{IsLogOf, IsOfRows, Logged, line_of, lines_of, log_of, part_text, rows_of, unseen}

part_alike : (row : Served) (seen : Seen) (p : Part) → IsOfRows p → part_text row seen p ≡ part_text row unseen p
part_alike row seen (part.Text byte) _ = refl
part_alike row seen part.Method _ = refl
part_alike row seen part.Path _ = refl
part_alike row seen part.Query _ = refl
part_alike row seen part.Status _ = refl
part_alike row seen part.Body _ = refl
part_alike row seen part.Worker _ = refl
part_alike row seen part.First _ = refl
part_alike row seen part.Client h = absurd h
part_alike row seen part.Moment h = absurd h
part_alike row seen part.Millis h = absurd h

parts_alike : (row : Served) (seen : Seen) (format : List Part) → All IsOfRows format
    → flat_map (part_text row seen) format ≡ flat_map (part_text row unseen) format
parts_alike row seen [] all = refl
parts_alike row seen (p ∷ format) all =
    ap (λ (text : List ℕ). text ++ flat_map (part_text row seen) format) (part_alike row seen p (All-head IsOfRows p format all))
    ∙ ap (λ (text : List ℕ). part_text row unseen p ++ text) (parts_alike row seen format (All-tail IsOfRows p format all))

lines_alike : (format : List Part) (logged : List Logged) → All IsOfRows format → lines_of format logged ≡ log_of format (rows_of logged)
lines_alike format [] all = refl
lines_alike format (first ∷ logged) all =
    ap (λ (text : List ℕ). (text ++ codes "\n") ++ lines_of format logged) (parts_alike first.row first.seen format all)
    ∙ ap (λ (text : List ℕ). line_of format first.row unseen ++ text) (lines_alike format logged all)

pub logs_alike : (format : List Part) (addr : List ℕ) (rows : List Served) (text : List ℕ) → All IsOfRows format → IsLogOf format addr rows text → text ≡ log_of format rows
logs_alike format addr rows text all is = is.lines ∙ (lines_alike format is.logged all ∙ ap (log_of format) is.of_rows)
