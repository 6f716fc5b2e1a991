-- The notes on a text, line after line.
use Rattle.std.proofs.Common.{◌≡◌, ℕ, List, [], ◌∷◌, ◌++◌, length, Option, Some, None, refl, sym, ◌∙◌, ap, arith, append-nil}
use Rattle.site_config.specs.Cut.{cut_at}
use Rattle.site_config.specs.Lines.{lines}
use Rattle.site_config.specs.declared.config.Config.{Config}
use Rattle.site_mounts.specs.declared.map_note.MapNote.{MapNote}
use Rattle.site_mounts.specs.declared.map_note.NoPartEffect.TheVariants as why
use Rattle.site_mounts.specs.MapNotes.{exclusion_notes, map_notes, note, notes_from}
use Rattle.site_mounts.specs.Parts.{pieces_of}
use Rattle.site_mounts.proofs.PartLemmas.{pieces_cut, pieces_one}

-- after a `;` there is a piece, be it empty
pub exclusion_noted : (line : ℕ) (text : List ℕ) → exclusion_notes line (pieces_of text) ≡ note line why.Exclusion ∷ []
exclusion_noted line text = by_cut (cut_at 59 text) refl
  where
    by_cut : (o : Option (List ℕ × List ℕ)) → cut_at 59 text ≡ o → exclusion_notes line (pieces_of text) ≡ note line why.Exclusion ∷ []
    by_cut None e = ap (exclusion_notes line) (pieces_one text e)
    by_cut (Some sides) e = ap (exclusion_notes line) (pieces_cut text sides.0 sides.1 e)

-- the notes where no line is left
pub noted_ended : (config : Config) (notes : List MapNote) (line : ℕ) (text rest : List ℕ) → length rest ≡ 0 → notes ++ notes_from config line (lines rest) ≡ map_notes config text → notes ≡ map_notes config text
noted_ended config notes line text [] h e = sym (append-nil notes) ∙ e
noted_ended config notes line text (b ∷ bs) h e = absurd (omega arith)
