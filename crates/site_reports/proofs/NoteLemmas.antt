-- One line more.
use Rattle.std.proofs.Common.{◌≡◌, ℕ, ◌+◌, ◌<◌, List, [], ◌∷◌, ◌++◌, Result, Ok, length, take, get_or, true, refl, ◌∙◌, ap}
use Rattle.std.proofs.lemmas.List.{append-nil, map-append, take_more}
use Rattle.std.proofs.lemmas.Grind.{flat_map-append}
use Rattle.std.specs.List.{flat_map}
use Rattle.site_config.specs.Entries.{as_properties, as_property}
use Rattle.site_config.specs.Properties.{read_text}
use Rattle.site_config.specs.declared.error.PropsRefusal.{PropsRefusal}
use Rattle.site_config.specs.declared.config.Config.{Config}
use Rattle.site_config.specs.declared.property.Property.{Property}
use Rattle.site_config.specs.declared.property_line.PropertyLine.{PropertyLine}
use Rattle.site_reports.specs.Notes.{AreNotes, SiteKinds, note_on, notes_of, site_kinds}
use Rattle.site_reports.specs.declared.no_effect.WorkersNote.{WorkersNote}

-- the properties up to the next line
pub lines_more : (es : List PropertyLine) (i : ℕ) (d : PropertyLine) → i < length es → as_properties (take (i + 1) es) ≡ as_properties (take i es) ++ as_property (get_or es i d) ∷ []
lines_more es i d h = rw (take_more es i d h, map-append) refl

-- and the notes on them
pub notes_more : (k : SiteKinds) (ps : List Property) (es : List PropertyLine) (i : ℕ) (d : PropertyLine) → i < length es
    → flat_map (note_on k ps) (as_properties (take (i + 1) es)) ≡ flat_map (note_on k ps) (as_properties (take i es)) ++ note_on k ps (as_property (get_or es i d))
notes_more k ps es i d h =
    ap (flat_map (note_on k ps)) (lines_more es i d h)
    ∙ flat_map-append (note_on k ps) (as_properties (take i es)) (as_property (get_or es i d) ∷ [])
    ∙ ap (λ (ns : List WorkersNote). flat_map (note_on k ps) (as_properties (take i es)) ++ ns) (append-nil (note_on k ps (as_property (get_or es i d))))

-- the lines of a text are these alone
same_lines : (a b : List Property) (r : Result (List Property) PropsRefusal) → r ≡ Ok a → r ≡ Ok b → a ≡ b
same_lines a b r x y = cc

pub are_notes : (text : List ℕ) (c : Config) (ps : List Property) (notes : List WorkersNote) → read_text true text ≡ Ok ps → notes ≡ notes_of (site_kinds c) ps → AreNotes text c notes
are_notes text c ps notes read same = λ qs also. same ∙ ap (notes_of (site_kinds c)) (same_lines ps qs (read_text true text) read also)
