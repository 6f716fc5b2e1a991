use Rattle.std.proofs.Common.{◌≡◌, ◌+◌, ◌++◌, ◌∷◌, [], ◌<◌, ◌∙◌, ℕ, List, length, take, get_or, ap, arith, refl, sym}
use Rattle.std.proofs.lemmas.List.{map-append, take_more}
use Rattle.std.proofs.lemmas.List.Elements.{filter-append}
use Rattle.site_config.specs.Entries.{as_property, as_properties}
use Rattle.site_config.specs.declared.property.Property.{Property}
use Rattle.site_config.specs.declared.property_line.PropertyLine.{PropertyLine}
use Rattle.site_workers.specs.Site.{ignored_of}
use Rattle.site_workers.proofs.ignored.ignored_of.Goals as goal

ignored-append : (ps qs : List Property) → ignored_of (ps ++ qs) ≡ ignored_of ps ++ ignored_of qs
ignored-append ps qs = rw (filter-append, map-append) refl

-- those up to the next line
one_more : (es : List PropertyLine) (i : ℕ) (d : PropertyLine) → i < length es
    → ignored_of (as_properties (take (i + 1) es)) ≡ ignored_of (as_properties (take i es)) ++ ignored_of (as_property (get_or es i d) ∷ [])
one_more es i d h = rw (take_more es i d h, map-append) (ignored-append (as_properties (take i es)) (as_property (get_or es i d) ∷ []))

pub loop-entry-preserved : goal.loop-entry-preserved
loop-entry-preserved c =
    let es = c.args.entries.now in
    let i = c.loop-entry.entry-index in
    let item = c.entry-item.result in
    c.in_ok-put_ignored.ensures
    ∙ ap (λ (before : List (ℕ × List ℕ)). before ++ ignored_of (as_property item ∷ [])) c.loop-entry.invariant
    ∙ ap (λ (e : PropertyLine). ignored_of (as_properties (take i es)) ++ ignored_of (as_property e ∷ [])) c.entry-item.is
    ∙ sym (one_more es i item (omega arith))
