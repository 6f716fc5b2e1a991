-- A part as it stands in the text.
use Rattle.std.specs.Prelude.{ℕ, List, map}
use Rattle.site_mounts.specs.declared.parts.Part.{Part}

abbrev pub as_part : Part → List ℕ × List ℕ
as_part p = (p.name.now, p.value.now)

abbrev pub as_parts : List Part → List (List ℕ × List ℕ)
as_parts parts = map as_part parts
