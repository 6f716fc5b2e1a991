-- A property as it stands in the text.
use Rattle.std.specs.Prelude.{List, map}
use Rattle.site_config.specs.declared.property_line.PropertyLine.{PropertyLine}
use Rattle.site_config.specs.declared.property.Property.{Property}

abbrev pub as_property : PropertyLine → Property
as_property e = record { line = e.line; key = e.key.now; value = e.value.now }

abbrev pub as_properties : List PropertyLine → List Property
as_properties entries = map as_property entries
