-- A fact that is told where a value isn't there, weakened.
use Rattle.std.specs.Prelude.{Option, Some, None, IfNone}

pub IfNone-map : {T : Type 0} {P Q : Type 0} (o : Option T) → (P → Q) → IfNone o P → IfNone o Q
IfNone-map None f p = f p
IfNone-map (Some x) f p = tt
