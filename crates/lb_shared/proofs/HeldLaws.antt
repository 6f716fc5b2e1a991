-- Facts of a hold's answer, weakened.
use Rattle.std.specs.Prelude.{IfErr, OnOk, Result, Ok, Err}

pub if_err : {T E : Type 0} (r : Result T E) (P Q : E → Type 0) → ((x : E) → P x → Q x) → IfErr r P → IfErr r Q
if_err (Ok x) P Q then is = tt
if_err (Err e) P Q then is = then e is

pub on_ok : {T E : Type 0} (r : Result T E) (P Q : Type 0) → (P → Q) → OnOk r P → OnOk r Q
on_ok (Ok x) P Q then is = then is
on_ok (Err e) P Q then is = tt
