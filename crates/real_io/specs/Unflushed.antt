-- Which replies are counted: the final ones, and those with a status from 100 to 199 aren't.
use Rattle.std.specs.Prelude.{ℕ, ◌+◌, List, codes, if◌then◌else◌, min, nat_eq}
use Rattle.std.specs.List.{starts_with}
use Rattle.real_io.specs.declared.unflushed.Unflushed.{Unflushed}
use Rattle.real_io.specs.declared.unflushed.Unflushed.TheVariants.{Nothing, Interim, Final}

-- what was written since the last flush, once this piece was too
abbrev pub unflushed_with : Unflushed → List ℕ → Unflushed
unflushed_with Nothing piece = if starts_with nat_eq piece (codes "HTTP/1.1 1") then Interim else Final
unflushed_with Interim piece = Interim
unflushed_with Final piece = Final

-- how many replies went out whole, once what was written did
abbrev pub replies_after : Unflushed → ℕ → ℕ
replies_after Nothing replies = replies
replies_after Interim replies = replies
replies_after Final replies = min (replies + 1) 18446744073709551615
