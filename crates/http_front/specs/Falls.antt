-- Why a walk over the framing ends: at most this many bytes stand before the next byte of data, or the end.
use Rattle.std.specs.Prelude.{ℕ, zero, suc, ◌+◌, ◌-◌, ◌*◌}
use Rattle.http_front.specs.declared.place.Place.{Place}
use Rattle.http_front.specs.declared.place.Place.TheVariants as at

abbrev pub framing_left : Place → ℕ
framing_left (at.Exact n) = 0
framing_left (at.Digits count size) = 33030 + (10 - count)
framing_left (at.Extension size count) = 32772 + (256 - count)
framing_left (at.LineFeed size) = 32771
framing_left (at.Chunk zero) = 33042
framing_left (at.Chunk (suc left)) = 0
framing_left at.DataFeed = 33041
framing_left (at.Trailer left) = 2 * left + 2
framing_left (at.TrailerLine left) = 2 * left + 4
framing_left (at.TrailerLineFeed left) = 2 * left + 3
framing_left at.TrailerFeed = 1
framing_left at.Done = 0
framing_left at.Bad = 0

-- how many bytes of a body by length are left
abbrev pub exact_left : Place → ℕ
exact_left (at.Exact n) = n
exact_left (at.Digits count size) = 0
exact_left (at.Extension size count) = 0
exact_left (at.LineFeed size) = 0
exact_left (at.Chunk left) = 0
exact_left at.DataFeed = 0
exact_left (at.Trailer left) = 0
exact_left (at.TrailerLine left) = 0
exact_left (at.TrailerLineFeed left) = 0
exact_left at.TrailerFeed = 0
exact_left at.Done = 0
exact_left at.Bad = 0
