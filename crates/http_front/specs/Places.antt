-- The framing of a body, place by place: what each byte gives, and where the next one stands. A chunk
-- line is 1 to 10 hexadecimal digits, maybe `;` and up to 256 bytes without CR and LF, then CR LF
-- (RFC 9112, section 7.1, in a strict profile); the lines of the trailer have at most 16,384 bytes.
use Rattle.std.specs.Prelude.{ℕ, zero, suc, ◌+◌, ◌-◌, ◌*◌, ◌%◌, Bool, true, false, ◌==◌, nat_lt, if◌then◌else◌}
use Rattle.std.specs.Char.{is_digit, digit_value}
use Rattle.http_front.specs.declared.place.Place.{Place}
use Rattle.http_front.specs.declared.place.Place.TheVariants as at
use Rattle.http_front.specs.declared.head.BodyPlan.{BodyPlan}
use Rattle.http_front.specs.declared.head.BodyPlan.TheVariants as plan

-- where the body of a plan begins
abbrev pub start_of : BodyPlan → Place
start_of plan.None = at.Done
start_of (plan.Exact n) = at.Exact n
start_of plan.Chunked = at.Digits 0 0

-- after the LF of a chunk line: the chunk's data, or the trailer after a size of 0
abbrev pub chunk_of : ℕ → Place
chunk_of zero = at.Trailer 16384
chunk_of (suc size) = at.Chunk (suc size)

-- after a byte of a chunk line's digits; nine of them write less than 2^36
abbrev pub digits_step : ℕ → ℕ → ℕ → Place
digits_step count size b =
    if is_digit b 16 then (if nat_lt count 10 then at.Digits (count + 1) (16 * (size % 68719476736) + digit_value b) else at.Bad)
    else if count == 0 then at.Bad
    else if b == 59 then at.Extension size 0
    else if b == 13 then at.LineFeed size
    else at.Bad

-- after a byte of an extension
abbrev pub extension_step : ℕ → ℕ → ℕ → Place
extension_step size count b =
    if b == 13 then at.LineFeed size
    else if b == 10 then at.Bad
    else if nat_lt count 256 then at.Extension size (count + 1)
    else at.Bad

-- after a byte at the beginning of a trailer line: with its own CR LF it must fit
abbrev pub trailer_step : ℕ → ℕ → Place
trailer_step left b =
    if b == 13 then at.TrailerFeed
    else if b == 10 then at.Bad
    else if nat_lt left 3 then at.Bad
    else at.TrailerLine (left - 3)

-- after a byte within a trailer line
abbrev pub trailer_line_step : ℕ → ℕ → Place
trailer_line_step left b =
    if b == 13 then at.TrailerLineFeed left
    else if b == 10 then at.Bad
    else if left == 0 then at.Bad
    else at.TrailerLine (left - 1)

-- after a byte
abbrev pub step : Place → ℕ → Place
step (at.Exact n) b = at.Exact (n - 1)
step (at.Digits count size) b = digits_step count size b
step (at.Extension size count) b = extension_step size count b
step (at.LineFeed size) b = if b == 10 then chunk_of size else at.Bad
step (at.Chunk zero) b = if b == 13 then at.DataFeed else at.Bad
step (at.Chunk (suc left)) b = at.Chunk left
step at.DataFeed b = if b == 10 then at.Digits 0 0 else at.Bad
step (at.Trailer left) b = trailer_step left b
step (at.TrailerLine left) b = trailer_line_step left b
step (at.TrailerLineFeed left) b = if b == 10 then at.Trailer left else at.Bad
step at.TrailerFeed b = if b == 10 then at.Done else at.Bad
step at.Done b = at.Done
step at.Bad b = at.Bad

-- how many bytes of data follow here
abbrev pub data_left : Place → ℕ
data_left (at.Exact n) = n
data_left (at.Chunk left) = left
data_left (at.Digits count size) = 0
data_left (at.Extension size count) = 0
data_left (at.LineFeed size) = 0
data_left at.DataFeed = 0
data_left (at.Trailer left) = 0
data_left (at.TrailerLine left) = 0
data_left (at.TrailerLineFeed left) = 0
data_left at.TrailerFeed = 0
data_left at.Done = 0
data_left at.Bad = 0

-- the body is whole: no byte after it is its own
abbrev pub is_whole : Place → Bool
is_whole (at.Exact n) = n == 0
is_whole at.Done = true
is_whole (at.Chunk left) = false
is_whole (at.Digits count size) = false
is_whole (at.Extension size count) = false
is_whole (at.LineFeed size) = false
is_whole at.DataFeed = false
is_whole (at.Trailer left) = false
is_whole (at.TrailerLine left) = false
is_whole (at.TrailerLineFeed left) = false
is_whole at.TrailerFeed = false
is_whole at.Bad = false

-- a bad chunk line stands there
abbrev pub is_bad : Place → Bool
is_bad at.Bad = true
is_bad (at.Exact n) = false
is_bad at.Done = false
is_bad (at.Chunk left) = false
is_bad (at.Digits count size) = false
is_bad (at.Extension size count) = false
is_bad (at.LineFeed size) = false
is_bad at.DataFeed = false
is_bad (at.Trailer left) = false
is_bad (at.TrailerLine left) = false
is_bad (at.TrailerLineFeed left) = false
is_bad at.TrailerFeed = false

-- after count bytes of data
abbrev pub data_step : Place → ℕ → Place
data_step (at.Exact n) count = at.Exact (n - count)
data_step (at.Chunk left) count = at.Chunk (left - count)
data_step (at.Digits digits size) count = at.Digits digits size
data_step (at.Extension size bytes) count = at.Extension size bytes
data_step (at.LineFeed size) count = at.LineFeed size
data_step at.DataFeed count = at.DataFeed
data_step (at.Trailer left) count = at.Trailer left
data_step (at.TrailerLine left) count = at.TrailerLine left
data_step (at.TrailerLineFeed left) count = at.TrailerLineFeed left
data_step at.TrailerFeed count = at.TrailerFeed
data_step at.Done count = at.Done
data_step at.Bad count = at.Bad

-- the body is within its chunks, whose data has a limit
abbrev pub is_limited : Place → Bool
is_limited (at.Exact n) = false
is_limited at.Done = false
is_limited at.Bad = false
is_limited (at.Chunk left) = true
is_limited (at.Digits count size) = true
is_limited (at.Extension size count) = true
is_limited (at.LineFeed size) = true
is_limited at.DataFeed = true
is_limited (at.Trailer left) = true
is_limited (at.TrailerLine left) = true
is_limited (at.TrailerLineFeed left) = true
is_limited at.TrailerFeed = true
