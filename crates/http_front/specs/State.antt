-- A body that is taken piece by piece: its place, the data taken, its limit, its first fault and the data left.
use Rattle.std.specs.Prelude.{ℕ, List, Option}
use Rattle.http_front.specs.Body.{Data, data_of}
use Rattle.http_front.specs.declared.body.BodyIn.{BodyIn}
use Rattle.http_front.specs.declared.fault.BodyFault.{BodyFault}
use Rattle.http_front.specs.declared.place.Place.{Place}

-- where it stands
abbrev pub place_of : BodyIn → Place
place_of body = body.stand.place

-- how many bytes of data were taken
abbrev pub taken_of : BodyIn → ℕ
taken_of body = body.stand.taken

-- at how many a chunked body is too long
abbrev pub most_of : BodyIn → ℕ
most_of body = body.stand.most

-- the first fault
abbrev pub failed_of : BodyIn → Option BodyFault
failed_of body = body.failed

-- the data that is left, where the client's bytes are told
abbrev pub data_left_of : BodyIn → Option (List ℕ) → Option Data
data_left_of body told = data_of body.stand.place told
