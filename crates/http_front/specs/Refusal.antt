-- The status of a refused head, and the error of a refused read.
use Rattle.std.specs.Prelude.{ℕ}
use Rattle.http_front.specs.declared.answers.Form.{Form}
use Rattle.http_front.specs.declared.answers.Form.TheVariants.{BadHead, TooBig, BadHost, TwoFramings, BadLength, OldChunked, BadCoding, Connect, TooLong, BadPath}
use Rattle.http_front.specs.declared.answers.HeadError.{HeadError}
use Rattle.http_front.specs.declared.answers.HeadError.TheVariants as error
use Rattle.jk_io.specs.declared.failures.IoError.{IoError}
use Rattle.jk_io.specs.declared.failures.IoError.TheVariants as io

-- the status of the answer
abbrev pub status_of : Form → ℕ
status_of BadHead = 400
status_of TooBig = 431
status_of BadHost = 400
status_of TwoFramings = 400
status_of BadLength = 400
status_of OldChunked = 400
status_of BadCoding = 501
status_of Connect = 501
status_of TooLong = 413
status_of BadPath = 400

-- the error of a read that was refused
abbrev pub read_error : IoError → HeadError
read_error io.Failed = error.Fault
read_error io.NoMemory = error.NoMemory
