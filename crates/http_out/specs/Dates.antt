-- The field that tells the moment at which a message was made (RFC 9110, section 6.6.1).
use Rattle.std.specs.Prelude.{ℕ, List, [], ◌++◌, Option, Some, None, codes}
use Rattle.httpdate.specs.Date.{date_text}
use Rattle.httpdate.specs.declared.date.HttpDate.{HttpDate}

-- as `Date: Sun, 06 Nov 1994 08:49:37 GMT`; none where no moment is told
abbrev pub date_field : Option HttpDate → List ℕ
date_field None = []
date_field (Some date) = (codes "Date: " ++ date_text date) ++ codes "\r\n"
