-- Which head of a container's reply may go to a client.
use Rattle.std.specs.Prelude.{if◌then◌else◌, ◌≡◌, ◌≢◌, ℕ, ◌≤◌, Bool, true, ◌&&◌, List, [], ◌∷◌, length, Option, Some, None, Result, Ok, Err, ⊤, codes, nat_le}
use Rattle.std.specs.List.{list_all}
use Rattle.http_header.specs.Token.{is_value_byte}
use Rattle.http_header.specs.FieldName.{is_field_name}
use Rattle.jk_io.specs.Decimals.{decimal_of}
use Rattle.http_front.specs.Fields.{HeaderLine, named}
use Rattle.http_out.specs.declared.reply_head.ReplyHead.{ReplyHead}
use Rattle.http_out.specs.declared.reply_head.OutError.{OutError}
use Rattle.http_out.specs.declared.reply_head.OutError.TheVariants as Out
use Rattle.http_out.specs.declared.content_length.ContentLength.{ContentLength}
use Rattle.http_out.specs.declared.content_length.ContentLength.TheVariants as Said

-- one value says a length where it is 1 to 19 digits
abbrev pub said_by : Option ℕ → ContentLength
said_by (Some n) = Said.Announced n
said_by None = Said.Unreadable

abbrev pub length_said : List ℕ → ContentLength
length_said value = if nat_le (length value) 19 then said_by (decimal_of value) else Said.Unreadable

-- what is said once a further line says this value
abbrev pub next_said : ContentLength → List ℕ → ContentLength
next_said Said.Absent value = length_said value
next_said (Said.Announced n) value = Said.Unreadable
next_said Said.Unreadable value = Said.Unreadable

-- what the Content-Length lines say together: two lines say nothing that can be read
abbrev pub all_said : List (List ℕ) → ContentLength
all_said [] = Said.Absent
all_said (value ∷ []) = length_said value
all_said (value ∷ next ∷ more) = Said.Unreadable

abbrev pub length_in : List HeaderLine → ContentLength
length_in lines = all_said (named (codes "content-length") lines)

abbrev pub content_length : ReplyHead → ContentLength
content_length h = length_in h.headers

-- no control byte but tab
abbrev pub is_text : List ℕ → Bool
is_text bytes = list_all is_value_byte bytes

-- a name that is a token, and a value that is text
abbrev pub is_field : HeaderLine → Bool
is_field line = is_field_name line.0 && is_text line.1

-- a final status, a message and values that can't break the head's lines, names that are tokens, one length at most
pub record IsReplyHead (h : ReplyHead) : Type 0 where
  pub final : (200 ≤ h.status) × (h.status ≤ 999)
  pub message : is_text h.message ≡ true
  pub fields : list_all is_field h.headers ≡ true
  pub one_length : content_length h ≢ Said.Unreadable

-- a head is refused exactly where it may not go to a client, and else says this of its body's length
abbrev pub IsJudgment : ReplyHead → Result ContentLength OutError → Type 0
IsJudgment h (Ok said) = IsReplyHead h × (said ≡ content_length h)
IsJudgment h (Err Out.BadReply) = ¬ (IsReplyHead h)
IsJudgment h (Err Out.NoMemory) = ⊤
IsJudgment h (Err Out.Disagree) = ⊥
IsJudgment h (Err Out.Fault) = ⊥
