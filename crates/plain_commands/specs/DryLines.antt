-- The three lines that `dry` prints of a session that ended.
use Rattle.std.specs.Prelude.{ℕ, List, [], ◌∷◌, ◌++◌, length, Option, Some, None, codes, decimal}
use Rattle.std.specs.List.{flat_map}
use Rattle.hex.specs.Hex.{encode_lower}
use Rattle.jk_io.specs.declared.reaching.Talk.{Talk}
use Rattle.status_worker.specs.Refusals.{code_of}
use Rattle.client_session.specs.declared.ending.SessionEnd.{SessionEnd}
use Rattle.client_session.specs.declared.ending.SessionStop.{SessionStop}
use Rattle.client_session.specs.declared.ending.SessionStop.TheVariants as stop
use Rattle.client_session.specs.declared.ending.Why.{Why}
use Rattle.client_session.specs.declared.ending.Why.TheVariants as why

-- each byte as two hexadecimal digits; `-` for no bytes
abbrev pub hex_or_dash : List ℕ → List ℕ
hex_or_dash [] = codes "-"
hex_or_dash (byte ∷ bytes) = encode_lower (byte ∷ bytes)

-- how many bytes went where, and which
abbrev pub bytes_line : (to : List ℕ) → (bytes : List ℕ) → List ℕ
bytes_line to bytes = to ++ decimal (length bytes) ++ codes " " ++ hex_or_dash bytes ++ codes "\n"

-- all bytes that went to members, talk by talk
abbrev pub sent_in : List Talk → List ℕ
sent_in talks = flat_map (λ t. t.sent) talks

-- why the session was closed and after how many requests; none where its client waits. A refusal is told as an own answer of its
-- status.
abbrev pub why_words : Why → (requests : ℕ) → Option (List ℕ)
why_words why.ByClient requests = Some (codes "by-client " ++ decimal requests)
why_words why.Idle requests = None
why_words why.Last requests = Some (codes "last " ++ decimal requests)
why_words (why.Own status) requests = Some (codes "own-" ++ decimal status ++ codes " " ++ decimal requests)
why_words (why.Refused refusal) requests = Some (codes "own-" ++ decimal (code_of refusal) ++ codes " " ++ decimal requests)
why_words why.Cut requests = Some (codes "cut " ++ decimal requests)
why_words why.Unread requests = Some (codes "unread " ++ decimal requests)

-- how the session ended and after how many requests; none for an end that shows nothing
abbrev pub words_for : SessionStop → (requests : ℕ) → Option (List ℕ)
words_for (stop.Closed cause) requests = why_words cause requests
words_for stop.ClientFault requests = None
words_for stop.Truncated requests = Some (codes "truncated " ++ decimal requests)
words_for (stop.Stray ticket returned_at) requests = None
words_for stop.NoMemory requests = None

abbrev pub end_words : SessionEnd → Option (List ℕ)
end_words end = words_for end.stop end.requests

abbrev pub end_line : (words : List ℕ) → List ℕ
end_line words = codes "end " ++ words ++ codes "\n"

-- what went to members, what went to the client, and the end
abbrev pub dry_text : List Talk → (sent : List ℕ) → (words : List ℕ) → List ℕ
dry_text talks sent words =
    bytes_line (codes "to member ") (sent_in talks) ++ bytes_line (codes "to client ") sent ++ end_line words
