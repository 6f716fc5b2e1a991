-- A reply in the words of one who reads it: a head, a body in pieces, and End Response.
use Rattle.std.specs.Prelude.{◌≡◌, ◌≢◌, ℕ, ◌^◌, ◌<◌, ◌≤◌, ◌⊎◌, Bool, true, false, List, [], ◌∷◌, ◌++◌, length, map, codes, decimal, Option, Some, None}
use Rattle.std.specs.List.{concat, AllByRecursion}
use Rattle.ajp_reply.specs.declared.message.Message.{Message}
use Rattle.ajp_reply.specs.declared.message.Message.TheVariants.{Headers, Chunk, End}
use Rattle.ajp_reply.specs.declared.message.ReplyParts.{ReplyParts}
use Rattle.ajp_container.specs.Request.{value_named}
use Rattle.ajp_container.specs.Turns.{ContainerTurn, Idle, Ping, Request, Awaited, Taken, data_of}

-- Each piece has `size` bytes, but for the last, which has one at least and no more.
abbrev pub AreFull : ℕ → List (List ℕ) → Type 0
AreFull size [] = Unit {0}
AreFull size (last ∷ []) = (0 < length last) × (length last ≤ size)
AreFull size (piece ∷ next ∷ pieces) = (length piece ≡ size) × AreFull size (next ∷ pieces)

-- The pieces joined are the body, and each is as long as it may be.
pub record IsCutBody (size : ℕ) (body : List ℕ) (pieces : List (List ℕ)) : Type 0 where
  pub joined : concat pieces ≡ body
  pub full : AreFull size pieces

abbrev pub length_told : Bool → List ℕ → Option (List ℕ)
length_told false body = None
length_told true body = Some (decimal (length body))

-- The messages are a reply: one head, the body in chunks of at most `size` bytes, End Response. Where the head has a
-- Content-Length, it is the length of the chunks together.
pub record AreReply (size status : ℕ) (counted : Bool) (body : List ℕ) (messages : List Message) : Type 0 where
  pub head : ReplyParts
  pub chunks : List (List ℕ)
  pub whole : messages ≡ Headers head ∷ map Chunk chunks ++ End true ∷ []
  pub cut : IsCutBody size body chunks
  pub status_is : head.status ≡ status
  pub length_is : value_named (codes "Content-Length") head.headers ≡ length_told counted (concat chunks)

-- The messages are a reply with some status, some body, and a length or none.
abbrev pub IsSomeReply : ℕ → List Message → Type 0
IsSomeReply size messages = (status : ℕ) × (counted : Bool) × (body : List ℕ) × AreReply size status counted body messages

-- No message is End Response.
abbrev pub NeverEnds : List Message → Type 0
NeverEnds messages = AllByRecursion (λ message. (reuse : Bool) → message ≢ End reuse) messages

-- A body is as long as a list in memory can be.
abbrev pub IsShortTurn : ContainerTurn → Type 0
IsShortTurn Idle = Unit {0}
IsShortTurn Ping = Unit {0}
IsShortTurn (Request forward Awaited) = Unit {0}
IsShortTurn (Request forward (Taken first past)) = length (data_of first past) < 2 ^ 64

-- The last ask was answered by the empty body packet, or the data have the length that the request names.
abbrev pub HasAll : Option ℕ → List ℕ → List (List ℕ) → Type 0
HasAll named first past =
    ((before : List (List ℕ)) × (past ≡ [] ∷ before)) ⊎ ((n : ℕ) × (named ≡ Some n) × (n ≤ length (data_of first past)))
