-- The talks of a reach over links in memory, and which bytes each of them had to come.
use Rattle.std.specs.Prelude.{◌≡◌, ℕ, List, [], ◌∷◌, ◌++◌, Some, if◌then◌else◌}
use Rattle.jk_io.specs.Memory.{MemLinkState, empty_link}
use Rattle.jk_io.specs.MemReaches.{MemReachState, GivesLink}
use Rattle.jk_io.specs.declared.memory.member_link.MemberLink.{MemberLink}
use Rattle.jk_io.specs.declared.reaching.Talk.{Talk}

-- A talk: its begin gave it a link, it read bytes from the front of what that had to come, and at its end the link was
-- kept for a later talk or closed.
pub record IsTalkOver (before after : MemReachState) (t : Talk) : Type 0 where
  pub begun : MemReachState
  pub gives : GivesLink t.lb t.member t.fresh t.dialled before begun
  pub came : t.came ≡ Some begun.running.link.incoming
  pub last : MemberLink
  pub whose : (last.lb ≡ t.lb) × (last.member ≡ t.member)
  pub read : begun.running.link.incoming ≡ t.received ++ last.link.incoming
  pub links : after.links ≡ begun.links
  pub kept : after.kept ≡ (if t.keep then begun.kept ++ last ∷ [] else begun.kept)

-- These talks, the newest first, were done by a reach that at first had these links to come and had kept none.
abbrev pub AreTalksOver : (first : List MemLinkState) → (past : List Talk) → (now : MemReachState) → Type 0
AreTalksOver first [] now = (now.links ≡ first) × (now.kept ≡ [])
AreTalksOver first (t ∷ past) now = (before : MemReachState) × AreTalksOver first past before × IsTalkOver before now t

-- the link that has the reply to come; each later one has nothing
abbrev pub reply_link : List ℕ → MemLinkState
reply_link reply = record empty_link { incoming = reply }
