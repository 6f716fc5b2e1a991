-- A reach over which a session in memory talks: its first link has a reply to come, and each later one nothing.
use Rattle.std.specs.Prelude.{◌≡◌, List, [], ◌++◌, Option, Some, None, reverse}
use Rattle.jk_io.specs.Memory.{MemLinkState}
use Rattle.jk_io.specs.MemReaches.{MemReachState, GivesLink}
use Rattle.jk_io.specs.declared.reaching.Begun.{Begun}
use Rattle.jk_io.specs.declared.reaching.Talk.{Talk}
use Rattle.plain_commands.specs.DryLinks.{AreTalksOver}

-- The running talk: its begin gave it a link, and what it read and what its link has to come are what that had.
pub record IsInTalk (before now : MemReachState) (b : Begun) : Type 0 where
  pub begun : MemReachState
  pub gives : GivesLink b.lb b.member b.fresh b.dialled before begun
  pub came : b.came ≡ Some begun.running.link.incoming
  pub whose : (now.running.lb ≡ b.lb) × (now.running.member ≡ b.member)
  pub read : begun.running.link.incoming ≡ now.book.received ++ now.running.link.incoming
  pub links : now.links ≡ begun.links
  pub kept : now.kept ≡ begun.kept

-- between two talks the links are those that the last one left
abbrev pub IsBetweenTalks : (before now : MemReachState) → Option Begun → Type 0
IsBetweenTalks before now None = (now.links ≡ before.links) × (now.kept ≡ before.kept)
IsBetweenTalks before now (Some b) = IsInTalk before now b

-- No begin is to fail, and the talks so far were done over these links.
pub record IsOverLinks (first : List MemLinkState) (now : MemReachState) : Type 0 where
  pub quiet : now.failing ≡ []
  pub past : List Talk
  pub talks : now.book.talks ≡ reverse past
  pub before : MemReachState
  pub over : AreTalksOver first past before
  pub here : IsBetweenTalks before now now.book.begun
