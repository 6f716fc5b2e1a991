-- A book of talks as contracts see it: the talks that ended, the running one, and room for the note of its bytes.
use Rattle.std.specs.Prelude.{ℕ, List, Option}
use Rattle.jk_io.specs.declared.reaching.Talk.{Talk}
use Rattle.jk_io.specs.declared.reaching.Begun.{Begun}

-- the talks that ended, what the running one was begun with and what was said in it, and how many bytes more can be
-- noted of it without memory
pub record TalkBookState : Type 0 where
  pub talks : List Talk
  pub begun : Option Begun
  pub sent : List ℕ
  pub received : List ℕ
  pub room : ℕ
