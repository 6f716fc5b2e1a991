-- How many lines a page has.
use Rattle.std.specs.Prelude.{◌≡◌, ℕ, ◌+◌, ◌<◌, ◌^◌, ◌==◌, false, List, length, count_by, All}
use Rattle.lb_model.specs.declared.view.MemberRow.{MemberRow}
use Rattle.status_worker.specs.declared.page.PagePart.{PagePart}

-- the line ends of a text
unfoldable pub line_count : List ℕ → ℕ
line_count text = count_by (λ b. b == 10) text

-- a name is no text of several lines
abbrev pub IsOneLine : List ℕ → Type 0
IsOneLine name = All (λ b. (b == 10) ≡ false) name

-- a row as a balancer has it: its name is one line, and its numbers are of their types
pub record IsShownRow (row : MemberRow) : Type 0 where
  pub name : IsOneLine row.name
  pub load : row.load < 2 ^ 128
  pub busy : row.busy < 2 ^ 32
  pub factor : row.factor < 2 ^ 32
  pub distance : row.distance < 2 ^ 32

pub record IsShownPart (part : PagePart) : Type 0 where
  pub name : IsOneLine part.name
  pub next : part.view.next < 2 ^ 64
  pub few : length part.view.rows < 2 ^ 64
  pub rows : All IsShownRow part.view.rows

-- a line for the balancer, and one for each of its members
abbrev pub lines_of_part : PagePart → ℕ
lines_of_part part = 1 + length part.view.rows
