-- The one history of a run, by the desks that left. Read this with lb_shared's specs/Histories.antt.
use Rattle.std.specs.Prelude.{◌≡◌, ℕ, Bool, false, List, map, sum_by}
use Rattle.std.specs.List.{All, Contains, flat_map}
use Rattle.lb_model.specs.declared.journal.Entry.{Entry}
use Rattle.lb_model.specs.declared.opening.Opening.{Opening}
use Rattle.lb_book.specs.Journal.{Journal}
use Rattle.lb_shared.specs.Histories.{IsClosed, IsClosedAfter, SeatNote}
use Rattle.lb_shared.specs.declared.shared_desk.Leaving.{Leaving}
use Rattle.lb_closing.specs.Closings.{Differs, DiscordNote, noted}

-- One history of the Site made its Books what they are. Of each desk with one of these seats it has just the entries and the cuts
-- that the desk has seen as its own, and it has no step of anybody else.
pub record IsOneHistory (starts : List Opening) (seats : List SeatNote) (books : List Journal) : Type 0 where
  pub closed : IsClosed starts seats books
  pub no_other : All (λ x. Contains (map (λ s. s.number) seats) x.0) closed.steps

-- A discord of the receipts with the Books that one history of the Site made what they are, which has as much of these desks, and
-- of nobody else.
pub record DiffersWhole (starts : List Opening) (seats : List SeatNote) (sizes firsts : List ℕ) (entries : ℕ) (receipts : List (ℕ × Entry)) (d : DiscordNote) : Type 0 where
  pub differs : Differs sizes firsts entries receipts d
  pub whole : IsOneHistory starts seats differs.books

-- A discord where no desk forgot, with Books that one history of the Site made what they are: it has of each of these desks what the
-- desk has seen as its own, and so many cuts.
abbrev pub DiffersAfter : (starts : List Opening) (seats : List SeatNote) (cuts : ℕ) (sizes firsts : List ℕ) (entries : ℕ) → List (ℕ × Entry) → (forgot : Bool) → DiscordNote → Type 0
DiffersAfter starts seats cuts sizes firsts entries receipts forgot d =
    (forgot ≡ false) × (x : Differs sizes firsts entries receipts d) × IsClosedAfter starts seats cuts x.books

-- As `DiffersWhole`, of what these desks left: their seats, as many entries as their shares count, and their receipts.
abbrev pub LeftDiffersWhole : {L S : Type 0} → (starts : List Opening) → (sizes firsts : List ℕ) → List (Leaving L S) → DiscordNote → Type 0
LeftDiffersWhole starts sizes firsts leaving =
    DiffersWhole starts (map (λ l. l.seat) leaving) sizes firsts (sum_by (λ l. l.share.amount) leaving) (noted (flat_map (λ l. l.receipts) leaving))
