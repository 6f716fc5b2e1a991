-- A Site of one Book: it stays of one, and a fact of that Book is one of each.
use Rattle.std.proofs.Common.{◌≡◌, ℕ, zero, suc, List, [], ◌∷◌, length, ap, ◌∙◌, subst}
use Rattle.std.proofs.lemmas.List.{length-set}
use Rattle.lb_model.specs.declared.journal.Call.{Call}
use Rattle.lb_book.specs.Journal.{Journal}
use Rattle.lb_book.specs.ToldBooks.{grown_by}
use Rattle.lb_book.specs.declared.receipt.Receipt.{Receipt}
use Rattle.lb_shared.specs.Sites.{AddsAt, At}

-- A call of a Site leaves as many Books as there were.
pub adds_same : (old new : List Journal) (lb session at : ℕ) (asked : Call) (r : Receipt) → AddsAt old new lb session at asked r → length new ≡ length old
adds_same old new lb session at asked r h = ap length h.grown ∙ length-set old lb _

-- A fact of the one Book is one of each.
pub of_the_one : (book : Journal) (P : Journal → Type 0) → P book → (lb : ℕ) → At (book ∷ []) lb P
of_the_one book P holds zero b found = let same : book ≡ b = cc in subst P same holds
of_the_one book P holds (suc lb) b found = absurd cc
