-- How the receipts of all desks stand to the entries that the Books keep, when the desks are closed.
use Rattle.std.specs.Prelude.{◌≡◌, ℕ, suc, ◌+◌, ◌*◌, ◌^◌, ◌==◌, nat_lt, Bool, List, [], ◌∷◌, ◌++◌, length, map, sum_by, take, Option, Some, None, slice_get, if◌then◌else◌}
use Rattle.std.specs.List.{All, flat_map}
use Rattle.std.specs.List.Sorted.{IsNonDecreasingBy, IsPermutation}
use Rattle.lb_model.specs.declared.journal.Entry.{Entry}
use Rattle.lb_book.specs.Journal.{Journal}
use Rattle.lb_shared.specs.Sites.{AreSited, added_in}
use Rattle.lb_book.specs.declared.receipt.Receipt.{Receipt}
use Rattle.lb_shared.specs.declared.shared_desk.Leaving.{Leaving}

-- The entries of receipts, each with its balancer.
abbrev pub noted : List Receipt → List (ℕ × Entry)
noted receipts = map (λ r. (r.lb, r.entry)) receipts

-- The kept entries of balancers from lb on, each with its balancer, in order.
abbrev pub kept_from : (lb : ℕ) → List Journal → List (ℕ × Entry)
kept_from lb [] = []
kept_from lb (b ∷ books) = map (λ e. (lb, e)) b.entries ++ kept_from (suc lb) books

-- No Book was cut since it was started: it keeps each entry that it added.
abbrev pub AreUncut : List Journal → Type 0
AreUncut books = All (λ b. length b.entries ≡ b.added) books

-- The order: by balancers, and of one balancer by numbers.
abbrev pub rank_of : ℕ × Entry → ℕ
rank_of x = x.0 * 2 ^ 64 + x.1.seq

abbrev pub is_earlier : ℕ × Entry → ℕ × Entry → Bool
is_earlier x y = nat_lt (rank_of x) (rank_of y)

-- A discord: balancer and number, and what the receipts and the journals have there.
pub record DiscordNote : Type 0 where
  pub lb : ℕ
  pub seq : ℕ
  pub receipt : Option Entry
  pub entry : Option Entry

-- An entry's balancer and number; `first_number` takes the earlier of the entries that two lists have at a place.
abbrev pub number_of : ℕ × Entry → ℕ × ℕ
number_of x = (x.0, x.1.seq)

abbrev pub first_number : Option (ℕ × Entry) → Option (ℕ × Entry) → ℕ × ℕ
first_number None None = (0, 0)
first_number None (Some y) = number_of y
first_number (Some x) None = number_of x
first_number (Some x) (Some y) = if is_earlier y x then number_of y else number_of x

-- The entry at a place, where it has this balancer and number.
abbrev pub entry_for : (lb seq : ℕ) → Option (ℕ × Entry) → Option Entry
entry_for lb seq None = None
entry_for lb seq (Some x) = if x.0 == lb then (if x.1.seq == seq then Some x.1 else None) else None

-- The first place at which two lists differ, with the earlier number there and what each list has of it.
pub record IsFirstDifference (xs ys : List (ℕ × Entry)) (d : DiscordNote) : Type 0 where
  pub place : ℕ
  pub same : take place xs ≡ take place ys
  pub differ : slice_get xs place ≡ slice_get ys place → ⊥
  pub number : (d.lb, d.seq) ≡ first_number (slice_get xs place) (slice_get ys place)
  pub receipt : d.receipt ≡ entry_for d.lb d.seq (slice_get xs place)
  pub entry : d.entry ≡ entry_for d.lb d.seq (slice_get ys place)

-- The receipts in their order aren't the kept entries, and this is where they differ first.
pub record IsDiscord (receipts kept : List (ℕ × Entry)) (d : DiscordNote) : Type 0 where
  pub sorted : List (ℕ × Entry)
  pub moved : IsPermutation receipts sorted
  pub ordered : IsNonDecreasingBy rank_of sorted
  pub first : IsFirstDifference sorted kept d

-- A discord with the Books of a Site that added this number of entries and keep each of them.
pub record Differs (sizes firsts : List ℕ) (entries : ℕ) (receipts : List (ℕ × Entry)) (d : DiscordNote) : Type 0 where
  pub books : List Journal
  pub sited : AreSited sizes firsts books
  pub counted : added_in books ≡ entries
  pub uncut : AreUncut books
  pub discord : IsDiscord receipts (kept_from 0 books) d

-- As `Differs`, of what these desks left: as many entries as their shares count, and their receipts.
abbrev pub LeftDiffers : {L S : Type 0} → (sizes firsts : List ℕ) → List (Leaving L S) → DiscordNote → Type 0
LeftDiffers sizes firsts leaving =
    Differs sizes firsts (sum_by (λ l. l.share.amount) leaving) (noted (flat_map (λ l. l.receipts) leaving))
