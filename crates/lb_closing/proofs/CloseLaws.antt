-- A discord of a closing: first of the receipts that were gathered, then of those that the desks left.
use Rattle.std.proofs.Common.{◌≡◌, ℕ, Bool, false, List, Result, Ok, Err, sym, ◌∙◌, subst}
use Rattle.std.specs.Prelude.{IfErr, IfOk}
use Rattle.std.specs.List.Sorted.{IsPermutation}
use Rattle.lb_model.specs.declared.journal.Entry.{Entry}
use Rattle.lb_book.specs.Journal.{Journal}
use Rattle.lb_model.specs.declared.opening.Opening.{Opening}
use Rattle.lb_shared.specs.Histories.{IsClosedAfter, SeatNote}
use Rattle.lb_shared.specs.Sites.{AreSited, added_in}
use Rattle.lb_closing.specs.CloseErrors.{IsCloseError}
use Rattle.lb_closing.specs.Closings.{AreUncut, Differs, DiscordNote, IsDiscord, kept_from}
use Rattle.lb_closing.specs.declared.close.CloseError.{CloseError}
use Rattle.lb_closing.specs.declared.close.CloseError.TheVariants as close

pub close_error : {L : Type 0} (P Q : DiscordNote → Type 0) (e : CloseError L) → ((d : DiscordNote) → P d → Q d) → IsCloseError P e → IsCloseError Q e
close_error P Q (close.Differs d) then is = then d is
close_error P Q close.NoMemory then is = tt

pub differs_from : (sizes firsts : List ℕ) (amount amount' : ℕ) (forgot : Bool) (All : Type 0) (items all : List (ℕ × Entry)) (books told : List Journal) (d : DiscordNote)
    (starts : List Opening) (seats : List SeatNote) (count : ℕ)
    → (forgot ≡ false → All) → items ≡ all → told ≡ books → AreSited sizes firsts books → amount ≡ added_in books → amount ≡ amount' → IsClosedAfter starts seats count books
    → (forgot ≡ false) × AreUncut told × IsDiscord items (kept_from 0 told) d → All × (x : Differs sizes firsts amount' all d) × IsClosedAfter starts seats count x.books
differs_from sizes firsts amount amount' forgot All items all books told d starts seats count none noted same sited counted sum closed is = (
  none is.0,
  record {
    books = books;
    sited = sited;
    counted = sym counted ∙ sum;
    uncut = subst (λ (xs : List Journal). AreUncut xs) same is.1;
    discord = subst (λ (xs : List Journal). IsDiscord all (kept_from 0 xs) d) same (subst (λ (ys : List (ℕ × Entry)). IsDiscord ys (kept_from 0 told) d) noted is.2);
  },
  closed,
)

pub once_from : (forgot : Bool) (All : Type 0) (items all : List (ℕ × Entry)) (books told : List Journal) → (All → forgot ≡ false) → items ≡ all → told ≡ books
    → (forgot ≡ false → AreUncut told → IsPermutation items (kept_from 0 told)) → All → AreUncut books → IsPermutation all (kept_from 0 books)
once_from forgot All items all books told none noted same is every uncut =
    subst (λ (xs : List Journal). IsPermutation all (kept_from 0 xs)) same
    (subst (λ (ys : List (ℕ × Entry)). IsPermutation ys (kept_from 0 told)) noted
    (is (none every) (subst (λ (xs : List Journal). AreUncut xs) (sym same) uncut)))

-- The discord of the gathered receipts, told of those that the desks left.
pub differs_left : (sizes firsts : List ℕ) (amount amount' : ℕ) (forgot : Bool) (All : Type 0) (items all : List (ℕ × Entry)) (d : DiscordNote)
    (starts : List Opening) (seats : List SeatNote) (count : ℕ) → (forgot ≡ false → All) → items ≡ all → amount ≡ amount'
    → (forgot ≡ false) × (x : Differs sizes firsts amount items d) × IsClosedAfter starts seats count x.books → All × (y : Differs sizes firsts amount' all d) × IsClosedAfter starts seats count y.books
differs_left sizes firsts amount amount' forgot All items all d starts seats count none noted sum is = (
  none is.0,
  record {
    books = is.1.books;
    sited = is.1.sited;
    counted = is.1.counted ∙ sum;
    uncut = is.1.uncut;
    discord = subst (λ (ys : List (ℕ × Entry)). IsDiscord ys (kept_from 0 is.1.books) d) noted is.1.discord;
  },
  is.2,
)

pub err_left : {T L : Type 0} (P Q : DiscordNote → Type 0) (r : Result T (CloseError L)) → ((d : DiscordNote) → P d → Q d) → IfErr r (IsCloseError P) → IfErr r (IsCloseError Q)
err_left P Q (Ok c) then is = is
err_left P Q (Err e) then is = close_error P Q e then is

pub ok_left : {T E : Type 0} (P Q : T → Type 0) (r : Result T E) → ((c : T) → P c → Q c) → IfOk r P → IfOk r Q
ok_left P Q (Ok c) then is = then c is
ok_left P Q (Err e) then is = is

pub ok_both : {T E : Type 0} (P Q : T → Type 0) (r : Result T E) → IfOk r P → IfOk r Q → IfOk r (λ c. P c × Q c)
ok_both P Q (Ok c) p q = (p, q)
ok_both P Q (Err e) p q = p
