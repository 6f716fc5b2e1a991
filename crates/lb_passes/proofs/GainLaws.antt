-- A caller after a turn at the Book, with the entries that the turn added.
use Rattle.std.proofs.Common.{◌≡◌, ℕ, ◌-◌, Bool, true, false, List, [], ◌∷◌, ◌++◌, length, drop, refl, sym, ap, ◌∙◌, subst, arith, length-append}
use Rattle.std.specs.Prelude.{◌||◌}
use Rattle.std.specs.List.{All}
use Rattle.std.proofs.Math.Seq.{drop-append_seam}
use Rattle.std.proofs.lemmas.List.{length-map}
use Rattle.std.proofs.lemmas.List.Elements.{All-head, All-tail}
use Rattle.atomic_table.specs.Table.{Me, rest}
use Rattle.lb_model.specs.Tickets.{gives_back, is_returned}
use Rattle.lb_model.specs.declared.ask.Ask.{Ask}
use Rattle.lb_model.specs.declared.change.Command.{Command}
use Rattle.lb_model.specs.declared.journal.Call.{Call}
use Rattle.lb_model.specs.declared.journal.Call.TheVariants as call
use Rattle.lb_model.specs.declared.journal.Entry.{Entry}
use Rattle.lb_book.specs.Desks.{IsDue, IsOwn}
use Rattle.lb_book.specs.Journal.{Journal}
use Rattle.lb_book.specs.PlainDesks.{BookGains}
use Rattle.lb_book.specs.ToldBooks.{AreNextAt, grown_by}
use Rattle.lb_book.specs.declared.receipt.Receipt.{Receipt}
use Rattle.lb_book.specs.Histories.{AreOf, BeginsWith, IsHistory, has_made, own_of}
use Rattle.lb_passes.specs.Plays.{Took, grown_owns, last_in, turning}
use Rattle.lb_passes.specs.Turns.{Carries, IsBookOf}
use Rattle.lb_passes.specs.declared.pass_view.PassView.{PassView}
use Rattle.lb_passes.specs.declared.pass_view.Turn.TheVariants.{Idle, Out}
use Rattle.lb_passes.proofs.BookLaws.{book_grown}
use Rattle.lb_book.proofs.HistoryLaws.{history_more}
use Rattle.lb_passes.proofs.SeatLaws.{carries_one}
use Rattle.lb_passes.specs.Holds.{Ended, IsIdle, IsTold, TakesTurn, entries_in, gained_in, own_in}

-- Entries that a call added, each with its receipt.
pub record Adds (b new : Journal) (before now : List Receipt) (lb session at : ℕ) (gained : List Receipt) : Type 0 where
  pub receipts : now ≡ before ++ gained
  pub own : All (IsOwn lb session at) gained
  pub grown : new ≡ grown_by b gained
  pub next : AreNextAt b at gained

pub adds_of : (b new : Journal) (before now : List Receipt) (lb session at : ℕ) (gained : List Receipt) → BookGains b new before now lb session at gained
    → Adds b new before now lb session at gained
adds_of b new before now lb session at gained gains = record { receipts = gains.receipts; own = gains.own; grown = gains.grown; next = gains.next }

own_all : (lb session at n : ℕ) (gained : List Receipt) → session ≡ n → All (IsOwn lb session at) gained → AreOf n (entries_in gained)
own_all lb session at n [] same own = tt
own_all lb session at n (r ∷ gained) same own = (
  (All-head (λ (x : Receipt). IsOwn lb session at x) r gained own).caller ∙ same,
  own_all lb session at n gained same (All-tail (λ (x : Receipt). IsOwn lb session at x) r gained own),
)

last_is : (xs ys : List Entry) (k : ℕ) → k ≡ length ys → drop (length (xs ++ ys) - k) (xs ++ ys) ≡ ys
last_is xs ys k many =
    let place : length (xs ++ ys) - k ≡ length xs = omega (arith, length-append xs ys) in
    ap (λ (i : ℕ). drop i (xs ++ ys)) place ∙ drop-append_seam xs ys

pub gained_is : (before now gained : List Receipt) → now ≡ before ++ gained → gained_in before now ≡ gained
gained_is before now gained is = ap (λ (xs : List Receipt). drop (length before) xs) is ∙ drop-append_seam before gained

-- The Book that was taken.
pub taken_one : (me m1 : Me Journal PassView) (t : ℕ) (took : Took me t m1) → IsIdle me → m1.1 ≡ (0, took.book) ∷ rest m1.1
taken_one me m1 t took idle =
    let is : m1.1 ≡ (0, took.book) ∷ me.1 = ap (λ (x : Me Journal PassView). x.1) took.is in
    is ∙ ap (λ (c : List (ℕ × Journal)). (0, took.book) ∷ c) (sym (ap (λ (c : List (ℕ × Journal)). rest c) is))

pub taken_is : (me m1 : Me Journal PassView) (t : ℕ) (took : Took me t m1) (b : Journal) → m1.1 ≡ (0, b) ∷ rest m1.1 → b ≡ took.book
taken_is me m1 t took b lent =
    let is : m1.1 ≡ (0, took.book) ∷ me.1 = ap (λ (x : Me Journal PassView). x.1) took.is in
    let both : (0, b) ∷ rest m1.1 ≡ (0, took.book) ∷ me.1 = sym lent ∙ is in
    let head : (0, b) ≡ (0, took.book) = cc in
    ap (λ (x : ℕ × Journal). x.1) head

-- The Book, by the view of the caller that took it.
pub record IsTaken (v : PassView) (b : Journal) : Type 0 where
  pub log : List Entry
  pub begins : BeginsWith log v.seen
  pub history : IsHistory v.origin.opening log
  pub stands : IsBookOf v.origin log b
  pub own : own_in v ≡ own_of v.number log

pub taken_of : (me m1 : Me Journal PassView) (t : ℕ) (took : Took me t m1) → IsIdle me → (b : Journal) → m1.1 ≡ (0, b) ∷ rest m1.1 → IsTaken me.0 b
taken_of me m1 t took idle b lent =
    let v : PassView = me.0 in
    let is : took.book ≡ b = sym (taken_is me m1 t took b lent) in
    subst (λ (x : Journal). IsTaken v x) is (record {
      log = took.log;
      begins = took.begins;
      history = took.history;
      stands = took.stands;
      own = took.own v.number (own_in v) (subst (λ (xs : List (ℕ × List Entry)). Carries xs v.number (own_in v)) (sym idle.owns) (carries_one v.number (own_in v)));
    })

-- The entries that a call added give back what the caller got.
abbrev pub GivesOwn : PassView → List Receipt → Type 0
GivesOwn v gained = (u : ℕ) → is_returned u (entries_in gained) ≡ true → has_made u (own_in v) ≡ true

-- The seat with the Book as the call left it.
abbrev pub with_book : Me Journal PassView → Journal → Me Journal PassView
with_book m b = (m.0, (0, b) ∷ rest m.1)

module _ (me m1 : Me Journal PassView) (t : ℕ) (took : Took me t m1) (idle : IsIdle me) (b new : Journal) (lent : m1.1 ≡ (0, b) ∷ rest m1.1)
    (before now : List Receipt) (lb session at : ℕ) (gained : List Receipt) (adds : Adds b new before now lb session at gained) (caller : session ≡ me.0.number)
    (gives : GivesOwn me.0 gained) (k : ℕ) (many : k ≡ length now - length before) where
  taken : IsTaken me.0 b
  taken = taken_of me m1 t took idle b lent

  -- the seat in its plain form
  abbrev plain : Me Journal PassView
  plain = (turning me.0 (Out t) took.log me.0.owns, (0, new) ∷ [])

  plain_is : with_book m1 new ≡ plain
  plain_is =
      let view : m1.0 ≡ turning me.0 (Out t) took.log me.0.owns = ap (λ (x : Me Journal PassView). x.0) took.is in
      let none : rest m1.1 ≡ [] = ap (λ (x : Me Journal PassView). rest x.1) took.is ∙ idle.empty in
      ap (λ (c : List (ℕ × Journal)). (m1.0, (0, new) ∷ c)) none ∙ ap (λ (w : PassView). (w, (0, new) ∷ [])) view

  many_gained : k ≡ length (entries_in gained)
  many_gained = omega (arith, many, ap (λ (xs : List Receipt). length xs) adds.receipts, length-append before gained, length-map gained (λ (r : Receipt). r.entry))

  last_new : last_in k ((0, new) ∷ []) ≡ entries_in gained
  last_new =
      ap (λ (x : Journal). drop (length x.entries - k) x.entries) adds.grown ∙ last_is b.entries (entries_in gained) k many_gained

  stands_taken : IsBookOf me.0.origin took.log b
  stands_taken = subst (λ (x : Journal). IsBookOf me.0.origin took.log x) (sym (taken_is me m1 t took b lent)) took.stands

  own_taken : own_in me.0 ≡ own_of me.0.number took.log
  own_taken = took.own me.0.number (own_in me.0) (subst (λ (xs : List (ℕ × List Entry)). Carries xs me.0.number (own_in me.0)) (sym idle.owns) (carries_one me.0.number (own_in me.0)))

  history_taken : IsHistory me.0.origin.opening (took.log ++ entries_in gained)
  history_taken =
      history_more me.0.origin.opening took.log b at me.0.number gained took.history stands_taken.whole stands_taken.sound adds.next (own_all lb session at me.0.number gained caller adds.own)
      (λ u back. subst (λ (es : List Entry). has_made u es ≡ true) own_taken (gives u back))

  pub told_by : IsTold k (with_book m1 new)
  told_by =
      subst (λ (m : Me Journal PassView). IsTold k m) (sym plain_is) (record {
        turn = refl;
        owns = idle.owns;
        book = new;
        carried = refl;
        many = ap (λ (xs : List Entry). length xs) last_new ∙ sym many_gained;
        mine = subst (λ (xs : List Entry). AreOf me.0.number xs) (sym last_new) (own_all lb session at me.0.number gained caller adds.own);
        history = subst (λ (xs : List Entry). IsHistory me.0.origin.opening (took.log ++ xs)) (sym last_new) history_taken;
        stands =
            subst (λ (xs : List Entry). IsBookOf me.0.origin (took.log ++ xs) new) (sym last_new)
            (subst (λ (x : Journal). IsBookOf me.0.origin (took.log ++ entries_in gained) x) (sym adds.grown) (book_grown me.0.origin took.log b at gained stands_taken adds.next));
      })

  after_turn : (after : Me Journal PassView) → Ended k (with_book m1 new) after
      → after ≡ (turning me.0 Idle (took.log ++ entries_in gained) ((me.0.number, own_in me.0 ++ entries_in gained) ∷ []), [])
  after_turn after ended =
      let plainly : Ended k plain after = subst (λ (m : Me Journal PassView). Ended k m after) plain_is ended in
      plainly
      ∙ ap (λ (xs : List Entry). (turning me.0 Idle (took.log ++ xs) (grown_owns xs me.0.owns), [])) last_new
      ∙ ap (λ (owns : List (ℕ × List Entry)). (turning me.0 Idle (took.log ++ entries_in gained) (grown_owns (entries_in gained) owns), [])) idle.owns

  pub takes_turn : (after : Me Journal PassView) → Ended k (with_book m1 new) after → TakesTurn me.0 after.0 b (gained_in before now)
  takes_turn after ended =
      subst (λ (g : List Receipt). TakesTurn me.0 after.0 b g) (sym (gained_is before now gained adds.receipts)) (record {
        log = took.log;
        begins = took.begins;
        stands = stands_taken;
        own = own_taken;
        before = took.history;
        mine = own_all lb session at me.0.number gained caller adds.own;
        history = history_taken;
        after = ap (λ (x : Me Journal PassView). x.0) (after_turn after ended);
      })

  pub idle_after : (after : Me Journal PassView) → Ended k (with_book m1 new) after → IsIdle after
  idle_after after ended =
      subst (λ (m : Me Journal PassView). IsIdle m) (sym (after_turn after ended)) (record { turn = refl; empty = refl; owns = refl })

-- A Maintain, a Select and a command give no ticket back.
pub none_due : (due : List Receipt) (u : ℕ) → IsDue due → is_returned u (entries_in due) ≡ false
none_due [] u is = refl
none_due (r ∷ []) u is = ap (λ (c : Call). gives_back u c || false) is
none_due (r ∷ s ∷ more) u is = absurd is

pub none_last : (due : List Receipt) (r : Receipt) (u : ℕ) → IsDue due → gives_back u r.entry.call ≡ false → is_returned u (entries_in (due ++ r ∷ [])) ≡ false
none_last [] r u is none = ap (λ (b : Bool). b || false) none
none_last (d ∷ []) r u is none =
    ap (λ (c : Call). gives_back u c || (gives_back u r.entry.call || false)) is ∙ ap (λ (b : Bool). b || false) none
none_last (d ∷ e ∷ more) r u is none = absurd is

gives_none : (v : PassView) (gained : List Receipt) → ((u : ℕ) → is_returned u (entries_in gained) ≡ false) → GivesOwn v gained
gives_none v gained none u back = let no : is_returned u (entries_in gained) ≡ false = none u in absurd cc

pub due_gives : (v : PassView) (due : List Receipt) → IsDue due → GivesOwn v due
due_gives v due is = gives_none v due (λ u. none_due due u is)

pub select_gives : (v : PassView) (due : List Receipt) (r : Receipt) (ask : Ask) → IsDue due → r.entry.call ≡ call.Select ask → GivesOwn v (due ++ r ∷ [])
select_gives v due r ask is selects = gives_none v (due ++ r ∷ []) (λ u. none_last due r u is (ap (λ (c : Call). gives_back u c) selects))

pub command_gives : (v : PassView) (due : List Receipt) (r : Receipt) (command : Command) → IsDue due → r.entry.call ≡ call.Admin command → GivesOwn v (due ++ r ∷ [])
command_gives v due r command is commands = gives_none v (due ++ r ∷ []) (λ u. none_last due r u is (ap (λ (c : Call). gives_back u c) commands))
