-- The calls of one hold, taken together: a Maintain that was due, and one entry more, or a refusal.
use Rattle.std.proofs.Common.{◌≡◌, ℕ, ◌+◌, ◌<◌, ◌≤◌, false, List, [], ◌∷◌, ◌++◌, length, Some, refl, sym, ap, ◌∙◌, subst, inl, inr, arith}
use Rattle.std.specs.Prelude.{◌^◌, IfSome, MatchOption, Option, None, Ok, Err, slice_get, slice_index, slice_set}
use Rattle.std.proofs.lemmas.List.{append-nil, append_assoc, length-append, set-set}
use Rattle.std.proofs.lemmas.List.Elements.{All-append, All-from_recursion, All-nil}
use Rattle.std.proofs.lemmas.Option.{slice_get_within}
use Rattle.lb_model.specs.Choice.{IsPick}
use Rattle.lb_model.specs.Free.{is_in}
use Rattle.lb_model.specs.Journal.{members, next_of}
use Rattle.lb_model.specs.Legal.{IsAnswered, IsDoable, IsNext}
use Rattle.lb_model.specs.declared.ask.Ask.{Ask}
use Rattle.lb_model.specs.declared.change.Command.{Command}
use Rattle.lb_model.specs.declared.journal.Answer.{Answer}
use Rattle.lb_model.specs.declared.journal.Answer.TheVariants as answer
use Rattle.lb_model.specs.declared.journal.Call.{Call}
use Rattle.lb_model.specs.declared.journal.Call.TheVariants as call
use Rattle.lb_model.specs.declared.journal.Entry.{Entry}
use Rattle.lb_model.specs.declared.opening.Opening.{Opening}
use Rattle.lb_model.specs.declared.refusal.AdminError.{AdminError}
use Rattle.lb_model.specs.declared.refusal.AdminError.TheVariants as admin
use Rattle.lb_model.specs.declared.refusal.RoomError.{RoomError}
use Rattle.lb_model.specs.declared.refusal.RoomError.TheVariants as room
use Rattle.lb_book.specs.Commanded.{IsKnown}
use Rattle.lb_book.specs.Desks.{IsAskRefusal, IsCommandRefusal, IsOwn, LeaseNote, refused_first}
use Rattle.lb_book.specs.Due.{due_moment, entry_moment}
use Rattle.lb_book.specs.Journal.{Journal, next_number, past_of, tickets_out}
use Rattle.lb_book.specs.Refused.{RefusesAsk, RefusesChange, RefusesMaintain}
use Rattle.lb_book.specs.ToldBooks.{AreNextAt, IsFound, IsNoneDue, grown_by}
use Rattle.lb_book.specs.declared.desk.Choice.{Choice}
use Rattle.lb_book.specs.declared.receipt.Receipt.{Receipt}
use Rattle.lb_book.proofs.PlainLaws.{size-at}
use Rattle.lb_book.proofs.ToldLaws.{at_place, get-set, grown-nil, grown-twice, next_more, set-found, some_is}
use Rattle.lb_shared.specs.Holds.{HeldState, HoldChooses, HoldCommands, HoldGains, HoldGainsDue, HoldGainsLast, HoldMaintains, IsAdminMark, IsHoldChoice, IsRoomMark, IsSiteChoice, held, listed}
use Rattle.lb_shared.specs.Notes.{MarkNote, lease_of}
use Rattle.lb_shared.specs.SiteAnswers.{HasRoom, IsCommandedAt, IsMaintenanceAt, IsRoomAt}
use Rattle.lb_shared.specs.Sites.{AddsAt, AreSited, At}

-- Nothing, one entry, and entries after others.
pub gains_none : (old : HeldState) (lb session at : ℕ) (b : Journal) → slice_get old.books lb ≡ Some b → HoldGains old old lb session at []
gains_none old lb session at b found = record {
  book = b;
  found = found;
  grown = sym (set-found old.books lb b found) ∙ ap (λ (x : Journal). slice_set old.books lb x) (grown-nil b);
  next = tt;
  receipts = sym (append-nil old.receipts);
  own = All-nil (IsOwn lb session at);
  amount = omega arith;
}

pub gains_one : (old new : HeldState) (lb session at : ℕ) (called : Call) (r : Receipt) → AddsAt old.books new.books lb session at called r
    → new.receipts ≡ old.receipts ++ r ∷ [] → new.amount ≡ old.amount + 1 → HoldGains old new lb session at (r ∷ [])
gains_one old new lb session at called r adds noted counted = record {
  book = adds.book;
  found = adds.found;
  grown = adds.grown;
  next = (adds.next, tt);
  receipts = noted;
  own = All-from_recursion (IsOwn lb session at) (r ∷ []) (adds.own, tt);
  amount = counted;
}

pub gains_more : (a b c : HeldState) (lb session at : ℕ) (g h : List Receipt) (first : HoldGains a b lb session at g) → HoldGains b c lb session at h
    → (both : HoldGains a c lb session at (g ++ h)) × (both.book ≡ first.book)
gains_more a b c lb session at g h first second =
    let within : lb < length a.books = slice_get_within a.books lb first.book first.found in
    let there : slice_get b.books lb ≡ Some (grown_by first.book g) =
    ap (λ (books : List Journal). slice_get books lb) first.grown ∙ get-set a.books lb (grown_by first.book g) within in
    let is : second.book ≡ grown_by first.book g = some_is second.book (grown_by first.book g) (sym second.found ∙ there) in
    let twice : grown_by second.book h ≡ grown_by first.book (g ++ h) =
    ap (λ (x : Journal). grown_by x h) is ∙ grown-twice first.book g h in
    let grown : c.books ≡ slice_set a.books lb (grown_by first.book (g ++ h)) =
    second.grown
    ∙ ap (λ (x : Journal). slice_set b.books lb x) twice
    ∙ ap (λ (books : List Journal). slice_set books lb (grown_by first.book (g ++ h))) first.grown
    ∙ set-set a.books lb (grown_by first.book g) (grown_by first.book (g ++ h)) in (
      record {
        book = first.book;
        found = first.found;
        grown = grown;
        next = next_more first.book at g h first.next (subst (λ (x : Journal). AreNextAt x at h) is second.next);
        receipts = second.receipts ∙ ap (λ (xs : List Receipt). xs ++ h) first.receipts ∙ append_assoc a.receipts g h;
        own = All-append (IsOwn lb session at) g h first.own second.own;
        amount = let sum : length (g ++ h) ≡ length g + length h = length-append g h in
            let one : b.amount ≡ a.amount + length g = first.amount in
            let two : c.amount ≡ b.amount + length h = second.amount in
            omega arith;
      },
      refl,
    )

-- A Maintain that was due and then an entry.
pub gains_last : (a b c : HeldState) (lb session at : ℕ) (called : Call) (r : Receipt) → HoldMaintains a b lb session at → AddsAt b.books c.books lb session at called r
    → c.receipts ≡ b.receipts ++ r ∷ [] → c.amount ≡ b.amount + 1 → HoldGainsLast a c lb session at r
unfolding gains_more
gains_last a b c lb session at called r due adds noted counted =
    let both = gains_more a b c lb session at due.due (r ∷ []) due.gains (gains_one b c lb session at called r adds noted counted) in
    record {
      due = due.due;
      is_due = due.is_due;
      gains = both.0;
      maintained = due.maintained;
    }

-- The choice of an answer.
hold_choice : (v : ℕ) (o : Opening) (p : List Entry) (sizes : List ℕ) (lb : ℕ) (ask : Ask) (e : Entry) (a : Answer) (c : Choice LeaseNote) → e.answer ≡ a
    → e.seq ≡ next_of o p → IsPick v o p ask a → IfSome (lease_of lb a) (λ lease. (lease.member < slice_index sizes lb) × (is_in ask.tried lease.member ≡ false))
    → IsSiteChoice lb a c → IsHoldChoice sizes lb ask e c
hold_choice v o p sizes lb ask e (answer.Chosen m t how probe) c is number pick member chose =
    let ticket : t ≡ e.seq = pick.1 ∙ sym number in
    subst (λ (x : Choice LeaseNote). IsHoldChoice sizes lb ask e x) (sym chose) (
      how,
      probe,
      is ∙ ap (λ (n : ℕ). answer.Chosen m n how probe) ticket,
      ap (λ (n : ℕ). record { lb = lb; member = m; ticket = n }) ticket,
      member.0,
      member.1,
    )
hold_choice v o p sizes lb ask e answer.NoMember c is number pick member chose =
    subst (λ (x : Choice LeaseNote). IsHoldChoice sizes lb ask e x) (sym chose) is
hold_choice v o p sizes lb ask e answer.Forced c is number pick member chose =
    subst (λ (x : Choice LeaseNote). IsHoldChoice sizes lb ask e x) (sym chose) is
hold_choice v o p sizes lb ask e answer.Done c is number pick member chose = absurd chose

pub chooses : (sizes : List ℕ) (a b c : HeldState) (lb session at : ℕ) (ask : Ask) (r : Receipt) (picked : Choice LeaseNote) → HoldMaintains a b lb session at
    → AddsAt b.books c.books lb session at (call.Select ask) r → c.receipts ≡ b.receipts ++ r ∷ [] → c.amount ≡ b.amount + 1
    → At b.books lb (λ x. IsPick x.rules x.opening (past_of x) ask r.entry.answer)
    → IfSome (lease_of lb r.entry.answer) (λ lease. (lease.member < slice_index sizes lb) × (is_in ask.tried lease.member ≡ false))
    → IsSiteChoice lb r.entry.answer picked → HoldChooses sizes a c lb session at ask picked
chooses sizes a b c lb session at ask r picked due adds noted counted pick member chose = record {
  last = r;
  gains = gains_last a b c lb session at (call.Select ask) r due adds noted counted;
  asked = adds.called;
  answered = hold_choice adds.book.rules adds.book.opening (past_of adds.book) sizes lb ask r.entry r.entry.answer picked refl adds.next.next.number
      (pick adds.book adds.found) member chose;
}

-- Nothing was added, for want of memory.
pub due_none : (books books' : List Journal) (rs : List Receipt) (a a' : ℕ) (lb session at : ℕ) (wanting : Type 0) (account : Journal → List Receipt → Type 0)
    → books' ≡ books → a' ≡ a → lb < length books → wanting → HoldGainsDue (held books rs a) (held books' rs a') lb session at wanting account
due_none books books' rs a a' lb session at wanting account same_books same_amount within wants =
    let here : (b : Journal) × (slice_get books lb ≡ Some b) = at_place books lb within in
    subst (λ (x : List Journal). HoldGainsDue (held books rs a) (held x rs a') lb session at wanting account) (sym same_books)
    (subst (λ (n : ℕ). HoldGainsDue (held books rs a) (held books rs n) lb session at wanting account) (sym same_amount)
    (record { due = []; is_due = tt; gains = gains_none (held books rs a) lb session at here.0 here.1; why = inr (refl, wants) }))

-- The Maintain that was due was refused.
pub denied_first : (a b : HeldState) (lb session at : ℕ) (wanting : Type 0) (account : Journal → List Receipt → Type 0) → b ≡ a → lb < length a.books
    → At a.books lb (λ x. account x []) → HoldGainsDue a b lb session at wanting account
unfolding gains_none
denied_first a b lb session at wanting account same within why =
    let here : (x : Journal) × (slice_get a.books lb ≡ Some x) = at_place a.books lb within in
    subst (λ (x : HeldState). HoldGainsDue a x lb session at wanting account) (sym same)
    (record { due = []; is_due = tt; gains = gains_none a lb session at here.0 here.1; why = inl (why here.0 here.1) })

-- The call after it was refused.
pub denied_after : (a b : HeldState) (books' : List Journal) (amount' : ℕ) (lb session at : ℕ) (wanting : Type 0) (account : Journal → List Receipt → Type 0)
    → (due : HoldMaintains a b lb session at) → books' ≡ b.books → amount' ≡ b.amount → account due.gains.book due.due
    → HoldGainsDue a (held books' b.receipts amount') lb session at wanting account
denied_after a b books' amount' lb session at wanting account due same_books same_amount why =
    subst (λ (x : List Journal). HoldGainsDue a (held x b.receipts amount') lb session at wanting account) (sym same_books)
    (subst (λ (n : ℕ). HoldGainsDue a (held b.books b.receipts n) lb session at wanting account) (sym same_amount)
    (record { due = due.due; is_due = due.is_due; gains = due.gains; why = inl why }))

-- The Book after the Maintain.
maintained_at : (a b : HeldState) (lb session at : ℕ) (due : HoldMaintains a b lb session at) → slice_get b.books lb ≡ Some (grown_by due.gains.book due.due)
maintained_at a b lb session at due =
    ap (λ (books : List Journal). slice_get books lb) due.gains.grown
    ∙ get-set a.books lb (grown_by due.gains.book due.due) (slice_get_within a.books lb due.gains.book due.gains.found)

-- The refusals of a Site are those of its Book.
refused_ask : (lb : ℕ) (b : Journal) (e : RoomError MarkNote) → IsRoomAt {T = ℕ} lb 2 b (Err e) → RefusesAsk (λ mark. mark.numbers) b e
refused_ask lb b (room.Full mark) is = (is.0, (is.1.next, is.1.out))
refused_ask lb b room.NoMemory is = tt

refused_change : (lb : ℕ) (b : Journal) (c : Command) (e : AdminError MarkNote) → IsCommandedAt {T = ℕ} lb b c (Err e) → RefusesChange (λ mark. mark.numbers) b c e
refused_change lb b c admin.UnknownMember is = is
refused_change lb b c admin.BadValue is = is
refused_change lb b c (admin.TooWide mark) is = (is.0, is.1, is.2, (is.3.next, is.3.out))
refused_change lb b c (admin.Full mark) is = (is.0, (is.1.0, (is.1.1.next, is.1.1.out)))
refused_change lb b c admin.NoMemory is = tt

pub refused_maintain : (lb : ℕ) (b : Journal) (at : ℕ) (e : RoomError MarkNote) → IsMaintenanceAt {T = ℕ} lb b at (Err e) → RefusesMaintain (λ mark. mark.numbers) b at e
refused_maintain lb b at (room.Full mark) is = (is.0, (is.1.0, (is.1.1.next, is.1.1.out)))
refused_maintain lb b at room.NoMemory is = is.0

pub ask_account : (a b : HeldState) (lb session at : ℕ) (due : HoldMaintains a b lb session at) (e : RoomError MarkNote) → At b.books lb (λ x. IsRoomAt {T = ℕ} lb 2 x (Err e))
    → IsAskRefusal (λ mark. mark.numbers) at e due.gains.book due.due
ask_account a b lb session at due e why =
    inl (due.maintained, refused_ask lb (grown_by due.gains.book due.due) e (why (grown_by due.gains.book due.due) (maintained_at a b lb session at due)))

pub command_account : (a b : HeldState) (lb session at : ℕ) (due : HoldMaintains a b lb session at) (c : Command) (e : AdminError MarkNote)
    → At b.books lb (λ x. IsCommandedAt {T = ℕ} lb x c (Err e)) → IsCommandRefusal (λ mark. mark.numbers) at c e due.gains.book due.due
command_account a b lb session at due c e why =
    inl (due.maintained, refused_change lb (grown_by due.gains.book due.due) c e (why (grown_by due.gains.book due.due) (maintained_at a b lb session at due)))

pub command_first : (books : List Journal) (lb at : ℕ) (c : Command) (e : AdminError MarkNote) (first : RoomError MarkNote) → e ≡ refused_first first
    → At books lb (λ b. RefusesMaintain (λ mark. mark.numbers) b at first) → At books lb (λ b. IsCommandRefusal (λ mark. mark.numbers) at c e b [])
command_first books lb at c e first is why b found = inr (first, is, refl, why b found)

-- A Maintain where one was due.
pub maintains : (found : Option Receipt) (books books' : List Journal) (rs rs' : List Receipt) (a a' : ℕ) (lb session at : ℕ) → lb < length books
    → MatchOption found (books' ≡ books) (λ r. AddsAt books books' lb session at call.Maintain r) → At books lb (λ b. IsMaintenanceAt lb b at (Ok found))
    → MatchOption found (a' ≡ a) (λ r. a' ≡ a + 1) → rs' ≡ rs ++ listed found → HoldMaintains (held books rs a) (held books' rs' a') lb session at
unfolding gains_none gains_one
maintains None books books' rs rs' a a' lb session at within same due amount noted =
    let here : (b : Journal) × (slice_get books lb ≡ Some b) = at_place books lb within in
    let none : IsNoneDue here.0 at = due here.0 here.1 in
    subst (λ (x : List Journal). HoldMaintains (held books rs a) (held x rs' a') lb session at) (sym same)
    (subst (λ (n : ℕ). HoldMaintains (held books rs a) (held books rs' n) lb session at) (sym amount)
    (subst (λ (xs : List Receipt). HoldMaintains (held books rs a) (held books xs a) lb session at) (sym (noted ∙ append-nil rs))
    (record { due = []; is_due = tt; gains = gains_none (held books rs a) lb session at here.0 here.1; maintained = (λ is. none, λ is. refl) })))
maintains (Some r) books books' rs rs' a a' lb session at within adds due amount noted = record {
  due = r ∷ [];
  is_due = adds.called;
  gains = gains_one (held books rs a) (held books' rs' a') lb session at call.Maintain r adds noted amount;
  maintained = (
    (λ is. absurd cc),
    (λ none. let late : due_moment adds.book ≤ entry_moment adds.book at = (due adds.book adds.found).0 in absurd (omega (arith, none))),
  );
}

-- The marks of refusals.
pub due_mark : (lb : ℕ) (b : Journal) (at : ℕ) (e : RoomError MarkNote) → IsMaintenanceAt {T = ℕ} lb b at (Err e) → IsRoomMark lb 1 e
due_mark lb b at (room.Full mark) is = (
  record { of = is.1.1.of; refusal = is.1.1.refusal },
  (let next : mark.numbers.next ≡ next_number b = is.1.1.next in let out : mark.numbers.out ≡ tickets_out b = is.1.1.out in
      let full : 2 ^ 48 < next_number b + tickets_out b + 1 = is.1.0 in omega arith),
)
due_mark lb b at room.NoMemory is = tt

pub admin_mark : (lb : ℕ) (b : Journal) (c : Command) (e : AdminError MarkNote) → IsCommandedAt {T = ℕ} lb b c (Err e) → IsAdminMark lb e
admin_mark lb b c admin.UnknownMember is = tt
admin_mark lb b c admin.BadValue is = tt
admin_mark lb b c (admin.TooWide mark) is = record { of = is.3.of; refusal = is.3.refusal }
admin_mark lb b c (admin.Full mark) is = (
  record { of = is.1.1.of; refusal = is.1.1.refusal },
  (let next : mark.numbers.next ≡ next_number b = is.1.1.next in let out : mark.numbers.out ≡ tickets_out b = is.1.1.out in
      let full : 2 ^ 48 < next_number b + tickets_out b + 1 = is.1.0 in omega arith),
)
admin_mark lb b c admin.NoMemory is = tt

-- A command that was done.
admin_done : (b : Journal) (e : Entry) (c : Command) → IsNext b.rules b.opening (past_of b) e → e.call ≡ call.Admin c → e.answer ≡ answer.Done
admin_done b e c next calls =
    let is : IsAnswered b.rules b.opening (past_of b) e (call.Admin c) =
    subst (λ (x : Call). IsAnswered b.rules b.opening (past_of b) e x) calls next.answered in
    is.1

size_of : (sizes firsts : List ℕ) (books : List Journal) (lb : ℕ) (b : Journal) → AreSited sizes firsts books → slice_get books lb ≡ Some b → slice_index sizes lb ≡ members b.opening
size_of sizes firsts books lb b are here = ap (λ (ns : List ℕ). slice_index ns lb) (sym are.sized) ∙ size-at books lb b here

pub commands : (sizes firsts : List ℕ) (a b c : HeldState) (lb session at : ℕ) (command : Command) (r : Receipt) → HoldMaintains a b lb session at → AreSited sizes firsts b.books
    → AddsAt b.books c.books lb session at (call.Admin command) r → c.receipts ≡ b.receipts ++ r ∷ [] → c.amount ≡ b.amount + 1
    → At b.books lb (λ x. IsDoable x.opening (past_of x) command × HasRoom 1 x) → HoldCommands sizes a c lb session at command
commands sizes firsts a b c lb session at command r due are adds noted counted done =
    let doable : IsDoable adds.book.opening (past_of adds.book) command = (done adds.book adds.found).0 in
    record {
      last = r;
      gains = gains_last a b c lb session at (call.Admin command) r due adds noted counted;
      commanded = adds.called;
      done = admin_done adds.book r.entry command adds.next.next adds.called;
      named = subst (λ (n : ℕ). IsKnown n command) (sym (size_of sizes firsts b.books lb adds.book are adds.found)) (doable.member, doable.target);
      values = doable.values;
    }

-- The Book that was found is a journal that the balancer may have.
pub sited_found : (sizes firsts : List ℕ) (books : List Journal) (lb : ℕ) (b : Journal) → AreSited sizes firsts books → slice_get books lb ≡ Some b
    → IsFound sizes None lb b
sited_found sizes firsts books lb b are here = record {
  sound = are.sound lb b here;
  rules = are.modern lb b here;
  size = sym (size_of sizes firsts books lb b are here);
  told = λ x found. absurd cc;
}
