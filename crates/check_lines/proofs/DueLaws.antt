-- After a call that a desk did, no Maintain is due for a further call at that moment.
use Rattle.std.proofs.Common.{◌≡◌, ℕ, ◌+◌, ◌<◌, Bool, true, false, cond, List, [], ◌∷◌, ◌++◌, length, Option, Some, refl, sym, ap, ◌∙◌, subst, arith}
use Rattle.lb_model.specs.Journal.{is_maintain, maintained_of, moment_of}
use Rattle.lb_model.specs.declared.ask.Ask.{Ask}
use Rattle.lb_model.specs.declared.change.Command.{Command}
use Rattle.lb_model.specs.declared.journal.Call.{Call}
use Rattle.lb_model.specs.declared.journal.Call.TheVariants as call
use Rattle.lb_model.specs.declared.journal.Entry.{Entry}
use Rattle.lb_model.specs.declared.journal.Outcome.{Outcome}
use Rattle.lb_model.specs.declared.refusal.Stray.{Stray}
use Rattle.lb_book.specs.Desks.{Chooses, Commands, DeskState, GainsLast, IsDue, LeaseNote, MeetsStray, TakesBack}
use Rattle.lb_book.specs.Due.{due_moment, entry_moment}
use Rattle.lb_book.specs.Journal.{Journal, past_of}
use Rattle.lb_book.specs.ToldBooks.{AreNextAt, AreSound, IsNextAt, IsNoneDue, book_in, grown_by}
use Rattle.lb_book.specs.declared.desk.Choice.{Choice}
use Rattle.lb_book.specs.declared.receipt.Receipt.{Receipt}
use Rattle.lb_book.proofs.ToldLaws.{grown-twice, past-one, told_grown}
use Rattle.check_lines.specs.Once.{IsUpToDate}

moment-one : (b : Journal) (at : ℕ) (r : Receipt) → IsNextAt b at r.entry → entry_moment (grown_by b (r ∷ [])) at ≡ entry_moment b at
moment-one b at r next =
    let last : moment_of b.opening (past_of (grown_by b (r ∷ []))) ≡ r.entry.at = ap (λ (p : List Entry). moment_of b.opening p) (past-one b r) in
    omega (arith, last, next.moment)

due-one : (b : Journal) (r : Receipt) (x : Bool) → is_maintain r.entry.call ≡ x
    → due_moment (grown_by b (r ∷ [])) ≡ cond x r.entry.at (maintained_of b.opening (past_of b)) + b.opening.config.maintain
due-one b r x is =
    ap (λ (p : List Entry). maintained_of b.opening p + b.opening.config.maintain) (past-one b r)
    ∙ ap (λ (y : Bool). cond y r.entry.at (maintained_of b.opening (past_of b)) + b.opening.config.maintain) is

-- None is due after a Maintain, and none becomes due by another entry.
after_maintain : (b : Journal) (at : ℕ) (r : Receipt) → IsNextAt b at r.entry → r.entry.call ≡ call.Maintain → IsNoneDue (grown_by b (r ∷ [])) at
after_maintain b at r next is =
    let due : due_moment (grown_by b (r ∷ [])) ≡ r.entry.at + b.opening.config.maintain =
    due-one b r true (ap (λ (c : Call). is_maintain c) is) in
    omega (arith, due, moment-one b at r next, next.moment, b.opening.config.maintains.above)

after_other : (b : Journal) (at : ℕ) (r : Receipt) → IsNextAt b at r.entry → is_maintain r.entry.call ≡ false → IsNoneDue b at
    → IsNoneDue (grown_by b (r ∷ [])) at
after_other b at r next other none = omega (arith, due-one b r false other, moment-one b at r next, none)

after_last : (b : Journal) (at : ℕ) (due : List Receipt) (last : Receipt) → IsDue due → AreNextAt b at (due ++ last ∷ [])
    → (due ≡ [] → IsNoneDue b at) → is_maintain last.entry.call ≡ false → IsNoneDue (grown_by b (due ++ last ∷ [])) at
after_last b at [] last is next none other = after_other b at last next.0 other (none refl)
after_last b at (r ∷ []) last is next none other =
    subst (λ (x : Journal). IsNoneDue x at) (grown-twice b (r ∷ []) (last ∷ []))
    (after_other (grown_by b (r ∷ [])) at last next.1.0 other (after_maintain b at r next.0 is))
after_last b at (r ∷ s ∷ rest) last is next none other = absurd is

gained_last : (old new : DeskState) (lb session at : ℕ) (last : Receipt) → lb < length old.sizes → AreSound old.sizes old.books
    → GainsLast old new lb session at last → is_maintain last.entry.call ≡ false → IsUpToDate new lb at
gained_last old new lb session at last within sound gains other b found =
    let told : (x : Journal) × (book_in old.books lb ≡ Some x) × (b ≡ grown_by x (gains.due ++ last ∷ [])) =
    told_grown lb (gains.due ++ last ∷ []) old.sizes old.books new.books b within sound gains.gains.books found in
    let same : told.0 ≡ gains.follows.book = gains.follows.found.told told.0 told.1 in
    let grown : b ≡ grown_by gains.follows.book (gains.due ++ last ∷ []) =
    told.2 ∙ ap (λ (x : Journal). grown_by x (gains.due ++ last ∷ [])) same in
    subst (λ (x : Journal). IsNoneDue x at) (sym grown)
    (after_last gains.follows.book at gains.due last gains.is_due gains.follows.next gains.maintained.0 other)

pub chosen_up_to_date : {T : Type 0} (note : T → LeaseNote) (old new : DeskState) (lb session at : ℕ) (ask : Ask) (c : Choice T)
    → lb < length old.sizes → AreSound old.sizes old.books → Chooses note old new lb session at ask c → IsUpToDate new lb at
chosen_up_to_date note old new lb session at ask c within sound chose =
    gained_last old new lb session at chose.last within sound chose.gains (ap (λ (x : Call). is_maintain x) chose.asked)

pub commanded_up_to_date : (old new : DeskState) (lb session at : ℕ) (command : Command)
    → lb < length old.sizes → AreSound old.sizes old.books → Commands old new lb session at command → IsUpToDate new lb at
commanded_up_to_date old new lb session at command within sound done =
    gained_last old new lb session at done.last within sound done.gains (ap (λ (x : Call). is_maintain x) done.commanded)

pub returned_up_to_date : (old new : DeskState) (lb session at : ℕ) (lease : LeaseNote) (outcome : Outcome) → lease.lb ≡ lb
    → lb < length old.sizes → AreSound old.sizes old.books → TakesBack old new session at lease outcome → IsUpToDate old lb at → IsUpToDate new lb at
returned_up_to_date old new lb session at lease outcome same within sound back none b found =
    let told : (x : Journal) × (book_in old.books lease.lb ≡ Some x) × (b ≡ grown_by x (back.last ∷ [])) =
    told_grown lease.lb (back.last ∷ []) old.sizes old.books new.books b (subst (λ (n : ℕ). n < length old.sizes) (sym same) within) sound back.gains.books
    (subst (λ (n : ℕ). book_in new.books n ≡ Some b) (sym same) found) in
    let before : IsNoneDue told.0 at = none told.0 (subst (λ (n : ℕ). book_in old.books n ≡ Some told.0) same told.1) in
    let same : told.0 ≡ back.follows.book = back.follows.found.told told.0 told.1 in
    let next : IsNextAt told.0 at back.last.entry = subst (λ (x : Journal). IsNextAt x at back.last.entry) (sym same) back.follows.next.0 in
    subst (λ (x : Journal). IsNoneDue x at) (sym told.2)
    (after_other told.0 at back.last next (ap (λ (x : Call). is_maintain x) back.returned) before)

pub stray_up_to_date : (old new : DeskState) (lb at : ℕ) (lease : LeaseNote) (stray : Stray) → MeetsStray old new lease stray → IsUpToDate old lb at → IsUpToDate new lb at
stray_up_to_date old new lb at lease stray met none b found =
    none b (sym (ap (λ (books : Option (List Journal)). book_in books lb) met.books) ∙ found)
