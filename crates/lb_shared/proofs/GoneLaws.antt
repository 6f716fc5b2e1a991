-- A desk since a moment, after one call more: its seat has seen the receipts that the call added.
use Rattle.std.proofs.Common.{◌≡◌, ℕ, List, [], ◌∷◌, ◌++◌, inl, inr, refl, sym, ap, ◌∙◌, subst, append-nil}
use Rattle.std.specs.Prelude.{IfErr, IfOk, Result, Ok, Err}
use Rattle.lb_model.specs.declared.ask.Ask.{Ask}
use Rattle.lb_model.specs.declared.change.Command.{Command}
use Rattle.lb_model.specs.declared.journal.Entry.{Entry}
use Rattle.lb_model.specs.declared.journal.Outcome.{Outcome}
use Rattle.lb_model.specs.declared.opening.Opening.{Opening}
use Rattle.lb_model.specs.declared.refusal.AdminError.{AdminError}
use Rattle.lb_model.specs.declared.refusal.RoomError.{RoomError}
use Rattle.lb_model.specs.declared.refusal.Stray.{Stray}
use Rattle.lb_book.specs.Desks.{Chooses, Commands, DeskState, LeaseNote, MeetsStray, RefusesChoice, RefusesCommand, TakesBack}
use Rattle.lb_book.specs.declared.desk.Choice.{Choice}
use Rattle.lb_book.specs.declared.receipt.Receipt.{Receipt}
use Rattle.lb_shared.specs.Histories.{DeskMaySee, DeskSees, HasGone, SeatNote, gained_in, noted}
use Rattle.lb_shared.specs.Notes.{MarkNote}
use Rattle.lb_shared.proofs.LeftLaws.{drop_front, gone_on}

-- Receipts were only added to.
abbrev pub Adds : (old new : List Receipt) → Type 0
Adds old new = (more : List Receipt) × (new ≡ old ++ more)

no_more : (old new : List Receipt) → gained_in old new ≡ [] → Adds old new → new ≡ old
no_more old new none (more, is) =
    let gained : noted more ≡ [] = sym (ap (λ (xs : List Receipt). gained_in old xs) is ∙ ap (λ (xs : List Receipt). noted xs) (drop_front old more)) ∙ none in
    is ∙ ap (λ (xs : List Receipt). old ++ xs) (empty more gained) ∙ append-nil old
  where
    empty : (xs : List Receipt) → noted xs ≡ [] → xs ≡ []
    empty [] same = refl
    empty (x ∷ xs) same = absurd cc

pub gone_may : (starts : List Opening) (s : SeatNote) (rs : List Receipt) (t u : SeatNote) (us vs : List Receipt) (W : Type 0) → Adds us vs
    → DeskMaySee starts t u (gained_in us vs) W → HasGone s rs t us → HasGone s rs u vs
gone_may starts s rs t u us vs W adds may gone =
    elim may [
      | inl sees ↦ gone_on starts s rs t u us vs adds.0 gone adds.1 sees
      | inr none ↦
          subst (λ (x : SeatNote). HasGone s rs x vs) (sym none.0)
          (subst (λ (xs : List Receipt). HasGone s rs t xs) (sym (no_more us vs none.1 adds)) gone)
    ]

pub gone_sees : (starts : List Opening) (s : SeatNote) (rs : List Receipt) (t u : SeatNote) (us vs : List Receipt) → Adds us vs
    → DeskSees starts t u (gained_in us vs) → HasGone s rs t us → HasGone s rs u vs
gone_sees starts s rs t u us vs adds sees gone = gone_on starts s rs t u us vs adds.0 gone adds.1 sees

-- A look adds nothing.
pub gone_looked : (starts : List Opening) (s : SeatNote) (rs : List Receipt) (t u : SeatNote) (us vs : List Receipt) → vs ≡ us
    → DeskSees starts t u [] → HasGone s rs t us → HasGone s rs u vs
gone_looked starts s rs t u us vs same sees gone =
    let none : gained_in us us ≡ [] = ap (λ (xs : List Receipt). gained_in us xs) (sym (append-nil us)) ∙ ap (λ (xs : List Receipt). noted xs) (drop_front us []) in
    subst (λ (xs : List Receipt). HasGone s rs u xs) (sym same)
    (gone_on starts s rs t u us us [] gone (sym (append-nil us)) (subst (λ (es : List (ℕ × Entry)). DeskSees starts t u es) (sym none) sees))

pub adds_chosen : (old new : DeskState) (lb session at : ℕ) (ask : Ask) (r : Result (Choice LeaseNote) (RoomError MarkNote))
    → IfOk r (λ c. Chooses (λ lease. lease) old new lb session at ask c) → IfErr r (λ e. RefusesChoice (λ mark. mark.numbers) old new lb session at e)
    → Adds old.receipts new.receipts
adds_chosen old new lb session at ask (Ok c) ok err = (_, ok.gains.gains.receipts)
adds_chosen old new lb session at ask (Err e) ok err = (_, err.gains.gains.receipts)

pub adds_commanded : {U : Type 0} (old new : DeskState) (lb session at : ℕ) (command : Command) (r : Result U (AdminError MarkNote))
    → IfOk r (λ _. Commands old new lb session at command) → IfErr r (λ e. RefusesCommand (λ mark. mark.numbers) old new lb session at command e)
    → Adds old.receipts new.receipts
adds_commanded old new lb session at command (Ok c) ok err = (_, ok.gains.gains.receipts)
adds_commanded old new lb session at command (Err e) ok err = (_, err.gains.gains.receipts)

pub adds_back : {U : Type 0} (old new : DeskState) (session at : ℕ) (lease : LeaseNote) (outcome : Outcome) (r : Result U Stray)
    → IfOk r (λ _. TakesBack old new session at lease outcome) → IfErr r (λ stray. MeetsStray old new lease stray)
    → Adds old.receipts new.receipts
adds_back old new session at lease outcome (Ok c) ok err = (_, ok.gains.receipts)
adds_back old new session at lease outcome (Err e) ok err = ([], err.receipts ∙ sym (append-nil old.receipts))
