-- The steps of a turn, at a seat that is known by an equation.
use Rattle.std.proofs.Common.{◌≡◌, ℕ, ◌+◌, ◌%◌, ◌^◌, List, [], ◌∷◌, ◌++◌, refl, sym, ap, ◌∙◌, subst}
use mathlib.Core.Option.{none}
use Rattle.atomic_table.specs.Table.{Allows, Me, Step, rest, step}
use Rattle.lb_model.specs.declared.journal.Entry.{Entry}
use Rattle.lb_book.specs.Journal.{Journal}
use Rattle.lb_passes.specs.Plays.{Drew, Left, Polled, Took, grown_owns, last_in, turn_of, turning}
use Rattle.lb_passes.specs.Turns.{IsPassTable}
use Rattle.lb_passes.specs.declared.pass_view.Origin.{Origin}
use Rattle.lb_passes.specs.declared.pass_view.PassView.{PassView}
use Rattle.lb_passes.specs.declared.pass_view.Turn.TheVariants.{Idle, Waits}
use Rattle.lb_passes.proofs.CountLaws.{leaves}
use Rattle.lb_passes.proofs.DrawLaws.{polls}
use Rattle.lb_passes.specs.Holds.{Ended, IsTold}

-- A caller that drew a turn may look whether it has come.
pub polls_drawn : (o : Origin) (slots id found : ℕ) (s : Step Journal) (me m : Me Journal PassView) → Drew s me found m
    → Allows (IsPassTable o) slots id m 1 (λ n. n) (Polled (step slots 1 0 0 none) m)
polls_drawn o slots id found s me m drew =
    subst (λ (x : Me Journal PassView). Allows (IsPassTable o) slots id x 1 (λ n. n) (Polled (step slots 1 0 0 none) x)) (sym drew.is)
    (polls o slots id (turning me.0 (Waits drew.turn) me.0.seen me.0.owns) me.1 refl)

-- The turn that was drawn has come.
pub came_drawn : (s s' : Step Journal) (me m after : Me Journal PassView) (drawn found : ℕ) → Drew s me drawn m → Polled s' m found after
    → found ≡ drawn → (t : ℕ) × Took me t after
came_drawn s s' me m after drawn found drew polled same =
    let w : PassView = turning me.0 (Waits drew.turn) me.0.seen me.0.owns in
    let at_turn : turn_of m.0.turn ≡ drew.turn = ap (λ (x : Me Journal PassView). turn_of x.0.turn) drew.is in
    let took : Took m (turn_of m.0.turn) after =
    polled.came (same ∙ drew.word ∙ ap (λ (k : ℕ). k % 2 ^ 64) (sym at_turn)) in
    let here : Took (w, me.1) drew.turn after = subst (λ (x : Me Journal PassView). Took x (turn_of x.0.turn) after) drew.is took in (
      drew.turn,
      record {
        log = here.log;
        book = here.book;
        is = here.is;
        begins = here.begins;
        history = here.history;
        stands = here.stands;
        own = here.own;
      },
    )

-- It hasn't come: nothing changed.
pub still_drawn : (s s' : Step Journal) (me m after : Me Journal PassView) (drawn found : ℕ) → Drew s me drawn m → Polled s' m found after
    → (found ≡ drawn → ⊥) → Drew s me drawn after
still_drawn s s' me m after drawn found drew polled other =
    let at_turn : turn_of m.0.turn ≡ drew.turn = ap (λ (x : Me Journal PassView). turn_of x.0.turn) drew.is in
    let same : after ≡ m = polled.waits (λ is. other (is ∙ ap (λ (k : ℕ). k % 2 ^ 64) at_turn ∙ sym drew.word)) in
    record { turn = drew.turn; word = drew.word; is = same ∙ drew.is }

-- A caller that told its last k entries.
abbrev pub told_me : (k : ℕ) → Me Journal PassView → Me Journal PassView
told_me k me = (turning me.0 me.0.turn (me.0.seen ++ last_in k me.1) (grown_owns (last_in k me.1) me.0.owns), me.1)

told_is : (k : ℕ) (me m : Me Journal PassView) (told : IsTold k me) → m ≡ told_me k me → m ≡ ((told_me k me).0, (0, told.book) ∷ [])
told_is k me m told is = is ∙ ap (λ (c : List (ℕ × Journal)). ((told_me k me).0, c)) told.carried

-- It may leave.
pub leaves_told : (o : Origin) (slots id k : ℕ) (me m : Me Journal PassView) → IsTold k me → m ≡ told_me k me
    → Allows (IsPassTable o) slots id m 1 (λ n. (n + 1) % 2 ^ 64) (Left (step slots 1 1 0 none) m)
leaves_told o slots id k me m told is =
    subst (λ (x : Me Journal PassView). Allows (IsPassTable o) slots id x 1 (λ n. (n + 1) % 2 ^ 64) (Left (step slots 1 1 0 none) x)) (sym (told_is k me m told is))
    (leaves o slots id (told_me k me).0 told.book [] _ told.turn (ap (λ (xs : List (ℕ × List Entry)). grown_owns (last_in k me.1) xs) told.owns) told.stands)

-- It left.
pub ended_told : (k : ℕ) (me m after : Me Journal PassView) → IsTold k me → m ≡ told_me k me → after ≡ (turning m.0 Idle m.0.seen m.0.owns, rest m.1) → Ended k me after
ended_told k me m after told is left =
    subst (λ (x : Me Journal PassView). after ≡ (turning x.0 Idle x.0.seen x.0.owns, rest x.1)) (told_is k me m told is) left
