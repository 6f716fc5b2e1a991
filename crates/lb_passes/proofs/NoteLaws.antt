-- A note is made and met.
use Rattle.std.proofs.Common.{◌≡◌, ◌⊎◌, ℕ, List, [], ◌∷◌, ◌++◌, refl, sym, ap, ◌∙◌, subst}
use mathlib.Core.Option.{none, some, some-ne-none}
use lib.ListN.{get_elem?}
use Rattle.atomic_table.specs.Table.{Allows, Me, Step, step}
use Rattle.lb_model.specs.declared.journal.Entry.{Entry}
use Rattle.lb_book.specs.Journal.{Journal}
use Rattle.lb_book.specs.Histories.{BeginsWith}
use Rattle.lb_passes.specs.Plays.{PutTogether, joined}
use Rattle.lb_passes.specs.Turns.{IsPassTable}
use Rattle.lb_passes.specs.declared.pass_view.Origin.{Origin}
use Rattle.lb_passes.specs.declared.pass_view.PassView.{PassView}
use Rattle.lb_passes.proofs.JoinLaws.{puts_together}
use Rattle.lb_passes.specs.Holds.{IsIdle, IsNote, first_own, own_in}
use Rattle.lb_passes.specs.Notes.{Meets}
use Rattle.lb_passes.specs.PassDesks.{ArePassesOf, IsPassDesk}
use Rattle.lb_passes.specs.declared.pass.Pass.{Pass}
use Rattle.lb_passes.specs.declared.pass_book.PassBook.{PassBook}

pub together_joined : (o : Origin) (slots id : ℕ) (me note m : Me Journal PassView) → IsIdle me → m ≡ (joined me.0 note.0, me.1)
    → Allows (IsPassTable o) slots id m 0 (λ n. n) (PutTogether (step slots 0 0 0 none) m)
together_joined o slots id me note m idle is =
    subst (λ (x : Me Journal PassView). Allows (IsPassTable o) slots id x 0 (λ n. n) (PutTogether (step slots 0 0 0 none) x)) (sym is)
    (puts_together o slots id (joined me.0 note.0) me.1 idle.turn)

owns_joined : (me note : Me Journal PassView) → IsIdle me → IsNote note → me.0.owns ++ note.0.owns ≡ me.0.owns
owns_joined me note idle noted =
    ap (λ (xs : List (ℕ × List Entry)). me.0.owns ++ xs) noted.owns
    ∙ ap (λ (xs : List (ℕ × List Entry)). xs ++ []) idle.owns ∙ sym idle.owns

pub meets_of : (s : Step Journal) (me note m after : Me Journal PassView) (found : ℕ) → IsIdle me → IsNote note → m ≡ (joined me.0 note.0, me.1)
    → PutTogether s m found after → Meets me.0 note.0 after.0
meets_of s me note m after found idle noted is put =
    let here : PutTogether s (joined me.0 note.0, me.1) found after = subst (λ (x : Me Journal PassView). PutTogether s x found after) is put in
    let view = ap (λ (x : Me Journal PassView). x.0) here.is in
    let seen : after.0.seen ≡ here.all = ap (λ (x : PassView). x.seen) view in
    record {
      own_seen = subst (λ (xs : List Entry). BeginsWith xs me.0.seen) (sym seen) here.own;
      note_seen = subst (λ (xs : List Entry). BeginsWith xs note.0.seen) (sym seen) here.told;
      one = subst (λ (xs : List Entry). (xs ≡ me.0.seen) ⊎ (xs ≡ note.0.seen)) (sym seen) here.one;
      origin = ap (λ (x : PassView). x.origin) view;
      owns = ap (λ (x : PassView). x.owns) view ∙ owns_joined me note idle noted;
      given = ap (λ (x : PassView). x.given) view;
    }

pub idle_met : (s : Step Journal) (me note m after : Me Journal PassView) (found : ℕ) → IsIdle me → IsNote note → m ≡ (joined me.0 note.0, me.1)
    → PutTogether s m found after → IsIdle after
idle_met s me note m after found idle noted is put =
    let here : PutTogether s (joined me.0 note.0, me.1) found after = subst (λ (x : Me Journal PassView). PutTogether s x found after) is put in
    let owns : me.0.owns ++ note.0.owns ≡ (me.0.number, own_in me.0) ∷ [] = owns_joined me note idle noted ∙ idle.owns in
    subst (λ (x : Me Journal PassView). IsIdle x) (sym here.is)
    (record { turn = idle.turn; empty = idle.empty; owns = owns ∙ ap (λ (xs : List (ℕ × List Entry)). (me.0.number, first_own xs) ∷ []) (sym owns) })

-- Of passes that all have one number, each has that of the first.
pub number_all : (passes : List Pass) (n : ℕ) → ((i j : ℕ) (p q : Pass) → get_elem? passes i ≡ some p → get_elem? passes j ≡ some q → p.number ≡ q.number)
    → ((p : Pass) → get_elem? passes 0 ≡ some p → n ≡ p.number) → (lb : ℕ) (p : Pass) → get_elem? passes lb ≡ some p → p.number ≡ n
number_all [] n one first lb p at = absurd (some-ne-none p (sym at))
number_all (x ∷ xs) n one first lb p at = one lb 0 p x at refl ∙ sym (first x refl)

pub new_desk : (books : List PassBook) (passes items : List Pass) (n : ℕ) → items ≡ passes → ArePassesOf books passes
    → ((p : Pass) → get_elem? items 0 ≡ some p → n ≡ p.number) → IsPassDesk books items n []
new_desk books passes items n same are first =
    subst (λ (xs : List Pass). IsPassDesk books xs n []) (sym same) (record {
      many = are.many;
      of = are.of;
      numbers = number_all passes n are.one (subst (λ (xs : List Pass). (p : Pass) → get_elem? xs 0 ≡ some p → n ≡ p.number) same first);
      got = tt;
    })
