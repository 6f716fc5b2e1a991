use Rattle.std.proofs.Common.{rules, ◌≡◌, ℕ, List, [], ◌∷◌, Option, Some, None, refl, subst, sym, ap, ◌∙◌}
use Rattle.std.specs.Prelude.{IsSome}
use Rattle.atomic_table.specs.Table.{rest}
use Rattle.lb_shared.proofs.lock.HistoryLock.close.Goals as goal

-- The value of the slot in hand.
abbrev slot_in : {A : Type 0} → List (ℕ × A) → A → A
slot_in [] d = d
slot_in (x ∷ xs) d = x.1

abbrev some_in : {A : Type 0} → Option A → A → A
some_in None d = d
some_in (Some x) d = x

pub exchange-requires : goal.exchange-requires
exchange-requires g c =
    let took = c.enter.ensures.took in
    (search rules, (Some took.value, ap (λ m. m.1) took.after_is ∙ ap (λ m. (0, Some took.value) ∷ rest m.1) (sym took.after_is)))

-- The value that was exchanged is the one that was taken.
value_is : (g : _) (c : goal.After-exchange g) → c.exchange.result ≡ Some c.enter.ensures.took.value
value_is g c =
    let took = c.enter.ensures.took in
    sym (ap (λ xs. slot_in xs (Some took.value)) (ap (λ m. m.1) (sym took.after_is) ∙ c.exchange.ensures.2))

pub unwrap-requires : goal.unwrap-requires
unwrap-requires g c = subst (λ x. IsSome x) (sym (value_is g c)) refl

pub returns : goal.returns
returns g c =
    let took = c.enter.ensures.took in
    let found : c.exchange.result ≡ Some took.value =
    sym (ap (λ xs. slot_in xs (Some took.value)) (ap (λ m. m.1) (sym took.after_is) ∙ c.exchange.ensures.2)) in
    let same : took.value ≡ c.unwrap.result = ap (λ x. some_in x took.value) (sym found ∙ c.unwrap.ensures) in
    record { log = took.log; told = subst (g.T.Telling.tells took.log) same took.told; true_of = took.claims; apart = took.apart }
