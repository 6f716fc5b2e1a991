-- Each form of a line is read as what it says.
use Rattle.std.proofs.Common.{ℕ, ◌≡◌, ◌++◌, List, [], ◌∷◌, Option, Some, None, false, refl, sym, ap, ◌∙◌, codes, option_map}
use Rattle.jk_io.specs.Decimals.{decimal_of}
use Rattle.lb_model.specs.declared.change.Change.{Change}
use Rattle.lb_model.specs.declared.change.Command.TheVariants as command
use Rattle.lb_model.specs.declared.journal.Call.TheVariants as call
use Rattle.lb_model.specs.declared.journal.Kind.{Kind}
use Rattle.lb_model.specs.declared.journal.Kind.TheVariants as kind
use Rattle.play_script.specs.declared.step.Step.{Step}
use Rattle.play_script.specs.declared.step.Step.TheVariants as step
use Rattle.play_script.specs.Names.{index_of}
use Rattle.lb_model.specs.declared.change.Redirect.{Redirect}
use Rattle.play_script.specs.Fields.{given, number_in, redirect_in, redirect_of, kept_without}
use Rattle.play_script.specs.Values.{◌>>=◌, activation_of, short_number, byte_count, end, value_of, past}
use Rattle.play_script.specs.Steps.{ask_of, step_from, change_of, change_after}
use Rattle.play_script.specs.Forms.{StepForm, at, select, select_old, select_route, back, back_with, maintain, update, reset, recover, show, ChangeTexts, SaysChange, words_of_change, kind_word, field, Leads}

back_read : (names : List (List ℕ)) (k : Kind) (text : List ℕ) (t : ℕ) → decimal_of text ≡ Some t
    → step_from names (kind_word k ∷ text ∷ []) ≡ Some (step.Ask (call.Return t (record { kind = k; bytes = 0 })))
back_read names kind.Done text t h = rw h refl
back_read names kind.Failed text t h = rw h refl
back_read names kind.Gone text t h = rw h refl

back_with_read : (names : List (List ℕ)) (k : Kind) (text size : List ℕ) (t n : ℕ) → decimal_of text ≡ Some t → byte_count size ≡ Some n
    → step_from names (kind_word k ∷ text ∷ size ∷ []) ≡ Some (step.Ask (call.Return t (record { kind = k; bytes = n })))
back_with_read names kind.Done text size t n h s = rw (h, s) refl
back_with_read names kind.Failed text size t n h s = rw (h, s) refl
back_with_read names kind.Gone text size t n h s = rw (h, s) refl

with_redirect : Option (List ℕ) → List (List ℕ)
with_redirect r = field (codes "redirect=") r

with_distance : Option (List ℕ) → Option (List ℕ) → List (List ℕ)
with_distance d r = field (codes "distance=") d ++ field (codes "redirect=") r

with_factor : Option (List ℕ) → Option (List ℕ) → Option (List ℕ) → List (List ℕ)
with_factor f d r = field (codes "factor=") f ++ (field (codes "distance=") d ++ field (codes "redirect=") r)

with_activation : Option (List ℕ) → Option (List ℕ) → Option (List ℕ) → Option (List ℕ) → List (List ℕ)
with_activation a f d r = field (codes "activation=") a ++ (field (codes "factor=") f ++ (field (codes "distance=") d ++ field (codes "redirect=") r))

redirect_value : (r : Option (List ℕ)) → value_of (codes "redirect=") (with_redirect r) ≡ r
unfolding with_redirect
redirect_value None = refl
redirect_value (Some r) = refl

redirect_past : (r : Option (List ℕ)) → past (codes "redirect=") (with_redirect r) ≡ []
unfolding with_redirect
redirect_past None = refl
redirect_past (Some r) = refl

distance_value : (d r : Option (List ℕ)) → value_of (codes "distance=") (with_distance d r) ≡ d
unfolding with_distance
distance_value (Some d) r = refl
distance_value None (Some r) = refl
distance_value None None = refl

distance_past : (d r : Option (List ℕ)) → past (codes "distance=") (with_distance d r) ≡ with_redirect r
unfolding with_distance with_redirect
distance_past (Some d) r = refl
distance_past None (Some r) = refl
distance_past None None = refl

factor_value : (f d r : Option (List ℕ)) → value_of (codes "factor=") (with_factor f d r) ≡ f
unfolding with_factor
factor_value (Some f) d r = refl
factor_value None (Some d) r = refl
factor_value None None (Some r) = refl
factor_value None None None = refl

factor_past : (f d r : Option (List ℕ)) → past (codes "factor=") (with_factor f d r) ≡ with_distance d r
unfolding with_factor with_distance
factor_past (Some f) d r = refl
factor_past None (Some d) r = refl
factor_past None None (Some r) = refl
factor_past None None None = refl

activation_value : (a f d r : Option (List ℕ)) → value_of (codes "activation=") (with_activation a f d r) ≡ a
unfolding with_activation
activation_value (Some a) f d r = refl
activation_value None (Some f) d r = refl
activation_value None None (Some d) r = refl
activation_value None None None (Some r) = refl
activation_value None None None None = refl

activation_past : (a f d r : Option (List ℕ)) → past (codes "activation=") (with_activation a f d r) ≡ with_factor f d r
unfolding with_activation with_factor
activation_past (Some a) f d r = refl
activation_past None (Some f) d r = refl
activation_past None None (Some d) r = refl
activation_past None None None (Some r) = refl
activation_past None None None None = refl

leads_read : (names : List (List ℕ)) (r : Option (List ℕ)) (said : Redirect) → Leads names r said → kept_without (given (redirect_of names) r) ≡ Some said
leads_read names None said h = ap Some (sym h)
leads_read names (Some text) said h = ap (λ o. kept_without (option_map Some o)) h

-- the last two fields
after_read : (names : List (List ℕ)) (d r : Option (List ℕ)) (c : Change) → given short_number d ≡ Some c.distance → Leads names r c.redirect
    → change_after names c.activation c.factor (with_distance d r) ≡ Some c
unfolding change_after
after_read names d r c is_distance leads =
    ap (λ o. o >>= λ x. redirect_in names (past (codes "distance=") (with_distance d r)) >>= λ to.
    end (past (codes "redirect=") (past (codes "distance=") (with_distance d r))) >>= λ _.
    Some (record { activation = c.activation; factor = c.factor; distance = x; redirect = to }))
    (ap (given short_number) (distance_value d r) ∙ is_distance)
    ∙ ap (λ w. redirect_in names w >>= λ to. end (past (codes "redirect=") w) >>= λ _.
    Some (record { activation = c.activation; factor = c.factor; distance = c.distance; redirect = to })) (distance_past d r)
    ∙ ap (λ o. o >>= λ to. end (past (codes "redirect=") (with_redirect r)) >>= λ _.
    Some (record { activation = c.activation; factor = c.factor; distance = c.distance; redirect = to }))
    (ap (λ o. kept_without (given (redirect_of names) o)) (redirect_value r) ∙ leads_read names r c.redirect leads)
    ∙ ap (λ w. end w >>= λ _. Some (record { activation = c.activation; factor = c.factor; distance = c.distance; redirect = c.redirect })) (redirect_past r)

change_read : (names : List (List ℕ)) (t : ChangeTexts) (c : Change) → SaysChange names t c
    → change_of names (with_activation t.activation t.factor t.distance t.redirect) ≡ Some c
change_read names t c says =
    let whole = with_activation t.activation t.factor t.distance t.redirect in
    ap (λ o. o >>= λ x. number_in (codes "factor=") (past (codes "activation=") whole) >>= λ f.
    change_after names x f (past (codes "factor=") (past (codes "activation=") whole)))
    (ap (given activation_of) (activation_value t.activation t.factor t.distance t.redirect) ∙ says.activation)
    ∙ ap (λ w. number_in (codes "factor=") w >>= λ f. change_after names c.activation f (past (codes "factor=") w))
    (activation_past t.activation t.factor t.distance t.redirect)
    ∙ ap (λ o. o >>= λ f. change_after names c.activation f (past (codes "factor=") (with_factor t.factor t.distance t.redirect)))
    (ap (given short_number) (factor_value t.factor t.distance t.redirect) ∙ says.factor)
    ∙ ap (λ w. change_after names c.activation c.factor w) (factor_past t.factor t.distance t.redirect)
    ∙ after_read names t.distance t.redirect c says.distance says.redirect

update_read : (names : List (List ℕ)) (name : List ℕ) (m : ℕ) (t : ChangeTexts) (c : Change) → index_of names name ≡ Some m → SaysChange names t c
    → step_from names (codes "update" ∷ name ∷ words_of_change t) ≡ Some (step.Ask (call.Admin (command.Update m c)))
unfolding with_activation
update_read names name m t c is_member says =
    ap (λ o. option_map (λ x. step.Ask (call.Admin x)) (o >>= λ j. option_map (command.Update j) (change_of names (words_of_change t)))) is_member
    ∙ ap (λ o. option_map (λ x. step.Ask (call.Admin x)) (option_map (command.Update m) o)) (change_read names t c says)

pub form_read : (names words : List (List ℕ)) (said : Step) → StepForm names words said → step_from names words ≡ Some said
form_read names words said (at {text} h) = ap (option_map step.At) h
form_read names words said select = refl
form_read names words said select_old = refl
form_read names words said (select_route h) = ap (λ o. option_map (λ a. step.Ask (call.Select a)) (option_map (λ m. ask_of false (Some m)) o)) h
form_read names words said (back {k} {text} {t} h) = back_read names k text t h
form_read names words said (back_with {k} {text} {size} {t} {n} h s) = back_with_read names k text size t n h s
form_read names words said maintain = refl
form_read names words said (update {name} {m} {t} {c} h says) = update_read names name m t c h says
form_read names words said (reset h) = ap (option_map (λ m. step.Ask (call.Admin (command.Reset m)))) h
form_read names words said (recover h) = ap (option_map (λ m. step.Ask (call.Admin (command.Recover m)))) h
form_read names words said show = refl
