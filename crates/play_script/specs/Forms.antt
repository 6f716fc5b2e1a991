-- The lines after the balancer's own, as a table: which words say what.
use Rattle.std.specs.Prelude.{◌≡◌, ℕ, false, true, List, [], ◌∷◌, ◌++◌, Option, Some, None, codes}
use Rattle.jk_io.specs.Decimals.{decimal_of}
use Rattle.lb_model.specs.declared.change.Change.{Change}
use Rattle.lb_model.specs.declared.change.Command.TheVariants as command
use Rattle.lb_model.specs.declared.change.Redirect.{Redirect}
use Rattle.lb_model.specs.declared.change.Redirect.TheVariants as redirect
use Rattle.lb_model.specs.declared.journal.Call.TheVariants as call
use Rattle.lb_model.specs.declared.journal.Kind.{Kind}
use Rattle.lb_model.specs.declared.journal.Kind.TheVariants as kind
use Rattle.play_script.specs.declared.step.Step.{Step}
use Rattle.play_script.specs.declared.step.Step.TheVariants as step
use Rattle.play_script.specs.Names.{index_of}
use Rattle.play_script.specs.Values.{activation_of, byte_count, short_number}
use Rattle.play_script.specs.Fields.{given, redirect_of}
use Rattle.play_script.specs.Steps.{ask_of}

-- The word that a Return of this kind begins with.
abbrev pub kind_word : Kind → List ℕ
kind_word kind.Done = codes "done"
kind_word kind.Failed = codes "failed"
kind_word kind.Gone = codes "gone"

-- A field KEY=VALUE, where it is there.
abbrev pub field : List ℕ → Option (List ℕ) → List (List ℕ)
field key None = []
field key (Some value) = (key ++ value) ∷ []

-- The redirect of an update, where it is there.
abbrev pub Leads : List (List ℕ) → Option (List ℕ) → Redirect → Type 0
Leads names None said = said ≡ redirect.Keep
Leads names (Some text) said = redirect_of names text ≡ Some said

-- The fields of an update, each as its text.
pub record ChangeTexts : Type 0 where
  pub activation : Option (List ℕ)
  pub factor : Option (List ℕ)
  pub distance : Option (List ℕ)
  pub redirect : Option (List ℕ)

-- The fields stand in this order.
abbrev pub words_of_change : ChangeTexts → List (List ℕ)
words_of_change t =
    field (codes "activation=") t.activation ++ (field (codes "factor=") t.factor
    ++ (field (codes "distance=") t.distance ++ field (codes "redirect=") t.redirect))

-- The texts say this change.
pub record SaysChange (names : List (List ℕ)) (t : ChangeTexts) (c : Change) : Type 0 where
  pub activation : given activation_of t.activation ≡ Some c.activation
  pub factor : given short_number t.factor ≡ Some c.factor
  pub distance : given short_number t.distance ≡ Some c.distance
  pub redirect : Leads names t.redirect c.redirect

-- Below, the members have these names. A line's words say a step.
pub data StepForm (names : List (List ℕ)) : List (List ℕ) → Step → Type 0 where
  at : {text : List ℕ} {n : ℕ} → decimal_of text ≡ Some n → StepForm names (codes "at" ∷ text ∷ []) (step.At n)
  select : StepForm names (codes "select" ∷ []) (step.Ask (call.Select (ask_of true None)))
  select_old : StepForm names (codes "select" ∷ codes "old" ∷ []) (step.Ask (call.Select (ask_of false None)))
  select_route : {name : List ℕ} {m : ℕ} → index_of names name ≡ Some m
      → StepForm names (codes "select" ∷ (codes "route=" ++ name) ∷ []) (step.Ask (call.Select (ask_of false (Some m))))
  back : {k : Kind} {text : List ℕ} {t : ℕ} → decimal_of text ≡ Some t
      → StepForm names (kind_word k ∷ text ∷ []) (step.Ask (call.Return t (record { kind = k; bytes = 0 })))
  back_with : {k : Kind} {text size : List ℕ} {t n : ℕ} → decimal_of text ≡ Some t → byte_count size ≡ Some n
      → StepForm names (kind_word k ∷ text ∷ size ∷ []) (step.Ask (call.Return t (record { kind = k; bytes = n })))
  maintain : StepForm names (codes "maintain" ∷ []) (step.Ask call.Maintain)
  update : {name : List ℕ} {m : ℕ} {t : ChangeTexts} {c : Change} → index_of names name ≡ Some m → SaysChange names t c
      → StepForm names (codes "update" ∷ name ∷ words_of_change t) (step.Ask (call.Admin (command.Update m c)))
  reset : {name : List ℕ} {m : ℕ} → index_of names name ≡ Some m
      → StepForm names (codes "reset" ∷ name ∷ []) (step.Ask (call.Admin (command.Reset m)))
  recover : {name : List ℕ} {m : ℕ} → index_of names name ≡ Some m
      → StepForm names (codes "recover" ∷ name ∷ []) (step.Ask (call.Admin (command.Recover m)))
  show : StepForm names (codes "show" ∷ []) step.Show
