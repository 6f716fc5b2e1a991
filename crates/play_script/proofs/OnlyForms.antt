-- A line that says something is of one of the forms.
use Rattle.std.proofs.Common.{ℕ, ◌≡◌, ◌++◌, Bool, true, false, cond, List, [], ◌∷◌, Option, Some, None, refl, sym, ap, ◌∙◌, subst, inl, inr, length, drop, codes, option_map, nat_eq}
use Rattle.std.specs.List.{starts_with}
use Rattle.std.specs.Str.{bytes_eq}
use Rattle.std.proofs.lemmas.Bool.{cases_Bool}
use Rattle.std.proofs.lemmas.Bool.Decides.{Decides-eqb}
use Rattle.std.proofs.lemmas.List.{append-nil}
use Rattle.std.proofs.lemmas.Slice.Eq.{bytes_eq-Decides, starts_is}
use Rattle.jk_io.specs.Decimals.{decimal_of}
use Rattle.lb_model.specs.declared.ask.Ask.{Ask}
use Rattle.lb_model.specs.declared.change.Change.{Change}
use Rattle.lb_model.specs.declared.change.Redirect.{Redirect}
use Rattle.lb_model.specs.declared.change.Redirect.TheVariants as redirect
use Rattle.lb_model.specs.declared.change.Command.TheVariants as command
use Rattle.lb_model.specs.declared.journal.Call.{Call}
use Rattle.lb_model.specs.declared.journal.Call.TheVariants as call
use Rattle.lb_model.specs.declared.journal.Kind.{Kind}
use Rattle.lb_model.specs.declared.journal.Kind.TheVariants as kind
use Rattle.lb_model.specs.declared.member.Activation.{Activation}
use Rattle.play_script.specs.declared.step.Step.{Step}
use Rattle.play_script.specs.declared.step.Step.TheVariants as step
use Rattle.play_script.specs.declared.verb.Verb.{Verb}
use Rattle.play_script.specs.declared.verb.Verb.TheVariants as verb
use Rattle.play_script.specs.Names.{index_of}
use Rattle.play_script.specs.Verbs.{verb_of}
use Rattle.play_script.specs.Fields.{given, activation_in, number_in, redirect_in, redirect_of, kept_without}
use Rattle.play_script.specs.Values.{◌>>=◌, short_number, byte_count, end, value_of, past}
use Rattle.play_script.specs.Steps.{ask_of, old_ask, bytes_in, return_of, step_by, step_from, change_of, change_after, update_of}
use Rattle.play_script.specs.Forms.{StepForm, at, select, select_old, select_route, back, back_with, maintain, update, reset, recover, show, ChangeTexts, SaysChange, words_of_change, kind_word, field, Leads}

bind_some : {X Y : Type 0} (o : Option X) (f : X → Option Y) (y : Y) → (o >>= f) ≡ Some y → (x : X) × (o ≡ Some x) × (f x ≡ Some y)
bind_some None f y h = absurd cc
bind_some (Some x) f y h = (x, refl, h)

map_some : {X Y : Type 0} (f : X → Y) (o : Option X) (y : Y) → option_map f o ≡ Some y → (x : X) × (o ≡ Some x) × (f x ≡ y)
map_some f None y h = absurd cc
map_some f (Some x) y h = (x, refl, cc)

same_some : {X : Type 0} (x y : X) → Some x ≡ Some y → x ≡ y
same_some x y h = cc

abbrev verb_word : Verb → List ℕ
verb_word verb.Lb = codes "lb"
verb_word verb.Member = codes "member"
verb_word verb.At = codes "at"
verb_word verb.Select = codes "select"
verb_word verb.Done = codes "done"
verb_word verb.Failed = codes "failed"
verb_word verb.Gone = codes "gone"
verb_word verb.Maintain = codes "maintain"
verb_word verb.Update = codes "update"
verb_word verb.Reset = codes "reset"
verb_word verb.Recover = codes "recover"
verb_word verb.Show = codes "show"

level : (word : List ℕ) (w : Verb) (rest : Option Verb) (v : Verb) → cond (bytes_eq word (verb_word w)) (Some w) rest ≡ Some v
    → (rest ≡ Some v → word ≡ verb_word v) → word ≡ verb_word v
level word w rest v h next =
    elim (cases_Bool (bytes_eq word (verb_word w))) [
      | inl is ↦ (bytes_eq-Decides word (verb_word w)).0 is ∙ ap verb_word (same_some w v (rw is at h))
      | inr is_not ↦ next (rw is_not at h)
    ]

-- a verb has one word
verb_is : (word : List ℕ) (v : Verb) → verb_of word ≡ Some v → word ≡ verb_word v
verb_is word v h =
    level word verb.Lb _ v h (λ h. level word verb.Member _ v h (λ h. level word verb.At _ v h (λ h.
    level word verb.Select _ v h (λ h. level word verb.Done _ v h (λ h. level word verb.Failed _ v h (λ h.
    level word verb.Gone _ v h (λ h. level word verb.Maintain _ v h (λ h. level word verb.Update _ v h (λ h.
    level word verb.Reset _ v h (λ h. level word verb.Recover _ v h (λ h. level word verb.Show _ v h (λ h. absurd cc))))))))))))

-- a word that begins with a key is the key and its value
word_parts : (key word : List ℕ) → starts_with nat_eq word key ≡ true → word ≡ key ++ drop (length key) word
word_parts key word h = (starts_is Decides-eqb word key true (sym h)).0 refl

value_word : (key word name : List ℕ) → value_of key (word ∷ []) ≡ Some name → word ≡ key ++ name
value_word key word name h =
    elim (cases_Bool (starts_with nat_eq word key)) [
      | inl is ↦ word_parts key word is ∙ ap (λ t. key ++ t) (same_some (drop (length key) word) name (rw is at h))
      | inr is_not ↦ absurd (let none : None ≡ Some name = rw is_not at h in cc)
    ]

-- words are a field, where it is there, and the words past it
field_back : (key : List ℕ) (words : List (List ℕ)) → words ≡ field key (value_of key words) ++ past key words
field_back key [] = refl
field_back key (word ∷ words) =
    elim (cases_Bool (starts_with nat_eq word key)) [
      | inl is ↦ rw is (ap (λ w. w ∷ words) (word_parts key word is))
      | inr is_not ↦ rw is_not refl
    ]

end_empty : (words : List (List ℕ)) (x : Unit {0}) → end words ≡ Some x → words ≡ []
end_empty [] x h = refl
end_empty (word ∷ words) x h = absurd cc

leads_back : (names : List (List ℕ)) (r : Option (List ℕ)) (said : Redirect) → kept_without (given (redirect_of names) r) ≡ Some said → Leads names r said
leads_back names None said h = sym (same_some redirect.Keep said h)
leads_back names (Some text) said h = leads_text (redirect_of names text) said h
  where
    leads_text : (o : Option Redirect) (said : Redirect) → kept_without (option_map Some o) ≡ Some said → o ≡ Some said
    leads_text None said h = absurd cc
    leads_text (Some r) said h = h

-- the texts of a change
texts_of : List (List ℕ) → ChangeTexts
texts_of words =
    let behind = past (codes "activation=") words in
    let later = past (codes "factor=") behind in
    record {
      activation = value_of (codes "activation=") words;
      factor = value_of (codes "factor=") behind;
      distance = value_of (codes "distance=") later;
      redirect = value_of (codes "redirect=") (past (codes "distance=") later);
    }

record After (names : List (List ℕ)) (words : List (List ℕ)) (a : Option Activation) (f : Option ℕ) (c : Change) : Type 0 where
  distance : given short_number (value_of (codes "distance=") words) ≡ Some c.distance
  leads : Leads names (value_of (codes "redirect=") (past (codes "distance=") words)) c.redirect
  last : past (codes "redirect=") (past (codes "distance=") words) ≡ []
  activation : c.activation ≡ a
  factor : c.factor ≡ f

after_back : (names words : List (List ℕ)) (a : Option Activation) (f : Option ℕ) (c : Change) → change_after names a f words ≡ Some c → After names words a f c
unfolding change_after
after_back names words a f c h =
    let d = bind_some (number_in (codes "distance=") words) _ c h in
    let r = bind_some (redirect_in names (past (codes "distance=") words)) _ c d.2 in
    let e = bind_some (end (past (codes "redirect=") (past (codes "distance=") words))) _ c r.2 in
    let made : Change = record { activation = a; factor = f; distance = d.0; redirect = r.0 } in
    let is : made ≡ c = same_some made c e.2 in
    record {
      distance = d.1 ∙ ap (λ (x : Change). Some x.distance) is;
      leads = leads_back names _ c.redirect (r.1 ∙ ap (λ (x : Change). Some x.redirect) is);
      last = end_empty _ e.0 e.1;
      activation = sym (ap (λ (x : Change). x.activation) is);
      factor = sym (ap (λ (x : Change). x.factor) is);
    }

texts_back : (words : List (List ℕ)) → past (codes "redirect=") (past (codes "distance=") (past (codes "factor=") (past (codes "activation=") words))) ≡ []
    → words ≡ words_of_change (texts_of words)
unfolding texts_of
texts_back words last =
    let w1 = past (codes "activation=") words in
    let w2 = past (codes "factor=") w1 in
    let w3 = past (codes "distance=") w2 in
    let r : w3 ≡ field (codes "redirect=") (value_of (codes "redirect=") w3) =
    field_back (codes "redirect=") w3 ∙ ap (λ w. field (codes "redirect=") (value_of (codes "redirect=") w3) ++ w) last
    ∙ append-nil (field (codes "redirect=") (value_of (codes "redirect=") w3)) in
    let d : w2 ≡ field (codes "distance=") (value_of (codes "distance=") w2) ++ field (codes "redirect=") (value_of (codes "redirect=") w3) =
    field_back (codes "distance=") w2 ∙ ap (λ w. field (codes "distance=") (value_of (codes "distance=") w2) ++ w) r in
    let f : w1 ≡ field (codes "factor=") (value_of (codes "factor=") w1)
    ++ (field (codes "distance=") (value_of (codes "distance=") w2) ++ field (codes "redirect=") (value_of (codes "redirect=") w3)) =
    field_back (codes "factor=") w1 ∙ ap (λ w. field (codes "factor=") (value_of (codes "factor=") w1) ++ w) d in
    field_back (codes "activation=") words ∙ ap (λ w. field (codes "activation=") (value_of (codes "activation=") words) ++ w) f

change_form : (names : List (List ℕ)) (name : List ℕ) (m : ℕ) (words : List (List ℕ)) (c : Change) → index_of names name ≡ Some m → change_of names words ≡ Some c
    → StepForm names (codes "update" ∷ name ∷ words) (step.Ask (call.Admin (command.Update m c)))
unfolding texts_of
change_form names name m words c is_member h =
    let a = bind_some (activation_in words) _ c h in
    let f = bind_some (number_in (codes "factor=") (past (codes "activation=") words)) _ c a.2 in
    let later = after_back names (past (codes "factor=") (past (codes "activation=") words)) a.0 f.0 c f.2 in
    let says : SaysChange names (texts_of words) c = record {
      activation = a.1 ∙ ap Some (sym later.activation);
      factor = f.1 ∙ ap Some (sym later.factor);
      distance = later.distance;
      redirect = later.leads;
    } in
    subst (λ w. StepForm names (codes "update" ∷ name ∷ w) (step.Ask (call.Admin (command.Update m c)))) (sym (texts_back words later.last))
    (update {t = texts_of words} is_member says)

-- Below, the members have these names, and a line says this.
module _ (names : List (List ℕ)) (said : Step) where
  old_form : (word : List ℕ) → option_map (λ ask. step.Ask (call.Select ask)) (old_ask names word) ≡ Some said → StepForm names (codes "select" ∷ word ∷ []) said
  old_form word h =
      let asked = map_some (λ ask. step.Ask (call.Select ask)) (old_ask names word) said h in
      by_test (bytes_eq word (codes "old")) refl asked.0 asked.1 asked.2
    where
      by_test : (t : Bool) → bytes_eq word (codes "old") ≡ t → (ask : Ask)
          → cond t (Some (ask_of false None)) (option_map (λ m. ask_of false (Some m)) (value_of (codes "route=") (word ∷ []) >>= index_of names)) ≡ Some ask
          → step.Ask (call.Select ask) ≡ said → StepForm names (codes "select" ∷ word ∷ []) said
      by_test true is ask h e =
          let one : ask_of false None ≡ ask = same_some (ask_of false None) ask h in
          subst (λ w. StepForm names (codes "select" ∷ w ∷ []) said) (sym ((bytes_eq-Decides word (codes "old")).0 is))
          (subst (λ s. StepForm names (codes "select" ∷ codes "old" ∷ []) s) (ap (λ (x : Ask). step.Ask (call.Select x)) one ∙ e) select_old)
      by_test false is ask h e =
          let routed = map_some (λ m. ask_of false (Some m)) (value_of (codes "route=") (word ∷ []) >>= index_of names) ask h in
          let named = bind_some (value_of (codes "route=") (word ∷ [])) (index_of names) routed.0 routed.1 in
          subst (λ w. StepForm names (codes "select" ∷ w ∷ []) said) (sym (value_word (codes "route=") word named.0 named.1))
          (subst (λ s. StepForm names (codes "select" ∷ (codes "route=" ++ named.0) ∷ []) s) (ap (λ (x : Ask). step.Ask (call.Select x)) routed.2 ∙ e)
          (select_route named.2))

  back_form : (k : Kind) (words : List (List ℕ)) → option_map step.Ask (return_of k words) ≡ Some said → StepForm names (kind_word k ∷ words) said
  back_form k [] h = absurd cc
  back_form k (text ∷ words) h =
      let asked = map_some step.Ask (return_of k (text ∷ words)) said h in
      let ticket = bind_some (decimal_of text) _ asked.0 asked.1 in
      subst (λ s. StepForm names (kind_word k ∷ text ∷ words) s) asked.2 (sized words ticket.0 asked.0 ticket.1 ticket.2)
    where
      sized : (words : List (List ℕ)) (t : ℕ) (asked : Call) → decimal_of text ≡ Some t
          → option_map (λ bytes. call.Return t (record { kind = k; bytes = bytes })) (bytes_in words) ≡ Some asked → StepForm names (kind_word k ∷ text ∷ words) (step.Ask asked)
      sized [] t asked is_t h = subst (λ x. StepForm names (kind_word k ∷ text ∷ []) (step.Ask x)) (same_some _ asked h) (back is_t)
      sized (size ∷ []) t asked is_t h =
          let n = map_some (λ bytes. call.Return t (record { kind = k; bytes = bytes })) (byte_count size) asked h in
          subst (λ x. StepForm names (kind_word k ∷ text ∷ size ∷ []) (step.Ask x)) n.2 (back_with is_t n.1)
      sized (size ∷ next ∷ more) t asked is_t h = absurd cc

  by_verb : (v : Verb) (words : List (List ℕ)) → step_by names v words ≡ Some said → StepForm names (verb_word v ∷ words) said
  by_verb verb.Lb words h = absurd cc
  by_verb verb.Member words h = absurd cc
  by_verb verb.At [] h = absurd cc
  by_verb verb.At (text ∷ []) h =
      let n = map_some step.At (decimal_of text) said h in
      subst (λ s. StepForm names (codes "at" ∷ text ∷ []) s) n.2 (at n.1)
  by_verb verb.At (text ∷ next ∷ more) h = absurd cc
  by_verb verb.Select [] h = subst (λ s. StepForm names (codes "select" ∷ []) s) (same_some _ said h) select
  by_verb verb.Select (word ∷ []) h = old_form word h
  by_verb verb.Select (word ∷ next ∷ more) h = absurd cc
  by_verb verb.Done words h = back_form kind.Done words h
  by_verb verb.Failed words h = back_form kind.Failed words h
  by_verb verb.Gone words h = back_form kind.Gone words h
  by_verb verb.Maintain [] h = subst (λ s. StepForm names (codes "maintain" ∷ []) s) (same_some _ said h) maintain
  by_verb verb.Maintain (word ∷ words) h = absurd cc
  by_verb verb.Update [] h = absurd cc
  by_verb verb.Update (name ∷ words) h =
      let asked = map_some (λ c. step.Ask (call.Admin c)) (update_of names (name ∷ words)) said h in
      let member = bind_some (index_of names name) _ asked.0 asked.1 in
      let change = map_some (command.Update member.0) (change_of names words) asked.0 member.2 in
      subst (λ s. StepForm names (codes "update" ∷ name ∷ words) s) (ap (λ c. step.Ask (call.Admin c)) change.2 ∙ asked.2)
      (change_form names name member.0 words change.0 member.1 change.1)
  by_verb verb.Reset [] h = absurd cc
  by_verb verb.Reset (name ∷ []) h =
      let m = map_some (λ m. step.Ask (call.Admin (command.Reset m))) (index_of names name) said h in
      subst (λ s. StepForm names (codes "reset" ∷ name ∷ []) s) m.2 (reset m.1)
  by_verb verb.Reset (name ∷ next ∷ more) h = absurd cc
  by_verb verb.Recover [] h = absurd cc
  by_verb verb.Recover (name ∷ []) h =
      let m = map_some (λ m. step.Ask (call.Admin (command.Recover m))) (index_of names name) said h in
      subst (λ s. StepForm names (codes "recover" ∷ name ∷ []) s) m.2 (recover m.1)
  by_verb verb.Recover (name ∷ next ∷ more) h = absurd cc
  by_verb verb.Show [] h = subst (λ s. StepForm names (codes "show" ∷ []) s) (same_some _ said h) show
  by_verb verb.Show (word ∷ words) h = absurd cc

pub form_only : (names words : List (List ℕ)) (said : Step) → step_from names words ≡ Some said → StepForm names words said
form_only names [] said h = absurd cc
form_only names (word ∷ words) said h =
    let v = bind_some (verb_of word) _ said h in
    subst (λ w. StepForm names (w ∷ words) said) (sym (verb_is word v.0 v.1)) (by_verb names said v.0 words v.2)
