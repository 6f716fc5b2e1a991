-- The command of a query's fields is the one that the table of commands gives.
use Rattle.std.proofs.Common.{ℕ, ◌≤◌, ◌≡◌, Bool, true, false, cond, ◌&&◌, List, [], ◌∷◌, length, Option, Some, None, refl, sym, ap, subst, ◌∙◌, ⊎_elim, codes, arith}
use Rattle.std.specs.List.{count_by, filter}
use Rattle.std.specs.Option.{option_map, option_to_list}
use Rattle.std.specs.Str.{bytes_eq}
use Rattle.std.proofs.lemmas.Bool.{cases_Bool, cond-true, cond-false, le-leb, leb-true}
use Rattle.std.proofs.lemmas.List.{length-map}
use Rattle.std.proofs.lemmas.List.Sums.{length-filter}
use Rattle.std.proofs.lemmas.Slice.Eq.{bytes_eq-Decides}
use Rattle.status_worker.specs.declared.command.NamedChange.{NamedChange}
use Rattle.status_worker.specs.declared.command.StatusCommand.{StatusCommand}
use Rattle.status_worker.specs.declared.command.StatusCommand.TheVariants as command
use Rattle.status_worker.specs.declared.field.Field.{Field}
use Rattle.status_worker.specs.declared.name.Name.{Name}
use Rattle.status_worker.specs.declared.name.Name.TheVariants as name
use Rattle.status_worker.specs.declared.texts.ChangeTexts.{ChangeTexts}
use Rattle.status_worker.specs.declared.texts.Texts.{Texts}
use Rattle.status_worker.specs.declared.verb.Verb.{Verb}
use Rattle.status_worker.specs.declared.verb.Verb.TheVariants as verb
use Rattle.status_worker.specs.PageCommands.{values_of, AreGiven, ReadsChange, Asks, page, list, update, reset, recover}
use Rattle.status_worker.specs.Meaning.{verb_named, verb_of, command_by, command_of, command_in}
use Rattle.status_worker.specs.Names.{has_name, is_lone, are_lone, value_of, texts_of}
use Rattle.status_worker.specs.Values.{◌>>=◌, activation_of, short_number, redirect_of, given, has_change, changed_by, change_of}

-- ---- the values of a name

first_of : List (List ℕ) → Option (List ℕ)
first_of [] = None
first_of (v ∷ vs) = Some v

first_of-option : (o : Option (List ℕ)) → first_of (option_to_list o) ≡ o
unfolding first_of
first_of-option None = refl
first_of-option (Some v) = refl

few-option : (o : Option (List ℕ)) → length (option_to_list o) ≤ 1
few-option None = omega arith
few-option (Some v) = omega arith

option_from_few : (vs : List (List ℕ)) → length vs ≤ 1 → vs ≡ option_to_list (first_of vs)
unfolding first_of
option_from_few [] few = refl
option_from_few (v ∷ []) few = refl
option_from_few (v ∷ w ∷ vs) few = absurd (omega arith)

value_is_first : (name : Name) (fields : List Field) → value_of fields name ≡ first_of (values_of fields name)
unfolding first_of
value_is_first name [] = refl
value_is_first name (f ∷ fields) =
    ⊎_elim (λ has. rw has refl) (λ has. rw has (value_is_first name fields)) (cases_Bool (has_name name f))

count_is_length : (name : Name) (fields : List Field) → count_by (has_name name) fields ≡ length (values_of fields name)
count_is_length name fields =
    sym (length-filter (has_name name) fields) ∙ sym (length-map (filter (has_name name) fields) (λ field. field.value))

given_value : (name : Name) (fields : List Field) (o : Option (List ℕ)) → values_of fields name ≡ option_to_list o → value_of fields name ≡ o
given_value name fields o is = value_is_first name fields ∙ ap first_of is ∙ first_of-option o

given_lone : (name : Name) (fields : List Field) (o : Option (List ℕ)) → values_of fields name ≡ option_to_list o → is_lone fields name ≡ true
given_lone name fields o is =
    le-leb (count_by (has_name name) fields) 1 (omega (arith, count_is_length name fields, ap length is, few-option o))

lone_given : (name : Name) (fields : List Field) → is_lone fields name ≡ true → values_of fields name ≡ option_to_list (value_of fields name)
lone_given name fields lone =
    let few = leb-true (count_by (has_name name) fields) 1 lone in
    option_from_few (values_of fields name) (omega (arith, count_is_length name fields, few))
    ∙ ap option_to_list (sym (value_is_first name fields))

-- ---- the known names

texts_given : (fields : List Field) (t : Texts) → AreGiven fields t → texts_of fields ≡ t
texts_given fields t one =
    let command = given_value name.Command fields t.command one.command in
    let worker = given_value name.Worker fields t.worker one.worker in
    let member = given_value name.Member fields t.member one.member in
    let activation = given_value name.Activation fields t.change.activation one.activation in
    let factor = given_value name.Factor fields t.change.factor one.factor in
    let distance = given_value name.Distance fields t.change.distance one.distance in
    let redirect = given_value name.Redirect fields t.change.redirect one.redirect in
    rw (command, worker, member, activation, factor, distance, redirect) refl

all_lone : (fields : List Field) (t : Texts) → AreGiven fields t → are_lone fields ≡ true
all_lone fields t one =
    rw (
      given_lone name.Command fields t.command one.command,
      given_lone name.Worker fields t.worker one.worker,
      given_lone name.Member fields t.member one.member,
      given_lone name.Activation fields t.change.activation one.activation,
      given_lone name.Factor fields t.change.factor one.factor,
      given_lone name.Distance fields t.change.distance one.distance,
      given_lone name.Redirect fields t.change.redirect one.redirect,
    )
    refl

pub and_true : (a b : Bool) → (a && b) ≡ true → (a ≡ true) × (b ≡ true)
and_true true b h = (refl, h)
and_true false b h = cc

lone_texts : (fields : List Field) → are_lone fields ≡ true → AreGiven fields (texts_of fields)
lone_texts fields lone =
    let command = and_true _ _ lone in
    let worker = and_true _ _ command.1 in
    let member = and_true _ _ worker.1 in
    let activation = and_true _ _ member.1 in
    let factor = and_true _ _ activation.1 in
    let distance = and_true _ _ factor.1 in
    let redirect = and_true _ _ distance.1 in
    record {
      command = lone_given name.Command fields command.0;
      worker = lone_given name.Worker fields worker.0;
      member = lone_given name.Member fields member.0;
      activation = lone_given name.Activation fields activation.0;
      factor = lone_given name.Factor fields factor.0;
      distance = lone_given name.Distance fields distance.0;
      redirect = lone_given name.Redirect fields redirect.0;
    }

-- ---- the table is read

change_read : (t : ChangeTexts) (c : NamedChange) → ReadsChange t c → change_of t ≡ Some c
change_read t c says =
    cond-true (has_change t) (changed_by t) None says.some
    ∙ ap (λ o. o >>= λ a. given short_number t.factor >>= λ f. given short_number t.distance >>= λ d.
    Some (record { activation = a; factor = f; distance = d; redirect = redirect_of t.redirect })) says.activation
    ∙ ap (λ o. o >>= λ f. given short_number t.distance >>= λ d.
    Some (record { activation = c.activation; factor = f; distance = d; redirect = redirect_of t.redirect })) says.factor
    ∙ ap (λ o. o >>= λ d. Some (record { activation = c.activation; factor = c.factor; distance = d; redirect = redirect_of t.redirect })) says.distance
    ∙ ap (λ r. Some (record { activation = c.activation; factor = c.factor; distance = c.distance; redirect = r })) says.redirect

asked_read : (t : Texts) (c : StatusCommand) → Asks t c → command_of t ≡ Some c
asked_read t c (page is) = ap (λ o. verb_of o >>= λ v. command_by v t) is
asked_read t c (list is) = ap (λ o. verb_of o >>= λ v. command_by v t) is
asked_read t c (update {w} {sw} {c = change} is worker member says) =
    ap (λ o. verb_of o >>= λ v. command_by v t) is
    ∙ ap (λ o. o >>= λ x. t.member >>= λ y. option_map (command.Update x y) (change_of t.change)) worker
    ∙ ap (λ o. o >>= λ y. option_map (command.Update w y) (change_of t.change)) member
    ∙ ap (option_map (command.Update w sw)) (change_read t.change change says)
asked_read t c (reset is worker) =
    ap (λ o. verb_of o >>= λ v. command_by v t) is ∙ ap (option_map (λ w. command.Reset w t.member)) worker
asked_read t c (recover {w} {sw} is worker member) =
    ap (λ o. verb_of o >>= λ v. command_by v t) is
    ∙ ap (λ o. o >>= λ x. option_map (command.Recover x) t.member) worker
    ∙ ap (option_map (command.Recover w)) member

pub command_read : (fields : List Field) (t : Texts) (c : StatusCommand) → AreGiven fields t → Asks t c → command_in fields ≡ Some c
command_read fields t c one asks =
    cond-true (are_lone fields) (command_of (texts_of fields)) None (all_lone fields t one)
    ∙ ap command_of (texts_given fields t one) ∙ asked_read t c asks

-- ---- nothing else is

-- the verb that a text spells
verb_text : Verb → List ℕ
verb_text verb.List = codes "list"
verb_text verb.Update = codes "update"
verb_text verb.Reset = codes "reset"
verb_text verb.Recover = codes "recover"

verb_spelled : (text : List ℕ) (v : Verb) → verb_named text ≡ Some v → text ≡ verb_text v
unfolding verb_text
verb_spelled text v named =
    spelled (codes "list") verb.List _ refl named (λ no.
    spelled (codes "update") verb.Update _ refl no (λ no.
    spelled (codes "reset") verb.Reset _ refl no (λ no.
    spelled (codes "recover") verb.Recover None refl no (λ no. cc))))
  where
    spelled : (word : List ℕ) (x : Verb) (o : Option Verb) → verb_text x ≡ word → cond (bytes_eq text word) (Some x) o ≡ Some v → (o ≡ Some v → text ≡ verb_text v) → text ≡ verb_text v
    spelled word x o is chosen other =
        ⊎_elim
        (λ same.
        let it : x ≡ v = cc (sym (cond-true _ (Some x) o same) ∙ chosen) in
        (bytes_eq-Decides text word).0 same ∙ sym is ∙ ap verb_text it)
        (λ differs. other (sym (cond-false _ (Some x) o differs) ∙ chosen))
        (cases_Bool (bytes_eq text word))

some_bound : {A B : Type 0} (o : Option A) (f : A → Option B) (y : B) → (o >>= f) ≡ Some y → (x : A) × (o ≡ Some x) × (f x ≡ Some y)
some_bound None f y h = cc
some_bound (Some x) f y h = (x, refl, h)

some_mapped : {A B : Type 0} (o : Option A) (f : A → B) (y : B) → option_map f o ≡ Some y → (x : A) × (o ≡ Some x) × (f x ≡ y)
some_mapped None f y h = cc
some_mapped (Some x) f y h = (x, refl, cc)

change_says : (t : ChangeTexts) (c : NamedChange) → change_of t ≡ Some c → ReadsChange t c
change_says t c means =
    let some = cond_some_of (has_change t) (changed_by t) c means in
    let a = some_bound (given activation_of t.activation) _ c some.1 in
    let f = some_bound (given short_number t.factor) _ c a.2 in
    let d = some_bound (given short_number t.distance) _ c f.2 in
    let whole : record { activation = a.0; factor = f.0; distance = d.0; redirect = redirect_of t.redirect } ≡ c = cc (d.2) in
    record {
      some = some.0;
      activation = a.1 ∙ ap (λ (x : NamedChange). Some x.activation) whole;
      factor = f.1 ∙ ap (λ (x : NamedChange). Some x.factor) whole;
      distance = d.1 ∙ ap (λ (x : NamedChange). Some x.distance) whole;
      redirect = ap (λ (x : NamedChange). x.redirect) whole;
    }
  where
    cond_some_of : (b : Bool) (o : Option NamedChange) (c : NamedChange) → cond b o None ≡ Some c → (b ≡ true) × (o ≡ Some c)
    cond_some_of true o c h = (refl, h)
    cond_some_of false o c h = cc

asked_by : (t : Texts) (c : StatusCommand) (text : List ℕ) (v : Verb) → t.command ≡ Some text → text ≡ verb_text v → command_by v t ≡ Some c → Asks t c
unfolding verb_text
asked_by t c text verb.List is spells means =
    let whole : command.List t.worker ≡ c = cc in
    subst (Asks t) whole (list (is ∙ ap Some spells))
asked_by t c text verb.Update is spells means =
    let worker = some_bound t.worker _ c means in
    let member = some_bound t.member _ c worker.2 in
    let change = some_mapped (change_of t.change) (command.Update worker.0 member.0) c member.2 in
    subst (Asks t) change.2 (update (is ∙ ap Some spells) worker.1 member.1 (change_says t.change change.0 change.1))
asked_by t c text verb.Reset is spells means =
    let worker = some_mapped t.worker (λ w. command.Reset w t.member) c means in
    subst (Asks t) worker.2 (reset (is ∙ ap Some spells) worker.1)
asked_by t c text verb.Recover is spells means =
    let worker = some_bound t.worker _ c means in
    let member = some_mapped t.member (command.Recover worker.0) c worker.2 in
    subst (Asks t) member.2 (recover (is ∙ ap Some spells) worker.1 member.1)

read_asked : (t : Texts) (c : StatusCommand) → command_of t ≡ Some c → Asks t c
read_asked t c means = by t.command refl (some_bound (verb_of t.command) (λ v. command_by v t) c means)
  where
    by : (o : Option (List ℕ)) → t.command ≡ o → ((v : Verb) × (verb_of t.command ≡ Some v) × (command_by v t ≡ Some c)) → Asks t c
    by None is said =
        let list_verb : verb.List ≡ said.0 = cc (sym (ap verb_of is) ∙ said.1) in
        let whole : command.List t.worker ≡ c = cc (ap (λ v. command_by v t) list_verb ∙ said.2) in
        subst (Asks t) whole (page is)
    by (Some text) is said =
        asked_by t c text said.0 is (verb_spelled text said.0 (sym (ap verb_of is) ∙ said.1)) said.2

pub read_command_asked : (fields : List Field) (c : StatusCommand) → command_in fields ≡ Some c → AreGiven fields (texts_of fields) × Asks (texts_of fields) c
read_command_asked fields c means =
    let some = both (are_lone fields) means in
    (lone_texts fields some.0, read_asked (texts_of fields) c some.1)
  where
    both : (b : Bool) → cond b (command_of (texts_of fields)) None ≡ Some c → (b ≡ true) × (command_of (texts_of fields) ≡ Some c)
    both true h = (refl, h)
    both false h = cc

pub one_command : (fields : List Field) (t u : Texts) (c d : StatusCommand) → AreGiven fields t → Asks t c → AreGiven fields u → Asks u d → c ≡ d
one_command fields t u c d one asks two also =
    let first = command_read fields t c one asks in
    let second = command_read fields u d two also in
    cc (first, second)
