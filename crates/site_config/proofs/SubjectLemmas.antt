-- A line by the subject of its key: the list of workers, the maintenance, a worker's directive, or nothing.
use Rattle.std.proofs.Common.{◌≡◌, Bool, true, false, List, ℕ, Option, Some, None, Bor, refl, sym, ◌∙◌, ap, cond, eqb, eqb-true, eq-eqb}
use Rattle.std.proofs.lemmas.Bool.{false_from_ne_true, false≢true}
use Rattle.std.proofs.lemmas.Option.{none-some, same_Some}
use Rattle.std.proofs.lemmas.Slice.Eq.{bytes_eq-Decides}
use Rattle.std.specs.Option.{IfNone, IfSome, is_some, option_map}
use Rattle.std.specs.Str.{bytes_eq}
use Rattle.site_config.specs.declared.directive.Directive.{Directive}
use Rattle.site_config.specs.declared.property.Fault.TheVariants as fault
use Rattle.site_config.specs.declared.subject.Subject.{Subject}
use Rattle.site_config.specs.declared.subject.Subject.TheVariants as subject
use Rattle.site_config.specs.Directives.{directive_of, list_key, maintain_key, name_of, slot_of, worker_part, worker_prefix}
use Rattle.site_config.specs.Meanings.{given_value, meaning_of, names_directive, value_of}
use Rattle.site_config.specs.Names.{is_name}
use Rattle.site_config.specs.Properties.{are_names, directive_fault, fault_of, name_fault, period_fault}
use Rattle.site_config.specs.Subjects.{GivesWorker, IsSubject, is_directive, is_of, with_directive, worker_given}
use Rattle.site_config.proofs.DirectiveLemmas.{name_of-none, name_of-other, name_of-same, same_slot}

list_alone : worker_part list_key ≡ None
unfolding list_key worker_prefix
list_alone = refl

maintain_alone : worker_part maintain_key ≡ None
unfolding maintain_key worker_prefix
maintain_alone = refl

apart : bytes_eq list_key maintain_key ≡ false
unfolding list_key maintain_key
apart = refl

-- a worker's directive isn't the list of workers, nor the time between maintenances
no_list : (key : List ℕ) (parts : List ℕ × List ℕ) → worker_part key ≡ Some parts → bytes_eq key list_key ≡ false
no_list key parts e =
    false_from_ne_true _ (λ same. none-some parts (sym (ap worker_part ((bytes_eq-Decides key list_key).0 same) ∙ list_alone) ∙ e))

no_maintain : (key : List ℕ) (parts : List ℕ × List ℕ) → worker_part key ≡ Some parts → bytes_eq key maintain_key ≡ false
no_maintain key parts e =
    false_from_ne_true _ (λ same. none-some parts (sym (ap worker_part ((bytes_eq-Decides key maintain_key).0 same) ∙ maintain_alone) ∙ e))

-- the list of workers isn't the time between maintenances
list_no_maintain : (key : List ℕ) → bytes_eq key list_key ≡ true → bytes_eq key maintain_key ≡ false
list_no_maintain key same =
    let one : key ≡ list_key = (bytes_eq-Decides key list_key).0 same in
    rw one apart

nothing_given : (key : List ℕ) → worker_part key ≡ None → None ≡ worker_given key
nothing_given key none = rw none refl

pub speaks_of_list : (key : List ℕ) → worker_part key ≡ None → bytes_eq key list_key ≡ true → IsSubject key subject.List
speaks_of_list key none same = record { list = sym same; maintain = sym (list_no_maintain key same); worker = nothing_given key none }

pub speaks_of_maintain : (key : List ℕ) → worker_part key ≡ None → bytes_eq key list_key ≡ false → bytes_eq key maintain_key ≡ true → IsSubject key subject.Maintain
speaks_of_maintain key none other same = record { list = sym other; maintain = sym same; worker = nothing_given key none }

pub speaks_of_nothing : (key : List ℕ) → worker_part key ≡ None → bytes_eq key list_key ≡ false → bytes_eq key maintain_key ≡ false → IsSubject key subject.Other
speaks_of_nothing key none other same = record { list = sym other; maintain = sym same; worker = nothing_given key none }

pub speaks_of_worker : (key : List ℕ) (name : Bor (List ℕ)) (text : List ℕ) (d : Option Directive) → worker_part key ≡ Some (name.now, text) → directive_of text ≡ d → IsSubject key (subject.Worker name d)
speaks_of_worker key name text d parts is = record {
  list = sym (no_list key (name.now, text) parts);
  maintain = sym (no_maintain key (name.now, text) parts);
  worker = rw (parts, is) refl;
}

-- the parts of a key by which a worker is given a directive
gives : (key name : List ℕ) (d : Option Directive) → worker_given key ≡ Some (name, d) → GivesWorker key name d
gives key name d e = by_parts (worker_part key) refl e
  where
    by_parts : (o : Option (List ℕ × List ℕ)) → worker_part key ≡ o → option_map with_directive o ≡ Some (name, d) → GivesWorker key name d
    by_parts None is e = absurd (none-some _ e)
    by_parts (Some parts) is e =
        let one : with_directive parts ≡ (name, d) = same_Some _ _ e in
        (parts.1, is ∙ ap (λ (x : List ℕ × Option Directive). Some (x.0, parts.1)) one, ap (λ (x : List ℕ × Option Directive). x.1) one)

no_parts : (key : List ℕ) → None ≡ worker_given key → worker_part key ≡ None
no_parts key e = by_parts (worker_part key) e
  where
    by_parts : (o : Option (List ℕ × List ℕ)) → None ≡ option_map with_directive o → o ≡ None
    by_parts None e = refl
    by_parts (Some parts) e = absurd (none-some _ e)

pub some_gives : (key : List ℕ) (r : Option (Bor (List ℕ) × Option Directive)) → option_map (λ w. (w.0.now, w.1)) r ≡ worker_given key → IfSome r (λ w. GivesWorker key w.0.now w.1)
some_gives key None e = tt
some_gives key (Some w) e = gives key w.0.now w.1 (sym e)

pub none_gives : (key : List ℕ) (r : Option (Bor (List ℕ) × Option Directive)) → option_map (λ w. (w.0.now, w.1)) r ≡ worker_given key → IfNone r (worker_part key ≡ None)
none_gives key None e = no_parts key e
none_gives key (Some w) e = tt

by_text : (text : List ℕ) (d : Directive) (o : Option Directive) → directive_of text ≡ o → bytes_eq text (name_of d) ≡ is_directive d o
by_text text d None is = name_of-none text d is
by_text text d (Some e) is = by_test (eqb (slot_of e) (slot_of d)) refl
  where
    by_test : (t : Bool) → eqb (slot_of e) (slot_of d) ≡ t → bytes_eq text (name_of d) ≡ t
    by_test true same =
        let one : e ≡ d = same_slot e d (eqb-true (slot_of e) (slot_of d) same) in
        name_of-same text d (is ∙ ap (λ (x : Directive). Some x) one)
    by_test false other =
        name_of-other text e d is (λ same. false≢true (sym other ∙ eq-eqb (slot_of e) (slot_of d) (sym same)))

-- whether a key gives this directive is told by its subject
pub gives_it : (key : List ℕ) (s : Subject) (d : Directive) → IsSubject key s → is_of d s ≡ names_directive d (worker_part key)
gives_it key subject.List d h = rw (no_parts key h.worker) refl
gives_it key subject.Maintain d h = rw (no_parts key h.worker) refl
gives_it key subject.Other d h = rw (no_parts key h.worker) refl
gives_it key (subject.Worker name given) d h =
    let parts = gives key name.now given (sym h.worker) in
    rw parts.1 (sym (by_text parts.0 d given parts.2))

-- what a line means whose key gives this directive
pub means_it : (s : Subject) (d : Directive) (text : List ℕ) → is_of d s ≡ true → meaning_of s text ≡ value_of d text
means_it subject.List d text e = absurd (false≢true e)
means_it subject.Maintain d text e = absurd (false≢true e)
means_it subject.Other d text e = absurd (false≢true e)
means_it (subject.Worker name None) d text e = absurd (false≢true e)
means_it (subject.Worker name (Some given)) d text e =
    let one : given ≡ d = same_slot given d (eqb-true (slot_of given) (slot_of d) e) in
    ap (λ (x : Directive). value_of x text) one

some_map : {X Y : Type 0} (f : X → Y) (o : Option X) → is_some (option_map f o) ≡ is_some o
some_map f None = refl
some_map f (Some x) = refl

-- what is wrong with a line, by that of which it speaks
pub list_fault : (key text : List ℕ) → IsSubject key subject.List → name_fault (are_names text) ≡ fault_of key text
list_fault key text h = rw (no_parts key h.worker, sym h.list) refl

pub maintain_fault : (key text : List ℕ) → IsSubject key subject.Maintain → period_fault (is_some (meaning_of subject.Maintain text)) ≡ fault_of key text
maintain_fault key text h = rw (no_parts key h.worker, sym h.list, sym h.maintain, some_map) refl

pub worker_fault : (key text : List ℕ) (name : Bor (List ℕ)) (d : Option Directive) → IsSubject key (subject.Worker name d) → cond (is_name name.now) (directive_fault d (given_value d text) text) (Some fault.Name) ≡ fault_of key text
worker_fault key text name d h =
    let parts = gives key name.now d (sym h.worker) in
    rw (parts.1, parts.2) refl

pub named_fault : (key text : List ℕ) (name : Bor (List ℕ)) (d : Option Directive) → IsSubject key (subject.Worker name d) → is_name name.now ≡ true → directive_fault d (given_value d text) text ≡ fault_of key text
named_fault key text name d h good =
    let parts = gives key name.now d (sym h.worker) in
    rw (parts.1, parts.2, good) refl

pub no_fault : (key text : List ℕ) → IsSubject key subject.Other → None ≡ fault_of key text
no_fault key text h = rw (no_parts key h.worker, sym h.list, sym h.maintain) refl
