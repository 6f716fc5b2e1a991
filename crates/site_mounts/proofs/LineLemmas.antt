-- The rules of a text, line after line, and what they name.
use Rattle.std.proofs.Common.{◌≡◌, ℕ, ◌+◌, Bool, true, false, slice_get, List, [], ◌∷◌, ◌++◌, length, Option, Some, None, Result, Ok, Err, refl, sym, ◌∙◌, ap, arith, append_assoc, append-nil, cond, subst}
use Rattle.std.proofs.lemmas.Bool.{and_parts, lt-ltb}
use Rattle.std.proofs.lemmas.Option.{same_Some}
use Rattle.std.proofs.lemmas.List.Folds.{list_all-append}
use Rattle.std.specs.Option.{option_map, option_and_then}
use Rattle.std.specs.Result.{IsErrAnd}
use Rattle.std.specs.List.{list_all}
use Rattle.std.specs.Str.{bytes_eq}
use Rattle.jk_io.specs.Decimals.{trimmed}
use Rattle.site_config.specs.Cut.{cut_at}
use Rattle.site_config.specs.Lines.{lines, without_mark}
use Rattle.site_config.specs.Properties.{is_silent}
use Rattle.site_config.specs.declared.balancer.Lb.{Lb}
use Rattle.site_config.specs.declared.config.Config.{Config}
use Rattle.site_config.specs.declared.config.Named.{Named}
use Rattle.site_config.specs.declared.config.Named.TheVariants as named
use Rattle.site_config.specs.Places.{are_places, is_place, named_among}
use Rattle.site_mounts.specs.declared.error.RulesError.{RulesError}
use Rattle.site_mounts.specs.declared.error.RulesError.TheVariants as errors
use Rattle.site_mounts.specs.declared.error.MapRefusal.{MapRefusal}
use Rattle.site_mounts.specs.declared.error.MapReason.TheVariants as reason
use Rattle.site_mounts.specs.declared.rule.Rule.{Rule}
use Rattle.site_mounts.specs.declared.rule.Role.{Role}
use Rattle.site_mounts.specs.declared.rule.Role.TheVariants as role
use Rattle.site_mounts.specs.Lines.{before_rest, with_rules, read_lines, read_text, said, rules_of, rules_at, rules_with, made_rules, role_of, role_in, excluded_worker, known, mount_with, mount_at, terms_at}
use Rattle.site_mounts.specs.Members.{members_at, members_in}
use Rattle.site_mounts.specs.Parts.{disabled, is_good, last_value, names_in, parts_of, pieces_of, stopped, terms_of}
use Rattle.site_mounts.specs.Refusals.{AnswersRules, or_refused}
use Rattle.site_mounts.specs.Sides.{Left, left_of, patterns_of}
use Rattle.site_mounts.specs.Sites.{is_worker, member_count, names_members, role_stands_in, stands_in}
use Rattle.site_mounts.proofs.MemberLemmas.{set_of-below}

-- a line that is read
pub with_line : (rules after : List Rule) (line rest : Result (List Rule) MapRefusal) → with_rules rules line ≡ Ok after → with_rules rules (before_rest line rest) ≡ with_rules after rest
with_line rules after (Err refused) rest e = cc
with_line rules after (Ok new) (Err refused) e = refl
with_line rules after (Ok new) (Ok more) e =
    let so : rules ++ new ≡ after = cc in
    ap (λ (xs : List Rule). Ok xs) (sym (append_assoc rules new more) ∙ ap (λ (xs : List Rule). xs ++ more) so)

-- a line that is refused
pub with_refused : (rules : List Rule) (line rest : Result (List Rule) MapRefusal) (refused : MapRefusal) → with_rules rules line ≡ Err refused → with_rules rules (before_rest line rest) ≡ Err refused
with_refused rules (Err why) rest refused e = e
with_refused rules (Ok new) rest refused e = cc

-- what is read is so; a refusal may come
abbrev pub OnRead : {X : Type 0} → (X → Bool) → Result X MapRefusal → Type 0
OnRead so (Ok x) = so x ≡ true
OnRead so (Err refused) = Unit {0}

place_among : (lbs statuses : ℕ) (name : List ℕ) (listed : List (List ℕ × Named)) (w : Named) → are_places lbs statuses listed ≡ true → named_among name listed ≡ Some w → is_place lbs statuses w ≡ true
place_among lbs statuses name [] w h e = cc
place_among lbs statuses name (entry ∷ listed) w h e =
    let both = and_parts (is_place lbs statuses entry.1) (are_places lbs statuses listed) h in
    by_test (bytes_eq entry.0 name) both.0 (place_among lbs statuses name listed w both.1) e
  where
    by_test : (t : Bool) → is_place lbs statuses entry.1 ≡ true → (named_among name listed ≡ Some w → is_place lbs statuses w ≡ true) → cond t (Some entry.1) (named_among name listed) ≡ Some w → is_place lbs statuses w ≡ true
    by_test true first later e = subst (λ (z : Named). is_place lbs statuses z ≡ true) (same_Some entry.1 w e) first
    by_test false first later e = later e

-- a worker that is listed
known_stands : (config : Config) (line : ℕ) (name : List ℕ) → OnRead (is_worker config) (known config line name)
known_stands config line name = by_found (named_among name config.listed) refl
  where
    by_found : (o : Option Named) → named_among name config.listed ≡ o → OnRead (is_worker config) (or_refused line reason.UnknownWorker o)
    by_found None e = tt
    by_found (Some w) e = place_among (length config.lbs) (length config.statuses) name config.listed w config.placed e

member_count-length : (o : Option Lb) → length (members_in o) ≡ member_count o
member_count-length None = refl
member_count-length (Some lb) = refl

terms_stand : (config : Config) (i : ℕ) (parts : List (List ℕ × List ℕ)) → names_members (member_count (slice_get config.lbs i)) (terms_of (members_at config i) parts) ≡ true
terms_stand config i parts =
    let sized = member_count-length (slice_get config.lbs i) in
    let below = λ (names : List (List ℕ)). rw sized at (set_of-below (members_at config i) names) in
    let few = lt-ltb _ _ (below (names_in (last_value disabled parts))) in
    let few' = lt-ltb _ _ (below (names_in (last_value stopped parts))) in
    rw (few, few') refl

mount_stands : (config : Config) (line : ℕ) (texts : List (List ℕ)) (w : Result Named MapRefusal) → OnRead (is_worker config) w → OnRead (role_stands_in config) (mount_with config line texts w)
mount_stands config line texts (Err refused) h = tt
mount_stands config line texts (Ok worker) h = by_parts worker (parts_of texts) h
  where
    by_test : (i : ℕ) (parts : List (List ℕ × List ℕ)) (t : Bool) → is_worker config (named.Balancer i) ≡ true → OnRead (role_stands_in config) (or_refused line reason.BadExtension (option_map (mount_at (named.Balancer i)) (cond t (Some (terms_of (members_at config i) parts)) None)))
    by_test i parts false h = tt
    by_test i parts true h = rw (h, terms_stand config i parts) refl

    by_parts : (w : Named) (o : Option (List (List ℕ × List ℕ))) → is_worker config w ≡ true → OnRead (role_stands_in config) (or_refused line reason.BadExtension (option_map (mount_at w) (option_and_then (terms_at config w) o)))
    by_parts w None h = tt
    by_parts (named.Status i) (Some parts) h = rw h refl
    by_parts (named.Balancer i) (Some parts) h = by_test i parts (list_all (is_good (members_at config i)) parts) h

excluded_stands : (config : Config) (w : Result Named MapRefusal) → OnRead (is_worker config) w → OnRead (role_stands_in config) (excluded_worker w)
excluded_stands config (Err refused) h = tt
excluded_stands config (Ok worker) h = h

role_stands : (config : Config) (line : ℕ) (exclusion : Bool) (pieces : List (List ℕ)) → OnRead (role_stands_in config) (role_in config line exclusion pieces)
role_stands config line exclusion [] = tt
role_stands config line false (name ∷ texts) = mount_stands config line texts (known config line (trimmed name)) (known_stands config line (trimmed name))
role_stands config line true (name ∷ texts) = by_test (bytes_eq (trimmed name) (42 ∷ []))
  where
    by_test : (t : Bool) → OnRead (role_stands_in config) (cond t (Ok (role.Exclusion None)) (excluded_worker (known config line (trimmed name))))
    by_test true = refl
    by_test false = excluded_stands config (known config line (trimmed name)) (known_stands config line (trimmed name))

made_stand : (config : Config) (line : ℕ) (r : Role) (patterns : List (List ℕ)) → role_stands_in config r ≡ true → stands_in config (made_rules line r patterns) ≡ true
made_stand config line r [] h = refl
made_stand config line r (p ∷ patterns) h = rw (h, made_stand config line r patterns h) refl

rules_stand : (config : Config) (line : ℕ) (off : Bool) (patterns : List (List ℕ)) (r : Result Role MapRefusal) → OnRead (role_stands_in config) r → OnRead (stands_in config) (rules_with line off patterns r)
rules_stand config line off patterns (Err refused) h = tt
rules_stand config line true patterns (Ok r) h = refl
rules_stand config line false patterns (Ok r) h = made_stand config line r patterns h

said_stands : (config : Config) (line : ℕ) (text : List ℕ) → OnRead (stands_in config) (said config line text)
said_stands config line text = by_test (is_silent text)
  where
    by_patterns : (side : Left) (o : Option (List (List ℕ))) (right : List ℕ) → OnRead (stands_in config) (rules_at config line side o right)
    by_patterns side None right = tt
    by_patterns side (Some patterns) right =
        rules_stand config line side.off patterns (role_of config line side.exclusion right) (role_stands config line side.exclusion (pieces_of right))

    by_sides : (o : Option (List ℕ × List ℕ)) → OnRead (stands_in config) (rules_of config line o)
    by_sides None = tt
    by_sides (Some sides) =
        let side = left_of (trimmed sides.0) in by_patterns side (patterns_of side.pattern) sides.1

    by_test : (t : Bool) → OnRead (stands_in config) (cond t (Ok []) (rules_of config line (cut_at 61 text)))
    by_test true = refl
    by_test false = by_sides (cut_at 61 text)

append_stands : (config : Config) (rules more : List Rule) → stands_in config rules ≡ true → stands_in config more ≡ true → stands_in config (rules ++ more) ≡ true
append_stands config rules more h k = rw (list_all-append, h, k) refl

before_stands : (config : Config) (line rest : Result (List Rule) MapRefusal) → OnRead (stands_in config) line → OnRead (stands_in config) rest → OnRead (stands_in config) (before_rest line rest)
before_stands config (Err refused) rest h k = tt
before_stands config (Ok rules) (Err refused) h k = tt
before_stands config (Ok rules) (Ok more) h k = append_stands config rules more h k

lines_stand : (config : Config) (line : ℕ) (ls : List (List ℕ)) → OnRead (stands_in config) (read_lines config line ls)
lines_stand config line [] = refl
lines_stand config line (l ∷ ls) =
    before_stands config (said config line (trimmed l)) (read_lines config (line + 1) ls) (said_stands config line (trimmed l)) (lines_stand config (line + 1) ls)

-- all that the rules of a text name stands in the configuration
pub read_stands : (config : Config) (text : List ℕ) (rules : List Rule) → read_text config text ≡ Ok rules → stands_in config rules ≡ true
read_stands config text rules e =
    subst (OnRead (stands_in config)) e (lines_stand config 1 (lines (without_mark text)))

-- the rules where no line is left
pub read_ended : (config : Config) (rules : List Rule) (line : ℕ) (text rest : List ℕ) → length rest ≡ 0 → with_rules rules (read_lines config line (lines rest)) ≡ read_text config text → read_text config text ≡ Ok rules
read_ended config rules line text [] h e = sym e ∙ ap (λ (xs : List Rule). Ok xs) (append-nil rules)
read_ended config rules line text (b ∷ bs) h e = absurd (omega arith)

-- the first line that is refused is what reading gives
pub refused_line : (view : Unit {0} → List Rule) (rules : List Rule) (line rest : Result (List Rule) MapRefusal) (error : RulesError) → AnswersRules view (Err error) (with_rules rules line) → AnswersRules {X = List Rule} (λ map. map) (Err error) (with_rules rules (before_rest line rest))
refused_line view rules line rest (errors.Refused r) h = with_refused rules line rest r h
refused_line view rules line rest errors.NoMemory h = tt

-- an error is what reading gives, whatever the call makes of the rules
any_view : {X : Type 0} (view : X → List Rule) (error : RulesError) (read : Result (List Rule) MapRefusal) → AnswersRules {X = List Rule} (λ map. map) (Err error) read → AnswersRules view (Err error) read
any_view view (errors.Refused r) read h = h
any_view view errors.NoMemory read h = tt

-- an error that a call hands on
pub handed_on : {X : Type 0} (view : X → List Rule) (answer : Result X RulesError) (error : RulesError) (read : Result (List Rule) MapRefusal) → IsErrAnd answer (λ e. e ≡ error)
    → AnswersRules {X = List Rule} (λ map. map) (Err error) read → AnswersRules view answer read
handed_on view (Ok x) error read h g = absurd h
handed_on view (Err e) error read h g = subst (λ (x : RulesError). AnswersRules view (Err x) read) (sym h) (any_view view error read g)
