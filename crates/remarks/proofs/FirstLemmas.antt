-- The first refusal of a file's lines, each of which is judged by itself.
use Rattle.std.proofs.Common.{◌≡◌, ℕ, ◌+◌, ◌≤◌, Bool, true, false, List, [], ◌∷◌, ◌++◌, Option, Some, None, Result, Ok, Err, refl, sym, ap, ◌∙◌, subst, cond, arith, ◌||◌}
use Rattle.std.proofs.lemmas.Option.{same_Some}
use Rattle.std.specs.Option.{is_some, option_and_then, option_map, option_to_list}
use Rattle.std.specs.Str.{bytes_eq}
use Rattle.std.specs.Result.{result_err}
use Rattle.jk_io.specs.Decimals.{trimmed}
use Rattle.site_config.specs.Cut.{cut_at}
use Rattle.site_config.specs.Lines.{lines, without_mark}
use Rattle.site_config.specs.Places.{named_among}
use Rattle.site_config.specs.Properties as properties
use Rattle.site_config.specs.Properties.{fault_of, is_silent}
use Rattle.site_config.specs.declared.error.PropsRefusal.{PropsRefusal}
use Rattle.site_config.specs.declared.config.Config.{Config}
use Rattle.site_config.specs.declared.config.Named.{Named}
use Rattle.site_config.specs.declared.property.Fault.{Fault}
use Rattle.site_config.specs.declared.property.Fault.TheVariants as fault
use Rattle.site_config.specs.declared.property.Property.{Property}
use Rattle.site_mounts.specs.Lines as rules
use Rattle.site_mounts.specs.Parts.{parts_of, pieces_of}
use Rattle.site_mounts.specs.Refusals.{or_refused, reason_in}
use Rattle.site_mounts.specs.Sides.{Left, left_of, patterns_of}
use Rattle.site_mounts.specs.declared.error.MapReason.{MapReason}
use Rattle.site_mounts.specs.declared.error.MapReason.TheVariants as reason
use Rattle.site_mounts.specs.declared.error.MapRefusal.{MapRefusal}
use Rattle.site_mounts.specs.declared.rule.Role.{Role}
use Rattle.site_mounts.specs.declared.rule.Role.TheVariants as role
use Rattle.site_mounts.specs.declared.rule.Rule.{Rule}
use Rattle.site_workers.specs.Given.{or_else}
use Rattle.remarks.specs.Explained.{map_words, workers_words}
use Rattle.remarks.specs.Refused.{IsKnown, first_in, first_wrong, has_wrong, refused_from, told_if, wrong_line, wrong_rule}

-- what is refused is the line of this number
abbrev AtLine : {X : Type 0} → ℕ → Result X PropsRefusal → Type 0
AtLine n (Ok x) = Unit {0}
AtLine n (Err r) = r.line ≡ n

abbrev AtRule : {X : Type 0} → ℕ → Result X MapRefusal → Type 0
AtRule n (Ok x) = Unit {0}
AtRule n (Err r) = r.line ≡ n

-- a line of this number, and what is wrong with it
abbrev at_line : ℕ → List ℕ → ℕ × List ℕ
at_line n words = (n, words)

-- a refusal in words
abbrev pub in_words : PropsRefusal → ℕ × List ℕ
in_words r = (r.line, workers_words r.reason)

abbrev pub map_in_words : MapRefusal → ℕ × List ℕ
map_in_words r = (r.line, map_words r.reason)

-- a line of a workers.properties
fault_at_line : (p : Property) (f : Option Fault) → AtLine p.line (properties.judged true p f)
fault_at_line p None = tt
fault_at_line p (Some fault.Name) = refl
fault_at_line p (Some fault.Period) = refl
fault_at_line p (Some (fault.Value d)) = refl

said_at_line : (n : ℕ) (text : List ℕ) → AtLine n (properties.said true n text)
said_at_line n text = by_cut (is_silent text) (cut_at 61 text)
  where
    by_cut : (silent : Bool) (cut : Option (List ℕ × List ℕ)) → AtLine n (cond silent (Ok None) (properties.property_of true n cut))
    by_cut true cut = tt
    by_cut false None = refl
    by_cut false (Some parts) = fault_at_line (record { line = n; key = trimmed parts.0; value = trimmed parts.1 }) (fault_of (trimmed parts.0) (trimmed parts.1))

err_behind : (front : List Property) (read : Result (List Property) PropsRefusal) → result_err (properties.with_properties front read) ≡ result_err read
err_behind front (Ok ps) = refl
err_behind front (Err r) = refl

first_of_lines : (n : ℕ) (ls : List (List ℕ)) → option_map in_words (result_err (properties.read_lines true n ls)) ≡ first_wrong wrong_line n ls
first_of_lines n [] = refl
first_of_lines n (l ∷ ls) = by_said (properties.said true n (trimmed l)) (said_at_line n (trimmed l)) (first_of_lines (n + 1) ls)
  where
    by_said : (s : Result (Option Property) PropsRefusal) → AtLine n s → option_map in_words (result_err (properties.read_lines true (n + 1) ls)) ≡ first_wrong wrong_line (n + 1) ls
        → option_map in_words (result_err (properties.before_rest s (properties.read_lines true (n + 1) ls)))
        ≡ or_else (option_map (at_line n) (option_map (λ r. workers_words r.reason) (result_err s))) (first_wrong wrong_line (n + 1) ls)
    by_said (Err r) at rest = ap (λ (m : ℕ). Some (at_line m (workers_words r.reason))) at
    by_said (Ok says) at rest = ap (option_map in_words) (err_behind (option_to_list says) (properties.read_lines true (n + 1) ls)) ∙ rest

-- a line of a uriworkermap.properties
or_at_line : {X : Type 0} (n : ℕ) (why : MapReason) (o : Option X) → AtRule n (or_refused n why o)
or_at_line n why None = refl
or_at_line n why (Some x) = tt

known_at_line : (c : Config) (n : ℕ) (name : List ℕ) → AtRule n (rules.known c n name)
known_at_line c n name = or_at_line n reason.UnknownWorker (named_among name c.listed)

excluded_at_line : (n : ℕ) (known : Result Named MapRefusal) → AtRule n known → AtRule n (rules.excluded_worker known)
excluded_at_line n (Err r) at = at
excluded_at_line n (Ok worker) at = tt

exclusion_at_line : (n : ℕ) (all : Bool) (known : Result Named MapRefusal) → AtRule n known → AtRule n (cond all (Ok (role.Exclusion None)) (rules.excluded_worker known))
exclusion_at_line n true known at = tt
exclusion_at_line n false known at = excluded_at_line n known at

mount_at_line : (c : Config) (n : ℕ) (texts : List (List ℕ)) (known : Result Named MapRefusal) → AtRule n known → AtRule n (rules.mount_with c n texts known)
mount_at_line c n texts (Err r) at = at
mount_at_line c n texts (Ok worker) at = or_at_line n reason.BadExtension (option_map (rules.mount_at worker) (option_and_then (rules.terms_at c worker) (parts_of texts)))

role_at_line : (c : Config) (n : ℕ) (exclusion : Bool) (texts : List (List ℕ)) → AtRule n (rules.role_in c n exclusion texts)
role_at_line c n exclusion [] = refl
role_at_line c n true (name ∷ texts) = exclusion_at_line n (bytes_eq (trimmed name) (42 ∷ [])) (rules.known c n (trimmed name)) (known_at_line c n (trimmed name))
role_at_line c n false (name ∷ texts) = mount_at_line c n texts (rules.known c n (trimmed name)) (known_at_line c n (trimmed name))

with_at_line : (n : ℕ) (off : Bool) (patterns : List (List ℕ)) (r : Result Role MapRefusal) → AtRule n r → AtRule n (rules.rules_with n off patterns r)
with_at_line n off patterns (Err r) at = at
with_at_line n true patterns (Ok r) at = tt
with_at_line n false patterns (Ok r) at = tt

rules_at_line : (c : Config) (n : ℕ) (side : Left) (patterns : Option (List (List ℕ))) (right : List ℕ) → AtRule n (rules.rules_at c n side patterns right)
rules_at_line c n side None right = refl
rules_at_line c n side (Some patterns) right = with_at_line n side.off patterns (rules.role_of c n side.exclusion right) (role_at_line c n side.exclusion (pieces_of right))

rule_at_line : (c : Config) (n : ℕ) (text : List ℕ) → AtRule n (rules.said c n text)
rule_at_line c n text = by_cut (is_silent text) (cut_at 61 text)
  where
    by_cut : (silent : Bool) (cut : Option (List ℕ × List ℕ)) → AtRule n (cond silent (Ok []) (rules.rules_of c n cut))
    by_cut true cut = tt
    by_cut false None = refl
    by_cut false (Some sides) = let side = left_of (trimmed sides.0) in rules_at_line c n side (patterns_of side.pattern) sides.1

err_behind_rules : (front : List Rule) (read : Result (List Rule) MapRefusal) → result_err (rules.with_rules front read) ≡ result_err read
err_behind_rules front (Ok rs) = refl
err_behind_rules front (Err r) = refl

first_of_rules : (c : Config) (n : ℕ) (ls : List (List ℕ)) → option_map map_in_words (result_err (rules.read_lines c n ls)) ≡ first_wrong (wrong_rule c) n ls
first_of_rules c n [] = refl
first_of_rules c n (l ∷ ls) = by_said (rules.said c n (trimmed l)) (rule_at_line c n (trimmed l)) (first_of_rules c (n + 1) ls)
  where
    by_said : (s : Result (List Rule) MapRefusal) → AtRule n s → option_map map_in_words (result_err (rules.read_lines c (n + 1) ls)) ≡ first_wrong (wrong_rule c) (n + 1) ls
        → option_map map_in_words (result_err (rules.before_rest s (rules.read_lines c (n + 1) ls)))
        ≡ or_else (option_map (at_line n) (option_map map_words (reason_in s))) (first_wrong (wrong_rule c) (n + 1) ls)
    by_said (Err r) at rest = ap (λ (m : ℕ). Some (at_line m (map_words r.reason))) at
    by_said (Ok front) at rest = ap (option_map map_in_words) (err_behind_rules front (rules.read_lines c (n + 1) ls)) ∙ rest

-- the first refused line of a text
pub workers_first : (text : List ℕ) (first : Option PropsRefusal) → result_err (properties.read_text true text) ≡ first → first_in wrong_line text ≡ option_map in_words first
workers_first text first h = sym (first_of_lines 1 (lines (without_mark text))) ∙ ap (option_map in_words) h

pub rules_first : (c : Config) (text : List ℕ) (r : MapRefusal) → rules.read_text c text ≡ Err r → first_in (wrong_rule c) text ≡ Some (map_in_words r)
rules_first c text r h = sym (first_of_rules c 1 (lines (without_mark text))) ∙ ap (λ (read : Result (List Rule) MapRefusal). option_map map_in_words (result_err read)) h

-- the first refused line is one of those left
first_behind : (wrong : ℕ → List ℕ → Option (List ℕ)) (r : ℕ × List ℕ) (n : ℕ) (ls : List (List ℕ)) → first_wrong wrong n ls ≡ Some r → n ≤ r.0
first_behind wrong r n [] h = absurd cc
first_behind wrong r n (l ∷ ls) h = by_words (wrong n l) (first_behind wrong r (n + 1) ls) h
  where
    by_words : (o : Option (List ℕ)) → (first_wrong wrong (n + 1) ls ≡ Some r → n + 1 ≤ r.0)
        → or_else (option_map (at_line n) o) (first_wrong wrong (n + 1) ls) ≡ Some r → n ≤ r.0
    by_words None rest h = omega (arith, rest h)
    by_words (Some w) rest h = let here : n ≡ r.0 = ap (λ (x : ℕ × List ℕ). x.0) (same_Some (at_line n w) r h) in omega (arith, here)

-- the line of this number is known, where the first refused line is one of those left, if it is none before
pub known_line : (wrong : ℕ → List ℕ → Option (List ℕ)) (r : ℕ × List ℕ) (n : ℕ) (l : List ℕ) (ls : List (List ℕ)) → (n ≤ r.0 → first_wrong wrong n (l ∷ ls) ≡ Some r) → IsKnown r n (wrong n l)
known_line wrong r n l ls h = by_words (wrong n l) h
  where
    by_words : (o : Option (List ℕ)) → (n ≤ r.0 → or_else (option_map (at_line n) o) (first_wrong wrong (n + 1) ls) ≡ Some r) → IsKnown r n o
    by_words None h = record {
      before = λ less. refl;
      here = λ same. absurd (omega (arith, same, first_behind wrong r (n + 1) ls (h (omega (arith, same)))));
    }
    by_words (Some w) h = record {
      before = λ less.
          let here : n ≡ r.0 = ap (λ (x : ℕ × List ℕ). x.0) (same_Some (at_line n w) r (h (omega (arith, less)))) in
          absurd (omega (arith, here, less));
      here = λ same. ap (λ (x : ℕ × List ℕ). Some x.1) (same_Some (at_line n w) r (h (omega (arith, same))));
    }

-- and so it is of those behind it
pub first_next : (wrong : ℕ → List ℕ → Option (List ℕ)) (r : ℕ × List ℕ) (n : ℕ) (l : List ℕ) (ls : List (List ℕ)) → (n ≤ r.0 → first_wrong wrong n (l ∷ ls) ≡ Some r)
    → n + 1 ≤ r.0 → first_wrong wrong (n + 1) ls ≡ Some r
first_next wrong r n l ls h more =
    let none = (known_line wrong r n l ls h).before (omega (arith, more)) in
    subst (λ (o : Option (List ℕ)). or_else (option_map (at_line n) o) (first_wrong wrong (n + 1) ls) ≡ Some r) none (h (omega (arith, more)))

-- where no line is refused nothing is said
pub none_said : (wrong : ℕ → List ℕ → Option (List ℕ)) (file : List ℕ) (n : ℕ) (ls : List (List ℕ)) → first_wrong wrong n ls ≡ None → refused_from wrong file n ls ≡ []
none_said wrong file n [] h = refl
none_said wrong file n (l ∷ ls) h = by_words (wrong n l) (none_said wrong file (n + 1) ls) h
  where
    by_words : (o : Option (List ℕ)) → (first_wrong wrong (n + 1) ls ≡ None → refused_from wrong file (n + 1) ls ≡ [])
        → or_else (option_map (at_line n) o) (first_wrong wrong (n + 1) ls) ≡ None
        → told_if file n l o ++ refused_from wrong file (n + 1) ls ≡ []
    by_words None rest h = rest h
    by_words (Some w) rest h = absurd cc

-- a line is refused just where there is a first one
pub has_first : (wrong : ℕ → List ℕ → Option (List ℕ)) (n : ℕ) (ls : List (List ℕ)) → is_some (first_wrong wrong n ls) ≡ has_wrong wrong n ls
has_first wrong n [] = refl
has_first wrong n (l ∷ ls) = by_words (wrong n l) (has_first wrong (n + 1) ls)
  where
    by_words : (o : Option (List ℕ)) → is_some (first_wrong wrong (n + 1) ls) ≡ has_wrong wrong (n + 1) ls
        → is_some (or_else (option_map (at_line n) o) (first_wrong wrong (n + 1) ls)) ≡ (is_some o || has_wrong wrong (n + 1) ls)
    by_words None rest = rest
    by_words (Some w) rest = refl
