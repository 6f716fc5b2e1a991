-- A mount of a map that stands in a configuration is at one of its workers.
use Rattle.std.proofs.Common.{◌≡◌, ℕ, Bool, true, false, List, [], ◌∷◌, Option, Some, None, refl, cond, subst, find}
use Rattle.std.proofs.lemmas.Bool.{and_parts}
use Rattle.std.proofs.lemmas.Option.{same_Some}
use Rattle.std.specs.Option.{option_and_then}
use Rattle.std.specs.List.{list_all}
use Rattle.site_config.specs.declared.config.Config.{Config}
use Rattle.site_mounts.specs.declared.rule.Mount.{Mount}
use Rattle.site_mounts.specs.declared.rule.Rule.{Rule}
use Rattle.site_mounts.specs.declared.rule.Role.{Role}
use Rattle.site_mounts.specs.declared.rule.Role.TheVariants as role
use Rattle.site_mounts.specs.Mounts.{best, is_best, is_excluded, taken, unless_excluded}
use Rattle.site_mounts.specs.Roles.{mount_of}
use Rattle.site_mounts.specs.Sites.{fits_in, role_stands_in, stands_in}

-- what is found among rules that all pass a test passes it
found_passes : (p q : Rule → Bool) (xs : List Rule) (x : Rule) → list_all q xs ≡ true → find p xs ≡ Some x → q x ≡ true
found_passes p q [] x h e = cc
found_passes p q (y ∷ ys) x h e =
    let both = and_parts (q y) (list_all q ys) h in
    by_test (p y) both.0 (found_passes p q ys x both.1) e
  where
    by_test : (t : Bool) → q y ≡ true → (find p ys ≡ Some x → q x ≡ true) → cond t (Some y) (find p ys) ≡ Some x → q x ≡ true
    by_test true first later e = subst (λ (z : Rule). q z ≡ true) (same_Some y x e) first
    by_test false first later e = later e

-- a mount that is taken is that of some rule
pub taken_fits : (config : Config) (rules : List Rule) (path : List ℕ) (m : Mount) → stands_in config rules ≡ true → taken rules path ≡ Some m → fits_in config m ≡ true
taken_fits config rules path m h e = by_rule (best rules path) refl e
  where
    by_mount : (o : Option Mount) → unless_excluded rules path o ≡ Some m → o ≡ Some m
    by_mount None e = cc
    by_mount (Some x) e = by_test (is_excluded rules path x.worker) e
      where
        by_test : (t : Bool) → cond t None (Some x) ≡ Some m → Some x ≡ Some m
        by_test true e = cc
        by_test false e = e

    by_role : (r : Role) → role_stands_in config r ≡ true → mount_of r ≡ Some m → fits_in config m ≡ true
    by_role (role.Mount x) h e = subst (λ (z : Mount). fits_in config z ≡ true) (same_Some x m e) h
    by_role (role.Exclusion of) h e = cc

    by_rule : (o : Option Rule) → best rules path ≡ o → unless_excluded rules path (option_and_then (λ r. mount_of r.role) o) ≡ Some m → fits_in config m ≡ true
    by_rule None is e = cc
    by_rule (Some r) is e =
        by_role r.role (found_passes (is_best rules path) (λ x. role_stands_in config x.role) rules r h is) (by_mount (mount_of r.role) e)
