-- The bytes of a Return that a line asks for are few, whatever the line.
use Rattle.std.proofs.Common.{◌≡◌, ℕ, ◌≤◌, List, [], ◌∷◌, Option, Some, None, Bool, true, false, refl, arith}
use Rattle.std.specs.Prelude.{IfSome, nat_le, if◌then◌else◌, option_map}
use Rattle.std.proofs.lemmas.Bool.{leb-true}
use Rattle.jk_io.specs.Decimals.{decimal_of}
use Rattle.lb_model.specs.Limits.{most_bytes}
use Rattle.lb_model.specs.declared.journal.Kind.{Kind}
use Rattle.lb_model.specs.declared.journal.Kind.TheVariants as kind
use Rattle.lb_model.specs.declared.journal.Call.{Call}
use Rattle.lb_model.specs.declared.journal.Call.TheVariants as call
use Rattle.lb_model.specs.declared.change.Command.TheVariants as command
use Rattle.play_script.specs.declared.verb.Verb.{Verb}
use Rattle.play_script.specs.declared.verb.Verb.TheVariants as verb
use Rattle.play_script.specs.declared.step.Step.{Step}
use Rattle.play_script.specs.declared.step.Step.TheVariants as step
use Rattle.play_script.specs.Values.{◌>>=◌, only, end}
use Rattle.play_script.specs.Steps.{bytes_in, return_of, select_of, update_of, member_named, step_by, HasSmallBytes, IsSmall}

within : (most n : ℕ) (b : Bool) → nat_le n most ≡ b → IfSome (if b then Some n else None) (λ m. m ≤ most)
within most n true e = leb-true n most e
within most n false e = tt

up_to : (most : ℕ) (o : Option ℕ) → IfSome (o >>= (λ n. if nat_le n most then Some n else None)) (λ m. m ≤ most)
up_to most None = tt
up_to most (Some n) = within most n (nat_le n most) refl

few_bytes : (words : List (List ℕ)) → IfSome (bytes_in words) (λ n. n ≤ most_bytes)
few_bytes [] = omega arith
few_bytes (word ∷ []) = up_to most_bytes (decimal_of word)
few_bytes (word ∷ next ∷ more) = tt

returns_few : (k : Kind) (ticket bytes : Option ℕ) → IfSome bytes (λ n. n ≤ most_bytes)
    → IfSome (ticket >>= (λ t. option_map (λ n. call.Return t (record { kind = k; bytes = n })) bytes)) HasSmallBytes
returns_few k None bytes few = tt
returns_few k (Some t) None few = tt
returns_few k (Some t) (Some n) few = few

return_few : (k : Kind) (words : List (List ℕ)) → IfSome (return_of k words) HasSmallBytes
return_few k [] = tt
return_few k (word ∷ words) = returns_few k (decimal_of word) (bytes_in words) (few_bytes words)

mapped : {A : Type 0} (f : A → Step) (o : Option A) → IfSome o (λ a. IsSmall (f a)) → IfSome (option_map f o) IsSmall
mapped f None small = tt
mapped f (Some a) small = small

each : {A : Type 0} {P : A → Type 0} (o : Option A) → ((a : A) → P a) → IfSome o P
each None all = tt
each (Some a) all = all a

-- what a line asks for has few bytes, whatever its words
pub step_by_small : (names : List (List ℕ)) (v : Verb) (words : List (List ℕ)) → IfSome (step_by names v words) IsSmall
step_by_small names verb.Lb words = tt
step_by_small names verb.Member words = tt
step_by_small names verb.At words = mapped step.At (only words >>= decimal_of) (each (only words >>= decimal_of) (λ _. tt))
step_by_small names verb.Select words = mapped (λ ask. step.Ask (call.Select ask)) (select_of names words) (each (select_of names words) (λ _. tt))
step_by_small names verb.Done words = mapped step.Ask (return_of kind.Done words) (return_few kind.Done words)
step_by_small names verb.Failed words = mapped step.Ask (return_of kind.Failed words) (return_few kind.Failed words)
step_by_small names verb.Gone words = mapped step.Ask (return_of kind.Gone words) (return_few kind.Gone words)
step_by_small names verb.Maintain words = mapped (λ _. step.Ask call.Maintain) (end words) (each (end words) (λ _. tt))
step_by_small names verb.Update words = mapped (λ c. step.Ask (call.Admin c)) (update_of names words) (each (update_of names words) (λ _. tt))
step_by_small names verb.Reset words = mapped (λ m. step.Ask (call.Admin (command.Reset m))) (member_named names words) (each (member_named names words) (λ _. tt))
step_by_small names verb.Recover words = mapped (λ m. step.Ask (call.Admin (command.Recover m))) (member_named names words) (each (member_named names words) (λ _. tt))
step_by_small names verb.Show words = mapped (λ _. step.Show) (end words) (each (end words) (λ _. tt))
