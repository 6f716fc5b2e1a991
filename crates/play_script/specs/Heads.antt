-- The lines that make the balancer.
use Rattle.std.specs.Prelude.{ℕ, Bool, List, [], ◌∷◌, Option, Some, None, codes, option_map, unwrap_or, is_some, if◌then◌else◌}
use Rattle.jk_io.specs.Decimals.{decimal_of}
use Rattle.lb_model.specs.declared.member.Activation.{Activation}
use Rattle.lb_model.specs.declared.member.Activation.TheVariants as state
use Rattle.lb_model.specs.declared.member.Method.{Method}
use Rattle.play_script.specs.declared.verb.Verb.{Verb}
use Rattle.play_script.specs.declared.verb.Verb.TheVariants as verb
use Rattle.play_script.specs.declared.head.BalancerLine.{BalancerLine}
use Rattle.play_script.specs.Parts.{parts_of}
use Rattle.play_script.specs.Names.{index_of}
use Rattle.play_script.specs.Verbs.{verb_of}
use Rattle.play_script.specs.Values.{◌>>=◌, flag_of, method_of, short_number, end, only, past}
use Rattle.play_script.specs.Fields.{activation_in, number_in, name_in, name_of}

-- a member as its line describes it; the redirect is a name, since that member's line may come later
pub record MemberWords : Type 0 where
  pub name : List ℕ
  pub factor : ℕ
  pub activation : Activation
  pub distance : ℕ
  pub redirect : Option (List ℕ)
  pub pool : ℕ

-- a line that makes a part of the balancer, or moves the clock before it starts
pub data HeadWords : Type 0 where
  At : ℕ → HeadWords
  Rule : BalancerLine → HeadWords
  Member : MemberWords → HeadWords

abbrev pub rules_of : List (List ℕ) → Option BalancerLine
rules_of (m ∷ sticky ∷ force ∷ maintain ∷ recover ∷ []) =
    method_of m >>= λ method.
    flag_of sticky >>= λ is_sticky.
    flag_of force >>= λ is_forced.
    decimal_of maintain >>= λ maintain_seconds.
    decimal_of recover >>= λ recover_seconds.
    Some (record { method = method; sticky = is_sticky; force = is_forced; maintain = maintain_seconds; recover = recover_seconds })
rules_of words = None

-- a name that no earlier member has
abbrev pub new_name : List (List ℕ) → List ℕ → Option (List ℕ)
new_name names text = if is_some (index_of names text) then None else name_of text

-- the later fields of a member: redirect, pool
abbrev pub member_after : List ℕ → ℕ → Option Activation → Option ℕ → List (List ℕ) → Option MemberWords
member_after name factor activation distance words =
    name_in words >>= λ redirect.
    number_in (codes "pool=") (past (codes "redirect=") words) >>= λ pool.
    end (past (codes "pool=") (past (codes "redirect=") words)) >>= λ _.
    Some (record {
      name = name;
      factor = factor;
      activation = unwrap_or activation state.Active;
      distance = unwrap_or distance 0;
      redirect = redirect;
      pool = unwrap_or pool 64;
    })

-- the fields of a member in their order: activation, distance, redirect, pool
abbrev pub member_with : List ℕ → ℕ → List (List ℕ) → Option MemberWords
member_with name factor words =
    activation_in words >>= λ activation.
    number_in (codes "distance=") (past (codes "activation=") words) >>= λ distance.
    member_after name factor activation distance (past (codes "distance=") (past (codes "activation=") words))

abbrev pub member_of : List (List ℕ) → List (List ℕ) → Option MemberWords
member_of names (name ∷ factor ∷ words) =
    new_name names name >>= λ own. short_number factor >>= λ weight. member_with own weight words
member_of names words = None

abbrev pub head_by : List (List ℕ) → Verb → List (List ℕ) → Option HeadWords
head_by names verb.Lb words = option_map Rule (rules_of words)
head_by names verb.Member words = option_map Member (member_of names words)
head_by names verb.At words = option_map At (only words >>= decimal_of)
head_by names verb.Select words = None
head_by names verb.Done words = None
head_by names verb.Failed words = None
head_by names verb.Gone words = None
head_by names verb.Maintain words = None
head_by names verb.Update words = None
head_by names verb.Reset words = None
head_by names verb.Recover words = None
head_by names verb.Show words = None

abbrev pub head_from : List (List ℕ) → List (List ℕ) → Option HeadWords
head_from names [] = None
head_from names (word ∷ words) = verb_of word >>= λ v. head_by names v words

-- what a line says before the balancer starts, where the members so far have these names; None: another line
abbrev pub head_of : List (List ℕ) → List ℕ → Option HeadWords
head_of names line = head_from names (parts_of 32 line)
