-- A balancer as its lines describe it, and the configuration and start that are made of that.
use Rattle.std.specs.Prelude.{◌≡◌, ℕ, Bool, true, false, ◌⊎◌, List, [], ◌∷◌, ◌++◌, map, Option, Some, None, is_some, option_and_then}
use Rattle.std.specs.List.{list_all}
use Rattle.lb_model.specs.Ranges.{IsRefusedConfig}
use Rattle.lb_model.specs.declared.config.LbConfig.{LbConfig}
use Rattle.lb_model.specs.declared.config_error.ConfigError.{ConfigError}
use Rattle.lb_model.specs.declared.member.MemberConfig.{MemberConfig}
use Rattle.lb_model.specs.declared.member.Method.TheVariants as method
use Rattle.lb_model.specs.declared.state.MemberState.TheVariants as state
use Rattle.lb_model.specs.declared.view.MemberRow.{MemberRow}
use Rattle.lb_model.specs.declared.opening.Opening.{Opening}
use Rattle.play_script.specs.declared.head.BalancerLine.{BalancerLine}
use Rattle.play_script.specs.Names.{index_of}
use Rattle.play_script.specs.Heads.{MemberWords, HeadWords, At, Rule, Member}

pub record DraftWords : Type 0 where
  pub rules : BalancerLine
  pub members : List MemberWords

-- `lb R 1 0 60 60`
abbrev pub default_rules : BalancerLine
default_rules = record { method = method.Request; sticky = true; force = false; maintain = 60; recover = 60 }

abbrev pub empty_draft : DraftWords
empty_draft = record { rules = default_rules; members = [] }

abbrev pub with_rules : BalancerLine → DraftWords → DraftWords
with_rules rules draft = record { rules = rules; members = draft.members }

abbrev pub with_member : MemberWords → DraftWords → DraftWords
with_member member draft = record { rules = draft.rules; members = draft.members ++ member ∷ [] }

abbrev pub draft_after : HeadWords → DraftWords → DraftWords
draft_after (At moment) draft = draft
draft_after (Rule rules) draft = with_rules rules draft
draft_after (Member member) draft = with_member member draft

abbrev pub moment_after : HeadWords → ℕ → ℕ
moment_after (At moment) at = moment
moment_after (Rule rules) at = at
moment_after (Member member) at = at

abbrev pub names_of : List MemberWords → List (List ℕ)
names_of members = map (λ m. m.name) members

abbrev pub names_in : DraftWords → List (List ℕ)
names_in draft = names_of draft.members

-- The redirect, if there is one, names a member.
abbrev pub leads_to_member : List (List ℕ) → Option (List ℕ) → Bool
leads_to_member names None = true
leads_to_member names (Some name) = is_some (index_of names name)

-- Each redirect names a member.
abbrev pub has_targets : List (List ℕ) → List MemberWords → Bool
has_targets names members = list_all (λ m. leads_to_member names m.redirect) members

-- A member's configuration; its name is its route.
abbrev pub config_of : List (List ℕ) → MemberWords → MemberConfig
config_of names m = record {
  name = m.name;
  route = m.name;
  factor = m.factor;
  distance = m.distance;
  activation = m.activation;
  redirect = option_and_then (index_of names) m.redirect;
  pool = m.pool;
}

abbrev pub configs_of : List (List ℕ) → List MemberWords → List MemberConfig
configs_of names members = map (config_of names) members

-- The configuration that a draft describes.
pub record IsConfigOf (draft : DraftWords) (c : LbConfig) : Type 0 where
  pub targets : has_targets (names_in draft) draft.members ≡ true
  pub method : c.method ≡ draft.rules.method
  pub sticky : c.sticky ≡ draft.rules.sticky
  pub force : c.force ≡ draft.rules.force
  pub direct : c.direct ≡ false
  pub maintain : c.maintain ≡ draft.rules.maintain
  pub recover : c.recover ≡ draft.rules.recover
  pub members : c.members ≡ configs_of (names_in draft) draft.members

-- A draft describes no configuration: a redirect names no member, or the values are refused.
abbrev pub IsNoBalancer : DraftWords → Type 0
IsNoBalancer draft =
    (has_targets (names_in draft) draft.members ≡ false)
    ⊎ ((e : ConfigError) × IsRefusedConfig draft.rules.maintain draft.rules.recover (configs_of (names_in draft) draft.members) e)

-- A member's row at the start: Ok, with no load and no ticket out.
abbrev pub start_row : MemberConfig → MemberRow
start_row c = record {
  name = c.name;
  state = state.Ok;
  load = 0;
  busy = 0;
  activation = c.activation;
  factor = c.factor;
  distance = c.distance;
  redirect = c.redirect;
}

-- The state that the draft's balancer starts with at a moment.
pub record IsDraftStart (draft : DraftWords) (at : ℕ) (o : Opening) : Type 0 where
  pub config : IsConfigOf draft o.config
  pub rows : o.rows ≡ map start_row o.config.members
  pub out : o.out ≡ []
  pub next : o.next ≡ 0
  pub moment : o.at ≡ at
  pub maintained : o.maintained ≡ at
  pub chosen : o.chosen ≡ None
