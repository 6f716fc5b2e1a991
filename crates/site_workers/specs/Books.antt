-- The book of an lb worker, made of its members without a look at the lines that name them.
use Rattle.std.specs.Prelude.{◌≡◌, ℕ, ◌≤◌, ◌<◌, ◌^◌, true, false, List, Option, ◌⊎◌, length, codes, map}
use Rattle.lb_model.specs.Limits.{most_balancers, most_members}
use Rattle.lb_model.specs.Multiple.{multiple_of}
use Rattle.lb_model.specs.Ranges.{AreInRange, factors_in}
use Rattle.lb_model.specs.declared.config.LbConfig.{LbConfig}
use Rattle.lb_model.specs.declared.member.MemberConfig.{MemberConfig}
use Rattle.site_config.specs.declared.directive.Directive.{Directive}
use Rattle.site_config.specs.declared.directive.Directive.TheVariants as directive
use Rattle.site_config.specs.declared.error.PropsReason.TheVariants as reason
use Rattle.site_config.specs.declared.property.Property.{Property}
use Rattle.site_config.specs.declared.error.PropsRefusal.{PropsRefusal}
use Rattle.site_config.specs.Refusals.{refusal}
use Rattle.site_config.specs.declared.balancer.Lb.{Lb}
use Rattle.site_config.specs.declared.endpoint.Endpoint.{Endpoint}
use Rattle.site_workers.specs.Lists.{Listing}
use Rattle.site_workers.specs.Settings.{filled_or, method_in, number_or, shared, text_in, truth_or}
use Rattle.site_workers.specs.Site.{Breaks, Chained, Each, FirstBad, IsAjp13, IsNoAjp13, IsUnknown, Known}

-- members that a balancer can have, where their factors aren't too wide
pub record AreBookable (ms : List MemberConfig) (es : List Endpoint) : Type 0 where
  pub some : 1 ≤ length ms
  pub few : length ms ≤ most_members
  pub within : AreInRange ms
  pub paired : length es ≡ length ms

abbrev pub AreTooWide : List MemberConfig → Type 0
AreTooWide ms = 2 ^ 32 ≤ multiple_of (factors_in ms)

abbrev pub RefusesWide : List MemberConfig → (line : ℕ) → PropsRefusal → Type 0
RefusesWide ms line r = AreTooWide ms × (r ≡ refusal line reason.TooWide)

-- the book of an lb worker, by the directives in force
pub record IsBook (v : Directive → Option Property) (maintain : ℕ) (ms : List MemberConfig) (b : LbConfig) : Type 0 where
  pub method : b.method ≡ method_in (v directive.Method)
  pub sticky : b.sticky ≡ truth_or v directive.Sticky true
  pub force : b.force ≡ truth_or v directive.Force false
  pub indirect : b.direct ≡ false
  pub period : b.maintain ≡ maintain
  pub recover : b.recover ≡ number_or v directive.RecoverTime 60
  pub members : b.members ≡ ms

-- a balancer of these parts
pub record IsBalancerOf (name the_cookie the_path : List ℕ) (book : LbConfig) (es : List Endpoint) (lb : Lb) : Type 0 where
  pub named : lb.name ≡ name
  pub booked : lb.book ≡ book
  pub ends : lb.ends ≡ es
  pub cookie : lb.cookie ≡ the_cookie
  pub path : lb.path ≡ the_path

-- the balancer of an lb worker, by the directives in force
pub record IsLbOf (v : Directive → Option Property) (maintain : ℕ) (name : List ℕ) (ms : List MemberConfig) (es : List Endpoint) (lb : Lb) : Type 0 where
  pub named : lb.name ≡ name
  pub booked : IsBook v maintain ms lb.book
  pub ends : lb.ends ≡ map (shared (text_in (v directive.Secret))) es
  pub cookie : lb.cookie ≡ filled_or (codes "JSESSIONID") (v directive.Cookie)
  pub path : lb.path ≡ filled_or (codes ";jsessionid") (v directive.Path)

-- what an lb worker's members pass after `count` balancers
pub record Pass (ps : List Property) (count : ℕ) (ms : List Listing) : Type 0 where
  pub chained : Each (Chained ps) ms
  pub known : Each (Known ps) ms
  pub room : count < most_balancers
  pub ajp13 : Each (IsAjp13 ps) ms

-- their first refusal, each after those before it
abbrev pub RefusesMembers : List Property → (count : ℕ) → Listing → List Listing → PropsRefusal → Type 0
RefusesMembers ps count l ms r =
    FirstBad (Chained ps) (Breaks ps) ms r
    ⊎ ((Each (Chained ps) ms × FirstBad (Known ps) (IsUnknown ps) ms r)
    ⊎ ((Each (Chained ps) ms × Each (Known ps) ms × (most_balancers ≤ count) × (r ≡ refusal l.line reason.TooManyBalancers))
    ⊎ (Each (Chained ps) ms × Each (Known ps) ms × (count < most_balancers) × FirstBad (IsAjp13 ps) (IsNoAjp13 ps) ms r)))
