-- The members of an lb worker, looked at one by one, and the balancer that is made of them.
use Rattle.std.proofs.Common.{◌≡◌, ◌≤◌, ℕ, Bool, true, false, List, length, map, Option, Result, Ok, Err, IfOk, IfErr, OnErr, codes, sym, ◌∙◌, subst, inl, inr, ⊎_elim}
use Rattle.lb_model.specs.Ranges.{AreInRange, IsPeriod, IsRefusedConfig}
use Rattle.lb_model.specs.declared.config.LbConfig.{LbConfig}
use Rattle.lb_model.specs.declared.config_error.ConfigError.{ConfigError}
use Rattle.lb_model.specs.declared.member.MemberConfig.{MemberConfig}
use Rattle.lb_model.specs.declared.member.Method.{Method}
use Rattle.site_config.specs.declared.directive.Directive.{Directive}
use Rattle.site_config.specs.declared.directive.Directive.TheVariants as directive
use Rattle.site_config.specs.declared.error.WorkersError.{WorkersError}
use Rattle.site_config.specs.declared.property.Property.{Property}
use Rattle.site_config.specs.declared.values.WorkerKind.TheVariants as kind
use Rattle.site_config.specs.declared.error.PropsRefusal.{PropsRefusal}
use Rattle.site_config.specs.Refusals.{IsRefusal}
use Rattle.site_config.specs.declared.balancer.Lb.{Lb}
use Rattle.site_config.specs.declared.endpoint.Endpoint.{Endpoint}
use Rattle.site_workers.specs.declared.draft.Draft.{Draft}
use Rattle.site_workers.specs.Books.{AreTooWide, IsBalancerOf, IsBook, IsLbOf, Pass, RefusesMembers, RefusesWide}
use Rattle.site_workers.specs.Given.{is_given}
use Rattle.site_workers.specs.Lists.{Listing, firsts, members_in}
use Rattle.site_workers.specs.Settings.{filled_or, method_in, number_or, shared, text_in, truth_or}
use Rattle.site_workers.specs.Site.{AddsKind, AreMembers, Breaks, HasChain, HasKind, IsLb, IsNoAjp13, IsUnknown, RefusesBook, RefusesLb, line_in, routes_of, with_lb}
use Rattle.site_workers.proofs.BookLemmas.{book_refused}
use Rattle.site_workers.proofs.MemberListLemmas.{bad_listed, each_listed}
use Rattle.site_workers.proofs.WorkerLemmas.{wider_refused}

-- the book of these values
pub is_book : (v : Directive → Option Property) (maintain : ℕ) (ms : List MemberConfig) (m : Method) (sticky force : Bool) (recover : ℕ) (r : Result LbConfig ConfigError)
    → m ≡ method_in (v directive.Method) → sticky ≡ truth_or v directive.Sticky true → force ≡ truth_or v directive.Force false → recover ≡ number_or v directive.RecoverTime 60
    → IfOk r (λ b. (b.method ≡ m) × (b.sticky ≡ sticky) × (b.force ≡ force) × (b.direct ≡ false)) → IfOk r (λ b. (b.maintain ≡ maintain) × (b.recover ≡ recover)) → IfOk r (λ b. b.members ≡ ms)
    → IfOk r (IsBook v maintain ms)
is_book v maintain ms m sticky force recover (Ok b) em es ef er flags times same = record {
  method = flags.0 ∙ em;
  sticky = flags.1 ∙ es;
  force = flags.2 ∙ ef;
  indirect = flags.3;
  period = times.0;
  recover = times.1 ∙ er;
  members = same;
}
is_book v maintain ms m sticky force recover (Err e) em es ef er flags times same = tt

-- its refusal
pub is_too_wide : (maintain recover : ℕ) (ms : List MemberConfig) (r : Result LbConfig ConfigError) → 1 ≤ length ms → length ms ≤ 64 → AreInRange ms → IsPeriod maintain → IsPeriod recover → IfErr r (IsRefusedConfig maintain recover ms) → OnErr r (AreTooWide ms)
is_too_wide maintain recover ms (Ok b) some few within m p h = tt
is_too_wide maintain recover ms (Err e) some few within m p h = book_refused maintain recover ms e some few within m p h

-- the book with its texts
pub made_lb : (v : Directive → Option Property) (maintain : ℕ) (name cookie path : List ℕ) (book : LbConfig) (ms : List MemberConfig) (es all : List Endpoint) (r : Result Lb WorkersError) → IsBook v maintain ms book → all ≡ map (shared (text_in (v directive.Secret))) es → cookie ≡ filled_or (codes "JSESSIONID") (v directive.Cookie) → path ≡ filled_or (codes ";jsessionid") (v directive.Path)
    → IfOk r (IsBalancerOf name cookie path book all) → IfOk r (IsLbOf v maintain name ms es)
made_lb v maintain name cookie path book ms es all (Ok lb) b s c p h = record {
  named = h.named;
  booked = subst (IsBook v maintain ms) (sym h.booked) b;
  ends = h.ends ∙ s;
  cookie = h.cookie ∙ c;
  path = h.path ∙ p;
}
made_lb v maintain name cookie path book ms es all (Err e) b s c p h = tt

-- the balancer of the members that were looked at
pub listed_lb : (ps : List Property) (v : Directive → Option Property) (maintain : ℕ) (name : List ℕ) (ls : List Listing) (ms : List MemberConfig) (es : List Endpoint) (r : Result Lb WorkersError) → AreMembers ps (routes_of ms) 0 ls ms es → IfOk r (IsLbOf v maintain name ms es) → IfOk r (IsLb ps v maintain name ls)
listed_lb ps v maintain name ls ms es (Ok lb) members h = record {
  named = h.named;
  method = h.booked.method;
  sticky = h.booked.sticky;
  force = h.booked.force;
  indirect = h.booked.indirect;
  period = h.booked.period;
  recover = h.booked.recover;
  own = es;
  members = subst (λ (xs : List MemberConfig). AreMembers ps (routes_of xs) 0 ls xs es) (sym h.booked.members) members;
  ends = h.ends;
  cookie = h.cookie;
  path = h.path;
}
listed_lb ps v maintain name ls ms es (Err e) members h = tt

pub listed_wide : (ps : List Property) (line : ℕ) (ls : List Listing) (ms : List MemberConfig) (es : List Endpoint) (r : Result Lb WorkersError) → 1 ≤ length ls → length ls ≤ 64 → AreMembers ps (routes_of ms) 0 ls ms es → IfErr r (IsRefusal (RefusesWide ms line)) → IfErr r (IsRefusal (RefusesBook ps line ls))
listed_wide ps line ls ms es r some few members h =
    wider_refused r (RefusesWide ms line) (RefusesBook ps line ls) h (λ x w. inr (inr (ms, es, some, few, members, w.0, w.1)))

-- the members that are looked at are those of the line, each once
pub members_refused : (ps : List Property) (count : ℕ) (l : Listing) (v : Directive → Option Property) (ms all : List Listing) → ms ≡ firsts all → (r : PropsRefusal) → RefusesMembers ps count l ms r → RefusesLb ps count l v all r
members_refused ps count l v ms all are r h =
    ⊎_elim
    (λ b. inl (bad_listed (HasChain ps) (Breaks ps) ms all r are b))
    (λ k. ⊎_elim
    (λ u. inr (inl (each_listed (HasChain ps) ms all are u.0, bad_listed (λ n. is_given ps n ≡ true) (IsUnknown ps) ms all r are u.1)))
    (λ m. ⊎_elim
    (λ f. inr (inr (inl (each_listed (HasChain ps) ms all are f.0, each_listed (λ n. is_given ps n ≡ true) ms all are f.1, f.2, f.3))))
    (λ t. inr (inr (inr (inl (each_listed (HasChain ps) ms all are t.0, each_listed (λ n. is_given ps n ≡ true) ms all are t.1, t.2, bad_listed (λ n. HasKind ps n kind.Ajp13) (IsNoAjp13 ps) ms all r are t.3)))))
    m)
    k)
    h

pub passed_refused : (ps : List Property) (count : ℕ) (l : Listing) (v : Directive → Option Property) (ms all : List Listing) → ms ≡ firsts all → Pass ps count ms → (r : PropsRefusal) → RefusesBook ps (line_in (v directive.Kind)) ms r → RefusesLb ps count l v all r
passed_refused ps count l v ms all are p r h =
    inr (inr (inr (inr (each_listed (λ n. is_given ps n ≡ true) ms all are p.known, p.room, each_listed (λ n. HasKind ps n kind.Ajp13) ms all are p.ajp13, subst (λ (xs : List Listing). RefusesBook ps (line_in (v directive.Kind)) xs r) are h))))

pub passed_added : (ps : List Property) (maintain : ℕ) (l : Listing) (v : Directive → Option Property) (ms : List Listing) (old new : Draft) (lb : Lb) → ms ≡ firsts (members_in ps (v directive.BalanceWorkers)) → Pass ps (length old.lbs) ms → IsLb ps v maintain l.name ms lb → new ≡ with_lb old l.name lb → AddsKind ps maintain l v kind.Lb old new
passed_added ps maintain l v ms old new lb are p is same =
    let all = members_in ps (v directive.BalanceWorkers) in
    (p.room, each_listed (λ n. is_given ps n ≡ true) ms all are p.known, each_listed (λ n. HasKind ps n kind.Ajp13) ms all are p.ajp13, lb, subst (λ (xs : List Listing). IsLb ps v maintain l.name xs lb) are is, same)
