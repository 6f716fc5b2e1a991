-- Where a drill's Book keeps each entry, its journal begins as the drill began.
use Rattle.std.proofs.Common.{◌≡◌, ℕ, List, [], ◌∷◌, ◌++◌, length, reverse, Option, Some, Result, Ok, Err, refl, sym, ap, arith, subst, inl, inr, ◌∙◌}
use Rattle.std.specs.Prelude.{IfOk, codes, slice_get}
use Rattle.std.specs.List.{All}
use Rattle.std.proofs.lemmas.List.{length-append}
use Rattle.std.proofs.lemmas.List.Elements.{All-cons, All-head, All-nil}
use Rattle.lb_model.specs.Limits.{modern_rules}
use Rattle.lb_model.specs.Present.{IsEnding, IsPresentMember}
use Rattle.lb_model.specs.Settings.{Setting, setting_in}
use Rattle.lb_model.specs.declared.journal.Entry.{Entry}
use Rattle.lb_model.specs.declared.member.MemberConfig.{MemberConfig}
use Rattle.lb_model.specs.declared.opening.Opening.{Opening}
use Rattle.lb_book.specs.Histories.{LeadsTo}
use Rattle.lb_book.specs.Journal.{Journal}
use Rattle.lb_shared.specs.Histories.{IsSiteHistory, entries_of, starts_of}
use Rattle.lb_closing.specs.Closings.{AreUncut}
use Rattle.drill.specs.Ends.{BeginsDrill, IsStarted}
use Rattle.drill.specs.Sites.{IsDrillBook, member_of, two_members}

-- a member by its parts
member_parts : (c : MemberConfig) (name : List ℕ) (factor : ℕ) → c.name ≡ name → c.route ≡ name → c.factor ≡ factor → c.distance ≡ (member_of name factor).distance
    → c.activation ≡ (member_of name factor).activation → c.redirect ≡ (member_of name factor).redirect → c.pool ≡ (member_of name factor).pool → c ≡ member_of name factor
member_parts c name factor n r f d a t p =
    ap (λ (x : List ℕ). record c { name = x }) n
    ∙ ap (λ (x : List ℕ). record c { name = name; route = x }) r
    ∙ ap (λ (x : ℕ). record c { name = name; route = name; factor = x }) f
    ∙ ap (λ (x : ℕ). record c { name = name; route = name; factor = factor; distance = x }) d
    ∙ ap (λ x. record c { name = name; route = name; factor = factor; distance = (member_of name factor).distance; activation = x }) a
    ∙ ap (λ (x : Option ℕ). record (member_of name factor) { redirect = x; pool = c.pool }) t
    ∙ ap (λ (x : ℕ). record (member_of name factor) { pool = x }) p

-- a member after no entry is what it was
member_same : (o : Opening) (m : ℕ) (name : List ℕ) (factor : ℕ) (c : MemberConfig) → slice_get o.config.members m ≡ Some (member_of name factor)
    → IsPresentMember o [] m (member_of name factor) c → c ≡ member_of name factor
member_same o m name factor c at is =
    let was = ap (λ (x : Option MemberConfig). setting_in x) at in
    member_parts c name factor is.name is.route (is.factor ∙ ap (λ (s : Setting). s.factor) was) (is.distance ∙ ap (λ (s : Setting). s.distance) was)
    (is.activation ∙ ap (λ (s : Setting). s.activation) was) (is.redirect ∙ ap (λ (s : Setting). s.redirect) was) is.pool

two_same : (o new : Opening) (cs : List MemberConfig) → new.config.members ≡ cs → o.config.members ≡ two_members → IsEnding modern_rules o [] new → cs ≡ two_members
two_same o new [] are was is =
    let none : length new.config.members ≡ 0 = ap length are in
    let two : length o.config.members ≡ 2 = ap length was in
    absurd (omega (arith, none, two, is.count))
two_same o new (a ∷ []) are was is =
    let one : length new.config.members ≡ 1 = ap length are in
    let two : length o.config.members ≡ 2 = ap length was in
    absurd (omega (arith, one, two, is.count))
two_same o new (a ∷ b ∷ []) are was is =
    let at = λ (m : ℕ). ap (λ (ms : List MemberConfig). slice_get ms m) was in
    let has = λ (m : ℕ). ap (λ (ms : List MemberConfig). slice_get ms m) are in
    ap (λ (x : MemberConfig). x ∷ b ∷ []) (member_same o 0 (codes "a") 1 a (at 0) (is.member 0 (member_of (codes "a") 1) a (at 0) (has 0)))
    ∙ ap (λ (x : MemberConfig). member_of (codes "a") 1 ∷ x ∷ []) (member_same o 1 (codes "b") 2 b (at 1) (is.member 1 (member_of (codes "b") 2) b (at 1) (has 1)))
two_same o new (a ∷ b ∷ c ∷ cs) are was is =
    let many : length new.config.members ≡ length (a ∷ b ∷ c ∷ cs) = ap length are in
    let two : length o.config.members ≡ 2 = ap length was in
    absurd (omega (arith, many, two, is.count))

-- so is the balancer
balancer_same : (o new : Opening) → IsDrillBook o.config → IsEnding modern_rules o [] new → IsDrillBook new.config
balancer_same o new was is = record {
  method_is = is.method ∙ was.method_is;
  members_are = two_same o new new.config.members refl was.members_are is;
  sticks = is.sticky ∙ was.sticks;
  unforced = is.force ∙ was.unforced;
  indirect = is.direct ∙ was.indirect;
  maintains = is.maintain ∙ was.maintains;
  recovers = is.recover ∙ was.recovers;
}

-- no entry leads to another beginning
none_leads : (o : Opening) (front : List Entry) (b : Journal) → front ≡ [] → LeadsTo o front b.opening → IsDrillBook o.config → o.at ≡ 0 → BeginsDrill b
none_leads o front b none (inl same) is moment = record {
  balancer = subst IsDrillBook (sym (ap (λ (x : Opening). x.config) same.1)) is;
  moment = ap (λ (x : Opening). x.at) same.1 ∙ moment;
}
none_leads o front b none (inr led) is moment =
    let ends : IsEnding modern_rules o [] b.opening = subst (λ (h : List Entry). IsEnding modern_rules o (reverse h) b.opening) none led.1 in
    record { balancer = balancer_same o b.opening is ends; moment = ends.at ∙ moment }

none_of : (front : List Entry) → length front ≡ 0 → front ≡ []
none_of [] none = refl
none_of (e ∷ front) none = absurd (omega (arith, none))

begins : (starts : List Opening) (o : Opening) (log : List (ℕ × (ℕ × Entry))) (books : List Journal) → starts ≡ o ∷ [] → IsDrillBook o.config → o.at ≡ 0
    → IsSiteHistory starts log books → AreUncut books → All BeginsDrill books
begins starts o log [] are is moment history uncut = All-nil BeginsDrill
begins starts o log (b ∷ []) are is moment history uncut =
    let first : slice_get starts 0 ≡ Some o = ap (λ (os : List Opening). slice_get os 0) are in
    let own = history.each 0 o b first refl in
    let added : b.added ≡ length (entries_of 0 log) = history.added 0 b refl in
    let kept : length b.entries ≡ b.added = All-head (λ (x : Journal). length x.entries ≡ x.added) b [] uncut in
    let whole : length (entries_of 0 log) ≡ length (own.front ++ b.entries) = ap (λ (h : List Entry). length h) own.whole in
    let none : own.front ≡ [] = none_of own.front (omega (arith, added, kept, whole, length-append own.front b.entries)) in
    All-cons BeginsDrill b [] (none_leads o own.front b none own.leads is moment) (All-nil BeginsDrill)
begins starts o log (b ∷ c ∷ books) are is moment history uncut =
    let many : length (b ∷ c ∷ books) ≡ length starts = history.count in
    let one : length starts ≡ 1 = ap length are in
    absurd (omega (arith, many, one))

-- so of what a closing gives back
pub all_begin : {C E : Type 0} (books : C → List Journal) (r : Result C E) (starts : List Opening) (started : List Journal) (b : Journal) → starts_of started ≡ starts
    → started ≡ b ∷ [] → IsStarted b → IfOk r (λ c. (log : List (ℕ × (ℕ × Entry))) × IsSiteHistory starts log (books c))
    → IfOk r (λ c. AreUncut (books c) → All BeginsDrill (books c))
all_begin books (Ok c) starts started b are one is history =
    begins starts b.opening history.0 (books c) (sym are ∙ ap starts_of one) is.balancer is.moment history.1
all_begin books (Err e) starts started b are one is history = tt
