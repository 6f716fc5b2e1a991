-- A text has at most one refusal, and none where it has a configuration.
use Rattle.std.proofs.Common.{◌≡◌, ℕ, ◌<◌, ◌≤◌, ◌^◌, true, List, [], ◌∷◌, length, Option, Some, Result, Ok, Err, refl, sym, ◌∙◌, ap, subst, arith, ◌⊎◌, inl, inr, ◌&&◌}
use Rattle.std.proofs.lemmas.Bool.{false≢true, cases_lt}
use Rattle.std.proofs.lemmas.Option.{same_Some}
use Rattle.lb_model.specs.Multiple.{multiple_of}
use Rattle.lb_model.specs.Ranges.{factors_in}
use Rattle.lb_model.specs.declared.member.MemberConfig.{MemberConfig}
use Rattle.site_config.specs.declared.property.Property.{Property}
use Rattle.site_config.specs.declared.directive.Directive.{Directive}
use Rattle.site_config.specs.declared.directive.Directive.TheVariants as directive
use Rattle.site_config.specs.declared.error.PropsReason.TheVariants as reason
use Rattle.site_config.specs.declared.values.WorkerKind.{WorkerKind}
use Rattle.site_config.specs.declared.values.WorkerKind.TheVariants as kind
use Rattle.site_config.specs.Properties.{read_text}
use Rattle.site_config.specs.declared.error.PropsRefusal.{PropsRefusal}
use Rattle.site_config.specs.Refusals.{refusal}
use Rattle.site_config.specs.declared.balancer.Lb.{Lb}
use Rattle.site_config.specs.declared.config.Config.{Config}
use Rattle.site_config.specs.declared.endpoint.Endpoint.{Endpoint}
use Rattle.site_workers.specs.declared.draft.Draft.{Draft}
use Rattle.site_workers.specs.Given.{IsChain, in_force, is_given, last_given, target_at, not_passed, Walks, BreaksAt}
use Rattle.site_workers.specs.Lists.{Listing, firsts, site_list, members_in}
use Rattle.site_workers.specs.Settings.{kind_in}
use Rattle.site_workers.specs.Site.{AreMembers, routes_of, IsLb, Each, FirstBad, HasKind, Breaks, IsUnknown, IsNoAjp13, Chained, Known, IsAjp13, RefusesBook, RefusesLb, RefusesKind, RefusesListing, line_in, AddsListing, AddsKind, Builds, StopsAtListing, no_workers, draft_of, maintain_of, IsConfig, IsRefusedText}
use Rattle.site_workers.proofs.ChainLemmas.{chain_one, chain_or_break, unknown_chain}
use Rattle.site_workers.proofs.OneConfig.{members_counted, same_members, adds_one, same_properties}

-- two walks of one length from one worker are the same
walk_same : (ps : List Property) (start : List ℕ) (past other : List (List ℕ)) (name also : List ℕ)
    → Walks ps start past name → Walks ps start other also → length past ≡ length other → (past ≡ other) × (name ≡ also)
walk_same ps start [] [] name also w v h = (refl, w ∙ sym v)
walk_same ps start [] (c ∷ other) name also w v h = absurd (omega arith)
walk_same ps start (b ∷ past) [] name also w v h = absurd (omega arith)
walk_same ps start (b ∷ past) (c ∷ other) name also w v h =
    let before = walk_same ps start past other b c w.3 v.3 (omega arith) in
    let next : name ≡ also = same_Some name also (sym w.0 ∙ ap (target_at ps) before.1 ∙ v.0) in
    (ap (λ (x : List ℕ). x ∷ past) before.1 ∙ ap (λ (xs : List (List ℕ)). c ∷ xs) before.0, next)

-- a walk went on from each place that it passed
record WentOn (ps : List Property) (start : List ℕ) (n : ℕ) : Type 0 where
  past : List (List ℕ)
  at : List ℕ
  next : List ℕ
  walked : Walks ps start past at
  counted : length past ≡ n
  target : target_at ps at ≡ Some next
  good : (is_given ps next && not_passed next (at ∷ past)) ≡ true

went_on : (ps : List Property) (start : List ℕ) (past : List (List ℕ)) (name : List ℕ) (n : ℕ) → Walks ps start past name → n < length past → WentOn ps start n
went_on ps start [] name n w h = absurd (omega arith)
went_on ps start (before ∷ past) name n w h =
    elim (cases_lt n (length past)) [
      | inl earlier ↦ went_on ps start past before n w.3 earlier
      | inr last ↦ record {
        past = past;
        at = before;
        next = name;
        walked = w.3;
        counted = omega arith;
        target = w.0;
        good = rw (w.1, w.2) refl;
      }
    ]

-- a walk that broke went no further
broken_ends : (ps : List Property) (start : List ℕ) (line also : ℕ) (a : BreaksAt ps start line) (b : BreaksAt ps start also) → length a.past < length b.past → ⊥
broken_ends ps start line also a b h =
    let on = went_on ps start b.past b.name (length a.past) b.walked h in
    let same = walk_same ps start a.past on.past a.name on.at a.walked on.walked (sym on.counted) in
    let past = same.0 in
    let here = same.1 in
    let target : a.target ≡ on.next = same_Some a.target on.next (sym a.names ∙ ap (target_at ps) here ∙ on.target) in
    let bad = a.bad in
    let good = on.good in
    false≢true cc

-- one walk breaks at one line
break_one : (ps : List Property) (start : List ℕ) (line also : ℕ) → BreaksAt ps start line → BreaksAt ps start also → line ≡ also
break_one ps start line also a b =
    elim (cases_lt (length a.past) (length b.past)) [
      | inl shorter ↦ absurd (broken_ends ps start line also a b shorter)
      | inr up ↦ elim (cases_lt (length b.past) (length a.past)) [
        | inl longer ↦ absurd (broken_ends ps start also line b a longer)
        | inr down ↦
            let same = walk_same ps start a.past b.past a.name b.name a.walked b.walked (omega arith) in
            let reference : a.reference ≡ b.reference =
            same_Some a.reference b.reference (sym a.last ∙ ap (λ (n : List ℕ). last_given ps n directive.Reference) same.1 ∙ b.last) in
            sym a.at_line ∙ ap (λ (p : Property). p.line) reference ∙ b.at_line
      ]
    ]

-- of two causes, of which the second doesn't come where the first does, there is one refusal
either_one : (A B : PropsRefusal → Type 0) → ((r s : PropsRefusal) → A r → A s → r ≡ s) → ((r s : PropsRefusal) → B r → B s → r ≡ s)
    → ((r s : PropsRefusal) → A r → B s → ⊥) → (r s : PropsRefusal) → (A r ⊎ B r) → (A s ⊎ B s) → r ≡ s
either_one A B one other apart r s (inl x) (inl y) = one r s x y
either_one A B one other apart r s (inl x) (inr y) = absurd (apart r s x y)
either_one A B one other apart r s (inr x) (inl y) = absurd (apart s r y x)
either_one A B one other apart r s (inr x) (inr y) = other r s x y

-- the first of a list that isn't fine has the refusal
first_one : (fine : Listing → Type 0) (bad : Listing → PropsRefusal → Type 0) → ((l : Listing) (r s : PropsRefusal) → bad l r → bad l s → r ≡ s)
    → ((l : Listing) (r : PropsRefusal) → fine l → bad l r → ⊥) → (ls : List Listing) (r s : PropsRefusal) → FirstBad fine bad ls r → FirstBad fine bad ls s → r ≡ s
first_one fine bad one apart [] r s x y = absurd x
first_one fine bad one apart (l ∷ ls) r s (inl x) (inl y) = one l r s x y
first_one fine bad one apart (l ∷ ls) r s (inl x) (inr y) = absurd (apart l r y.0 x)
first_one fine bad one apart (l ∷ ls) r s (inr x) (inl y) = absurd (apart l s x.0 y)
first_one fine bad one apart (l ∷ ls) r s (inr x) (inr y) = first_one fine bad one apart ls r s x.1 y.1

none_bad : (fine : Listing → Type 0) (bad : Listing → PropsRefusal → Type 0) → ((l : Listing) (r : PropsRefusal) → fine l → bad l r → ⊥)
    → (ls : List Listing) (r : PropsRefusal) → Each fine ls → FirstBad fine bad ls r → ⊥
none_bad fine bad apart [] r each x = x
none_bad fine bad apart (l ∷ ls) r each (inl x) = apart l r each.0 x
none_bad fine bad apart (l ∷ ls) r each (inr x) = none_bad fine bad apart ls r each.1 x.1

-- Below, the lines are these.
module _ (ps : List Property) where
  breaks_one : (l : Listing) (r s : PropsRefusal) → Breaks ps l r → Breaks ps l s → r ≡ s
  breaks_one l r s x y = x.2 ∙ ap (λ (line : ℕ). refusal line reason.BadReference) (break_one ps l.name x.0 y.0 x.1 y.1) ∙ sym y.2

  never_breaks : (l : Listing) (r : PropsRefusal) → Chained ps l → Breaks ps l r → ⊥
  never_breaks l r h x = chain_or_break ps l.name h.0 x.0 h.1 x.1

  unknown_one : (l : Listing) (r s : PropsRefusal) → IsUnknown ps l r → IsUnknown ps l s → r ≡ s
  unknown_one l r s x y = x.1 ∙ sym y.1

  never_unknown : (l : Listing) (r : PropsRefusal) → Known ps l → IsUnknown ps l r → ⊥
  never_unknown l r h x = false≢true (sym x.0 ∙ h)

  type_one : (name : List ℕ) (j k : WorkerKind) → HasKind ps name j → HasKind ps name k → j ≡ k
  type_one name j k a b =
      sym a.2 ∙ ap (λ (c : List (List ℕ)). kind_in (in_force ps name c directive.Kind)) (chain_one ps name a.0 b.0 a.1 b.1) ∙ b.2

  other_type_one : (l : Listing) (r s : PropsRefusal) → IsNoAjp13 ps l r → IsNoAjp13 ps l s → r ≡ s
  other_type_one l r s x y = x.1 ∙ sym y.1

  never_other_type : (l : Listing) (r : PropsRefusal) → IsAjp13 ps l → IsNoAjp13 ps l r → ⊥
  never_other_type l r h x = x.0.1 (type_one l.name x.0.0 kind.Ajp13 x.0.2 h)

  chained_each : (ls : List Listing) → Each (IsAjp13 ps) ls → Each (Chained ps) ls
  chained_each [] each = tt
  chained_each (l ∷ ls) each = ((each.0.0, each.0.1), chained_each ls each.1)

  -- the causes of an lb, each with those after it
  abbrev FromBook : ℕ → (Directive → Option Property) → List Listing → PropsRefusal → Type 0
  FromBook count v members r =
      Each (Known ps) members × (count < 1024) × Each (IsAjp13 ps) members × RefusesBook ps (line_in (v directive.Kind)) (firsts members) r

  abbrev FromType : ℕ → List Listing → PropsRefusal → Type 0
  FromType count members r = Each (Chained ps) members × Each (Known ps) members × (count < 1024) × FirstBad (IsAjp13 ps) (IsNoAjp13 ps) members r

  abbrev FromCount : ℕ → Listing → List Listing → PropsRefusal → Type 0
  FromCount count l members r = Each (Chained ps) members × Each (Known ps) members × (1024 ≤ count) × (r ≡ refusal l.line reason.TooManyBalancers)

  abbrev FromUnknown : List Listing → PropsRefusal → Type 0
  FromUnknown members r = Each (Chained ps) members × FirstBad (Known ps) (IsUnknown ps) members r

  abbrev TooWide : ℕ → List Listing → PropsRefusal → Type 0
  TooWide line members r =
      (ms : List MemberConfig) × (es : List Endpoint) × (1 ≤ length members) × (length members ≤ 64)
      × AreMembers ps (routes_of ms) 0 members ms es × (2 ^ 32 ≤ multiple_of (factors_in ms)) × (r ≡ refusal line reason.TooWide)

  abbrev TooMany : ℕ → List Listing → PropsRefusal → Type 0
  TooMany line members r = (64 < length members) × (r ≡ refusal line reason.TooManyMembers)

  abbrev TooFew : ℕ → List Listing → PropsRefusal → Type 0
  TooFew line members r = (length members ≡ 0) × (r ≡ refusal line reason.NoMembers)

  book_one : (line : ℕ) (members : List Listing) (r s : PropsRefusal) → RefusesBook ps line members r → RefusesBook ps line members s → r ≡ s
  book_one line members =
      either_one (TooFew line members) (λ r. TooMany line members r ⊎ TooWide line members r)
      (λ r s x y. x.1 ∙ sym y.1)
      (either_one (TooMany line members) (TooWide line members) (λ r s x y. x.1 ∙ sym y.1) (λ r s x y. x.6 ∙ sym y.6) (λ r s x y. omega (arith, x.0, y.3)))
      some
    where
      some : (r s : PropsRefusal) → TooFew line members r → (TooMany line members s ⊎ TooWide line members s) → ⊥
      some r s x (inl y) = omega (arith, x.0, y.0)
      some r s x (inr y) = omega (arith, x.0, y.2)

  lb_one : (count : ℕ) (l : Listing) (v : Directive → Option Property) (members : List Listing) (r s : PropsRefusal)
      → RefusesLb ps count l v members r → RefusesLb ps count l v members s → r ≡ s
  lb_one count l v members =
      either_one (FirstBad (Chained ps) (Breaks ps) members) Second (first_one (Chained ps) (Breaks ps) breaks_one never_breaks members) second_one
      (λ r s x y. none_bad (Chained ps) (Breaks ps) never_breaks members r (chained s y) x)
    where
      Fourth : PropsRefusal → Type 0
      Fourth r = FromType count members r ⊎ FromBook count v members r

      Third : PropsRefusal → Type 0
      Third r = FromCount count l members r ⊎ Fourth r

      Second : PropsRefusal → Type 0
      Second r = FromUnknown members r ⊎ Third r

      few : (s : PropsRefusal) → Fourth s → count < 1024
      few s (inl y) = y.2
      few s (inr y) = y.1

      known : (s : PropsRefusal) → Third s → Each (Known ps) members
      known s (inl y) = y.1
      known s (inr (inl y)) = y.1
      known s (inr (inr y)) = y.0

      chained : (s : PropsRefusal) → Second s → Each (Chained ps) members
      chained s (inl y) = y.0
      chained s (inr (inl y)) = y.0
      chained s (inr (inr (inl y))) = y.0
      chained s (inr (inr (inr y))) = chained_each members y.2

      fourth_one : (r s : PropsRefusal) → Fourth r → Fourth s → r ≡ s
      fourth_one =
          either_one (FromType count members) (FromBook count v members)
          (λ r s x y. first_one (IsAjp13 ps) (IsNoAjp13 ps) other_type_one never_other_type members r s x.3 y.3)
          (λ r s x y. book_one (line_in (v directive.Kind)) (firsts members) r s x.3 y.3)
          (λ r s x y. none_bad (IsAjp13 ps) (IsNoAjp13 ps) never_other_type members r y.2 x.3)

      third_one : (r s : PropsRefusal) → Third r → Third s → r ≡ s
      third_one =
          either_one (FromCount count l members) Fourth (λ r s x y. x.3 ∙ sym y.3) fourth_one
          (λ r s x y. omega (arith, x.2, few s y))

      second_one : (r s : PropsRefusal) → Second r → Second s → r ≡ s
      second_one =
          either_one (FromUnknown members) Third
          (λ r s x y. first_one (Known ps) (IsUnknown ps) unknown_one never_unknown members r s x.1 y.1) third_one
          (λ r s x y. none_bad (Known ps) (IsUnknown ps) never_unknown members r (known s y) x.1)

  kind_one : (count : ℕ) (l : Listing) (v : Directive → Option Property) (k : WorkerKind) (r s : PropsRefusal) → RefusesKind ps count l v k r → RefusesKind ps count l v k s → r ≡ s
  kind_one count l v kind.Status r s x y = absurd x
  kind_one count l v kind.Ajp13 r s x y = x.1 ∙ sym y.1
  kind_one count l v kind.Lb r s x y = lb_one count l v (members_in ps (v directive.BalanceWorkers)) r s x y

  -- a listed worker's refusal by its type
  abbrev ByKind : ℕ → Listing → PropsRefusal → Type 0
  ByKind count l r =
      Known ps l × (more : List (List ℕ)) × IsChain ps l.name more
      × RefusesKind ps count l (in_force ps l.name more) (kind_in (in_force ps l.name more directive.Kind)) r

  by_kind_one : (count : ℕ) (l : Listing) (r s : PropsRefusal) → ByKind count l r → ByKind count l s → r ≡ s
  by_kind_one count l r s x y =
      let chains = chain_one ps l.name y.1 x.1 y.2 x.2 in
      let also : RefusesKind ps count l (in_force ps l.name x.1) (kind_in (in_force ps l.name x.1 directive.Kind)) s =
      subst (λ (c : List (List ℕ)). RefusesKind ps count l (in_force ps l.name c) (kind_in (in_force ps l.name c directive.Kind)) s) chains y.3 in
      kind_one count l (in_force ps l.name x.1) (kind_in (in_force ps l.name x.1 directive.Kind)) r s x.3 also

  refuses_one : (count : ℕ) (l : Listing) (r s : PropsRefusal) → RefusesListing ps count l r → RefusesListing ps count l s → r ≡ s
  refuses_one count l =
      either_one (Breaks ps l) (λ r. IsUnknown ps l r ⊎ ByKind count l r) (breaks_one l)
      (either_one (IsUnknown ps l) (ByKind count l) (unknown_one l) (by_kind_one count l) (λ r s x y. never_unknown l r y.0 x))
      apart
    where
      apart : (r s : PropsRefusal) → Breaks ps l r → (IsUnknown ps l s ⊎ ByKind count l s) → ⊥
      apart r s x (inl y) = chain_or_break ps l.name [] x.0 (unknown_chain ps l.name y.0) x.1
      apart r s x (inr y) = chain_or_break ps l.name y.1 x.0 y.2 x.1

  -- a balancer that is built is none that is refused
  never_book : (v : Directive → Option Property) (maintain line : ℕ) (name : List ℕ) (ls : List Listing) (lb : Lb) (r : PropsRefusal)
      → IsLb ps v maintain name ls lb → RefusesBook ps line ls r → ⊥
  never_book v maintain line name ls lb r is (inl x) =
      let counted = members_counted ps (routes_of lb.book.members) 0 ls lb.book.members is.own is.members in
      omega (arith, counted, x.0, lb.book.count.some)
  never_book v maintain line name ls lb r is (inr (inl x)) =
      let counted = members_counted ps (routes_of lb.book.members) 0 ls lb.book.members is.own is.members in
      omega (arith, counted, x.0, lb.book.count.few)
  never_book v maintain line name ls lb r is (inr (inr x)) =
      let same = same_members ps ls x.0 lb.book.members x.1 is.own x.4 is.members in
      let wide : 2 ^ 32 ≤ multiple_of (factors_in lb.book.members) = subst (λ (ms : List MemberConfig). 2 ^ 32 ≤ multiple_of (factors_in ms)) same.0 x.5 in
      omega (arith, wide, lb.book.narrow)

  never_lb : (count : ℕ) (l : Listing) (v : Directive → Option Property) (maintain : ℕ) (members : List Listing) (lb : Lb) (r : PropsRefusal)
      → count < 1024 → Each (Known ps) members → Each (IsAjp13 ps) members → IsLb ps v maintain l.name (firsts members) lb → RefusesLb ps count l v members r → ⊥
  never_lb count l v maintain members lb r few known typed is (inl x) = none_bad (Chained ps) (Breaks ps) never_breaks members r (chained_each members typed) x
  never_lb count l v maintain members lb r few known typed is (inr (inl x)) = none_bad (Known ps) (IsUnknown ps) never_unknown members r known x.1
  never_lb count l v maintain members lb r few known typed is (inr (inr (inl x))) = omega (arith, few, x.2)
  never_lb count l v maintain members lb r few known typed is (inr (inr (inr (inl x)))) = none_bad (IsAjp13 ps) (IsNoAjp13 ps) never_other_type members r typed x.3
  never_lb count l v maintain members lb r few known typed is (inr (inr (inr (inr x)))) =
      never_book v maintain (line_in (v directive.Kind)) l.name (firsts members) lb r is x.3

  never_kind : (maintain : ℕ) (l : Listing) (v : Directive → Option Property) (k : WorkerKind) (old new : Draft) (r : PropsRefusal)
      → AddsKind ps maintain l v k old new → RefusesKind ps (length old.lbs) l v k r → ⊥
  never_kind maintain l v kind.Status old new r a x = x
  never_kind maintain l v kind.Ajp13 old new r a x = omega (arith, a.0, x.0)
  never_kind maintain l v kind.Lb old new r a x =
      never_lb (length old.lbs) l v maintain (members_in ps (v directive.BalanceWorkers)) a.3 r a.0 a.1 a.2 a.4 x

  -- a worker that is added isn't refused
  never_refused : (maintain : ℕ) (l : Listing) (old new : Draft) (r : PropsRefusal) → AddsListing ps maintain l old new → RefusesListing ps (length old.lbs) l r → ⊥
  never_refused maintain l old new r a (inl x) = chain_or_break ps l.name a.1 x.0 a.2 x.1
  never_refused maintain l old new r a (inr (inl x)) = never_unknown l r a.0 x
  never_refused maintain l old new r a (inr (inr x)) =
      let chains = chain_one ps l.name x.1 a.1 x.2 a.2 in
      let also : RefusesKind ps (length old.lbs) l (in_force ps l.name a.1) (kind_in (in_force ps l.name a.1 directive.Kind)) r =
      subst (λ (c : List (List ℕ)). RefusesKind ps (length old.lbs) l (in_force ps l.name c) (kind_in (in_force ps l.name c directive.Kind)) r) chains x.3 in
      never_kind maintain l (in_force ps l.name a.1) (kind_in (in_force ps l.name a.1 directive.Kind)) old new r a.3 also

  stops_one : (maintain : ℕ) (ls : List Listing) (old : Draft) (r s : PropsRefusal) → StopsAtListing ps maintain ls old r → StopsAtListing ps maintain ls old s → r ≡ s
  stops_one maintain [] old r s x y = absurd x
  stops_one maintain (l ∷ ls) old r s (inl x) (inl y) = refuses_one (length old.lbs) l r s x y
  stops_one maintain (l ∷ ls) old r s (inl x) (inr y) = absurd (never_refused maintain l old y.0 r y.1 x)
  stops_one maintain (l ∷ ls) old r s (inr x) (inl y) = absurd (never_refused maintain l old x.0 s x.1 y)
  stops_one maintain (l ∷ ls) old r s (inr x) (inr y) =
      stops_one maintain ls x.0 r s x.2 (subst (λ (d : Draft). StopsAtListing ps maintain ls d s) (adds_one ps maintain l old y.0 x.0 y.1 x.1) y.2)

  never_both : (maintain : ℕ) (ls : List Listing) (old new : Draft) (r : PropsRefusal) → Builds ps maintain ls old new → StopsAtListing ps maintain ls old r → ⊥
  never_both maintain [] old new r a x = x
  never_both maintain (l ∷ ls) old new r a (inl x) = never_refused maintain l old a.0 r a.1 x
  never_both maintain (l ∷ ls) old new r a (inr x) =
      never_both maintain ls a.0 new r a.2 (subst (λ (d : Draft). StopsAtListing ps maintain ls d r) (adds_one ps maintain l old x.0 a.0 x.1 a.1) x.2)

not_both : (a : List Property) (e : PropsRefusal) (r : Result (List Property) PropsRefusal) → r ≡ Ok a → r ≡ Err e → ⊥
not_both a e r x y = absurd cc

same_refusal : (a b : PropsRefusal) (r : Result (List Property) PropsRefusal) → r ≡ Err a → r ≡ Err b → a ≡ b
same_refusal a b r x y = cc

-- a text has one refusal
pub refusal_one : (text : List ℕ) (r s : PropsRefusal) → IsRefusedText text r → IsRefusedText text s → r ≡ s
refusal_one text r s (inl x) (inl y) = same_refusal r s (read_text true text) x y
refusal_one text r s (inl x) (inr y) = absurd (not_both y.0 r (read_text true text) y.1 x)
refusal_one text r s (inr x) (inl y) = absurd (not_both x.0 s (read_text true text) x.1 y)
refusal_one text r s (inr x) (inr y) =
    let ps = same_properties y.0 x.0 (read_text true text) y.1 x.1 in
    let also : StopsAtListing x.0 (maintain_of x.0) (firsts (site_list x.0)) no_workers s =
    subst (λ (p : List Property). StopsAtListing p (maintain_of p) (firsts (site_list p)) no_workers s) ps y.2 in
    stops_one x.0 (maintain_of x.0) (firsts (site_list x.0)) no_workers r s x.2 also

-- a text with a configuration has no refusal
pub config_or_refusal : (text : List ℕ) (c : Config) (r : PropsRefusal) → IsConfig text c → IsRefusedText text r → ⊥
config_or_refusal text c r a (inl x) = not_both a.properties r (read_text true text) a.read x
config_or_refusal text c r a (inr x) =
    let ps = same_properties x.0 a.properties (read_text true text) x.1 a.read in
    let also : StopsAtListing a.properties (maintain_of a.properties) (firsts (site_list a.properties)) no_workers r =
    subst (λ (p : List Property). StopsAtListing p (maintain_of p) (firsts (site_list p)) no_workers r) ps x.2 in
    never_both a.properties (maintain_of a.properties) (firsts (site_list a.properties)) no_workers (draft_of c) r a.workers also
