-- Members made of rows, one after another.
use Rattle.std.proofs.Common.{◌≡◌, ℕ, ◌+◌, ◌<◌, Bool, true, false, List, [], ◌∷◌, ◌++◌, length, take, get_or, Option, Some, None, refl, sym, ◌∙◌, ap, subst, cond, suc, zero, arith, eqb, nat_lt, ◌&&◌, not}
use Rattle.std.proofs.lemmas.Bool.{and_parts, false≢true}
use Rattle.std.proofs.lemmas.List.{take_more, map-append, length-take, length-map}
use Rattle.std.proofs.lemmas.Option.{same_Some, none-some}
use Rattle.std.specs.List.{slice_get}
use Rattle.std.specs.Str.{bytes_eq}
use Rattle.lb_model.specs.declared.member.MemberConfig.{MemberConfig}
use Rattle.lb_model.specs.Ranges.{IsInRange, AreInRange, redirects_within}
use Rattle.site_config.specs.declared.property.Property.{Property}
use Rattle.site_config.specs.declared.directive.Directive.{Directive}
use Rattle.site_config.specs.declared.directive.Directive.TheVariants as directive
use Rattle.site_config.specs.declared.endpoint.Endpoint.{Endpoint}
use Rattle.site_workers.specs.declared.row.Row.{Row}
use Rattle.site_workers.specs.declared.listing.Listing as declared
use Rattle.site_workers.specs.Built.{HaveForce, routes_at, AreBuilt}
use Rattle.site_workers.specs.Given.{in_force}
use Rattle.site_workers.specs.Lists.{Listing}
use Rattle.site_workers.specs.Listings.{as_listing, as_listings}
use Rattle.site_workers.specs.Rows.{HasForce, property_at}
use Rattle.site_workers.specs.Settings.{IsEndpoint, IsMember, other_at, redirect_in, text_in, text_or}
use Rattle.site_workers.proofs.SettingLemmas.{number_or-high, number_or-low}
use Rattle.site_workers.specs.Site.{AreMembers, routes_of}

-- the listings so far, after one more
pub listings_more : (ls : List declared.Listing) (i : ℕ) (d : declared.Listing) → i < length ls → as_listings (take (i + 1) ls) ≡ as_listings (take i ls) ++ as_listing (get_or ls i d) ∷ []
listings_more ls i d h = rw (take_more ls i d h, map-append) refl

pub HaveForce-snoc : (ps : List Property) (ls : List Listing) (rows : List Row) (l : Listing) (row : Row) → HaveForce ps ls rows → HasForce ps l.name row → HaveForce ps (ls ++ l ∷ []) (rows ++ row ∷ [])
HaveForce-snoc ps [] [] l row h f = (f, tt)
HaveForce-snoc ps (x ∷ ls) (r ∷ rows) l row h f = (h.0, HaveForce-snoc ps ls rows l row h.1 f)
HaveForce-snoc ps ls rows l row h f = absurd h

pub length-HaveForce : (ps : List Property) (ls : List Listing) (rows : List Row) → HaveForce ps ls rows → length rows ≡ length ls
length-HaveForce ps [] [] h = refl
length-HaveForce ps (x ∷ ls) (r ∷ rows) h = ap suc (length-HaveForce ps ls rows h.1)
length-HaveForce ps ls rows h = absurd h

pub routes_at-snoc : (ps : List Property) (ls : List Listing) (rows : List Row) (l : Listing) (row : Row) → length rows ≡ length ls → routes_at ps (ls ++ l ∷ []) (rows ++ row ∷ []) ≡ routes_at ps ls rows ++ text_or l.name (property_at ps row directive.Route) ∷ []
routes_at-snoc ps [] [] l row h = refl
routes_at-snoc ps [] (r ∷ rows) l row h = absurd (omega arith)
routes_at-snoc ps (x ∷ ls) [] l row h = absurd (omega arith)
routes_at-snoc ps (x ∷ ls) (r ∷ rows) l row h = ap (λ (rest : List (List ℕ)). text_or x.name (property_at ps r directive.Route) ∷ rest) (routes_at-snoc ps ls rows l row (omega arith))

pub length-routes_at : (ps : List Property) (ls : List Listing) (rows : List Row) → length rows ≡ length ls → length (routes_at ps ls rows) ≡ length ls
length-routes_at ps [] [] h = refl
length-routes_at ps [] (r ∷ rows) h = refl
length-routes_at ps (x ∷ ls) [] h = absurd (omega arith)
length-routes_at ps (x ∷ ls) (r ∷ rows) h = ap suc (length-routes_at ps ls rows (omega arith))

pub AreBuilt-snoc : (ps : List Property) (routes : List (List ℕ)) (i : ℕ) (ls : List Listing) (rows : List Row) (ms : List MemberConfig) (es : List Endpoint) (l : Listing) (row : Row) (m : MemberConfig) (e : Endpoint) → AreBuilt ps routes i ls rows ms es → IsMember (property_at ps row) l.name routes (i + length ls) m → IsEndpoint (property_at ps row) e → AreBuilt ps routes i (ls ++ l ∷ []) (rows ++ row ∷ []) (ms ++ m ∷ []) (es ++ e ∷ [])
AreBuilt-snoc ps routes i [] [] [] [] l row m e h is ends =
    let here : i + 0 ≡ i = omega arith in
    (subst (λ (k : ℕ). IsMember (property_at ps row) l.name routes k m) here is, ends, tt)
AreBuilt-snoc ps routes i (x ∷ ls) (r ∷ rows) (y ∷ ms) (z ∷ es) l row m e h is ends =
    let here : i + length (x ∷ ls) ≡ i + 1 + length ls = omega arith in
    (h.0, h.1, AreBuilt-snoc ps routes (i + 1) ls rows ms es l row m e h.2 (subst (λ (k : ℕ). IsMember (property_at ps row) l.name routes k m) here is) ends)
AreBuilt-snoc ps routes i ls rows ms es l row m e h is ends = absurd h

front_lengths : (ms : List declared.Listing) (rows : List Row) (i : ℕ) → length rows ≡ length ms → length (take i rows) ≡ length (as_listings (take i ms))
front_lengths ms rows i same = rw (length-map, length-take i rows, length-take i ms, same) refl

-- one member's route, row or configuration more
pub routes_more : (ps : List Property) (ms : List declared.Listing) (rows : List Row) (i : ℕ) (d : declared.Listing) (r : Row) → i < length ms → length rows ≡ length ms → routes_at ps (as_listings (take (i + 1) ms)) (take (i + 1) rows) ≡ routes_at ps (as_listings (take i ms)) (take i rows) ++ text_or (get_or ms i d).name.now (property_at ps (get_or rows i r) directive.Route) ∷ []
routes_more ps ms rows i d r h same =
    let within : i < length rows = omega arith in
    rw (listings_more ms i d h, take_more rows i r within) (routes_at-snoc ps (as_listings (take i ms)) (take i rows) (as_listing (get_or ms i d)) (get_or rows i r) (front_lengths ms rows i same))

pub force_more : (ps : List Property) (ms : List declared.Listing) (rows : List Row) (i : ℕ) (d : declared.Listing) (row : Row) → i < length ms → HaveForce ps (as_listings (take i ms)) rows → HasForce ps (get_or ms i d).name.now row → HaveForce ps (as_listings (take (i + 1) ms)) (rows ++ row ∷ [])
force_more ps ms rows i d row h so_far force = rw (listings_more ms i d h) (HaveForce-snoc ps (as_listings (take i ms)) rows (as_listing (get_or ms i d)) row so_far force)

pub built_more : (ps : List Property) (routes : List (List ℕ)) (ms : List declared.Listing) (rows : List Row) (cs : List MemberConfig) (es : List Endpoint) (i : ℕ) (d : declared.Listing) (r : Row) (m : MemberConfig) (e : Endpoint) → i < length ms → length rows ≡ length ms → AreBuilt ps routes 0 (as_listings (take i ms)) (take i rows) cs es → IsMember (property_at ps (get_or rows i r)) (get_or ms i d).name.now routes i m → IsEndpoint (property_at ps (get_or rows i r)) e → AreBuilt ps routes 0 (as_listings (take (i + 1) ms)) (take (i + 1) rows) (cs ++ m ∷ []) (es ++ e ∷ [])
built_more ps routes ms rows cs es i d r m e h same so_far member end =
    let within : i < length rows = omega arith in
    let index : i ≡ 0 + length (as_listings (take i ms)) = rw length-map (omega (arith, length-take i ms)) in
    rw (listings_more ms i d h, take_more rows i r within) (AreBuilt-snoc ps routes 0 (as_listings (take i ms)) (take i rows) cs es (as_listing (get_or ms i d)) (get_or rows i r) m e so_far (subst (λ (k : ℕ). IsMember (property_at ps (get_or rows i r)) (get_or ms i d).name.now routes k m) index member) end)

-- members made of the rows in force are those of the definition
same_lines : (ps : List Property) (v w : Directive → Option Property) → ((d : Directive) → v d ≡ w d) → v ≡ w
same_lines ps v w h = λ i d. h d i

pub built_members : (ps : List Property) (routes : List (List ℕ)) (i : ℕ) (ls : List Listing) (rows : List Row) (ms : List MemberConfig) (es : List Endpoint) → HaveForce ps ls rows → AreBuilt ps routes i ls rows ms es → AreMembers ps routes i ls ms es
built_members ps routes i [] [] [] [] f h = tt
built_members ps routes i (l ∷ ls) (row ∷ rows) (m ∷ ms) (e ∷ es) f h =
    let more = f.0.0 in
    let lines : property_at ps row ≡ in_force ps l.name more = same_lines ps (property_at ps row) (in_force ps l.name more) (f.0.2.lines_are) in
    ((more, f.0.1, subst (λ (v : Directive → Option Property). IsMember v l.name routes i m) lines h.0, subst (λ (v : Directive → Option Property). IsEndpoint v e) lines h.1), built_members ps routes (i + 1) ls rows ms es f.1 h.2)
built_members ps routes i [] [] [] (e ∷ es) f h = absurd h
built_members ps routes i [] [] (m ∷ ms) es f h = absurd h
built_members ps routes i (l ∷ ls) (row ∷ rows) [] es f h = absurd h
built_members ps routes i (l ∷ ls) (row ∷ rows) (m ∷ ms) [] f h = absurd h
built_members ps routes i [] (row ∷ rows) ms es f h = absurd f
built_members ps routes i (l ∷ ls) [] ms es f h = absurd f

-- the routes that were used are the members'
pub built_routes : (ps : List Property) (routes : List (List ℕ)) (i : ℕ) (ls : List Listing) (rows : List Row) (ms : List MemberConfig) (es : List Endpoint) → AreBuilt ps routes i ls rows ms es → routes_at ps ls rows ≡ routes_of ms
built_routes ps routes i [] [] [] [] h = refl
built_routes ps routes i (l ∷ ls) (row ∷ rows) (m ∷ ms) (e ∷ es) h = rw (h.0.route, built_routes ps routes (i + 1) ls rows ms es h.2) refl
built_routes ps routes i ls rows ms es h = absurd h

pub built_lengths : (ps : List Property) (routes : List (List ℕ)) (i : ℕ) (ls : List Listing) (rows : List Row) (ms : List MemberConfig) (es : List Endpoint) → AreBuilt ps routes i ls rows ms es → (length ms ≡ length ls) × (length es ≡ length ls)
built_lengths ps routes i [] [] [] [] h = (refl, refl)
built_lengths ps routes i (l ∷ ls) (row ∷ rows) (m ∷ ms) (e ∷ es) h =
    let rest = built_lengths ps routes (i + 1) ls rows ms es h.2 in
    (ap suc rest.0, ap suc rest.1)
built_lengths ps routes i ls rows ms es h = absurd h

not_true : (b : Bool) → not b ≡ true → b ≡ false
not_true true h = absurd (false≢true h)
not_true false h = refl

-- a redirect is another member's place
other_within : (i : ℕ) (text : List ℕ) (j : ℕ) (routes : List (List ℕ)) (t : ℕ) → other_at i text j routes ≡ Some t → (t < j + length routes) × (eqb t i ≡ false)
other_within i text j [] t e = absurd (none-some t e)
other_within i text j (route ∷ routes) t e = by_test (other_within i text (j + 1) routes t) (bytes_eq route text && not (eqb j i)) refl e
  where
    by_test : (other_at i text (j + 1) routes ≡ Some t → (t < j + 1 + length routes) × (eqb t i ≡ false)) → (b : Bool) → (bytes_eq route text && not (eqb j i)) ≡ b → cond b (Some j) (other_at i text (j + 1) routes) ≡ Some t → (t < j + suc (length routes)) × (eqb t i ≡ false)
    by_test rest true yea e =
        let one : j ≡ t = same_Some j t e in
        let apart = (and_parts (bytes_eq route text) (not (eqb j i)) yea).1 in
        (omega arith, subst (λ (k : ℕ). eqb k i ≡ false) one (not_true (eqb j i) apart))
    by_test rest false nay e = let found = rest e in (omega (arith, found.0), found.1)

redirect_within : (n i : ℕ) (routes : List (List ℕ)) (o : Option (List ℕ)) (r : Option ℕ) → length routes ≡ n → redirect_in routes i o ≡ r → redirects_within n i r ≡ true
redirect_within n i routes o None h e = refl
redirect_within n i routes None (Some t) h e = absurd (none-some t e)
redirect_within n i routes (Some text) (Some t) h e =
    let found = other_within i text 0 routes t e in
    let below : t < n = omega (arith, found.0) in
    let yea : nat_lt t n ≡ true = grind (arith) in
    rw (yea, found.1) refl

member_range : (n i : ℕ) (v : Directive → Option Property) (name : List ℕ) (routes : List (List ℕ)) (m : MemberConfig) → length routes ≡ n → IsMember v name routes i m → IsInRange n i m
member_range n i v name routes m h is = record {
  factor_above = rw is.factor (number_or-low v directive.Factor 1 (omega arith));
  factor_below = rw is.factor (number_or-high v directive.Factor 1 (omega arith));
  distance_below = rw is.distance (number_or-high v directive.Distance 0 (omega arith));
  pool_above = rw is.pool (number_or-low v directive.PoolSize 64 (omega arith));
  pool_below = rw is.pool (number_or-high v directive.PoolSize 64 (omega arith));
  redirect = redirect_within n i routes (text_in (v directive.Redirect)) m.redirect h (sym is.redirect);
}

built_at : (ps : List Property) (routes : List (List ℕ)) (n i : ℕ) (ls : List Listing) (rows : List Row) (ms : List MemberConfig) (es : List Endpoint) (j : ℕ) (m : MemberConfig) → length routes ≡ n → AreBuilt ps routes i ls rows ms es → slice_get ms j ≡ Some m → IsInRange n (i + j) m
built_at ps routes n i [] [] [] [] j m len h e = absurd (none-some m e)
built_at ps routes n i (l ∷ ls) (row ∷ rows) (x ∷ ms) (y ∷ es) zero m len h e =
    let here : i + zero ≡ i = omega arith in
    let one : x ≡ m = same_Some x m e in
    rw here (subst (λ (k : MemberConfig). IsInRange n i k) one (member_range n i (property_at ps row) l.name routes x len h.0))
built_at ps routes n i (l ∷ ls) (row ∷ rows) (x ∷ ms) (y ∷ es) (suc j) m len h e =
    let here : i + suc j ≡ i + 1 + j = omega arith in
    rw here (built_at ps routes n (i + 1) ls rows ms es j m len h.2 e)
built_at ps routes n i ls rows ms es j m len h e = absurd h

-- members made of rows are in their ranges
pub built_ranges : (ps : List Property) (routes : List (List ℕ)) (ls : List Listing) (rows : List Row) (ms : List MemberConfig) (es : List Endpoint) → length routes ≡ length ms → AreBuilt ps routes 0 ls rows ms es → AreInRange ms
built_ranges ps routes ls rows ms es len h = record {
  at = λ j m e. let zero_more : 0 + j ≡ j = omega arith in subst (λ (k : ℕ). IsInRange (length ms) k m) zero_more (built_at ps routes (length ms) 0 ls rows ms es j m len h e);
}

-- what was made of the rows in force of these members
pub force_lengths : (ps : List Property) (ms : List declared.Listing) (rows : List Row) → HaveForce ps (as_listings ms) rows → length rows ≡ length ms
force_lengths ps ms rows h = length-HaveForce ps (as_listings ms) rows h ∙ length-map ms as_listing

pub route_lengths : (ps : List Property) (ms : List declared.Listing) (rows : List Row) (routes : List (List ℕ)) → length rows ≡ length ms → routes ≡ routes_at ps (as_listings ms) rows → length routes ≡ length ms
route_lengths ps ms rows routes same are = ap length are ∙ length-routes_at ps (as_listings ms) rows (same ∙ sym (length-map ms as_listing)) ∙ length-map ms as_listing

pub made_members : (ps : List Property) (routes : List (List ℕ)) (ls : List Listing) (rows : List Row) (ms : List MemberConfig) (es : List Endpoint) → HaveForce ps ls rows → routes ≡ routes_at ps ls rows → AreBuilt ps routes 0 ls rows ms es → AreMembers ps (routes_of ms) 0 ls ms es
made_members ps routes ls rows ms es force are h = subst (λ (rs : List (List ℕ)). AreMembers ps rs 0 ls ms es) (are ∙ built_routes ps routes 0 ls rows ms es h) (built_members ps routes 0 ls rows ms es force h)

pub made_ranges : (ps : List Property) (routes : List (List ℕ)) (ls : List Listing) (rows : List Row) (ms : List MemberConfig) (es : List Endpoint) → HaveForce ps ls rows → routes ≡ routes_at ps ls rows → AreBuilt ps routes 0 ls rows ms es → AreInRange ms
made_ranges ps routes ls rows ms es force are h =
    let count : length routes ≡ length ms = ap length are ∙ length-routes_at ps ls rows (length-HaveForce ps ls rows force) ∙ sym (built_lengths ps routes 0 ls rows ms es h).0 in
    built_ranges ps routes ls rows ms es count h

pub made_count : (ps : List Property) (routes : List (List ℕ)) (ls : List declared.Listing) (rows : List Row) (ms : List MemberConfig) (es : List Endpoint) → AreBuilt ps routes 0 (as_listings ls) rows ms es → (length ms ≡ length ls) × (length es ≡ length ls)
made_count ps routes ls rows ms es h =
    let both = built_lengths ps routes 0 (as_listings ls) rows ms es h in
    (both.0 ∙ length-map ls as_listing, both.1 ∙ length-map ls as_listing)
