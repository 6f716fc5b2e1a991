-- The kept present of a Book at its opening, and the rows that its view shows.
use Rattle.std.proofs.Common.{◌≡◌, ℕ, ◌+◌, ◌*◌, ◌/◌, ◌%◌, ◌^◌, ◌<◌, ◌≤◌, true, List, [], length, replicate, Option, Some, None, get_or, refl, sym, ◌∙◌, ap, subst, inl, inr, arith}
use Rattle.std.specs.Prelude.{IfSome, All, slice_get, nat_lt, not, ◌==◌}
use Rattle.std.proofs.lemmas.Bool.{and_parts, ltb-true}
use Rattle.std.proofs.lemmas.List.{get_or-map, length-map, length-reverse, length-replicate, get_or-replicate}
use Rattle.std.proofs.lemmas.List.Elements.{All-get_or}
use Rattle.std.proofs.lemmas.Option.{slice_get_cases, get_or_from_slice_get, slice_get_within}
use Rattle.std.proofs.lemmas.Nat.Gcd.{mod-eq-zero_of_dvd}
use Rattle.std.proofs.Math.Nat.{div-le_self}
use Rattle.std.specs.Int.{◌∣◌}
use Rattle.lb_model.specs.Journal.{members, next_of, moment_of}
use Rattle.lb_model.specs.Multiple.{multiple_of}
use Rattle.lb_model.specs.Ranges.{IsInRange, factors_in, redirects_within}
use Rattle.lb_model.specs.Rows.{HaveRedirectsWithin}
use Rattle.lb_model.specs.Settings.{Setting, setting_in, setting_of, unit_of, factor_of, common_of, name_of}
use Rattle.lb_model.specs.Tickets.{busy_of, out}
use Rattle.lb_model.specs.Loads.{load_by}
use Rattle.lb_model.specs.Present.{IsPresentRow, ArePresentRows, IsPresent}
use Rattle.lb_model.specs.Validity.{IsOpening, IsOpeningRow, IsRunning}
use Rattle.lb_model.proofs.MultipleFacts.{multiple_of-each}
use Rattle.lb_model.proofs.SettingFacts.{common-opening}
use Rattle.lb_model.proofs.OutFacts.{out-opening}
use Rattle.lb_model.proofs.BoundFacts.{HasRow, has_row, busy-opening}
use Rattle.lb_model.specs.declared.member.Method.{Method}
use Rattle.lb_model.specs.declared.member.MemberConfig.{MemberConfig}
use Rattle.lb_model.specs.declared.journal.Entry.{Entry}
use Rattle.lb_model.specs.declared.view.MemberRow.{MemberRow}
use Rattle.lb_model.specs.declared.view.View.{View}
use Rattle.lb_model.specs.declared.opening.Opening.{Opening}
use Rattle.lb_rules.specs.Opened.{opening_row}
use Rattle.lb_rules.specs.declared.standing.Standing.{Standing}
use Rattle.lb_rules.specs.Returns.{AreReturns}
use Rattle.lb_book.specs.declared.present.Present.{Present}
use Rattle.lb_book.specs.Journal.{Journal, past_of}
use Rattle.lb_book.specs.Shown.{AreShown, shown_row, AreOpened}
use Rattle.lb_book.specs.Kept.{IsStanding, IsNow, IsKept}
use Rattle.lb_book.proofs.ChoiceLaws.{nobody}

load-opened : (method : Method) (running load unit : ℕ) → IsRunning method running load → load ≡ load_by method running (load + unit * 0)
load-opened Method.Request running load unit is = omega arith
load-opened Method.Session running load unit is = omega arith
load-opened Method.Traffic running load unit is = omega arith
load-opened Method.Busyness running load unit is = is

pub target-within : (n m : ℕ) (redirect : Option ℕ) → redirects_within n m redirect ≡ true → IfSome redirect (λ t. t < n)
target-within n m None is = tt
target-within n m (Some t) is = ltb-true t n (and_parts (nat_lt t n) (not (t == m)) is).0

pub factors_above : (o : Opening) (m : ℕ) (c : MemberConfig) → slice_get o.config.members m ≡ Some c → 0 < c.factor
factors_above o m c is = omega (arith, (o.config.in_range.at m c is).factor_above)

pub all_factors_above : (o : Opening) → All (λ f. 0 < f) (factors_in o.config.members)
all_factors_above o =
    let ms : List MemberConfig = o.config.members in
    λ k d lt.
    let within : k < length ms = omega (arith, lt, length-map ms (λ (c : MemberConfig). c.factor)) in
    elim (slice_get_cases ms k).1 [
      | inl found ↦
          let value : get_or (factors_in ms) k d ≡ (get_or ms k found.0).factor = get_or-map (λ (c : MemberConfig). c.factor) ms k found.0 d within in
          subst (λ (n : ℕ). 0 < n) (sym (value ∙ ap (λ (c : MemberConfig). c.factor) found.3)) (factors_above o k found.0 found.2)
      | inr past ↦ absurd (omega (arith, past.0, within))
    ]

-- Each factor divides the common multiple.
factor-divides : (o : Opening) (m : ℕ) (c : MemberConfig) → slice_get o.config.members m ≡ Some c
    → multiple_of (factors_in o.config.members) % c.factor ≡ 0
factor-divides o m c is =
    let ms : List MemberConfig = o.config.members in
    let within : m < length ms = slice_get_within ms m c is in
    let inside : m < length (factors_in ms) = omega (arith, within, length-map ms (λ (x : MemberConfig). x.factor)) in
    let value : get_or (factors_in ms) m 0 ≡ c.factor =
    get_or-map (λ (x : MemberConfig). x.factor) ms m c 0 within ∙ ap (λ (x : MemberConfig). x.factor) (get_or_from_slice_get ms m c c is) in
    subst (λ (f : ℕ). multiple_of (factors_in ms) % f ≡ 0) value
    (mod-eq-zero_of_dvd (get_or (factors_in ms) m 0) (All-get_or (λ f. f ∣ multiple_of (factors_in ms)) (factors_in ms) m 0 inside (multiple_of-each (factors_in ms))))

module _ (o : Opening) (valid : IsOpening o) where
  row-factor : (m : ℕ) (d : MemberRow) → m < length o.rows → (c : MemberConfig) × (slice_get o.config.members m ≡ Some c) × ((get_or o.rows m d).factor ≡ c.factor)
  row-factor m d lt =
      let has : HasRow o m = has_row o m valid (omega (arith, valid.rows.count, lt)) in (
        has.config,
        has.configured,
        ap (λ (r : MemberRow). r.factor) (get_or_from_slice_get o.rows m has.row d has.shown) ∙ has.opening.shows.factor,
      )

  pub row_factors_above : (m : ℕ) (d : MemberRow) → m < length o.rows → 0 < (get_or o.rows m d).factor
  row_factors_above m d lt =
      let is : (c : MemberConfig) × (slice_get o.config.members m ≡ Some c) × ((get_or o.rows m d).factor ≡ c.factor) = row-factor m d lt in
      subst (λ (n : ℕ). 0 < n) (sym is.2) (factors_above o m is.0 is.1)

  pub row_factors_divide : (m : ℕ) (d : MemberRow) → m < length o.rows → multiple_of (factors_in o.config.members) % (get_or o.rows m d).factor ≡ 0
  row_factors_divide m d lt =
      let is : (c : MemberConfig) × (slice_get o.config.members m ≡ Some c) × ((get_or o.rows m d).factor ≡ c.factor) = row-factor m d lt in
      subst (λ (n : ℕ). multiple_of (factors_in o.config.members) % n ≡ 0) (sym is.2) (factor-divides o m is.0 is.1)

  standing-opened : (v m common : ℕ) (c : MemberConfig) (r : MemberRow) → common ≡ multiple_of (factors_in o.config.members)
      → slice_get o.config.members m ≡ Some c → slice_get o.rows m ≡ Some r → IsOpeningRow o m c r
      → IsStanding v o [] m (opening_row (common / r.factor) c r)
  standing-opened v m common c r common_is configured shown is =
      let range : IsInRange (members o) m c = o.config.in_range.at m c configured in
      let setting_is : setting_of o [] m ≡ setting_in (Some c) = ap setting_in configured in
      let factor_is : r.factor ≡ factor_of o [] m = is.shows.factor ∙ sym (ap (λ (s : Setting). s.factor) setting_is) in
      let unit_is : common / r.factor ≡ unit_of o [] m =
      ap (λ (n : ℕ). n / r.factor) (common_is ∙ sym (common-opening o)) ∙ ap (λ (n : ℕ). common_of o [] / n) factor_is in
      let busy_is : r.busy ≡ busy_of o [] m = is.busy ∙ sym (busy-opening o m) in
      let running_is : r.busy * (multiple_of (factors_in o.config.members) / c.factor) ≡ busy_of o [] m * unit_of o [] m =
      ap (λ (n : ℕ). n * (multiple_of (factors_in o.config.members) / c.factor)) busy_is
      ∙ ap (λ (n : ℕ). busy_of o [] m * n)
      (ap (λ (n : ℕ). n / c.factor) (sym common_is) ∙ ap (λ (n : ℕ). common / n) (sym is.shows.factor) ∙ unit_is) in
      let narrow : common < 2 ^ 32 = subst (λ (n : ℕ). n < 2 ^ 32) (sym common_is) o.config.narrow in
      record {
        state = rw shown refl;
        load = rw shown (load-opened o.config.method (busy_of o [] m * unit_of o [] m) r.load (unit_of o [] m)
            (subst (λ (n : ℕ). IsRunning o.config.method n r.load) running_is is.running));
        busy = busy_is;
        pool = rw configured refl;
        unit = unit_is;
        activation = is.shows.activation ∙ sym (ap (λ (s : Setting). s.activation) setting_is);
        factor = factor_is;
        distance = is.shows.distance ∙ sym (ap (λ (s : Setting). s.distance) setting_is);
        redirect = is.shows.redirect ∙ sym (ap (λ (s : Setting). s.redirect) setting_is);
        within = is.pool;
        small = omega (arith, range.pool_below);
        narrow = omega (arith, narrow, div-le_self common r.factor);
        light = omega (arith, is.load);
        target = subst (λ (t : Option ℕ). IfSome t (λ k. k < members o)) (sym is.shows.redirect)
            (target-within (members o) m c.redirect range.redirect);
      }

  pub now_opened : (v common : ℕ) (opened : List Standing) → common ≡ multiple_of (factors_in o.config.members)
      → AreOpened common o.config.members o.rows (length o.config.members) opened
      → (m : ℕ) (d : Standing) → m < members o → IsStanding v o [] m (get_or opened m d)
  now_opened v common opened common_is are m d lt =
      let has : HasRow o m = has_row o m valid lt in
      let row_is : get_or opened m d ≡ opening_row (common / has.row.factor) has.config has.row =
      are.each m has.config has.row d lt
      ∙ ap (λ (c : MemberConfig). opening_row (common / (get_or o.rows m has.row).factor) c (get_or o.rows m has.row))
      (get_or_from_slice_get o.config.members m has.config has.config has.configured)
      ∙ ap (λ (r : MemberRow). opening_row (common / r.factor) has.config r) (get_or_from_slice_get o.rows m has.row has.row has.shown) in
      subst (λ (s : Standing). IsStanding v o [] m s) (sym row_is)
      (standing-opened v m common has.config has.row common_is has.configured has.shown has.opening)

  tickets-opened : length o.out ≡ length (out o [])
  tickets-opened = sym (length-reverse o.out) ∙ ap length (sym (out-opening o))

  returns-opened : (early : List (Option ℕ)) → early ≡ replicate (length o.out) None → AreReturns o [] [] early
  returns-opened early is = record {
    whole = refl;
    own = λ k lt. absurd (omega arith);
    early_whole = ap length is ∙ length-replicate (length o.out) None;
    older = λ i x found.
        rw (is, get_or-replicate {A = Option ℕ} (length o.out) i None None (slice_get_within o.out i x found)) refl;
  }

  -- A Book at its opening.
  pub kept_opened : (v common : ℕ) (now : Present) (early : List (Option ℕ)) (c r : ℕ) → common ≡ multiple_of (factors_in o.config.members)
      → AreOpened common o.config.members o.rows (length o.config.members) now.rows.items
      → now.out ≡ length o.out → now.at ≡ o.at → now.maintained ≡ o.maintained → now.chosen ≡ o.chosen
      → early ≡ replicate (length o.out) None → length o.out ≤ c → length o.out ≤ r → IsKept v o [] now [] early 0 c r
  kept_opened v common now early c r common_is are out_is at_is maintained_is chosen_is early_is fits fits' = record {
    legal = valid;
    present = record {
      whole = are.whole;
      rows = now_opened v common now.rows.items common_is are;
      tickets = out_is ∙ tickets-opened;
      moment = at_is;
      maintained = maintained_is;
      chosen = chosen_is;
    };
    returns = returns-opened early early_is;
    room = omega (arith, tickets-opened, fits);
    returns_room = omega (arith, tickets-opened, fits');
    counted = omega arith;
  }

-- The rows that a view shows are the present ones.
module _ (v : ℕ) (o : Opening) (p : List Entry) (now : Present) (h : IsNow v o p now) (shown : List MemberRow)
    (are : AreShown o.config.members now.rows.items (length o.config.members) shown) where
  shown_is : (m : ℕ) (r : MemberRow) (c : MemberConfig) → slice_get shown m ≡ Some r → slice_get o.config.members m ≡ Some c
      → r ≡ shown_row c (get_or now.rows.items m nobody)
  shown_is m r c found configured =
      sym (get_or_from_slice_get shown m r r found)
      ∙ are.each m c nobody r (slice_get_within o.config.members m c configured)
      ∙ ap (λ (x : MemberConfig). shown_row x (get_or now.rows.items m nobody)) (get_or_from_slice_get o.config.members m c c configured)

  pub rows_present : ArePresentRows v o p (members o) shown
  rows_present = record {
    count = are.whole;
    row = λ m r found.
        let within : m < members o = omega (arith, are.whole, slice_get_within shown m r found) in
        elim (slice_get_cases o.config.members m).1 [
          | inl config ↦
              let s : IsStanding v o p m (get_or now.rows.items m nobody) = h.rows m nobody within in
              let name_is : config.0.name ≡ name_of o m = rw config.2 refl in
              subst (λ (x : MemberRow). IsPresentRow v o p m x) (sym (shown_is m r config.0 found config.2))
              (record {
                name = name_is;
                state = s.state;
                load = s.load;
                busy = s.busy;
                activation = s.activation;
                factor = s.factor;
                distance = s.distance;
                redirect = s.redirect;
              })
          | inr past ↦ absurd (omega (arith, past.0, within))
        ];
  }

  pub redirects_shown : HaveRedirectsWithin shown
  redirects_shown = record {
    at = λ m r found t some.
        let within : m < members o = omega (arith, are.whole, slice_get_within shown m r found) in
        elim (slice_get_cases o.config.members m).1 [
          | inl config ↦
              let s : IsStanding v o p m (get_or now.rows.items m nobody) = h.rows m nobody within in
              let redirect_is : (get_or now.rows.items m nobody).redirect ≡ Some t =
              sym (ap (λ (x : MemberRow). x.redirect) (shown_is m r config.0 found config.2)) ∙ some in
              let below : t < members o = subst (λ (x : Option ℕ). IfSome x (λ k. k < members o)) redirect_is s.target in
              omega (arith, below, are.whole)
          | inr past ↦ absurd (omega (arith, past.0, within))
        ];
  }

-- The view of a Book's value.
pub view_present : {view : View} (w b : Journal) → w ≡ b → view.next ≡ next_of w.opening (past_of w)
    → view.at ≡ moment_of w.opening (past_of w) → ArePresentRows w.rules w.opening (past_of w) (members w.opening) view.rows
    → IsPresent b.rules b.opening (past_of b) view
view_present {view} w b same next_is at_is rows_are =
    subst (λ (x : Journal). IsPresent x.rules x.opening (past_of x) view) same (record { next = next_is; at = at_is; rows = rows_are })
