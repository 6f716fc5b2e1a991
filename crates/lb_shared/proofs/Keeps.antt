-- Each step keeps the rule of the lock's table.
use Rattle.std.proofs.Common.{◌≡◌, ◌≢◌, ℕ, ◌+◌, ◌<◌, Bool, true, false, List, [], ◌∷◌, ◌++◌, length, set, get_or, Option, Some, None, refl, sym, ap, ◌∙◌, subst, ⊎_elim, arith, append_assoc, append-nil, length-append, length-set, eqb, eq-eqb, ne_eqb, cond}
use Rattle.std.specs.List.{All}
use Rattle.std.proofs.lemmas.Bool.{cases_Bool}
use Rattle.std.proofs.lemmas.List.Elements.{All-append, All-map, All-nil, All-weaker}
use mathlib.Core.Logic.{dite}
use mathlib.Core.Option.{some, some-ne-none}
use mathlib.Core.Option as maybe
use native.Mathlib.Decide.{ℕ_discrete}
use lib.ListN.{get_elem?}
use Rattle.atomic_table.specs.Table.{Allows, Joins, Me, State, gives, keeps, takes}
use Rattle.atomic_table.specs.Table as table
use Rattle.atomic_table.proofs.Lists.{at_set, set_again, set_else}
use Rattle.lb_shared.specs.Seats.{Enters, IsClaim, IsKept, IsToldLast, Leaves, Stands, by_seat, caught_up, nobody, seated, united}
use Rattle.lb_shared.specs.declared.view.Claim.{Claim}
use Rattle.lb_shared.specs.declared.view.View.{View}
use Rattle.lb_shared.proofs.Places.{append_place, for_each, map_place, one_home, one_place, snoc_place, stands_set, stands_snoc}

not_both : {A : Type 0} (b : Bool) → b ≡ true → b ≡ false → A
not_both b yes' no' = absurd cc

module _ {S E : Type 0} (tells : List (ℕ × E) → S → Type 0) where
  abbrev V : Type 0
  V = View E

  abbrev M : Type 0
  M = Me (Option S) V

  abbrev St : Type 0
  St = State (Option S) V

  abbrev Rule : St → Type 0
  Rule = IsKept {S = S} {E = E} tells

  -- Nothing changed but the word, which isn't 0.
  stays : (s : St) (r : Rule s) (id x : ℕ) (v : V) → get_elem? s.views id ≡ some v → r.word ≢ 0 → x ≢ 0
      → Rule (record { words = set s.words 0 x; homes = s.homes; views = set s.views id v })
  stays s r id x v at held held' =
      subst (λ (vs : List V). Rule (record { words = set s.words 0 x; homes = s.homes; views = vs })) (sym (set_again s.views id v at)) record {
        word = x;
        log = r.log;
        words = ap (λ (ws : List ℕ). set ws 0 x) r.words;
        free = λ z. absurd (held' z);
        none = λ z. absurd (held' z);
        one = r.one;
        claims = r.claims;
        numbers = r.numbers;
        held = r.held;
        alone = r.alone;
        numbered = r.numbered;
      }

  -- Where each claim of a seat has the number of one that stood there, no two claims have one number.
  record Origin (views : List V) (i k : ℕ) (c : Claim E) : Type 0 where
    view : V
    claim : Claim E
    stood : Stands views i k view claim
    number : c.number ≡ claim.number

  still_alone : (s : St) (r : Rule s) (views : List V) → ((i k : ℕ) (v : V) (c : Claim E) → Stands views i k v c → Origin s.views i k c)
      → (i j k m : ℕ) (u v : V) (c d : Claim E) → Stands views i k u c → Stands views j m v d → c.number ≡ d.number → (i ≡ j) × (k ≡ m)
  still_alone s r views from i j k m u v c d st st' same =
      let x = from i k u c st in let y = from j m v d st' in
      r.alone i j k m x.view y.view x.claim y.claim x.stood y.stood (sym x.number ∙ same ∙ y.number)

  module _ (s : St) (r : Rule s) (id x : ℕ) (v : V) (at : get_elem? s.views id ≡ some v) (z : r.word ≡ 0) (held : x ≢ 0) where
    abbrev taken : V
    taken = record { holds = true; claims = caught_up r.log v.claims }

    holder_is : (j : ℕ) (u : V) → get_elem? (set s.views id taken) j ≡ some u → u.holds ≡ true → j ≡ id
    holder_is j u there holds =
        ⊎_elim (λ (t : (j ≡ id) × (taken ≡ u)). t.0)
        (λ (t : (j ≢ id) × (get_elem? s.views j ≡ some u)). not_both u.holds holds (r.none z j u t.1)) (at_set s.views id j taken u there)

    caught_from : (k : ℕ) (c : Claim E) → get_elem? taken.claims k ≡ some c
        → (a : Claim E) × Stands s.views id k v a × (c ≡ record { number = a.number; seen = r.log })
    caught_from k c there =
        let found = map_place (λ (a : Claim E). record { number = a.number; seen = r.log }) v.claims k c there in
        (found.0, record { view = at; claim = found.1 }, found.2)

    takes_home : Rule (record { words = set s.words 0 x; homes = table.homes_after s.homes [] (takes 0 (Some (r.free z).0)); views = set s.views id taken })
    takes_home = record {
      word = x;
      log = r.log;
      words = ap (λ (ws : List ℕ). set ws 0 x) r.words;
      free = λ e. absurd (held e);
      none = λ e. absurd (held e);
      one = λ i j u w there there' holds holds'. holder_is i u there holds ∙ sym (holder_is j w there' holds');
      claims = λ i k w c st. ⊎_elim
          (λ (t : (i ≡ id) × (taken ≡ w) × (get_elem? taken.claims k ≡ some c)).
          let from = caught_from k c t.2 in
          subst (λ (b : Claim E). IsClaim r.log b) (sym from.2) (record { later = []; whole = sym (append-nil r.log); others = All-nil _ }))
          (λ (t : (i ≢ id) × Stands s.views i k w c). r.claims i k w c t.1) (stands_set s.views id taken i k w c st);
      numbers = λ i k w c st. subst (λ (n : ℕ). c.number < n) (sym (length-set s.views id taken)) (⊎_elim
          (λ (t : (i ≡ id) × (taken ≡ w) × (get_elem? taken.claims k ≡ some c)).
          let from = caught_from k c t.2 in
          subst (λ (b : Claim E). b.number < length s.views) (sym from.2) (r.numbers id k v from.0 from.1))
          (λ (t : (i ≢ id) × Stands s.views i k w c). r.numbers i k w c t.1) (stands_set s.views id taken i k w c st));
      held = λ i k w c st holds. ⊎_elim
          (λ (t : (i ≡ id) × (taken ≡ w) × (get_elem? taken.claims k ≡ some c)). ap (λ (b : Claim E). b.seen) (caught_from k c t.2).2)
          (λ (t : (i ≢ id) × Stands s.views i k w c). r.held i k w c t.1 holds) (stands_set s.views id taken i k w c st);
      alone = still_alone s r (set s.views id taken) (λ i k w c st. ⊎_elim
          (λ (t : (i ≡ id) × (taken ≡ w) × (get_elem? taken.claims k ≡ some c)).
          let from = caught_from k c t.2 in
          record {
            view = v;
            claim = from.0;
            stood = subst (λ (n : ℕ). Stands s.views n k v from.0) (sym t.0) from.1;
            number = ap (λ (b : Claim E). b.number) from.2;
          })
          (λ (t : (i ≢ id) × Stands s.views i k w c). record { view = w; claim = c; stood = t.1; number = refl }) (stands_set s.views id taken i k w c st));
      numbered = subst (λ (n : ℕ). All (λ (e : ℕ × E). e.0 < n) r.log) (sym (length-set s.views id taken)) r.numbered;
    }

  -- The lock is asked for: where the word was 0 the seat has the value, and the word isn't 0 after.
  pub enters : (slots id : ℕ) (me : M) (f : ℕ → ℕ) → me.0.holds ≡ false → ((n : ℕ) → f n ≢ 0)
      → Allows Rule slots id me 0 f (Enters tells me)
  enters slots id me f out held s r len at below =
      let x : ℕ = f (get_or s.words 0 0) in
      let found : get_or s.words 0 0 ≡ r.word = ap (λ (ws : List ℕ). get_or ws 0 0) r.words in
      dite (ℕ_discrete r.word 0)
      (λ z.
      let home = r.free z in (
        record { holds = true; claims = caught_up r.log me.0.claims },
        takes 0 (Some home.0),
        ap (λ (hs : List (maybe.Option (Option S))). get_elem? hs 0) home.1,
        takes_home s r id x me.0 at z (held (get_or s.words 0 0)),
        record {
          free = λ _. record {
            log = r.log;
            value = home.0;
            told = home.2;
            claims = λ k c there. r.claims id k me.0 c (record { view = at; claim = there });
            apart = λ k m c d one other same.
                (r.alone id id k m me.0 me.0 c d (record { view = at; claim = one }) (record { view = at; claim = other }) same).1;
            after_is = refl;
          };
          taken = λ ne. absurd (ne (found ∙ z));
        },
      ))
      (λ ne. (
        me.0,
        keeps,
        tt,
        stays s r id x me.0 at ne (held (get_or s.words 0 0)),
        record { free = λ z. absurd (ne (sym found ∙ z)); taken = λ _. refl },
      ))

  -- The seat that has the value gives it back, with the new entries at the history's end.
  module _ (s : St) (r : Rule s) (id number : ℕ) (seen new : List (ℕ × E)) (y : S) (at : get_elem? s.views id ≡ some (seated true number seen))
      (told : tells (seen ++ new) y) (own : All (λ e. e.0 ≡ number) new) (one : length s.homes ≡ 1) where
    abbrev claim0 : Claim E
    claim0 = record { number = number; seen = seen }

    abbrev rested : V
    rested = seated false number (seen ++ new)

    stood : Stands s.views id 0 (seated true number seen) claim0
    stood = record { view = at; claim = refl }

    all_seen : seen ≡ r.log
    all_seen = r.held id 0 (seated true number seen) claim0 stood refl

    rested_is : (k : ℕ) (c : Claim E) → get_elem? rested.claims k ≡ some c → (k ≡ 0) × (record { number = number; seen = seen ++ new } ≡ c)
    rested_is k c there = one_place (record { number = number; seen = seen ++ new }) c k there

    none_has : (i : ℕ) (u : V) → get_elem? (set s.views id rested) i ≡ some u → u.holds ≡ false
    none_has i u there =
        ⊎_elim (λ (t : (i ≡ id) × (rested ≡ u)). sym (ap (λ (w : V). w.holds) t.1))
        (λ (t : (i ≢ id) × (get_elem? s.views i ≡ some u)).
        ⊎_elim (λ (h : u.holds ≡ true). absurd (t.0 (r.one i id u (seated true number seen) t.1 at h refl))) (λ (h : u.holds ≡ false). h) (cases_Bool u.holds))
        (at_set s.views id i rested u there)

    others_of : (i k : ℕ) (u : V) (c : Claim E) → i ≢ id → Stands s.views i k u c → All (λ e. e.0 ≢ c.number) new
    others_of i k u c other st =
        All-weaker (λ (e : ℕ × E). e.0 ≡ number) (λ (e : ℕ × E). e.0 ≢ c.number)
        (λ e is same. other (sym (r.alone id i 0 k (seated true number seen) u claim0 c stood st (sym is ∙ same)).0)) new own

    still_claims : (i k : ℕ) (u : V) (c : Claim E) → Stands (set s.views id rested) i k u c → IsClaim (r.log ++ new) c
    still_claims i k u c st =
        ⊎_elim
        (λ (t : (i ≡ id) × (rested ≡ u) × (get_elem? rested.claims k ≡ some c)).
        subst (λ (b : Claim E). IsClaim (r.log ++ new) b) (rested_is k c t.2).1
        (record { later = []; whole = ap (λ (l : List (ℕ × E)). l ++ new) (sym all_seen) ∙ sym (append-nil (seen ++ new)); others = All-nil _ }))
        (λ (t : (i ≢ id) × Stands s.views i k u c).
        let was = r.claims i k u c t.1 in
        record {
          later = was.later ++ new;
          whole = ap (λ (l : List (ℕ × E)). l ++ new) was.whole ∙ append_assoc c.seen was.later new;
          others = All-append (λ (e : ℕ × E). e.0 ≢ c.number) was.later new was.others (others_of i k u c t.0 t.1);
        })
        (stands_set s.views id rested i k u c st)

    gives_home : Rule (record { words = set s.words 0 0; homes = set s.homes 0 (some (Some y)); views = set s.views id rested })
    gives_home = record {
      word = 0;
      log = r.log ++ new;
      words = ap (λ (ws : List ℕ). set ws 0 0) r.words;
      free = λ _. (y, one_home s.homes (some (Some y)) one, subst (λ (l : List (ℕ × E)). tells (l ++ new) y) all_seen told);
      none = λ _ i u there. none_has i u there;
      one = λ i j u w there there' holds holds'. not_both u.holds holds (none_has i u there);
      claims = still_claims;
      numbers = λ i k u c st. subst (λ (n : ℕ). c.number < n) (sym (length-set s.views id rested)) (⊎_elim
          (λ (t : (i ≡ id) × (rested ≡ u) × (get_elem? rested.claims k ≡ some c)).
          subst (λ (b : Claim E). b.number < length s.views) (rested_is k c t.2).1 (r.numbers id 0 (seated true number seen) claim0 stood))
          (λ (t : (i ≢ id) × Stands s.views i k u c). r.numbers i k u c t.1) (stands_set s.views id rested i k u c st));
      held = λ i k u c st holds. not_both u.holds holds (none_has i u st.view);
      alone = still_alone s r (set s.views id rested) (λ i k u c st. ⊎_elim
          (λ (t : (i ≡ id) × (rested ≡ u) × (get_elem? rested.claims k ≡ some c)).
          let is = rested_is k c t.2 in
          record {
            view = seated true number seen;
            claim = claim0;
            stood = subst (λ (n : ℕ × ℕ). Stands s.views n.0 n.1 (seated true number seen) claim0) (λ j. (sym t.0 j, sym is.0 j)) stood;
            number = sym (ap (λ (b : Claim E). b.number) is.1);
          })
          (λ (t : (i ≢ id) × Stands s.views i k u c). record { view = u; claim = c; stood = t.1; number = refl }) (stands_set s.views id rested i k u c st));
      numbered = subst (λ (n : ℕ). All (λ (e : ℕ × E). e.0 < n) (r.log ++ new)) (sym (length-set s.views id rested))
          (All-append (λ (e : ℕ × E). e.0 < length s.views) r.log new r.numbered
          (All-weaker (λ (e : ℕ × E). e.0 ≡ number) (λ (e : ℕ × E). e.0 < length s.views)
          (λ e is. subst (λ (n : ℕ). n < length s.views) (sym is) (r.numbers id 0 (seated true number seen) claim0 stood)) new own));
    }

  module _ (news : S → List E) where
    abbrev claim_in : List (Claim E) → Claim E → Claim E
    claim_in [] d = d
    claim_in (c ∷ cs) d = c

    abbrev value_in : List (ℕ × Option S) → S → S
    value_in [] d = d
    value_in ((k, Some y) ∷ xs) d = y
    value_in ((k, None) ∷ xs) d = d

    abbrev left_by : (d : Claim E) (y : S) → M → M
    left_by d y me =
        let c = claim_in me.0.claims d in (seated false c.number (c.seen ++ by_seat c.number (news (value_in me.1 y))), [])

    leaves_at : (id number : ℕ) (seen : List (ℕ × E)) (y : S) → tells (seen ++ by_seat number (news y)) y
        → Allows Rule 1 id (seated true number seen, (0, Some y) ∷ []) 0 (λ _. 0) (λ _ after. Leaves news (seated true number seen, (0, Some y) ∷ []) after)
    leaves_at id number seen y told s r len at below =
        let new = by_seat number (news y) in
        let own : All (λ (e : ℕ × E). e.0 ≡ number) new = All-map (λ (e : ℕ × E). e.0 ≡ number) (λ (e : E). (number, e)) (news y) (for_each (λ (e : E). number ≡ number) (λ e. refl) (news y)) in (
          seated false number (seen ++ new),
          gives,
          tt,
          gives_home s r id number seen new y at told own len,
          λ number' seen' y' is. ap (left_by (record { number = number; seen = seen }) y) is,
        )

    pub leaves : (slots id : ℕ) (me : M) → slots ≡ 1 → IsToldLast tells news me → Allows Rule slots id me 0 (λ _. 0) (λ _ after. Leaves news me after)
    leaves slots id me one t =
        subst (λ (n : ℕ). Allows Rule n id me 0 (λ _. 0) (λ _ after. Leaves news me after)) (sym one)
        (subst (λ (m : M). Allows Rule 1 id m 0 (λ _. 0) (λ _ after. Leaves news m after)) (sym t.is) (leaves_at id t.number t.seen t.value t.told))

  -- A lock that was made of a value without a history, and its first seat, which knows nothing.
  pub opens : (y : S) → tells [] y → Rule (table.opening (0 ∷ []) (Some y ∷ []) nobody)
  opens y told =
      let bare : (i k : ℕ) (u : V) (c : Claim E) → Stands (nobody ∷ []) i k u c → ⊥ =
      λ i k u c st. some-ne-none c (sym (subst (λ (x : V). get_elem? x.claims k ≡ some c) (sym (one_place nobody u i st.view).1) st.claim)) in
      record {
        word = 0;
        log = [];
        words = refl;
        free = λ _. (y, refl, told);
        none = λ _ i u is. sym (ap (λ (x : V). x.holds) (one_place nobody u i is).1);
        one = λ i j u v is is' holds holds'. (one_place nobody u i is).0 ∙ sym (one_place nobody v j is').0;
        claims = λ i k u c st. absurd (bare i k u c st);
        numbers = λ i k u c st. absurd (bare i k u c st);
        held = λ i k u c st holds. absurd (bare i k u c st);
        alone = λ i j k m u v c d st st' same. absurd (bare i k u c st);
        numbered = All-nil _;
      }

  -- A seat comes, whose number is that of its place.
  pub comes : (slots : ℕ) → table.Enters Rule slots 0 (λ n w. (number : ℕ) × (w ≡ seated false number []))
  comes slots s r len below =
      let w : V = seated false (length s.views) [] in
      let c0 : Claim E = record { number = length s.views; seen = [] } in
      let longer : length (s.views ++ w ∷ []) ≡ length s.views + 1 = length-append s.views (w ∷ []) in
      let new_is : (k : ℕ) (c : Claim E) → get_elem? w.claims k ≡ some c → (k ≡ 0) × (c0 ≡ c) = λ k c there. one_place c0 c k there in (
        w,
        record {
          word = r.word;
          log = r.log;
          words = r.words;
          free = r.free;
          none = λ z i u there. ⊎_elim (λ (t : get_elem? s.views i ≡ some u). r.none z i u t)
              (λ (t : (i ≡ length s.views) × (w ≡ u)). sym (ap (λ (v : V). v.holds) t.1)) (snoc_place s.views w u i there);
          one = λ i j u v there there' holds holds'. ⊎_elim
              (λ (t : get_elem? s.views i ≡ some u). ⊎_elim (λ (t' : get_elem? s.views j ≡ some v). r.one i j u v t t' holds holds')
              (λ (t' : (j ≡ length s.views) × (w ≡ v)). not_both v.holds holds' (sym (ap (λ (x : V). x.holds) t'.1))) (snoc_place s.views w v j there'))
              (λ (t : (i ≡ length s.views) × (w ≡ u)). not_both u.holds holds (sym (ap (λ (x : V). x.holds) t.1))) (snoc_place s.views w u i there);
          claims = λ i k u c stand. ⊎_elim
              (λ (t : (i ≡ length s.views) × (w ≡ u) × (get_elem? w.claims k ≡ some c)).
              subst (λ (b : Claim E). IsClaim r.log b) (new_is k c t.2).1 (record {
                later = r.log;
                whole = refl;
                others = All-weaker (λ (e : ℕ × E). e.0 < length s.views) (λ (e : ℕ × E). e.0 ≢ length s.views) (λ e lt is. omega arith) r.log r.numbered;
              }))
              (λ (t : Stands s.views i k u c). r.claims i k u c t) (stands_snoc s.views w i k u c stand);
          numbers = λ i k u c stand. ⊎_elim
              (λ (t : (i ≡ length s.views) × (w ≡ u) × (get_elem? w.claims k ≡ some c)).
              let is : length s.views ≡ c.number = ap (λ (b : Claim E). b.number) (new_is k c t.2).1 in omega (arith, is, longer))
              (λ (t : Stands s.views i k u c). let lt : c.number < length s.views = r.numbers i k u c t in omega (arith, lt, longer)) (stands_snoc s.views w i k u c stand);
          held = λ i k u c stand holds. ⊎_elim
              (λ (t : (i ≡ length s.views) × (w ≡ u) × (get_elem? w.claims k ≡ some c)). not_both u.holds holds (sym (ap (λ (x : V). x.holds) t.1)))
              (λ (t : Stands s.views i k u c). r.held i k u c t holds) (stands_snoc s.views w i k u c stand);
          alone = λ i j k m u v c d stand stand' same. ⊎_elim
              (λ (t : (i ≡ length s.views) × (w ≡ u) × (get_elem? w.claims k ≡ some c)). ⊎_elim
              (λ (t' : (j ≡ length s.views) × (w ≡ v) × (get_elem? w.claims m ≡ some d)).
              (t.0 ∙ sym t'.0, (new_is k c t.2).0 ∙ sym (new_is m d t'.2).0))
              (λ (t' : Stands s.views j m v d).
              let is : length s.views ≡ c.number = ap (λ (b : Claim E). b.number) (new_is k c t.2).1 in
              let lt : d.number < length s.views = r.numbers j m v d t' in
              absurd (omega (arith, is, lt, same))) (stands_snoc s.views w j m v d stand'))
              (λ (t : Stands s.views i k u c). ⊎_elim
              (λ (t' : (j ≡ length s.views) × (w ≡ v) × (get_elem? w.claims m ≡ some d)).
              let is : length s.views ≡ d.number = ap (λ (b : Claim E). b.number) (new_is m d t'.2).1 in
              let lt : c.number < length s.views = r.numbers i k u c t in
              absurd (omega (arith, is, lt, same)))
              (λ (t' : Stands s.views j m v d). r.alone i j k m u v c d t t' same) (stands_snoc s.views w j m v d stand'))
              (stands_snoc s.views w i k u c stand);
          numbered = All-weaker (λ (e : ℕ × E). e.0 < length s.views) (λ (e : ℕ × E). e.0 < length (s.views ++ w ∷ []))
              (λ e lt. omega (arith, lt, longer)) r.log r.numbered;
        },
        (length s.views, refl),
      )

  -- Two seats become one, with the claims of both.
  module _ (s : St) (r : Rule s) (id other : ℕ) (v w : V) (at : get_elem? s.views id ≡ some v) (there : get_elem? s.views other ≡ some w)
      (apart : other ≢ id) (out : v.holds ≡ false) (out' : w.holds ≡ false) where
    abbrev joined : List V
    joined = set (set s.views id (united v w)) other nobody

    -- Where a claim comes to stand.
    abbrev moved : ℕ × ℕ → ℕ × ℕ
    moved n = cond (eqb n.0 other) (id, length v.claims + n.1) n

    record Came (i k : ℕ) (u : V) (c : Claim E) : Type 0 where
      seat : ℕ
      place : ℕ
      view : V
      stood : Stands s.views seat place view c
      now : (i, k) ≡ moved (seat, place)
      holds : u.holds ≡ true → view.holds ≡ true

    came : (i k : ℕ) (u : V) (c : Claim E) → Stands joined i k u c → Came i k u c
    came i k u c st =
        ⊎_elim
        (λ (t : (i ≡ other) × (nobody ≡ u) × (get_elem? {A = Claim E} [] k ≡ some c)). absurd (some-ne-none c (sym t.2)))
        (λ (t : (i ≢ other) × Stands (set s.views id (united v w)) i k u c). ⊎_elim
        (λ (t' : (i ≡ id) × (united v w ≡ u) × (get_elem? (united v w).claims k ≡ some c)).
        let free : u.holds ≡ false = sym (ap (λ (x : V). x.holds) t'.1) ∙ out in
        ⊎_elim
        (λ (mine : get_elem? v.claims k ≡ some c). record {
          seat = id;
          place = k;
          view = v;
          stood = record { view = at; claim = mine };
          now = (λ j. (t'.0 j, k)) ∙ sym (ap (λ (b : Bool). cond b (id, length v.claims + k) (id, k)) (ne_eqb id other (λ e. apart (sym e))));
          holds = λ h. not_both u.holds h free;
        })
        (λ (theirs : (m : ℕ) × (k ≡ length v.claims + m) × (get_elem? w.claims m ≡ some c)). record {
          seat = other;
          place = theirs.0;
          view = w;
          stood = record { view = there; claim = theirs.2 };
          now = (λ j. (t'.0 j, theirs.1 j)) ∙ sym (ap (λ (b : Bool). cond b (id, length v.claims + theirs.0) (other, theirs.0)) (eq-eqb other other refl));
          holds = λ h. not_both u.holds h free;
        })
        (append_place v.claims w.claims c k t'.2))
        (λ (t' : (i ≢ id) × Stands s.views i k u c). record {
          seat = i;
          place = k;
          view = u;
          stood = t'.1;
          now = sym (ap (λ (b : Bool). cond b (id, length v.claims + k) (i, k)) (ne_eqb i other t.0));
          holds = λ h. h;
        })
        (stands_set s.views id (united v w) i k u c t.1))
        (stands_set (set s.views id (united v w)) other nobody i k u c st)

    long : length joined ≡ length s.views
    long = length-set (set s.views id (united v w)) other nobody ∙ length-set s.views id (united v w)

    -- A seat that has the value is neither of the two.
    third : (i : ℕ) (u : V) → get_elem? joined i ≡ some u → u.holds ≡ true → get_elem? s.views i ≡ some u
    third i u is holds =
        ⊎_elim (λ (t : (i ≡ other) × (nobody ≡ u)). not_both u.holds holds (sym (ap (λ (x : V). x.holds) t.1)))
        (λ (t : (i ≢ other) × (get_elem? (set s.views id (united v w)) i ≡ some u)).
        ⊎_elim (λ (t' : (i ≡ id) × (united v w ≡ u)). not_both u.holds holds (sym (ap (λ (x : V). x.holds) t'.1) ∙ out))
        (λ (t' : (i ≢ id) × (get_elem? s.views i ≡ some u)). t'.1) (at_set s.views id i (united v w) u t.1))
        (at_set (set s.views id (united v w)) other i nobody u is)

    joins_at : Rule (record { words = s.words; homes = s.homes; views = joined })
    joins_at = record {
      word = r.word;
      log = r.log;
      words = r.words;
      free = r.free;
      none = λ z i u is. ⊎_elim (λ (h : u.holds ≡ true). not_both u.holds h (r.none z i u (third i u is h))) (λ (h : u.holds ≡ false). h) (cases_Bool u.holds);
      one = λ i j u x is is' holds holds'. r.one i j u x (third i u is holds) (third j x is' holds') holds holds';
      claims = λ i k u c st. let from = came i k u c st in r.claims from.seat from.place from.view c from.stood;
      numbers = λ i k u c st.
          let from = came i k u c st in
          subst (λ (n : ℕ). c.number < n) (sym long) (r.numbers from.seat from.place from.view c from.stood);
      held = λ i k u c st holds. let from = came i k u c st in r.held from.seat from.place from.view c from.stood (from.holds holds);
      alone = λ i j k m u x c d st st' same.
          let from = came i k u c st in
          let from' = came j m x d st' in
          let is = r.alone from.seat from'.seat from.place from'.place from.view from'.view c d from.stood from'.stood same in
          let both : (i, k) ≡ (j, m) = from.now ∙ (λ n. moved (is.0 n, is.1 n)) ∙ sym from'.now in
          (ap (λ (n : ℕ × ℕ). n.0) both, ap (λ (n : ℕ × ℕ). n.1) both);
      numbered = subst (λ (n : ℕ). All (λ (e : ℕ × E). e.0 < n) r.log) (sym long) r.numbered;
    }

  pub joins : (id : ℕ) (v : V) (other : ℕ) (w : V) → v.holds ≡ false → w.holds ≡ false → Joins Rule id v other w (united v w) nobody
  joins id v other w out out' s r at apart there =
      joins_at s r id other v w at (sym (set_else s.views id other (united v w) apart) ∙ there) apart out out'
