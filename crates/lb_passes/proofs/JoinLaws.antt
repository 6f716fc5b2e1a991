-- Callers are split from one another and joined.
use Rattle.std.proofs.Common.{◌≡◌, ◌≢◌, ◌⊎◌, ℕ, zero, suc, ◌+◌, ◌<◌, true, List, [], ◌∷◌, ◌++◌, length, set, refl, sym, ap, ◌∙◌, subst, inl, inr, ⊎_elim, arith}
use Rattle.std.specs.Prelude.{slice_index}
use mathlib.Core.Option.{none, some}
use lib.ListN.{get_elem?}
use Rattle.atomic_table.specs.Table.{Allows, Joins, Splits, keeps, step}
use Rattle.atomic_table.proofs.Lists.{at_longer, at_set, set_again}
use Rattle.lb_model.specs.declared.journal.Entry.{Entry}
use Rattle.lb_book.specs.Journal.{Journal}
use Rattle.lb_book.specs.Histories.{BeginsWith}
use Rattle.lb_passes.specs.Plays.{PutTogether, giver_after, joined, next_caller, noted, spent, turning}
use Rattle.lb_passes.specs.Turns.{Carries, IsLive, IsPassTable, Queue, TurnFits, ViewFits}
use Rattle.lb_passes.specs.declared.pass_view.Origin.{Origin}
use Rattle.lb_passes.specs.declared.pass_view.PassView.{PassView}
use Rattle.lb_passes.specs.declared.pass_view.Turn.{Turn}
use Rattle.lb_passes.specs.declared.pass_view.Turn.TheVariants.{Idle, Waits, Out, Spent}
use Rattle.lb_book.proofs.HistoryLaws.{begins_itself}
use Rattle.lb_passes.proofs.SeatLaws.{AreAlone, all_set, alone_set, at_end, none_carried, one_carried}

-- A fact of each view after another came.
all_more : (P : ℕ → PassView → Type 0) (views : List PassView) (x : PassView) → P (length views) x
    → ((j : ℕ) (u : PassView) → get_elem? views j ≡ some u → P j u) → (j : ℕ) (u : PassView) → get_elem? (views ++ x ∷ []) j ≡ some u → P j u
all_more P views x new old j u at =
    ⊎_elim (λ (was : get_elem? views j ≡ some u). old j u was)
    (λ (is : (j ≡ length views) × (x ≡ u)). subst (λ (y : PassView). P j y) is.1 (subst (λ (k : ℕ). P k x) (sym is.0) new))
    (at_end views x u j at)

-- A new view carries numbers that no other does.
alone_more : (views : List PassView) (x : PassView) → AreAlone views
    → ((j n : ℕ) (u : PassView) (es fs : List Entry) → get_elem? views j ≡ some u → Carries u.owns n es → Carries x.owns n fs → ⊥)
    → AreAlone (views ++ x ∷ [])
alone_more views x alone new i j n u v es fs here there mine theirs =
    elim (at_end views x u i here) [
      | inl old ↦
          elim (at_end views x v j there) [
            | inl older ↦ alone i j n u v es fs old older mine theirs
            | inr is ↦ absurd (new i n u es fs old mine (subst (λ (y : PassView). Carries y.owns n fs) (sym is.1) theirs))
          ]
      | inr is ↦
          elim (at_end views x v j there) [
            | inl old ↦ absurd (new j n v fs es old theirs (subst (λ (y : PassView). Carries y.owns n es) (sym is.1) mine))
            | inr too ↦ is.0 ∙ sym too.0
          ]
    ]

-- The view that gives the numbers gives the next one to a new caller.
pub splits : (o : Origin) (id : ℕ) (v : PassView) → v.turn ≡ Idle → v.roots ≡ true → v.given < 64
    → Splits (IsPassTable o) id v (giver_after v) (next_caller v)
splits o id v idle roots few s h at =
    let q : Queue = h.queue in
    let here : ViewFits o q h.given h.log v = h.fits id v at in
    let root = here.root roots in
    let is_idle : TurnFits q h.log v Idle = subst (λ (x : Turn). TurnFits q h.log v x) idle here.turn in
    let live : v.origin ≡ o = here.origin (subst (λ (x : Turn). IsLive x) (sym idle) tt) in
    let new_one : (m : ℕ) (fs : List Entry) → Carries (next_caller v).owns m fs → (m ≡ v.given) × (fs ≡ []) = λ m fs carried. one_carried v.given m [] fs carried in
    record {
      queue = q;
      given = h.given + 1;
      log = h.log;
      words = h.words;
      few = let same : v.given ≡ h.given = root.0 in omega arith;
      queued = λ k m there. let lt : m < h.given = h.queued k m there in omega arith;
      apart = h.apart;
      history = h.history;
      numbered = λ m above. h.numbered m (omega arith);
      slot = h.slot;
      fits =
          all_more (λ (j : ℕ) (u : PassView). ViewFits o q (h.given + 1) h.log u) (set s.views id (giver_after v)) (next_caller v)
          (record {
            origin = λ is. live;
            seen = here.seen;
            met = record { rest = h.log; is = refl };
            owns = λ m fs carried.
                let is = new_one m fs carried in
                let same : m ≡ h.given = is.0 ∙ root.0 in
                (omega arith, is.1 ∙ sym (h.numbered m (omega arith)));
            root = λ no. absurd cc;
            turn = λ m k fs carried there.
                let same : m ≡ h.given = (new_one m fs carried).0 ∙ root.0 in
                let lt : m < h.given = h.queued k m there in
                absurd (omega arith);
          })
          (all_set (λ (j : ℕ) (u : PassView). ViewFits o q (h.given + 1) h.log u) s.views id (giver_after v)
          (record {
            origin = here.origin;
            seen = here.seen;
            met = here.met;
            owns = λ m fs carried. let was = here.owns m fs carried in (let lt : m < h.given = was.0 in omega arith, was.1);
            root = λ is. (ap (λ (x : ℕ). x + 1) root.0, root.1, root.2);
            turn = subst (λ (x : Turn). TurnFits q h.log (giver_after v) x) (sym idle) is_idle;
          })
          (λ j u other found.
          let theirs : ViewFits o q h.given h.log u = h.fits j u found in
          record {
            origin = theirs.origin;
            seen = theirs.seen;
            met = theirs.met;
            owns = λ m fs carried. let was = theirs.owns m fs carried in (let lt : m < h.given = was.0 in omega arith, was.1);
            root = λ too. let rival = theirs.root too in absurd (other (h.alone j id 0 u v rival.1 root.1 found at rival.2 root.2));
            turn = theirs.turn;
          }));
      alone =
          alone_more (set s.views id (giver_after v)) (next_caller v)
          (alone_set s.views id v (giver_after v) at (λ m fs carried. (fs, carried)) h.alone)
          (λ j m u es fs found mine theirs.
          all_set (λ (k : ℕ) (x : PassView). Carries x.owns m es → ⊥) s.views id (giver_after v)
          (λ (c : Carries v.owns m es).
          let lt : m < h.given = (here.owns m es c).0 in let same : m ≡ h.given = (new_one m fs theirs).0 ∙ root.0 in omega arith)
          (λ k x other there (c : Carries x.owns m es).
          let lt : m < h.given = ((h.fits k x there).owns m es c).0 in let same : m ≡ h.given = (new_one m fs theirs).0 ∙ root.0 in omega arith)
          j u found mine);
    }

-- A note copies what was seen.
pub notes : (o : Origin) (id : ℕ) (v : PassView) → v.turn ≡ Idle → Splits (IsPassTable o) id v v (noted v)
notes o id v idle s h at =
    let q : Queue = h.queue in
    let here : ViewFits o q h.given h.log v = h.fits id v at in
    let live : v.origin ≡ o = here.origin (subst (λ (x : Turn). IsLive x) (sym idle) tt) in
    let with_note : IsPassTable o (record { words = s.words; homes = s.homes; views = s.views ++ noted v ∷ [] }) =
    record {
      queue = q;
      given = h.given;
      log = h.log;
      words = h.words;
      few = h.few;
      queued = h.queued;
      apart = h.apart;
      history = h.history;
      numbered = h.numbered;
      slot = h.slot;
      fits =
          all_more (λ (j : ℕ) (u : PassView). ViewFits o q h.given h.log u) s.views (noted v)
          (record {
            origin = λ is. live;
            seen = here.seen;
            met = record { rest = h.log; is = refl };
            owns = λ m fs carried. none_carried m fs carried;
            root = λ no. absurd cc;
            turn = λ m k fs carried there. none_carried m fs carried;
          })
          h.fits;
      alone = alone_more s.views (noted v) h.alone (λ j m u es fs found mine theirs. none_carried m fs theirs);
    } in
    subst (λ (vs : List PassView). IsPassTable o (record { words = s.words; homes = s.homes; views = vs ++ noted v ∷ [] })) (sym (set_again s.views id v at)) with_note

-- A number that is carried by two lists together is carried by one of them.
carried_by : (xs ys : List (ℕ × List Entry)) (n : ℕ) (es : List Entry) → Carries (xs ++ ys) n es → Carries xs n es ⊎ Carries ys n es
carried_by xs ys n es c = in_either xs ys c.place c.found
  where
    in_either : (xs ys : List (ℕ × List Entry)) (k : ℕ) → get_elem? (xs ++ ys) k ≡ some (n, es) → Carries xs n es ⊎ Carries ys n es
    in_either [] ys k found = inr (record { place = k; found = found })
    in_either (x ∷ xs) ys zero found = inl (record { place = 0; found = found })
    in_either (x ∷ xs) ys (suc k) found =
        ⊎_elim (λ (c : Carries xs n es). inl (record { place = suc c.place; found = c.found })) (λ (c : Carries ys n es). inr c) (in_either xs ys k found)

-- Where the number of a view after the join was carried before.
record Came (views : List PassView) (id other j n : ℕ) : Type 0 where
  place : ℕ
  view : PassView
  own : List Entry
  at : get_elem? views place ≡ some view
  carried : Carries view.owns n own
  is : ((j ≡ place) × (place ≢ other)) ⊎ ((j ≡ id) × (place ≡ other))

came : (views : List PassView) (id : ℕ) (v : PassView) (other : ℕ) (w : PassView) → get_elem? views id ≡ some v → get_elem? views other ≡ some w
    → ¬ (other ≡ id) → (j n : ℕ) (u : PassView) (es : List Entry) → get_elem? (set (set views id (joined v w)) other spent) j ≡ some u → Carries u.owns n es
    → Came views id other j n
came views id v other w at found apart j n u es there carried =
    all_set (λ (k : ℕ) (x : PassView). Carries x.owns n es → Came views id other k n) (set views id (joined v w)) other spent
    (λ (c : Carries [] n es). none_carried n es c)
    (λ k x not_other there'.
    all_set (λ (i : ℕ) (y : PassView). i ≢ other → Carries y.owns n es → Came views id other i n) views id (joined v w)
    (λ not_it (c : Carries (v.owns ++ w.owns) n es).
    ⊎_elim
    (λ (mine : Carries v.owns n es). record { place = id; view = v; own = es; at = at; carried = mine; is = inl (refl, not_it) })
    (λ (its : Carries w.owns n es). record { place = other; view = w; own = es; at = found; carried = its; is = inr (refl, refl) })
    (carried_by v.owns w.owns n es c))
    (λ i y not_id there'' not_it (c : Carries y.owns n es).
    record { place = i; view = y; own = es; at = there''; carried = c; is = inl (refl, not_it) })
    k x there' not_other)
    j u there carried

joined_alone : (views : List PassView) (id : ℕ) (v : PassView) (other : ℕ) (w : PassView) → get_elem? views id ≡ some v → get_elem? views other ≡ some w
    → ¬ (other ≡ id) → AreAlone views → AreAlone (set (set views id (joined v w)) other spent)
joined_alone views id v other w at found apart alone i j n u x es fs here there mine theirs =
    let first = came views id v other w at found apart i n u es here mine in
    let second = came views id v other w at found apart j n x fs there theirs in
    let same : first.place ≡ second.place = alone first.place second.place n first.view second.view first.own second.own first.at second.at first.carried second.carried in
    elim first.is [
      | inl stays ↦
          elim second.is [
            | inl too ↦ stays.0 ∙ same ∙ sym too.0
            | inr moved ↦ absurd (stays.1 (same ∙ moved.1))
          ]
      | inr moved ↦
          elim second.is [
            | inl stays ↦ absurd (stays.1 (sym same ∙ moved.1))
            | inr too ↦ moved.0 ∙ sym too.0
          ]
    ]

-- Both are idle: the joined view carries what both did, and was told what the other saw.
pub joins : (o : Origin) (id : ℕ) (v : PassView) (other : ℕ) (w : PassView) → v.turn ≡ Idle → w.turn ≡ Idle
    → Joins (IsPassTable o) id v other w (joined v w) spent
joins o id v other w idle idle' s h at apart there =
    let q : Queue = h.queue in
    let b : PassView = joined v w in
    let here : ViewFits o q h.given h.log v = h.fits id v at in
    let found : get_elem? s.views other ≡ some w =
    ⊎_elim (λ (same : (other ≡ id) × (b ≡ w)). absurd (apart same.0)) (λ (else : (other ≢ id) × (get_elem? s.views other ≡ some w)). else.1)
    (at_set s.views id other b w there) in
    let its : ViewFits o q h.given h.log w = h.fits other w found in
    let is_idle : TurnFits q h.log v Idle = subst (λ (x : Turn). TurnFits q h.log v x) idle here.turn in
    let its_idle : TurnFits q h.log w Idle = subst (λ (x : Turn). TurnFits q h.log w x) idle' its.turn in
    let fits_set : (j : ℕ) (u : PassView) → get_elem? (set s.views id b) j ≡ some u → ViewFits o q h.given h.log u =
    all_set (λ (j : ℕ) (u : PassView). ViewFits o q h.given h.log u) s.views id b
    (record {
      origin = here.origin;
      seen = here.seen;
      met = its.seen;
      owns = λ m fs carried.
          ⊎_elim (λ (c : Carries v.owns m fs). here.owns m fs c) (λ (c : Carries w.owns m fs). its.owns m fs c) (carried_by v.owns w.owns m fs carried);
      root = λ roots.
          let was = here.root roots in
          (was.0, was.1, record { place = was.2.place; found = at_longer v.owns w.owns was.2.place (0, was.1) was.2.found });
      turn =
          subst (λ (x : Turn). TurnFits q h.log b x) (sym idle)
          (λ m k fs carried queued.
          ⊎_elim (λ (c : Carries v.owns m fs). is_idle m k fs c queued) (λ (c : Carries w.owns m fs). its_idle m k fs c queued)
          (carried_by v.owns w.owns m fs carried));
    })
    (λ j u other' there'. h.fits j u there') in
    record {
      queue = q;
      given = h.given;
      log = h.log;
      words = h.words;
      few = h.few;
      queued = h.queued;
      apart = h.apart;
      history = h.history;
      numbered = h.numbered;
      slot = h.slot;
      fits =
          all_set (λ (j : ℕ) (u : PassView). ViewFits o q h.given h.log u) (set s.views id b) other spent
          (record {
            origin = λ live. absurd live;
            seen = record { rest = h.log; is = refl };
            met = record { rest = h.log; is = refl };
            owns = λ m fs carried. none_carried m fs carried;
            root = λ no. absurd cc;
            turn = λ m fs carried. none_carried m fs carried;
          })
          (λ j u other' there'. fits_set j u there');
      alone = joined_alone s.views id v other w at found apart h.alone;
    }

-- Of two beginnings of one history one begins with the other.
one_begins : (h a b ra rb : List Entry) → h ≡ a ++ ra → h ≡ b ++ rb → BeginsWith a b ⊎ BeginsWith b a
one_begins h [] b ra rb first second = inr (record { rest = b; is = refl })
one_begins h (x ∷ a) [] ra rb first second = inl (record { rest = x ∷ a; is = refl })
one_begins [] (x ∷ a) (y ∷ b) ra rb first second = absurd cc
one_begins (z ∷ h) (x ∷ a) (y ∷ b) ra rb first second =
    let head : y ≡ x = cc in
    let tail : h ≡ a ++ ra = cc in
    let tail' : h ≡ b ++ rb = cc in
    ⊎_elim
    (λ (c : BeginsWith a b). inl (record { rest = c.rest; is = ap (λ (xs : List Entry). x ∷ xs) c.is ∙ ap (λ (e : Entry). e ∷ (b ++ c.rest)) (sym head) }))
    (λ (c : BeginsWith b a). inr (record { rest = c.rest; is = ap (λ (xs : List Entry). y ∷ xs) c.is ∙ ap (λ (e : Entry). e ∷ (a ++ c.rest)) head }))
    (one_begins h a b ra rb tail tail')

-- The longer of what a caller has seen and what it was told.
record Longer (h a b : List Entry) : Type 0 where
  all : List Entry
  within : BeginsWith h all
  first : BeginsWith all a
  second : BeginsWith all b
  one : (all ≡ a) ⊎ (all ≡ b)

longer_of : (h a b : List Entry) → BeginsWith h a → BeginsWith h b → Longer h a b
longer_of h a b first second =
    ⊎_elim
    (λ (c : BeginsWith a b). record { all = a; within = first; first = begins_itself a; second = c; one = inl refl })
    (λ (c : BeginsWith b a). record { all = b; within = second; first = c; second = begins_itself b; one = inr refl })
    (one_begins h a b first.rest second.rest first.is second.is)

turn_idle : (q : Queue) (log : List Entry) (v w : PassView) (t : Turn) → t ≡ Idle → w.owns ≡ v.owns → TurnFits q log v t → TurnFits q log w t
turn_idle q log v w Idle idle same fits = λ n k es carried there. fits n k es (subst (λ (xs : List (ℕ × List Entry)). Carries xs n es) same carried) there
turn_idle q log v w (Waits t) idle same fits = absurd cc
turn_idle q log v w (Out t) idle same fits = absurd cc
turn_idle q log v w Spent idle same fits = absurd cc

pub puts_together : (o : Origin) (slots id : ℕ) (v : PassView) (c : List (ℕ × Journal)) → v.turn ≡ Idle
    → Allows (IsPassTable o) slots id (v, c) 0 (λ n. n) (PutTogether (step slots 0 0 0 none) (v, c))
puts_together o slots id v c idle s h size at low =
    let q : Queue = h.queue in
    let here : ViewFits o q h.given h.log v = h.fits id v at in
    let l : Longer h.log v.seen v.met = longer_of h.log v.seen v.met here.seen here.met in
    let w : PassView = turning v v.turn l.all v.owns in (
      w,
      keeps,
      tt,
      record {
        queue = q;
        given = h.given;
        log = h.log;
        words = ap (λ (ws : List ℕ). set ws 0 (slice_index ws 0)) h.words;
        few = h.few;
        queued = h.queued;
        apart = h.apart;
        history = h.history;
        numbered = h.numbered;
        slot = h.slot;
        fits =
            all_set (λ (j : ℕ) (u : PassView). ViewFits o q h.given h.log u) s.views id w
            (record {
              origin = here.origin;
              seen = l.within;
              met = here.met;
              owns = here.owns;
              root = here.root;
              turn = turn_idle q h.log v w v.turn idle refl here.turn;
            })
            (λ j u other found. h.fits j u found);
        alone = alone_set s.views id v w at (λ m fs carried. (fs, carried)) h.alone;
      },
      record { all = l.all; is = refl; own = l.first; told = l.second; one = l.one },
    )
