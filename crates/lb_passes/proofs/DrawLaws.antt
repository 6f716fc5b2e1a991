-- A caller draws a turn, and looks whether it has come.
use Rattle.std.proofs.Common.{◌≡◌, ◌≢◌, ℕ, ◌+◌, ◌<◌, ◌≤◌, ◌^◌, ◌%◌, Bool, true, false, List, [], ◌∷◌, ◌++◌, length, set, refl, sym, ap, ◌∙◌, subst, inl, inr, ⊎_elim, arith, length-append}
use Rattle.std.specs.Prelude.{slice_index}
use Rattle.std.proofs.Math.Nat.{mod-add-mod}
use mathlib.Core.Option.{Option, none, some, some-injective}
use native.Mathlib.Decide.{ℕ_discrete}
use lib.ListN.{get_elem?}
use Rattle.atomic_table.specs.Table.{Allows, State, keeps, step, stepped, takes}
use Rattle.atomic_table.proofs.Lists.{at_last, at_longer, one_turn, set_again}
use Rattle.lb_model.specs.declared.journal.Entry.{Entry}
use Rattle.lb_book.specs.Journal.{Journal}
use Rattle.lb_book.specs.Histories.{IsHistory}
use Rattle.lb_passes.specs.Plays.{Drew, Polled, Took, turn_of, turning}
use Rattle.lb_passes.specs.Turns.{Carries, IsBookOf, IsLive, IsPassTable, IsWaiting, Queue, SlotFits, TurnFits, ViewFits}
use Rattle.lb_passes.specs.declared.pass_view.Origin.{Origin}
use Rattle.lb_passes.specs.declared.pass_view.PassView.{PassView}
use Rattle.lb_passes.specs.declared.pass_view.Turn.{Turn}
use Rattle.lb_passes.specs.declared.pass_view.Turn.TheVariants.{Idle, Waits, Out, Spent}
use Rattle.lb_book.proofs.HistoryLaws.{begins_itself}
use Rattle.lb_passes.proofs.SeatLaws.{all_set, alone_set, at_end, at_within, carries_one, few_waiting, slot_free, slot_longer}

-- One place in the queue more, for another caller.
turn_longer : (q : Queue) (log : List Entry) (n : ℕ) (u : PassView) (t : Turn)
    → ((m : ℕ) (es : List Entry) → Carries u.owns m es → m ≡ n → ⊥) → TurnFits q log u t
    → TurnFits (record { out = q.out; served = q.served; waiting = q.waiting ++ n ∷ [] }) log u t
turn_longer q log n u Idle other fits = λ m k es carried at.
    ⊎_elim (λ (old : get_elem? q.waiting k ≡ some m). fits m k es carried old)
    (λ (new : (k ≡ length q.waiting) × (n ≡ m)). other m es carried (sym new.1))
    (at_end q.waiting n m k at)
turn_longer q log n u (Waits t) other fits = record {
  place = fits.place;
  turn = fits.turn;
  queued = at_longer q.waiting (n ∷ []) fits.place u.number fits.queued;
  home = fits.home;
  own = fits.own;
  carried = fits.carried;
}
turn_longer q log n u (Out t) other fits = record {
  turn = fits.turn;
  queued = at_longer q.waiting (n ∷ []) 0 u.number fits.queued;
  taken = fits.taken;
  all_seen = fits.all_seen;
  own = fits.own;
  carried = fits.carried;
}
turn_longer q log n u Spent other fits = fits

pub draws : (o : Origin) (slots id : ℕ) (v : PassView) (c : List (ℕ × Journal)) (es : List Entry) → v.turn ≡ Idle → v.owns ≡ (v.number, es) ∷ []
    → Allows (IsPassTable o) slots id (v, c) 0 (λ n. (n + 1) % 2 ^ 64) (Drew (step slots 0 1 0 none) (v, c))
draws o slots id v c es idle owns s h size at low =
    let q : Queue = h.queue in
    let n : ℕ = v.number in
    let t : ℕ = q.served + length q.waiting in
    let w : PassView = turning v (Waits t) v.seen v.owns in
    let q' : Queue = record { out = q.out; served = q.served; waiting = q.waiting ++ n ∷ [] } in
    let here : ViewFits o q h.given h.log v = h.fits id v at in
    let mine : Carries v.owns n es = subst (λ (xs : List (ℕ × List Entry)). Carries xs n es) (sym owns) (carries_one n es) in
    let not_queued : (k : ℕ) → get_elem? q.waiting k ≡ some n → ⊥ =
    λ k there. (let is_idle : TurnFits q h.log v Idle = subst (λ (x : Turn). TurnFits q h.log v x) idle here.turn in is_idle n k es mine there) in
    let longer : length (q.waiting ++ n ∷ []) ≡ length q.waiting + 1 = omega (arith, length-append q.waiting (n ∷ [])) in
    let alone_here : (j : ℕ) (u : PassView) → j ≢ id → get_elem? s.views j ≡ some u → (m : ℕ) (fs : List Entry) → Carries u.owns m fs → m ≡ n → ⊥ =
    λ j u other found m fs carried same.
    other (h.alone j id m u v fs es found at carried (subst (λ (k : ℕ). Carries v.owns k es) (sym same) mine)) in (
      w,
      keeps,
      tt,
      record {
        queue = q';
        given = h.given;
        log = h.log;
        words =
            ap (λ (ws : List ℕ). set ws 0 ((slice_index ws 0 + 1) % 2 ^ 64)) h.words
            ∙ ap (λ (k : ℕ). k ∷ (q.served % 2 ^ 64) ∷ (length h.log % 2 ^ 64) ∷ [])
            (mod-add-mod t (2 ^ 64) 1 ∙ ap (λ (k : ℕ). k % 2 ^ 64) (let sum : t + 1 ≡ q.served + length (q.waiting ++ n ∷ []) = omega (arith, longer) in sum));
        few = h.few;
        queued = λ k m there.
            ⊎_elim (λ (old : get_elem? q.waiting k ≡ some m). h.queued k m old)
            (λ (new : (k ≡ length q.waiting) × (n ≡ m)). subst (λ (x : ℕ). x < h.given) new.1 (here.owns n es mine).0)
            (at_end q.waiting n m k there);
        apart = λ j k m first second.
            elim (at_end q.waiting n m j first) [
              | inl old ↦
                  elim (at_end q.waiting n m k second) [
                    | inl older ↦ h.apart j k m old older
                    | inr new ↦ absurd (not_queued j (subst (λ (x : ℕ). get_elem? q.waiting j ≡ some x) (sym new.1) old))
                  ]
              | inr new ↦
                  elim (at_end q.waiting n m k second) [
                    | inl old ↦ absurd (not_queued k (subst (λ (x : ℕ). get_elem? q.waiting k ≡ some x) (sym new.1) old))
                    | inr newer ↦ new.0 ∙ sym newer.0
                  ]
            ];
        history = h.history;
        numbered = h.numbered;
        slot = slot_longer o q.waiting n h.log s.homes q.out h.slot;
        fits =
            all_set (λ (j : ℕ) (u : PassView). ViewFits o q' h.given h.log u) s.views id w
            (record {
              origin = λ live. here.origin (subst (λ (x : Turn). IsLive x) (sym idle) tt);
              seen = here.seen;
              met = here.met;
              owns = here.owns;
              root = here.root;
              turn = record {
                place = length q.waiting;
                turn = refl;
                queued = at_last q.waiting n (length q.waiting) refl;
                home = slot_free o q.waiting h.log s.homes q.out h.slot;
                own = es;
                carried = mine;
              };
            })
            (λ j u other found.
            let theirs : ViewFits o q h.given h.log u = h.fits j u found in
            record {
              origin = theirs.origin;
              seen = theirs.seen;
              met = theirs.met;
              owns = theirs.owns;
              root = theirs.root;
              turn = turn_longer q h.log n u u.turn (alone_here j u other found) theirs.turn;
            });
        alone = alone_set s.views id v w at (λ m fs carried. (fs, carried)) h.alone;
      },
      record { turn = t; word = ap (λ (ws : List ℕ). slice_index ws 0) h.words; is = refl },
    )

-- The Book was taken by another caller, which is the first of the queue.
turn_taken : (q : Queue) (log : List Entry) (n : ℕ) (u : PassView) (t : Turn) → get_elem? q.waiting 0 ≡ some n → (u.number ≡ n → (es : List Entry) → Carries u.owns u.number es → ⊥)
    → TurnFits q log u t → TurnFits (record { out = true; served = q.served; waiting = q.waiting }) log u t
turn_taken q log n u Idle first other fits = fits
turn_taken q log n u (Waits t) first other fits = record {
  place = fits.place;
  turn = fits.turn;
  queued = fits.queued;
  home = λ none.
      let same : u.number ≡ n = some-injective u.number n (sym (subst (λ (k : ℕ). get_elem? q.waiting k ≡ some u.number) none fits.queued) ∙ first) in
      absurd (other same fits.own fits.carried);
  own = fits.own;
  carried = fits.carried;
}
turn_taken q log n u (Out t) first other fits = record {
  turn = fits.turn;
  queued = fits.queued;
  taken = refl;
  all_seen = fits.all_seen;
  own = fits.own;
  carried = fits.carried;
}
turn_taken q log n u Spent first other fits = fits

slot_home : (o : Origin) (waiting : List ℕ) (log : List Entry) (homes : List (Option Journal)) (out : Bool) → out ≡ false → SlotFits o waiting log homes out
    → (b : Journal) × (homes ≡ some b ∷ []) × IsBookOf o log b
slot_home o waiting log homes true is fits = absurd cc
slot_home o waiting log homes false is fits = fits

-- A turn that has come: the Book is in its slot, and the caller takes it.
comes : (o : Origin) (slots id : ℕ) (v : PassView) (c : List (ℕ × Journal)) → v.turn ≡ Waits (turn_of v.turn)
    → (s : State Journal PassView) (h : IsPassTable o s) → get_elem? s.views id ≡ some v → slice_index s.words 1 ≡ turn_of v.turn % 2 ^ 64
    → (b : Journal) × (s.homes ≡ some b ∷ []) × IsPassTable o (stepped s 1 (slice_index s.words 1) id c (turning v (Out (turn_of v.turn)) h.log v.owns) (takes 0 b))
    × Took (v, c) (turn_of v.turn) (turning v (Out (turn_of v.turn)) h.log v.owns, (0, b) ∷ c)
comes o slots id v c waits s h at found =
    let q : Queue = h.queue in
    let t : ℕ = turn_of v.turn in
    let w : PassView = turning v (Out t) h.log v.owns in
    let q' : Queue = record { out = true; served = q.served; waiting = q.waiting } in
    let here : ViewFits o q h.given h.log v = h.fits id v at in
    let mine : IsWaiting q v t = subst (λ (x : Turn). TurnFits q h.log v x) waits here.turn in
    let few : length q.waiting ≤ h.given = few_waiting q.waiting h.given h.queued h.apart in
    let within : mine.place < length q.waiting = at_within q.waiting mine.place v.number mine.queued in
    let word : slice_index s.words 1 ≡ q.served % 2 ^ 64 = ap (λ (ws : List ℕ). slice_index ws 1) h.words in
    let served : q.served ≡ t =
    one_turn q.served t (2 ^ 64) (let sum : t ≡ q.served + mine.place = mine.turn in omega arith)
    (let sum : t ≡ q.served + mine.place = mine.turn in let most : h.given ≤ 64 = h.few in omega arith) (sym word ∙ found) in
    let first_place : mine.place ≡ 0 = let sum : t ≡ q.served + mine.place = mine.turn in omega arith in
    let first : get_elem? q.waiting 0 ≡ some v.number = subst (λ (k : ℕ). get_elem? q.waiting k ≡ some v.number) first_place mine.queued in
    let home = slot_home o q.waiting h.log s.homes q.out (mine.home first_place) h.slot in
    let live : v.origin ≡ o = here.origin (subst (λ (x : Turn). IsLive x) (sym waits) tt) in
    let away : set s.homes 0 none ≡ none ∷ [] = ap (λ (hs : List (Option Journal)). set hs 0 none) home.1 in (
      home.0,
      home.1,
      record {
        queue = q';
        given = h.given;
        log = h.log;
        words = ap (λ (ws : List ℕ). set ws 1 (slice_index ws 1)) h.words;
        few = h.few;
        queued = h.queued;
        apart = h.apart;
        history = h.history;
        numbered = h.numbered;
        slot = (away, omega arith);
        fits =
            all_set (λ (j : ℕ) (u : PassView). ViewFits o q' h.given h.log u) s.views id w
            (record {
              origin = λ is. live;
              seen = begins_itself h.log;
              met = here.met;
              owns = here.owns;
              root = here.root;
              turn = record { turn = sym served; queued = first; taken = refl; all_seen = refl; own = mine.own; carried = mine.carried };
            })
            (λ j u other there.
            let theirs : ViewFits o q h.given h.log u = h.fits j u there in
            record {
              origin = theirs.origin;
              seen = theirs.seen;
              met = theirs.met;
              owns = theirs.owns;
              root = theirs.root;
              turn =
                  turn_taken q h.log v.number u u.turn first
                  (λ same es carried.
                  other (h.alone j id v.number u v es mine.own there at (subst (λ (k : ℕ). Carries u.owns k es) same carried) mine.carried))
                  theirs.turn;
            });
        alone = alone_set s.views id v w at (λ m fs carried. (fs, carried)) h.alone;
      },
      record {
        log = h.log;
        book = home.0;
        is = refl;
        begins = here.seen;
        history = subst (λ (x : Origin). IsHistory x.opening h.log) (sym live) h.history;
        stands = subst (λ (x : Origin). IsBookOf x h.log home.0) (sym live) home.2;
        own = λ n es carried. (here.owns n es carried).1;
      },
    )

-- A look changes nothing.
pub unchanged : (o : Origin) (s : State Journal PassView) (i id : ℕ) (v : PassView) (c : List (ℕ × Journal)) → get_elem? s.views id ≡ some v
    → IsPassTable o s → (set s.words i (slice_index s.words i) ≡ s.words) → IsPassTable o (stepped s i (slice_index s.words i) id c v keeps)
unchanged o s i id v c at h same =
    subst (λ (ws : List ℕ). IsPassTable o (record { words = ws; homes = s.homes; views = set s.views id v })) (sym same)
    (subst (λ (vs : List PassView). IsPassTable o (record { words = s.words; homes = s.homes; views = vs })) (sym (set_again s.views id v at)) h)

pub polls : (o : Origin) (slots id : ℕ) (v : PassView) (c : List (ℕ × Journal)) → v.turn ≡ Waits (turn_of v.turn)
    → Allows (IsPassTable o) slots id (v, c) 1 (λ n. n) (Polled (step slots 1 0 0 none) (v, c))
polls o slots id v c waits s h size at low =
    elim (ℕ_discrete (slice_index s.words 1) (turn_of v.turn % 2 ^ 64)) [
      | yes found ↦
          let came = comes o slots id v c waits s h at found in (
            turning v (Out (turn_of v.turn)) h.log v.owns,
            takes 0 came.0,
            ap (λ (hs : List (Option Journal)). get_elem? hs 0) came.1,
            came.2,
            record { came = λ is. came.3; waits = λ not. absurd (not found) },
          )
      | no other ↦ (
        v,
        keeps,
        tt,
        unchanged o s 1 id v c at h (ap (λ (ws : List ℕ). set ws 1 (slice_index ws 1)) h.words ∙ sym h.words),
        record { came = λ is. absurd (other is); waits = λ not. refl },
      )
    ]
