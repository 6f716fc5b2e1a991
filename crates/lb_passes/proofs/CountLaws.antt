-- A caller that has the Book tells its new entries, gives the Book back and ends its turn.
use Rattle.std.proofs.Common.{◌≡◌, ◌≢◌, ℕ, zero, suc, ◌+◌, ◌<◌, ◌^◌, ◌%◌, Bool, true, false, List, [], ◌∷◌, ◌++◌, length, drop, set, refl, sym, ap, ◌∙◌, subst, arith, length-append, length-drop}
use Rattle.std.specs.Prelude.{slice_index}
use Rattle.std.proofs.Math.Nat.{mod-add-mod}
use mathlib.Core.Option.{Option, none, some, some-injective}
use lib.ListN.{get_elem?}
use Rattle.atomic_table.specs.Table.{Allows, gives, keeps, step}
use Rattle.lb_model.specs.declared.journal.Entry.{Entry}
use Rattle.lb_book.specs.Journal.{Journal}
use Rattle.lb_book.specs.Histories.{AreOf, BeginsWith, IsHistory, own_of}
use Rattle.lb_passes.specs.Plays.{Counted, Left, grown_owns, last_in, turn_of, turning}
use Rattle.lb_passes.specs.Turns.{Carries, IsBookOf, IsLive, IsPassTable, HasTurn, IsWaiting, Queue, SlotFits, TurnFits, ViewFits}
use Rattle.lb_passes.specs.declared.pass_view.Origin.{Origin}
use Rattle.lb_passes.specs.declared.pass_view.PassView.{PassView}
use Rattle.lb_passes.specs.declared.pass_view.Turn.{Turn}
use Rattle.lb_passes.specs.declared.pass_view.Turn.TheVariants.{Idle, Waits, Out, Spent}
use Rattle.lb_book.proofs.HistoryLaws.{begins_itself, begins_more, begins_twice}
use Rattle.lb_book.proofs.OwnLaws.{own-kept, own-more}
use Rattle.lb_passes.proofs.SeatLaws.{all_set, alone_set, at_dropped, at_within, carries_one, dropped_at, one_carried, slot_out}

-- The history grew by entries of the first caller of the queue; another one isn't it.
turn_counted : (q : Queue) (log more : List Entry) (n : ℕ) (u : PassView) (t : Turn) → get_elem? q.waiting 0 ≡ some n
    → (u.number ≡ n → (es : List Entry) → Carries u.owns u.number es → ⊥) → TurnFits q log u t → TurnFits q more u t
turn_counted q log more n u Idle first other fits = fits
turn_counted q log more n u (Waits t) first other fits = fits
turn_counted q log more n u (Out t) first other fits =
    absurd (other (some-injective u.number n (sym fits.queued ∙ first)) fits.own fits.carried)
turn_counted q log more n u Spent first other fits = fits

pub counts : (o : Origin) (slots id : ℕ) (v : PassView) (c : List (ℕ × Journal)) (es : List Entry) (k : ℕ) → v.turn ≡ Out (turn_of v.turn)
    → v.owns ≡ (v.number, es) ∷ [] → length (last_in k c) ≡ k → AreOf v.number (last_in k c) → IsHistory v.origin.opening (v.seen ++ last_in k c)
    → Allows (IsPassTable o) slots id (v, c) 2 (λ n. (n + k) % 2 ^ 64) (Counted (step slots 2 k 0 none) (v, c))
counts o slots id v c es k is_out owns many are history s h size at low =
    let q : Queue = h.queue in
    let n : ℕ = v.number in
    let t : ℕ = turn_of v.turn in
    let new : List Entry = last_in k c in
    let w : PassView = turning v v.turn (v.seen ++ new) (grown_owns new v.owns) in
    let log : List Entry = h.log ++ new in
    let here : ViewFits o q h.given h.log v = h.fits id v at in
    let mine : HasTurn q h.log v t = subst (λ (x : Turn). TurnFits q h.log v x) is_out here.turn in
    let carries : Carries v.owns n es = subst (λ (xs : List (ℕ × List Entry)). Carries xs n es) (sym owns) (carries_one n es) in
    let live : v.origin ≡ o = here.origin (subst (λ (x : Turn). IsLive x) (sym is_out) tt) in
    let grown : grown_owns new v.owns ≡ (n, es ++ new) ∷ [] = ap (λ (xs : List (ℕ × List Entry)). grown_owns new xs) owns in
    let carries_more : Carries (grown_owns new v.owns) n (es ++ new) = subst (λ (xs : List (ℕ × List Entry)). Carries xs n (es ++ new)) (sym grown) (carries_one n (es ++ new)) in
    let one : (m : ℕ) (fs : List Entry) → Carries (grown_owns new v.owns) m fs → (m ≡ n) × (fs ≡ es ++ new) =
    λ m fs carried. one_carried n m (es ++ new) fs (subst (λ (xs : List (ℕ × List Entry)). Carries xs m fs) grown carried) in
    let own_here : own_of n log ≡ es ++ new = own-more n h.log new are ∙ ap (λ (xs : List Entry). xs ++ new) (sym (here.owns n es carries).1) in
    let alone_here : (j m : ℕ) (u : PassView) → j ≢ id → get_elem? s.views j ≡ some u → (fs : List Entry) → Carries u.owns m fs → m ≡ n → ⊥ =
    λ j m u other found fs carried same.
    other (h.alone j id m u v fs es found at carried (subst (λ (x : ℕ). Carries v.owns x es) (sym same) carries)) in
    let seen_same : v.seen ++ new ≡ log = ap (λ (xs : List Entry). xs ++ new) mine.all_seen in (
      w,
      keeps,
      tt,
      record {
        queue = q;
        given = h.given;
        log = log;
        words =
            ap (λ (ws : List ℕ). set ws 2 ((slice_index ws 2 + k) % 2 ^ 64)) h.words
            ∙ ap (λ (x : ℕ). ((q.served + length q.waiting) % 2 ^ 64) ∷ (q.served % 2 ^ 64) ∷ x ∷ [])
            (mod-add-mod (length h.log) (2 ^ 64) k ∙ ap (λ (x : ℕ). x % 2 ^ 64) (ap (λ (x : ℕ). length h.log + x) (sym many) ∙ sym (length-append h.log new)));
        few = h.few;
        queued = h.queued;
        apart = h.apart;
        history = subst (λ (x : Origin). IsHistory x.opening log) live (subst (λ (xs : List Entry). IsHistory v.origin.opening xs) seen_same history);
        numbered = λ m above.
            let lt : n < h.given = (here.owns n es carries).0 in
            own-kept n m h.log new are (λ same. absurd (omega arith)) ∙ h.numbered m above;
        slot = slot_out o q.waiting h.log log s.homes q.out mine.taken h.slot;
        fits =
            all_set (λ (j : ℕ) (u : PassView). ViewFits o q h.given log u) s.views id w
            (record {
              origin = λ is. live;
              seen = subst (λ (xs : List Entry). BeginsWith log xs) (sym seen_same) (begins_itself log);
              met = begins_twice log h.log v.met (begins_more h.log new) here.met;
              owns = λ m fs carried.
                  let is = one m fs carried in
                  (subst (λ (x : ℕ). x < h.given) (sym is.0) (here.owns n es carries).0, is.1 ∙ sym own_here ∙ ap (λ (x : ℕ). own_of x log) (sym is.0));
              root = λ roots.
                  let was = here.root roots in
                  let zero_is : 0 ≡ n = (one_carried n 0 es was.1 (subst (λ (xs : List (ℕ × List Entry)). Carries xs 0 was.1) owns was.2)).0 in
                  (was.0, es ++ new, subst (λ (x : ℕ). Carries (grown_owns new v.owns) x (es ++ new)) (sym zero_is) carries_more);
              turn =
                  subst (λ (x : Turn). TurnFits q log w x) (sym is_out)
                  (record { turn = mine.turn; queued = mine.queued; taken = mine.taken; all_seen = seen_same; own = es ++ new; carried = carries_more });
            })
            (λ j u other found.
            let theirs : ViewFits o q h.given h.log u = h.fits j u found in
            record {
              origin = theirs.origin;
              seen = begins_twice log h.log u.seen (begins_more h.log new) theirs.seen;
              met = begins_twice log h.log u.met (begins_more h.log new) theirs.met;
              owns = λ m fs carried.
                  let was = theirs.owns m fs carried in
                  (was.0, was.1 ∙ sym (own-kept n m h.log new are (λ same. alone_here j m u other found fs carried same)));
              root = theirs.root;
              turn =
                  turn_counted q h.log log n u u.turn mine.queued (λ same fs carried. alone_here j u.number u other found fs carried same)
                  theirs.turn;
            });
        alone =
            alone_set s.views id v w at
            (λ m fs carried. (es, subst (λ (x : ℕ). Carries v.owns x es) (sym (one m fs carried).0) carries)) h.alone;
      },
      refl,
    )

-- The first caller left the queue: every other one is a place nearer.
turn_left : (q : Queue) (log : List Entry) (n : ℕ) (u : PassView) (t : Turn) → get_elem? q.waiting 0 ≡ some n
    → (u.number ≡ n → (es : List Entry) → Carries u.owns u.number es → ⊥) → TurnFits q log u t
    → TurnFits (record { out = false; served = q.served + 1; waiting = drop 1 q.waiting }) log u t
turn_left q log n u Idle first other fits = λ m k es carried at. fits m (suc k) es carried (at_dropped q.waiting k m at)
turn_left q log n u (Waits t) first other fits = nearer fits.place fits.turn fits.queued
  where
    nearer : (place : ℕ) → t ≡ q.served + place → get_elem? q.waiting place ≡ some u.number
        → IsWaiting (record { out = false; served = q.served + 1; waiting = drop 1 q.waiting }) u t
    nearer zero turn queued = absurd (other (some-injective u.number n (sym queued ∙ first)) fits.own fits.carried)
    nearer (suc place) turn queued = record {
      place = place;
      turn = let sum : t ≡ q.served + suc place = turn in omega arith;
      queued = dropped_at q.waiting place u.number queued;
      home = λ none. refl;
      own = fits.own;
      carried = fits.carried;
    }
turn_left q log n u (Out t) first other fits =
    absurd (other (some-injective u.number n (sym fits.queued ∙ first)) fits.own fits.carried)
turn_left q log n u Spent first other fits = fits

slot_away : (o : Origin) (waiting : List ℕ) (log : List Entry) (homes : List (Option Journal)) (out : Bool) → out ≡ true → SlotFits o waiting log homes out
    → homes ≡ none ∷ []
slot_away o waiting log homes true is fits = fits.0
slot_away o waiting log homes false is fits = absurd cc

pub leaves : (o : Origin) (slots id : ℕ) (v : PassView) (b : Journal) (c : List (ℕ × Journal)) (es : List Entry) → v.turn ≡ Out (turn_of v.turn)
    → v.owns ≡ (v.number, es) ∷ [] → IsBookOf v.origin v.seen b
    → Allows (IsPassTable o) slots id (v, (0, b) ∷ c) 1 (λ n. (n + 1) % 2 ^ 64) (Left (step slots 1 1 0 none) (v, (0, b) ∷ c))
leaves o slots id v b c es is_out owns stands s h size at low =
    let q : Queue = h.queue in
    let n : ℕ = v.number in
    let t : ℕ = turn_of v.turn in
    let w : PassView = turning v Idle v.seen v.owns in
    let q' : Queue = record { out = false; served = q.served + 1; waiting = drop 1 q.waiting } in
    let here : ViewFits o q h.given h.log v = h.fits id v at in
    let mine : HasTurn q h.log v t = subst (λ (x : Turn). TurnFits q h.log v x) is_out here.turn in
    let carries : Carries v.owns n es = subst (λ (xs : List (ℕ × List Entry)). Carries xs n es) (sym owns) (carries_one n es) in
    let live : v.origin ≡ o = here.origin (subst (λ (x : Turn). IsLive x) (sym is_out) tt) in
    let some_wait : 0 < length q.waiting = at_within q.waiting 0 n mine.queued in
    let home : set s.homes 0 (some b) ≡ some b ∷ [] =
    ap (λ (hs : List (Option Journal)). set hs 0 (some b)) (slot_away o q.waiting h.log s.homes q.out mine.taken h.slot) in
    let fewer : length (drop 1 q.waiting) + 1 ≡ length q.waiting = omega (arith, length-drop 1 q.waiting) in (
      w,
      gives,
      tt,
      record {
        queue = q';
        given = h.given;
        log = h.log;
        words =
            ap (λ (ws : List ℕ). set ws 1 ((slice_index ws 1 + 1) % 2 ^ 64)) h.words
            ∙ ap (λ (x : ℕ). ((q.served + length q.waiting) % 2 ^ 64) ∷ x ∷ (length h.log % 2 ^ 64) ∷ []) (mod-add-mod q.served (2 ^ 64) 1)
            ∙ ap (λ (x : ℕ). (x % 2 ^ 64) ∷ ((q.served + 1) % 2 ^ 64) ∷ (length h.log % 2 ^ 64) ∷ [])
            (let sum : q.served + length q.waiting ≡ q.served + 1 + length (drop 1 q.waiting) = omega (arith, fewer) in sum);
        few = h.few;
        queued = λ k m there. h.queued (suc k) m (at_dropped q.waiting k m there);
        apart = λ j k m first second.
            let same : suc j ≡ suc k = h.apart (suc j) (suc k) m (at_dropped q.waiting j m first) (at_dropped q.waiting k m second) in omega arith;
        history = h.history;
        numbered = h.numbered;
        slot = (
          b,
          home,
          subst (λ (x : Origin). IsBookOf x h.log b) live (subst (λ (xs : List Entry). IsBookOf v.origin xs b) mine.all_seen stands),
        );
        fits =
            all_set (λ (j : ℕ) (u : PassView). ViewFits o q' h.given h.log u) s.views id w
            (record {
              origin = λ is. live;
              seen = here.seen;
              met = here.met;
              owns = here.owns;
              root = here.root;
              turn = λ m k fs carried there.
                  let same : m ≡ n = (one_carried n m es fs (subst (λ (xs : List (ℕ × List Entry)). Carries xs m fs) owns carried)).0 in
                  let again : get_elem? q.waiting (suc k) ≡ some n = subst (λ (x : ℕ). get_elem? q.waiting (suc k) ≡ some x) same (at_dropped q.waiting k m there) in
                  let no : suc k ≡ 0 = h.apart (suc k) 0 n again mine.queued in
                  absurd (omega arith);
            })
            (λ j u other found.
            let theirs : ViewFits o q h.given h.log u = h.fits j u found in
            record {
              origin = theirs.origin;
              seen = theirs.seen;
              met = theirs.met;
              owns = theirs.owns;
              root = theirs.root;
              turn =
                  turn_left q h.log n u u.turn mine.queued
                  (λ same fs carried. other (h.alone j id n u v fs es found at (subst (λ (x : ℕ). Carries u.owns x fs) same carried) carries))
                  theirs.turn;
            });
        alone = alone_set s.views id v w at (λ m fs carried. (fs, carried)) h.alone;
      },
      refl,
    )
