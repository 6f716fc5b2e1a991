-- A table of callers begins, and ends with the Book.
use Rattle.std.proofs.Common.{◌≡◌, ℕ, zero, suc, ◌<◌, ◌≤◌, Bool, true, false, List, [], ◌∷◌, refl, sym, ap, ◌∙◌, subst, arith}
use mathlib.Core.Option.{Option, some, some-injective, some-ne-none}
use lib.ListN.{get_elem?}
use Rattle.atomic_table.specs.Table.{Final, Seen, opening}
use Rattle.lb_model.specs.declared.journal.Entry.{Entry}
use Rattle.lb_book.specs.Journal.{Journal}
use Rattle.lb_book.specs.Histories.{BeginsWith, IsHistory, own_of}
use Rattle.lb_passes.specs.Turns.{Carries, IsBookOf, IsLive, IsPassTable, Queue, SlotFits, TurnFits, ViewFits, first_view}
use Rattle.lb_passes.specs.declared.pass_view.Origin.{Origin}
use Rattle.lb_passes.specs.declared.pass_view.PassView.{PassView}
use Rattle.lb_passes.specs.declared.pass_view.Turn.{Turn}
use Rattle.lb_passes.specs.declared.pass_view.Turn.TheVariants.{Idle}
use Rattle.lb_passes.proofs.SeatLaws.{one_carried, carries_one}

one_place : (o : Origin) (j : ℕ) (u : PassView) → get_elem? (first_view o ∷ []) j ≡ some u → (j ≡ 0) × (first_view o ≡ u)
one_place o zero u at = (refl, some-injective (first_view o) u at)
one_place o (suc j) u at = absurd (some-ne-none u (sym at))

none_waits : {X : Type 0} (k n : ℕ) → get_elem? {A = ℕ} [] k ≡ some n → X
none_waits k n at = absurd (some-ne-none n (sym at))

first_fits : (o : Origin) → ViewFits o (record { out = false; served = 0; waiting = [] }) 1 [] (first_view o)
first_fits o = record {
  origin = λ is. refl;
  seen = record { rest = []; is = refl };
  met = record { rest = []; is = refl };
  owns = λ n es carried.
      let is = one_carried 0 n [] es carried in
      (let same : n ≡ 0 = is.0 in omega arith, is.1);
  root = λ is. (refl, [], carries_one 0 []);
  turn = λ n k es carried there. none_waits k n there;
}

-- At the start the Book is in its slot, and one caller has seen nothing yet.
pub begins : (o : Origin) (b : Journal) → IsHistory o.opening [] → IsBookOf o [] b → IsPassTable o (opening (0 ∷ 0 ∷ 0 ∷ []) (b ∷ []) (first_view o))
begins o b history stands = record {
  queue = record { out = false; served = 0; waiting = [] };
  given = 1;
  log = [];
  words = refl;
  few = omega arith;
  queued = λ k n there. none_waits k n there;
  apart = λ j k n first second. none_waits j n first;
  history = history;
  numbered = λ n above. refl;
  slot = (b, refl, stands);
  fits = λ j u at.
      subst (λ (x : PassView). ViewFits o (record { out = false; served = 0; waiting = [] }) 1 [] x) (one_place o j u at).1 (first_fits o);
  alone = λ i j n u v es fs here there mine theirs. (one_place o i u here).0 ∙ sym (one_place o j v there).0;
}

-- The end, where all numbers came together at one caller: the Book is left, with the whole history.
pub record IsEnd (v : PassView) (xs : List Journal) : Type 0 where
  pub book : Journal
  pub found : get_elem? xs 0 ≡ some book
  pub log : List Entry
  pub history : IsHistory v.origin.opening log
  pub stands : IsBookOf v.origin log book
  pub begins : BeginsWith log v.seen
  pub own : (n : ℕ) (es : List Entry) → Carries v.owns n es → es ≡ own_of n log
  pub no_others : (n : ℕ) → v.given ≤ n → own_of n log ≡ []

slot_end : (o : Origin) (waiting : List ℕ) (log : List Entry) (homes : List (Option Journal)) (out : Bool) → ((k n : ℕ) → get_elem? waiting k ≡ some n → ⊥)
    → SlotFits o waiting log homes out → (b : Journal) × (homes ≡ some b ∷ []) × IsBookOf o log b
slot_end o [] log homes true none_left fits = absurd (let some : 0 < 0 = fits.1 in omega arith)
slot_end o (n ∷ waiting) log homes true none_left fits = absurd (none_left 0 n refl)
slot_end o waiting log homes false none_left fits = fits

pub ends : (o : Origin) (id : ℕ) (v : PassView) (words : List ℕ) (xs : List Journal) → v.turn ≡ Idle → v.roots ≡ true
    → ((n : ℕ) → n < v.given → (es : List Entry) × Carries v.owns n es) → Final (Seen (IsPassTable o) id v) words xs → IsEnd v xs
ends o id v words xs idle roots all final =
    let s = final.0 in
    let h : IsPassTable o s = final.1.0 in
    let q : Queue = h.queue in
    let here : ViewFits o q h.given h.log v = h.fits id v final.1.1 in
    let root = here.root roots in
    let live : v.origin ≡ o = here.origin (subst (λ (x : Turn). IsLive x) (sym idle) tt) in
    let is_idle : TurnFits q h.log v Idle = subst (λ (x : Turn). TurnFits q h.log v x) idle here.turn in
    let none_left : (k n : ℕ) → get_elem? q.waiting k ≡ some n → ⊥ =
    λ k n there. (let mine = all n (subst (λ (x : ℕ). n < x) (sym root.0) (h.queued k n there)) in is_idle n k mine.0 mine.1 there) in
    let home = slot_end o q.waiting h.log s.homes q.out none_left h.slot in
    record {
      book = home.0;
      found = final.4 0 home.0 (ap (λ (hs : List (Option Journal)). get_elem? hs 0) home.1);
      log = h.log;
      history = subst (λ (x : Origin). IsHistory x.opening h.log) (sym live) h.history;
      stands = subst (λ (x : Origin). IsBookOf x h.log home.0) (sym live) home.2;
      begins = here.seen;
      own = λ n es carried. (here.owns n es carried).1;
      no_others = λ n above. h.numbered n (subst (λ (x : ℕ). x ≤ n) root.0 above);
    }
