-- The kept present of a Book after a maintenance, and the entry of one that is due.
use Rattle.std.proofs.Common.{◌≡◌, ℕ, ◌+◌, ◌-◌, ◌*◌, ◌/◌, ◌^◌, ◌<◌, ◌≤◌, List, ◌∷◌, length, reverse, get_or, refl, sym, ◌∙◌, ap, subst, inl, inr, arith}
use Rattle.std.specs.Prelude.{if◌then◌else◌}
use Rattle.std.proofs.lemmas.Bool.{cases_Bool}
use Rattle.std.proofs.Math.Nat.{div-le_self}
use Rattle.lb_model.specs.Journal.{members, next_of}
use Rattle.lb_model.specs.Legal.{IsNext}
use Rattle.lb_model.specs.Loads.{base_of, gain_of, greatest, halved, halvings_at, load_by, load_of}
use Rattle.lb_model.specs.Settings.{unit_of}
use Rattle.lb_model.specs.StateRows.{is_over, maintained_state}
use Rattle.lb_model.specs.States.{state_of}
use Rattle.lb_model.specs.Tickets.{busy_of}
use Rattle.lb_model.proofs.BoundFacts.{busy-kept}
use Rattle.lb_model.proofs.LoadLaws.{load-kept}
use Rattle.lb_model.proofs.OutFacts.{out-kept}
use Rattle.lb_model.specs.declared.journal.Answer.{Answer}
use Rattle.lb_model.specs.declared.journal.Call.{Call}
use Rattle.lb_model.specs.declared.journal.Entry.{Entry}
use Rattle.lb_model.specs.declared.member.Method.{Method}
use Rattle.lb_model.specs.declared.opening.Opening.{Opening}
use Rattle.lb_book.specs.declared.present.Present.{Present}
use Rattle.lb_rules.specs.declared.standing.Standing.{Standing}
use Rattle.lb_book.specs.Kept.{IsNow, IsStanding}
use Rattle.lb_book.specs.Maintained.{greatest_halved, maintained_load, maintained_row}
use Rattle.lb_book.specs.Stepped.{AreStepped}
use Rattle.lb_book.proofs.CallLaws.{greatest-agree, greatest_below, light-by}
use Rattle.lb_book.proofs.ChoiceLaws.{nobody}
use Rattle.lb_book.proofs.KeptLaws.{next_is}

abbrev pub maintain_entry : (seq session at : ℕ) → Entry
maintain_entry seq session at = record { seq = seq; session = session; at = at; call = Call.Maintain; answer = Answer.Done }

-- A load that a cut entry leaves, where what runs stays.
load-cut : (method : Method) (running running' former kept carried unit load : ℕ) → running' ≡ running
    → load ≡ load_by method running former → ((method ≡ Method.Busyness → ⊥) → kept ≡ carried)
    → load_by method load kept ≡ load_by method running' (carried + unit * 0)
load-cut Method.Request running running' former kept carried unit load same is kept_is = let left : kept ≡ carried = kept_is (λ never. cc) in omega arith
load-cut Method.Session running running' former kept carried unit load same is kept_is = let left : kept ≡ carried = kept_is (λ never. cc) in omega arith
load-cut Method.Traffic running running' former kept carried unit load same is kept_is = let left : kept ≡ carried = kept_is (λ never. cc) in omega arith
load-cut Method.Busyness running running' former kept carried unit load same is kept_is = is ∙ sym same

module _ (v : ℕ) (o : Opening) (p : List Entry) (now : Present) (h : IsNow v o p now) (at : ℕ) where
  -- How often it halves, and the greatest halved load.
  abbrev times : ℕ
  times = (at - now.maintained) / o.config.maintain

  abbrev most : ℕ
  most = greatest_halved now.rows.items nobody times

  times-is : times ≡ halvings_at o p at
  times-is = ap (λ (since : ℕ). (at - since) / o.config.maintain) h.maintained

  kept-is : (m : ℕ) → m < members o → (o.config.method ≡ Method.Busyness → ⊥)
      → (get_or now.rows.items m nobody).load ≡ base_of v o p m + gain_of o p m
  kept-is m lt not_busyness = (h.rows m nobody lt).load ∙ load-kept v o p m not_busyness

  most-is : (o.config.method ≡ Method.Busyness → ⊥)
      → most ≡ greatest (members o) (λ j. halved (base_of v o p j + gain_of o p j) (halvings_at o p at))
  most-is not_busyness =
      ap (λ (n : ℕ). greatest n (λ j. halved (get_or now.rows.items j nobody).load times)) h.whole
      ∙ greatest-agree (members o) (λ j. halved (get_or now.rows.items j nobody).load times)
      (λ j. halved (base_of v o p j + gain_of o p j) (halvings_at o p at))
      (λ j lt.
      ap (λ (x : ℕ). halved x times) (kept-is j lt not_busyness)
      ∙ ap (λ (k : ℕ). halved (base_of v o p j + gain_of o p j) k) times-is)

  most-light : most ≤ next_of o p * 2 ^ 76
  most-light =
      greatest_below (length now.rows.items) (λ j. halved (get_or now.rows.items j nobody).load times) (next_of o p * 2 ^ 76)
      (λ j lt.
      let light : (get_or now.rows.items j nobody).load ≤ next_of o p * 2 ^ 76 = (h.rows j nobody (omega (arith, h.whole))).light in
      omega (arith, light, div-le_self (get_or now.rows.items j nobody).load (2 ^ times)))

  carried-load : (seq session m : ℕ) (row : Standing) → IsStanding v o p m row
      → maintained_load o.config.method at o.config.recover most times row ≡ load_of v o (maintain_entry seq session at ∷ p) m
  carried-load seq session m row is =
      let e : Entry = maintain_entry seq session at in
      load-cut o.config.method (busy_of o p m * unit_of o p m) (busy_of o (e ∷ p) m * unit_of o p m) (base_of v o p m + gain_of o p m)
      (if is_over at o.config.recover row.state then most else halved row.load times)
      (if is_over at o.config.recover (state_of v o p m)
      then greatest (members o) (λ j. halved (base_of v o p j + gain_of o p j) (halvings_at o p at))
      else halved (base_of v o p m + gain_of o p m) (halvings_at o p at))
      (unit_of o p m) row.load
      (ap (λ (k : ℕ). k * unit_of o p m) (busy-kept o p e m refl (λ t. refl))) is.load
      (λ not_busyness.
      rw (is.state, most-is not_busyness, is.load ∙ load-kept v o p m not_busyness, times-is) refl)

  light-load : (m : ℕ) (row : Standing) → row.load ≤ next_of o p * 2 ^ 76
      → maintained_load o.config.method at o.config.recover most times row ≤ (next_of o p + 1) * 2 ^ 76
  light-load m row light =
      let half : halved row.load times ≤ row.load = div-le_self row.load (2 ^ times) in
      light-by o.config.method row.load (if is_over at o.config.recover row.state then most else halved row.load times)
      ((next_of o p + 1) * 2 ^ 76) (omega arith)
      (elim (cases_Bool (is_over at o.config.recover row.state)) [
        | inl over ↦ rw over (omega (arith, most-light))
        | inr not_over ↦ rw not_over (omega (arith, half))
      ])

  standing-maintained : (seq session m : ℕ) (row : Standing) → IsStanding v o p m row
      → IsStanding v o (maintain_entry seq session at ∷ p) m (maintained_row o.config.method at o.config.recover most times row)
  standing-maintained seq session m row is =
      let busy_same : busy_of o (maintain_entry seq session at ∷ p) m ≡ busy_of o p m =
      busy-kept o p (maintain_entry seq session at) m refl (λ t. refl) in
      record {
        state = ap (maintained_state at o.config.recover) is.state;
        load = carried-load seq session m row is;
        busy = is.busy ∙ sym busy_same;
        pool = is.pool;
        unit = is.unit;
        activation = is.activation;
        factor = is.factor;
        distance = is.distance;
        redirect = is.redirect;
        within = is.within;
        small = is.small;
        narrow = is.narrow;
        light = omega (arith, light-load m row is.light);
        target = is.target;
      }

-- A present that a maintenance left.
pub record IsMaintained (o : Opening) (old : Present) (at : ℕ) (new : Present) : Type 0 where
  pub rows : (d : Standing) → AreStepped
      (λ _ row. maintained_row o.config.method at o.config.recover
      (greatest_halved old.rows.items d ((at - old.maintained) / o.config.maintain))
      ((at - old.maintained) / o.config.maintain) row)
      (length old.rows.items) old.rows.items new.rows.items
  pub tickets : new.out ≡ old.out
  pub moment : new.at ≡ at
  pub maintained : new.maintained ≡ at
  pub chosen : new.chosen ≡ old.chosen

pub now-maintained : (v : ℕ) (o : Opening) (p : List Entry) (old new : Present) (seq session at : ℕ)
    → IsNow v o p old → IsMaintained o old at new → IsNow v o (maintain_entry seq session at ∷ p) new
now-maintained v o p old new seq session at h is = record {
  whole = (is.rows nobody).whole ∙ h.whole;
  rows = λ m d lt.
      subst (λ (r : Standing). IsStanding v o (maintain_entry seq session at ∷ p) m r)
      (sym ((is.rows nobody).below m d (omega (arith, h.whole))))
      (standing-maintained v o p old h at seq session m (get_or old.rows.items m d) (h.rows m d lt));
  tickets = is.tickets ∙ h.tickets ∙ ap length (sym (out-kept o p (maintain_entry seq session at) refl (λ t. refl)));
  moment = is.moment;
  maintained = is.maintained;
  chosen = is.chosen ∙ h.chosen;
}

-- The entry of a maintenance that is due may come next.
pub next_maintained : (v : ℕ) (o : Opening) (h : List Entry) (now : Present) (seq session at : ℕ)
    → IsNow v o (reverse h) now → seq ≡ o.next + length h → now.at ≤ at → now.maintained + o.config.maintain ≤ at
    → seq + now.out + 1 ≤ 2 ^ 48 → IsNext v o (reverse h) (maintain_entry seq session at)
next_maintained v o h now seq session at is number later due room = record {
  number = number ∙ next_is o h;
  moment = omega (arith, is.moment, later);
  room = omega (arith, is.tickets, room);
  answered = (omega (arith, is.maintained, due), refl);
}
