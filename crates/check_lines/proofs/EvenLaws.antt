-- The premises of the law of weights hold where a Book starts.
use Rattle.std.proofs.Common.{◌≡◌, ℕ, zero, suc, List, [], ◌∷◌, map, reverse, refl, sym, ap, ◌∙◌, subst}
use Rattle.std.specs.Prelude.{slice_get, Result, Ok, Err, IfOk}
use Rattle.lb_model.specs.Loads.{base_of, load_in}
use Rattle.lb_model.specs.declared.config.LbConfig.{LbConfig}
use Rattle.lb_model.specs.declared.journal.Entry.{Entry}
use Rattle.lb_model.specs.declared.member.MemberConfig.{MemberConfig}
use Rattle.lb_model.specs.declared.member.Method.TheVariants as method
use Rattle.lb_model.specs.declared.view.MemberRow.{MemberRow}
use Rattle.lb_book.specs.Journal.{IsStart, Journal, past_of, start_row}
use Rattle.lb_book.specs.Weights.{IsEvenEpoch}

load-start : (ms : List MemberConfig) (m : ℕ) → load_in (slice_get (map start_row ms) m) ≡ 0
load-start [] m = refl
load-start (c ∷ ms) zero = refl
load-start (c ∷ ms) (suc m) = load-start ms m

pub even_start : (b : Journal) (config : LbConfig) (at first : ℕ) → config.method ≡ method.Request → IsStart b config at first
    → IsEvenEpoch b.rules b.opening (past_of b)
even_start b config at first request is =
    let none : (m : ℕ) → base_of b.rules b.opening [] m ≡ 0 =
    λ m. ap (λ (rows : List MemberRow). load_in (slice_get rows m)) is.rows ∙ load-start config.members m in
    subst (λ (p : List Entry). IsEvenEpoch b.rules b.opening p) (sym (ap (λ (h : List Entry). reverse h) is.empty)) (record {
      method = ap (λ (c : LbConfig). c.method) is.configured ∙ request;
      level = λ i j lt lt'. none i ∙ sym (none j);
      asks = tt;
    })

pub started_even : {E : Type 0} (r : Result Journal E) (config : LbConfig) (at first : ℕ) → config.method ≡ method.Request
    → IfOk r (λ b. IsStart b config at first) → IfOk r (λ b. IsEvenEpoch b.rules b.opening (past_of b))
started_even (Ok b) config at first request start = even_start b config at first request start
started_even (Err e) config at first request start = tt
