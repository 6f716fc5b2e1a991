use Rattle.std.proofs.Common.{ℕ, ◌≡◌, arith, subst, inl, inr}
use Rattle.std.proofs.lemmas.Bool.{cases_lt}
use Rattle.real_io.specs.Heads.{IsEndAt}
use Rattle.real_io.proofs.heads.head_end.Goals as goal

pub loop-at-preserved : goal.loop-at-preserved
loop-at-preserved c = record {
  from = omega arith;
  within = omega arith;
  none = λ p len le lt e. elim (cases_lt p c.loop-at.at) [ inl before ↦ c.loop-at.invariant.none p len le before e | inr past ↦ (let same : p ≡ c.loop-at.at = omega (arith, past, lt) in c.in_default.ensures.none len (subst (λ (q : ℕ). IsEndAt c.args.bytes.now q len) same e)) ];
}

pub returns-clause-none : goal.returns-clause-none
returns-clause-none c = λ n e. elim (cases_lt e.text c.text_start-at.result) [ inl early ↦ c.text_start-at.ensures.before e.text early e.is_text | inr past ↦ c.loop-at.invariant.none e.at e.len (omega (arith, past, e.is_before)) (omega (arith, e.line.0)) e.line ]
