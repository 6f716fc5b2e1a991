use Rattle.std.proofs.Common.{◌≡◌, ℕ, ◌≤◌, List, ◌++◌, take, drop, refl, sym, ap, ◌∙◌, arith}
use Rattle.drill.specs.Requests.{request_text, size_at, texts_of}
use Rattle.drill.specs.declared.requests.TheConstants.{MAX_SESSION_REQUESTS}
use Rattle.drill.proofs.RequestLaws.{drained, text_put, took}
use Rattle.drill.proofs.requests.Requests.put_session.Goals as goal

pub returns-in_default-clause-ok : goal.returns-in_default-clause-ok
returns-in_default-clause-ok c =
    let i = c.requests.invariant in
    let few : c.requests.counter ≤ MAX_SESSION_REQUESTS = omega (arith, c.requests-test.true) in
    let none = drained c.requests.counter MAX_SESSION_REQUESTS c.args.self.now.left (sym i.left ∙ c.in_default.ensures.none.0) few in (
      i.text ∙ ap (λ (ys : List ℕ). c.args.text.now ++ texts_of c.args.self.now.seed ys) (sym none.0),
      c.in_default.ensures.none.1 ∙ sym none.1,
    )

pub requests-preserved : goal.requests-preserved
requests-preserved c =
    let i = c.requests.invariant in
    let next = c.in-Some.ensures.some in
    let left = sym i.left ∙ next.1 in
    let one = took c.requests.counter c.args.self.now.left next.0 c.next_size.new.self.left left in
    let size = next.2 ∙ ap (λ (s : ℕ). size_at s next.0) i.seed in record {
      text =
          text_put c.args.self.now.seed c.requests.counter c.args.text.now c.requests.text c.put_request.new.out c.args.self.now.left next.0
          c.next_size.new.self.left i.text left
          (c.in_ok-put_request.ensures ∙ ap (λ (n : ℕ). c.requests.text ++ request_text n) size);
      left = sym one.1;
      seed = c.in-Some.ensures.seed ∙ i.seed;
      within = one.2;
      some = λ above. refl;
      none = λ zero. absurd (omega (arith, zero));
    }

pub returns-clause-ok : goal.returns-clause-ok
returns-clause-ok c =
    let i = c.requests.invariant in
    let all : c.requests.counter ≡ MAX_SESSION_REQUESTS = omega (arith, c.requests-test.false, c.requests.auto.counter-end) in (
      i.text ∙ ap (λ (k : ℕ). c.args.text.now ++ texts_of c.args.self.now.seed (take k c.args.self.now.left)) all,
      i.left ∙ ap (λ (k : ℕ). drop k c.args.self.now.left) all,
    )
