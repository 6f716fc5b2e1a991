use Rattle.std.proofs.Common.{◌≡◌, ℕ, List, ◌++◌, OnOk, codes, ap, subst, ◌∙◌, append_assoc}
use Rattle.std.specs.Fmt.{decimal}
use Rattle.drill.proofs.requests.put_request.Goals as goal

-- a text to which three pieces were added
joined : (t u v front digits back : List ℕ) → u ≡ t ++ front → v ≡ u ++ digits → v ++ back ≡ t ++ (front ++ (digits ++ back))
joined t u v front digits back a b = rw (b, a) (simp append_assoc)

pub returns : goal.returns
returns c =
    let number = c.in_ok-put_decimal.ensures.ok ∙ ap (λ (n : ℕ). c.extend.new.self ++ decimal n) c.from.ensures in
    let whole =
    joined c.args.out.now c.extend.new.self c.put_decimal.new.out (codes "GET /size/") (decimal c.args.size) (codes " HTTP/1.1\r\nHost: drill\r\n\r\n")
    c.in_ok-extend.ensures.ok number in
    subst (λ (text : List ℕ). OnOk c.extend-2.result (c.extend-2.new.self ≡ text)) whole c.extend-2.ensures.ok
