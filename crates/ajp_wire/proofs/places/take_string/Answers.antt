use Rattle.std.proofs.Common.{◌≡◌, ◌≢◌, ℕ, ◌+◌, ◌<◌, length, take, drop, get_or, List, ◌∷◌, ◌++◌, sym, ap, ◌∙◌, arith, add-one, length-drop, length-take}
use Rattle.std.proofs.Math.Seq.{drop-cons}
use Rattle.std.proofs.lemmas.List.{take-append-drop, drop-drop}
use Rattle.ajp_wire.specs.Spelling.{int}
use Rattle.ajp_wire.specs.Places.{IsIntAt, HasBadMark}
use Rattle.ajp_wire.proofs.places.take_string.Goals as goal

bad_mark : (bytes : List ℕ) (at size text_at : ℕ) → IsIntAt bytes at size text_at → text_at + size < length bytes
    → get_or bytes (text_at + size) 0 ≢ 0 → HasBadMark bytes at (text_at + size)
bad_mark bytes at size text_at int_at inside other =
    let text : List ℕ = take size (drop text_at bytes) in
    let long : length text ≡ size = omega (arith, length-take size (drop text_at bytes), length-drop text_at bytes) in
    let rest : drop size (drop text_at bytes) ≡ get_or bytes (text_at + size) 0 ∷ drop (text_at + size + 1) bytes =
    drop-drop size text_at bytes ∙ drop-cons bytes (text_at + size) 0 inside ∙ ap (λ (n : ℕ). get_or bytes (text_at + size) 0 ∷ drop n bytes) (sym (add-one (text_at + size))) in
    let behind = int_at.behind in
    record {
      text = text;
      other = get_or bytes (text_at + size) 0;
      rest = drop (text_at + size + 1) bytes;
      spelled = int_at.spelled ∙ ap (λ (t : List ℕ). int size ++ t) (sym (take-append-drop size (drop text_at bytes)) ∙ ap (λ (t : List ℕ). text ++ t) rest)
          ∙ ap (λ (n : ℕ). int n ++ (text ++ (get_or bytes (text_at + size) 0 ∷ drop (text_at + size + 1) bytes))) (sym long);
      not_zero = other;
      place = omega (arith, long);
    }

pub returns-then-bytes-mark-ne0-clause-refused : goal.returns-then-bytes-mark-ne0-clause-refused
returns-then-bytes-mark-ne0-clause-refused c =
    bad_mark c.args.bytes.now c.args.at c.in-Some.size c.in-Some.text_at c.in-Some.ensures.found c.if-mark-bytes.false c.if-bytes-mark-ne0.true
