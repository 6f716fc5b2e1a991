-- Packets one after another: a packet is known by its own bytes, and what a read took is a part of one.
use Rattle.std.proofs.Common.{◌≡◌, ℕ, ◌-◌, ◌*◌, ◌/◌, ◌%◌, ◌<◌, length, take, drop, get_or, replicate, List, [], ◌∷◌, ◌++◌, Bool, true, false, eqb, ◌&&◌, refl, sym, ap, ◌∙◌, arith, append_assoc, length-append}
use Rattle.std.proofs.Math.Seq.{take-append_seam, drop-append_seam}
use Rattle.std.proofs.lemmas.List.{length-replicate, append-nil}
use Rattle.std.proofs.lemmas.Bool.{eqb-true}
use Rattle.ajp_wire.specs.Spelling.{int}
use Rattle.ajp_wire.specs.Packet.{magic, head, packet, IsPart}
use Rattle.ajp_wire.specs.Head.{begins_packet, IsHead, Lacks}

-- an integer is known by its two bytes
pub int-only : (m n : ℕ) (x y : List ℕ) → int m ++ x ≡ int n ++ y → (m ≡ n) × (x ≡ y)
int-only m n x y e =
    let high : m / 256 ≡ n / 256 = cc in
    let low : m % 256 ≡ n % 256 = cc in
    (omega arith, cc)

-- lists of one length, each before something, are known by the whole
pub fronts-only : (p q x y : List ℕ) → length p ≡ length q → p ++ x ≡ q ++ y → (p ≡ q) × (x ≡ y)
fronts-only p q x y l e = (
  sym (take-append_seam p x) ∙ ap (λ n. take n (p ++ x)) l ∙ ap (take (length q)) e ∙ take-append_seam q y,
  sym (drop-append_seam p x) ∙ ap (λ n. drop n (p ++ x)) l ∙ ap (drop (length q)) e ∙ drop-append_seam q y,
)

-- no packet is a proper prefix of another, and what stands after one is known too
pub packet-only : (from_container : Bool) (p q x y : List ℕ) → packet from_container p ++ x ≡ packet from_container q ++ y → (p ≡ q) × (x ≡ y)
packet-only true p q x y e =
    let behind : int (length p) ++ (p ++ x) ≡ int (length q) ++ (q ++ y) = cc in
    let both = int-only (length p) (length q) (p ++ x) (q ++ y) behind in
    fronts-only p q x y both.0 both.1
packet-only false p q x y e =
    let behind : int (length p) ++ (p ++ x) ≡ int (length q) ++ (q ++ y) = cc in
    let both = int-only (length p) (length q) (p ++ x) (q ++ y) behind in
    fronts-only p q x y both.0 both.1

-- where a packet stands whole at the front, the bytes are no part of one
pub part-none : (from_container : Bool) (most : ℕ) (bytes payload rest : List ℕ) → IsPart from_container most bytes → bytes ≡ packet from_container payload ++ rest → ⊥
part-none from_container most bytes payload rest part e =
    let whole : packet from_container payload ++ (rest ++ part.more) ≡ packet from_container part.payload ++ [] =
    sym (append_assoc (packet from_container payload) rest part.more) ∙ ap (λ (b : List ℕ). b ++ part.more) (sym e) ∙ part.goes_on ∙ sym (append-nil (packet from_container part.payload)) in
    let nothing = (packet-only from_container payload part.payload (rest ++ part.more) [] whole).1 in
    let lacking = part.lacking in
    absurd (omega (arith, ap length nothing, length-append rest part.more))

both : (a b : Bool) → (a && b) ≡ true → (a ≡ true) × (b ≡ true)
both true b e = (refl, e)
both false b e = absurd cc

-- this many zero bytes
abbrev zeros : ℕ → List ℕ
zeros n = replicate n 0

length-zeros : (n : ℕ) → length (zeros n) ≡ n
length-zeros n = length-replicate n 0

-- the bytes of a length that is a multiple of 256
high-of : (h : ℕ) → (256 * h) / 256 ≡ h
high-of h = omega arith

low-of : (h : ℕ) → (256 * h) % 256 ≡ 0
low-of h = omega arith

third : (from_container : Bool) (most first second h : ℕ) → first ∷ second ∷ [] ≡ magic from_container → h < 256 → IsPart from_container most (first ∷ second ∷ h ∷ [])
third from_container most first second h e lt =
    let long : length (zeros (256 * h)) ≡ 256 * h = length-zeros (256 * h) in
    let size : int (length (zeros (256 * h))) ≡ h ∷ 0 ∷ [] = rw (long, high-of h, low-of h) refl in
    record {
      payload = zeros (256 * h);
      more = 0 ∷ zeros (256 * h);
      goes_on = ap (λ (m : List ℕ). m ++ (h ∷ 0 ∷ zeros (256 * h))) e
          ∙ ap (λ (s : List ℕ). magic from_container ++ (s ++ zeros (256 * h))) (sym size)
          ∙ sym (append_assoc (magic from_container) (int (length (zeros (256 * h)))) (zeros (256 * h)));
      lacking = omega arith;
      narrow = omega (arith, long);
      within = λ four. absurd (omega arith);
    }

-- fewer than four bytes that begin as a packet does are a part of one
pub part-before_size : (from_container : Bool) (most : ℕ) (bytes : List ℕ) → begins_packet from_container bytes ≡ true → length bytes < 4
    → ((i : ℕ) → get_or bytes i 0 < 256) → IsPart from_container most bytes
part-before_size true most [] e short fits = record { payload = []; more = packet true []; goes_on = refl; lacking = omega arith; narrow = omega arith; within = λ four. absurd (omega arith) }
part-before_size false most [] e short fits = record { payload = []; more = packet false []; goes_on = refl; lacking = omega arith; narrow = omega arith; within = λ four. absurd (omega arith) }
part-before_size true most (a ∷ []) e short fits = record { payload = []; more = 66 ∷ 0 ∷ 0 ∷ []; goes_on = ap (λ (x : ℕ). x ∷ 66 ∷ 0 ∷ 0 ∷ []) (eqb-true _ _ e); lacking = omega arith; narrow = omega arith; within = λ four. absurd (omega arith) }
part-before_size false most (a ∷ []) e short fits = record { payload = []; more = 52 ∷ 0 ∷ 0 ∷ []; goes_on = ap (λ (x : ℕ). x ∷ 52 ∷ 0 ∷ 0 ∷ []) (eqb-true _ _ e); lacking = omega arith; narrow = omega arith; within = λ four. absurd (omega arith) }
part-before_size true most (a ∷ b ∷ []) e short fits =
    let two = both (eqb a 65) (eqb b 66) e in
    let first : a ≡ 65 = eqb-true _ _ two.0 in
    let second : b ≡ 66 = eqb-true _ _ two.1 in
    record { payload = []; more = 0 ∷ 0 ∷ []; goes_on = rw (first, second) refl; lacking = omega arith; narrow = omega arith; within = λ four. absurd (omega arith) }
part-before_size false most (a ∷ b ∷ []) e short fits =
    let two = both (eqb a 18) (eqb b 52) e in
    let first : a ≡ 18 = eqb-true _ _ two.0 in
    let second : b ≡ 52 = eqb-true _ _ two.1 in
    record { payload = []; more = 0 ∷ 0 ∷ []; goes_on = rw (first, second) refl; lacking = omega arith; narrow = omega arith; within = λ four. absurd (omega arith) }
part-before_size true most (a ∷ b ∷ h ∷ []) e short fits =
    let two = both (eqb a 65) (eqb b 66) e in
    let first : a ≡ 65 = eqb-true _ _ two.0 in
    let second : b ≡ 66 = eqb-true _ _ two.1 in
    third true most a b h (rw (first, second) refl) (fits 2)
part-before_size false most (a ∷ b ∷ h ∷ []) e short fits =
    let two = both (eqb a 18) (eqb b 52) e in
    let first : a ≡ 18 = eqb-true _ _ two.0 in
    let second : b ≡ 52 = eqb-true _ _ two.1 in
    third false most a b h (rw (first, second) refl) (fits 2)
part-before_size from_container most (a ∷ b ∷ c ∷ d ∷ bytes) e short fits = absurd (omega arith)

-- a head with less than its payload after it is a part of a packet
pub part-behind_head : (from_container : Bool) (most size count : ℕ) (front bytes : List ℕ) → IsHead from_container most size front → Lacks size count bytes
    → IsPart from_container most (front ++ bytes)
part-behind_head from_container most size count front bytes h lacks =
    let missing : List ℕ = zeros (size - length bytes) in
    let short = lacks.short in
    let narrow = h.narrow in
    let within = h.within in
    let long : length (bytes ++ missing) ≡ size = omega (arith, length-append bytes missing, length-zeros (size - length bytes)) in
    record {
      payload = bytes ++ missing;
      more = missing;
      goes_on = append_assoc front bytes missing ∙ ap (λ (f : List ℕ). f ++ (bytes ++ missing)) h.whole ∙ ap (λ (n : ℕ). head from_container n ++ (bytes ++ missing)) (sym long);
      lacking = omega (arith, length-zeros (size - length bytes));
      narrow = omega (arith, long);
      within = λ four. omega (arith, long);
    }
