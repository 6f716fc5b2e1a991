-- A piece of which a front was written.
use Rattle.std.proofs.Common.{◌≡◌, ℕ, ◌<◌, List, length, take, drop, Option, sym, ap, arith, length-drop}
use Rattle.std.proofs.lemmas.List.{take-append-drop}
use Rattle.jk_io.specs.Told.{appended, PutsFront}
use Rattle.exchange.specs.Deliveries.{PutsShort}

abbrev pub puts_front : (before now : Option (List ℕ)) (piece : List ℕ) (k : ℕ) → now ≡ appended before (take k piece) → PutsFront before now piece
puts_front before now piece k is = record { front = take k piece; rest = drop k piece; whole = sym (take-append-drop k piece); put = is }

pub puts_short : (before now : Option (List ℕ)) (piece : List ℕ) (k : ℕ) → now ≡ appended before (take k piece) → k < length piece
    → PutsShort before now piece
puts_short before now piece k is short = record {
  front = puts_front before now piece k is;
  some = λ none. omega (arith, ap (λ (bytes : List ℕ). length bytes) none, length-drop k piece, short);
}
