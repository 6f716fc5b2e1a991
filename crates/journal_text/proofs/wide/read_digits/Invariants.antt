use Rattle.std.proofs.Common.{◌≡◌, ◌^◌, ◌<◌, drop}
use Rattle.std.specs.Str.Parse.{AllDigits, digits_value, digits_value_after}
use Rattle.journal_text.proofs.wide.read_digits.Given as goal

-- the bytes so far are digits, and the number goes on with what is left
abbrev pub invariant-loop-byte : goal.invariant-loop-byte
invariant-loop-byte l = record {
  value : digits_value_after 10 l.value (drop l.byte-index l.text) ≡ digits_value 10 l.text;
  onward : AllDigits 10 l.text → AllDigits 10 (drop l.byte-index l.text);
  small : l.value < 2 ^ 128;
  back : AllDigits 10 (drop l.byte-index l.text) → AllDigits 10 l.text;
}
