-- The output of `log` for a format that is refused.
use Rattle.std.specs.Prelude.{◌≡◌, ℕ, List}
use Rattle.request_log.specs.Formats.{IsRefusedFrom, refusal_line}

-- A format is refused.
abbrev pub RefusesFormat : (format : List ℕ) → (out : List ℕ) → (status : ℕ) → Type 0
RefusesFormat format out status = (at : ℕ) × IsRefusedFrom format at × (out ≡ refusal_line at) × (status ≡ 3)
