-- Reads that don't wait.
use Rattle.std.specs.Prelude.{◌≡◌, ℕ, ℤ, pos, ⊤, ◌⊎◌}
use Rattle.real_io.specs.declared.waited_stream.AtHand.{AtHand}
use Rattle.real_io.specs.declared.waited_stream.AtHand.TheVariants.{Came, Nothing, Broken}

-- the flags of a read that doesn't wait: that takes what is there, or leaves it
abbrev pub IsWaitless : ℤ → Type 0
IsWaitless flags = (flags ≡ pos 64) ⊎ (flags ≡ pos 66)

-- a fact of the bytes that came
abbrev pub IfCame : AtHand → (ℕ → Type 0) → Type 0
IfCame (Came n) P = P n
IfCame Nothing P = ⊤
IfCame Broken P = ⊤
