-- The errors of the closing: a discord of this kind, or want of memory.
use Rattle.lb_closing.specs.Closings.{DiscordNote}
use Rattle.lb_closing.specs.declared.close.CloseError.{CloseError}
use Rattle.lb_closing.specs.declared.close.CloseError.TheVariants as close

-- A discord is of this kind; want of memory needs no cause.
abbrev pub IsCloseError : {L : Type 0} → (DiscordNote → Type 0) → CloseError L → Type 0
IsCloseError Of (close.Differs d) = Of d
IsCloseError Of close.NoMemory = Unit {0}
