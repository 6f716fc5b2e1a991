-- The end of words that can't be read.
use Rattle.std.proofs.Common.{inl, inr, refl}
use Rattle.jkd.specs.Words.{IsDoneByWords, status_of_unread}
use Rattle.jkd.specs.declared.arguments.ArgumentsError.{ArgumentsError}
use Rattle.jkd.specs.declared.arguments.ArgumentsError.TheVariants as unread

pub unread_done : (error : ArgumentsError) → IsDoneByWords (status_of_unread error)
unread_done unread.NotText = inr (inl refl)
unread_done unread.NoMemory = inr (inr (inr refl))
