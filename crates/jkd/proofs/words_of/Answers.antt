use Rattle.std.proofs.Common.{◌≡◌, inl, inr, refl}
use Rattle.jkd.proofs.WordLaws.{unread_done}
use Rattle.jkd.proofs.words_of.Goals as goal

pub returns-in-Err-clause-done : goal.returns-in-Err-clause-done
returns-in-Err-clause-done g c = rw c.unread.ensures (unread_done c.in-Err.error)

pub returns-in-Some-clause-done : goal.returns-in-Some-clause-done
returns-in-Some-clause-done g c = elim c.in-Some.ensures.some [
  | inl asked ↦ elim asked.1.1 [
    | inl written ↦ inl written.1
    | inr front ↦ elim front [ inl failed ↦ inr (inr (inl failed.1)) | inr wanted ↦ inr (inr (inr wanted.1)) ]
  ]
  | inr wanted ↦ inr (inr (inr wanted.0))
]
