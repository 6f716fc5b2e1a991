-- The output of `follow` for a journal's text, and its status.
use Rattle.std.specs.Prelude.{◌≡◌, ℕ, Bool, true, false, ◌⊎◌, List, [], ◌∷◌, Option, Some, None, codes}
use Rattle.journal_verdict.specs.Followed.{IsOpened, IsStoppedText}
use Rattle.journal_verdict.specs.declared.error.FollowError.{FollowError}
use Rattle.journal_verdict.specs.declared.error.FollowError.TheVariants as wrong
use Rattle.journal_verdict.specs.declared.view.FollowView.{FollowView}
use Rattle.journal_verdict.specs.Told.{bad_text}
use Rattle.status_worker.specs.Page.{page_of}
use Rattle.status_worker.specs.declared.page.BalancerType.{BalancerType}
use Rattle.status_worker.specs.declared.page.BalancerType.TheVariants as type
use Rattle.status_worker.specs.declared.page.PagePart.{PagePart}
use Rattle.plain_commands.specs.Checked.{unreadable_text}

abbrev pub type_of : (direct : Bool) → BalancerType
type_of true = type.Ajp13
type_of false = type.Lb

-- the balancer as a status page shows it; a journal knows no addresses
abbrev pub part_of : FollowView → PagePart
part_of v = record { type_ = type_of v.direct; name = v.name; method = v.method; view = v.view; addresses = [] }

-- the page of the last opening that is whole and the entries after it
abbrev pub shown_text : Option FollowView → List ℕ
shown_text None = codes "no opening\n"
shown_text (Some v) = page_of (part_of v ∷ [])

-- what is printed of the first line that is refused
abbrev pub RefusesText : FollowError → (out : List ℕ) → (status : ℕ) → Type 0
RefusesText (wrong.Unreadable line) out status = (out ≡ unreadable_text line) × (status ≡ 3)
RefusesText (wrong.Bad line kept ruled) out status = (out ≡ bad_text line kept ruled) × (status ≡ 1)
RefusesText wrong.NoMemory out status = ⊥

-- what is shown after all whole lines, or the first one that is refused
abbrev pub FollowsText : (text out : List ℕ) → (status : ℕ) → Type 0
FollowsText text out status =
    ((shown : Option FollowView) × IsOpened text shown × (out ≡ shown_text shown) × (status ≡ 0))
    ⊎ ((e : FollowError) × IsStoppedText text e × RefusesText e out status)
