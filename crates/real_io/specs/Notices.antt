-- When a line is said on standard error: at most one a second of a kind. And whom it names.
use Rattle.std.specs.Prelude.{◌≡◌, ℕ, ◌+◌, ◌<◌, ◌≤◌, min, Bool, Option, Some, None, List, [], ◌++◌, codes, decimal, if◌then◌else◌}
use Rattle.std.specs.List.{flat_map, list_any}
use Rattle.real_io.specs.MemberAddresses.{is_same}
use Rattle.real_io.specs.declared.member_address.MemberAddress.{MemberAddress}
use Rattle.real_io.specs.declared.notices.Named.{Named}
use Rattle.real_io.specs.declared.notices.Tally.{Tally}

-- a second has passed since the last line, or none was said yet
abbrev pub IsDueAfter : Option ℕ → ℕ → Type 0
IsDueAfter None now = Unit {0}
IsDueAfter (Some last) now = last + 1000 ≤ now

abbrev pub IsNoticeDue : Tally → ℕ → Type 0
IsNoticeDue tally now = IsDueAfter tally.last now

-- a line was asked for: it is said, with how many were left out before it; or it is left out itself
pub record AsksBack (before : Tally) (now : ℕ) (after : Tally) (result : Option ℕ) : Type 0 where
  pub said : IsNoticeDue before now → (result ≡ Some before.left_out) × (after ≡ record { last = Some now; left_out = 0 })
  pub left_out : (IsNoticeDue before now → ⊥) → (result ≡ None) × (after ≡ record { last = before.last; left_out = min (before.left_out + 1) 18446744073709551615 })

-- the worker is reached at this address
abbrev pub is_at : MemberAddress → Named → Bool
is_at address worker = is_same worker.address address

abbrev pub name_at : MemberAddress → Named → List ℕ
name_at address worker = if is_at address worker then worker.name ++ codes " " else []

-- a member, as a line names it: the workers that are reached at its address, where some are known, and the address
abbrev pub member_text : List Named → MemberAddress → List ℕ
member_text workers address =
    flat_map (name_at address) workers ++ (if list_any (is_at address) workers then codes "at " else []) ++ address.host ++ codes ":"
    ++ decimal address.port
