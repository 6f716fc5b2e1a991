-- The values of directives: numbers, truth values, letters, types, lists of statuses, and references.
use Rattle.std.specs.Prelude.{ℕ, ◌+◌, Bool, true, false, List, [], ◌∷◌, ◌++◌, Option, Some, None, if◌then◌else◌, ◌==◌, ◌||◌, ◌&&◌, nat_le, length, map, codes, not}
use mathlib.Core.Bool.{beq}
use Rattle.std.specs.Option.{option_map}
use Rattle.std.specs.List.{list_any, list_all}
use Rattle.std.specs.Str.{bytes_eq}
use Rattle.jk_io.specs.Decimals.{decimal_of}
use Rattle.lb_model.specs.declared.member.Activation.{Activation}
use Rattle.lb_model.specs.declared.member.Activation.TheVariants as activation
use Rattle.lb_model.specs.declared.member.Method.{Method}
use Rattle.lb_model.specs.declared.member.Method.TheVariants as method
use Rattle.site_config.specs.declared.values.Pings.{Pings}
use Rattle.site_config.specs.declared.values.WorkerKind.{WorkerKind}
use Rattle.site_config.specs.declared.values.WorkerKind.TheVariants as kind
use Rattle.site_config.specs.Directives.{behind_worker}
use Rattle.site_config.specs.Names.{words}

-- a number of this range
abbrev pub within : ℕ → ℕ → Option ℕ → Option ℕ
within low high None = None
within low high (Some n) = if nat_le low n && nat_le n high then Some n else None

abbrev pub number_in : ℕ → ℕ → List ℕ → Option ℕ
number_in low high text = within low high (decimal_of text)

-- a capital letter as a small one
abbrev pub lower : ℕ → ℕ
lower b = if nat_le 65 b && nat_le b 90 then b + 32 else b

-- the word, in either case
abbrev pub is_word : List ℕ → List ℕ → Bool
is_word word text = bytes_eq (map lower text) word

unfoldable pub says_yes : List ℕ → Bool
says_yes text = is_word (codes "true") text || (is_word (codes "t") text || (is_word (codes "yes") text || (is_word (codes "y") text || (is_word (codes "on") text || is_word (codes "1") text))))

unfoldable pub says_no : List ℕ → Bool
says_no text = is_word (codes "false") text || (is_word (codes "f") text || (is_word (codes "no") text || (is_word (codes "n") text || (is_word (codes "off") text || is_word (codes "0") text))))

-- a truth value, in either case
abbrev pub truth_of : List ℕ → Option Bool
truth_of text = if says_yes text then Some true else (if says_no text then Some false else None)

-- the type of a worker
unfoldable pub kind_of : List ℕ → Option WorkerKind
kind_of text = if bytes_eq text (codes "ajp13") then Some kind.Ajp13 else (if bytes_eq text (codes "lb") then Some kind.Lb else (if bytes_eq text (codes "status") then Some kind.Status else None))

-- A, D or S
abbrev pub activation_at : ℕ → Option Activation
activation_at b = if b == 97 then Some activation.Active else (if b == 100 then Some activation.Disabled else (if b == 115 then Some activation.Stopped else None))

-- the first letter counts, in either case
abbrev pub activation_of : List ℕ → Option Activation
activation_of [] = None
activation_of (b ∷ bs) = activation_at (lower b)

-- R, S, T or B
abbrev pub method_at : ℕ → Option Method
method_at b = if b == 114 then Some method.Request else (if b == 115 then Some method.Session else (if b == 116 then Some method.Traffic else (if b == 98 then Some method.Busyness else None)))

abbrev pub method_of : List ℕ → Option Method
method_of [] = None
method_of (b ∷ bs) = method_at (lower b)

-- C, P, I or A
abbrev pub is_ping_letter : ℕ → Bool
is_ping_letter b = (lower b == 99) || ((lower b == 112) || ((lower b == 105) || (lower b == 97)))

abbrev pub is_ping : List ℕ → Bool
is_ping text = list_all is_ping_letter text

-- the letter stands there, or A, which is all of them
abbrev pub asks_ping : ℕ → List ℕ → Bool
asks_ping letter text = list_any (λ b. (lower b == letter) || (lower b == 97)) text

-- when a member is pinged, by the letters that stand there and no others
abbrev pub pings_of : List ℕ → Option Pings
pings_of text = if is_ping text then Some (record { dialled = asks_ping 99 text; each = asks_ping 112 text; idle = asks_ping 105 text }) else None

-- a status that counts as a failure, and whether a '-' stands before it
abbrev pub status_of : List ℕ → Option (ℕ × Bool)
status_of [] = None
status_of (b ∷ bs) = if b == 45 then option_map (λ n. (n, true)) (number_in 200 999 bs) else option_map (λ n. (n, false)) (number_in 200 999 (b ∷ bs))

abbrev pub has_status : ℕ → Bool → List (ℕ × Bool) → Bool
has_status n negated statuses = list_any (λ s. (s.0 == n) && beq s.1 negated) statuses

-- a status after others: one that is there adds nothing, one with the other sign is refused, and so is a 65th
abbrev pub status_after : List (ℕ × Bool) → Option (ℕ × Bool) → Option (List (ℕ × Bool))
status_after before None = None
status_after before (Some s) = if has_status s.0 s.1 before then Some before else (if has_status s.0 (not s.1) before || nat_le 64 (length before) then None else Some (before ++ s ∷ []))

-- the statuses of these words after others
abbrev pub statuses_after : Option (List (ℕ × Bool)) → List (List ℕ) → Option (List (ℕ × Bool))
statuses_after None ws = None
statuses_after (Some before) [] = Some before
statuses_after (Some before) (w ∷ ws) = statuses_after (status_after before (status_of w)) ws

-- 1 to 64 statuses
abbrev pub some_statuses : Option (List (ℕ × Bool)) → Option (List (ℕ × Bool))
some_statuses None = None
some_statuses (Some []) = None
some_statuses (Some (s ∷ more)) = Some (s ∷ more)

abbrev pub statuses_of : List ℕ → Option (List (ℕ × Bool))
statuses_of text = some_statuses (statuses_after (Some []) (words text))

-- the worker that a reference names
abbrev pub target_of : List ℕ → Option (List ℕ)
target_of text = behind_worker text
