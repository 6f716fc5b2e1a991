-- The parts `name=value` after a rule's worker, and the terms that they give.
use Rattle.std.specs.Prelude.{ℕ, Bool, true, false, List, [], ◌∷◌, Option, Some, None, is_some, if◌then◌else◌, ◌==◌, ◌||◌, codes, unwrap_or}
use Rattle.std.specs.Option.{option_map, option_and_then, option_or}
use Rattle.std.specs.List.{list_all, slice_split}
use Rattle.std.specs.Str.{bytes_eq}
use Rattle.jk_io.specs.Decimals.{trimmed}
use Rattle.lb_model.specs.declared.ask.Terms.{Terms}
use Rattle.lb_model.specs.declared.member.MemberConfig.{MemberConfig}
use Rattle.site_config.specs.Cut.{cut_at}
use Rattle.site_config.specs.Names.{words}
use Rattle.site_config.specs.Values.{number_in, truth_of}
use Rattle.site_mounts.specs.Members.{are_members, set_of}

unfoldable pub sticky_ignore : List ℕ
sticky_ignore = codes "sticky_ignore"

unfoldable pub disabled : List ℕ
disabled = codes "disabled"

unfoldable pub stopped : List ℕ
stopped = codes "stopped"

unfoldable pub reply_timeout : List ℕ
reply_timeout = codes "reply_timeout"

-- a name and its value, split at the first `=`
abbrev pub part_of : List ℕ → Option (List ℕ × List ℕ)
part_of text = option_map (λ sides. (trimmed sides.0, trimmed sides.1)) (cut_at 61 text)

abbrev pub before : Option (List ℕ × List ℕ) → Option (List (List ℕ × List ℕ)) → Option (List (List ℕ × List ℕ))
before None parts = None
before (Some part) parts = option_map (λ more. part ∷ more) parts

-- the parts of these texts; none where one has no `=`
abbrev pub parts_of : List (List ℕ) → Option (List (List ℕ × List ℕ))
parts_of [] = Some []
parts_of (text ∷ texts) = before (part_of text) (parts_of texts)

-- what stands between the `;` of a text
abbrev pub pieces_of : List ℕ → List (List ℕ)
pieces_of text = slice_split (λ b. b == 59) text

-- milliseconds, at most a day
abbrev pub millis_of : List ℕ → Option ℕ
millis_of text = number_in 0 86400000 text

-- a truth value, names of members, or milliseconds; another name has no effect
abbrev pub is_good : List MemberConfig → List ℕ × List ℕ → Bool
is_good members part =
    if bytes_eq part.0 sticky_ignore then is_some (truth_of part.1)
    else (if bytes_eq part.0 disabled || bytes_eq part.0 stopped then are_members members (words part.1)
    else (if bytes_eq part.0 reply_timeout then is_some (millis_of part.1) else true))

abbrev pub value_of : List ℕ → List ℕ × List ℕ → Option (List ℕ)
value_of name part = if bytes_eq part.0 name then Some part.1 else None

-- the value of the last part of this name
abbrev pub last_value : List ℕ → List (List ℕ × List ℕ) → Option (List ℕ)
last_value name [] = None
last_value name (part ∷ parts) = option_or (last_value name parts) (value_of name part)

abbrev pub is_yes : Option (List ℕ) → Bool
is_yes value = unwrap_or (option_and_then truth_of value) false

abbrev pub names_in : Option (List ℕ) → List (List ℕ)
names_in None = []
names_in (Some list) = words list

-- of parts of one name the last one counts
abbrev pub terms_of : List MemberConfig → List (List ℕ × List ℕ) → Terms
terms_of members parts = record {
  sticky_ignore = is_yes (last_value sticky_ignore parts);
  disabled = set_of members (names_in (last_value disabled parts));
  stopped = set_of members (names_in (last_value stopped parts));
  reply_timeout = option_and_then millis_of (last_value reply_timeout parts);
}

-- the terms that parts give; none where one isn't good
abbrev pub given_terms : List MemberConfig → List (List ℕ × List ℕ) → Option Terms
given_terms members parts = if list_all (is_good members) parts then Some (terms_of members parts) else None

-- the pieces after a worker, where a `;` stands there
abbrev pub pieces_behind : Option (List ℕ) → List (List ℕ)
pieces_behind None = []
pieces_behind (Some text) = pieces_of text
