-- The rules of a uriworkermap.properties, or the first line that is refused.
use Rattle.std.specs.Prelude.{ℕ, ◌+◌, Bool, true, false, List, [], ◌∷◌, ◌++◌, Option, Some, None, Result, Ok, Err, if◌then◌else◌, map}
use Rattle.std.specs.Option.{option_map, option_and_then}
use Rattle.std.specs.Str.{bytes_eq}
use Rattle.jk_io.specs.Decimals.{trimmed}
use Rattle.lb_model.specs.declared.ask.Terms.{Terms}
use Rattle.site_config.specs.Cut.{cut_at}
use Rattle.site_config.specs.Lines.{lines, without_mark}
use Rattle.site_config.specs.Properties.{is_silent}
use Rattle.site_config.specs.declared.config.Config.{Config}
use Rattle.site_config.specs.declared.config.Named.{Named}
use Rattle.site_config.specs.declared.config.Named.TheVariants as named
use Rattle.site_config.specs.Places.{named_among}
use Rattle.site_mounts.specs.declared.error.MapRefusal.{MapRefusal}
use Rattle.site_mounts.specs.declared.error.MapReason.TheVariants as reason
use Rattle.site_mounts.specs.declared.rule.Rule.{Rule}
use Rattle.site_mounts.specs.declared.rule.Role.{Role}
use Rattle.site_mounts.specs.declared.rule.Role.TheVariants as role
use Rattle.site_mounts.specs.Members.{members_at}
use Rattle.site_mounts.specs.Mounts.{no_terms}
use Rattle.site_mounts.specs.Parts.{given_terms, parts_of, pieces_of}
use Rattle.site_mounts.specs.Sides.{Left, left_of, patterns_of}
use Rattle.site_mounts.specs.Refusals.{refusal, or_refused}

-- a worker that is listed
abbrev pub known : Config → ℕ → List ℕ → Result Named MapRefusal
known config line name = or_refused line reason.UnknownWorker (named_among name config.listed)

abbrev pub excluded_worker : Result Named MapRefusal → Result Role MapRefusal
excluded_worker (Err refused) = Err refused
excluded_worker (Ok worker) = Ok (role.Exclusion (Some worker))

-- an exclusion's worker; `*` is every one
abbrev pub exclusion_of : Config → ℕ → List ℕ → Result Role MapRefusal
exclusion_of config line name =
    if bytes_eq name (42 ∷ []) then Ok (role.Exclusion None) else excluded_worker (known config line name)

-- at a status worker parts have no effect
abbrev pub terms_at : Config → Named → List (List ℕ × List ℕ) → Option Terms
terms_at config (named.Balancer i) parts = given_terms (members_at config i) parts
terms_at config (named.Status i) parts = Some no_terms

abbrev pub mount_at : Named → Terms → Role
mount_at worker terms = role.Mount (record { worker = worker; terms = terms })

abbrev pub mount_with : Config → ℕ → List (List ℕ) → Result Named MapRefusal → Result Role MapRefusal
mount_with config line texts (Err refused) = Err refused
mount_with config line texts (Ok worker) =
    or_refused line reason.BadExtension (option_map (mount_at worker) (option_and_then (terms_at config worker) (parts_of texts)))

-- a mount's worker, and the parts after it
abbrev pub mount_of : Config → ℕ → List ℕ → List (List ℕ) → Result Role MapRefusal
mount_of config line name texts = mount_with config line texts (known config line name)

-- what a rule's right side says, in the pieces between its `;`; an exclusion has no parts, and ignores what stands there
abbrev pub role_in : Config → ℕ → Bool → List (List ℕ) → Result Role MapRefusal
role_in config line exclusion [] = Err (refusal line reason.UnknownWorker)
role_in config line true (name ∷ texts) = exclusion_of config line (trimmed name)
role_in config line false (name ∷ texts) = mount_of config line (trimmed name) texts

abbrev pub role_of : Config → ℕ → Bool → List ℕ → Result Role MapRefusal
role_of config line exclusion text = role_in config line exclusion (pieces_of text)

-- the rules of one line, one for each pattern
abbrev pub made_rules : ℕ → Role → List (List ℕ) → List Rule
made_rules line role patterns = map (λ p. record { line = line; pattern = p; role = role }) patterns

-- none where the line is turned off
abbrev pub rules_with : ℕ → Bool → List (List ℕ) → Result Role MapRefusal → Result (List Rule) MapRefusal
rules_with line off patterns (Err refused) = Err refused
rules_with line true patterns (Ok role) = Ok []
rules_with line false patterns (Ok role) = Ok (made_rules line role patterns)

-- a bad pattern goes before an unknown worker, and that before a bad part
abbrev pub rules_at : Config → ℕ → Left → Option (List (List ℕ)) → List ℕ → Result (List Rule) MapRefusal
rules_at config line side None right = Err (refusal line reason.BadPattern)
rules_at config line side (Some patterns) right = rules_with line side.off patterns (role_of config line side.exclusion right)

-- a line split at its first `=`
abbrev pub rules_of : Config → ℕ → Option (List ℕ × List ℕ) → Result (List Rule) MapRefusal
rules_of config line None = Err (refusal line reason.BadPattern)
rules_of config line (Some sides) =
    let side = left_of (trimmed sides.0) in rules_at config line side (patterns_of side.pattern) sides.1

-- what a line without its outer blanks says
abbrev pub said : Config → ℕ → List ℕ → Result (List Rule) MapRefusal
said config line text = if is_silent text then Ok [] else rules_of config line (cut_at 61 text)

-- rules in front of those that are read
abbrev pub with_rules : List Rule → Result (List Rule) MapRefusal → Result (List Rule) MapRefusal
with_rules front (Ok rules) = Ok (front ++ rules)
with_rules front (Err refused) = Err refused

abbrev pub before_rest : Result (List Rule) MapRefusal → Result (List Rule) MapRefusal → Result (List Rule) MapRefusal
before_rest (Err refused) rest = Err refused
before_rest (Ok rules) rest = with_rules rules rest

-- the lines from this number on
abbrev pub read_lines : Config → ℕ → List (List ℕ) → Result (List Rule) MapRefusal
read_lines config line [] = Ok []
read_lines config line (l ∷ ls) = before_rest (said config line (trimmed l)) (read_lines config (line + 1) ls)

-- the rules of a text, or its first refusal
abbrev pub read_text : Config → List ℕ → Result (List Rule) MapRefusal
read_text config text = read_lines config 1 (lines (without_mark text))
