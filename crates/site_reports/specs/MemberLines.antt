-- The line of a member: how it is reached, its part of the balancer, and what its talks do.
use Rattle.std.specs.Prelude.{ℕ, Bool, true, false, List, [], ◌∷◌, ◌++◌, Option, Some, None, codes, decimal, slice_index_or, map, if◌then◌else◌}
use Rattle.std.specs.List.{flat_map}
use Rattle.lb_model.specs.declared.member.MemberConfig.{MemberConfig}
use Rattle.site_config.specs.declared.endpoint.Endpoint.{Endpoint}
use Rattle.site_reports.specs.LimitLines.{limits_line}
use Rattle.site_reports.specs.Words.{activation_words}

abbrev pub names_of : List MemberConfig → List (List ℕ)
names_of members = map (λ m. m.name) members

-- the name of the member at a place, `-` for none
abbrev pub name_at : List (List ℕ) → Option ℕ → List ℕ
name_at names None = codes "-"
name_at names (Some place) = slice_index_or names place (codes "-")

-- the letters of the pings that are on, `-` where none is
abbrev pub ping_letters : (new each idle : Bool) → List ℕ
ping_letters false false false = codes "-"
ping_letters true false false = codes "C"
ping_letters false true false = codes "P"
ping_letters true true false = codes "CP"
ping_letters false false true = codes "I"
ping_letters true false true = codes "CI"
ping_letters false true true = codes "PI"
ping_letters true true true = codes "CPI"

-- a status that counts as a failure, with `-` where the member gets no error for it
abbrev pub status_word : ℕ × Bool → List ℕ
status_word entry = (if entry.1 then codes "-" else []) ++ decimal entry.0

abbrev pub next_status : ℕ × Bool → List ℕ
next_status entry = codes "," ++ status_word entry

-- the statuses of `fail_on_status`, separated by commas
abbrev pub fail_words : List (ℕ × Bool) → List ℕ
fail_words [] = []
fail_words (first ∷ more) = codes " fail " ++ status_word first ++ flat_map next_status more

abbrev pub place_words : MemberConfig → Endpoint → List ℕ
place_words m e = codes "member " ++ m.name ++ codes " " ++ e.host ++ codes " " ++ decimal e.port

abbrev pub weight_words : MemberConfig → List ℕ
weight_words m = codes " route " ++ m.route ++ codes " factor " ++ decimal m.factor ++ codes " distance " ++ decimal m.distance

abbrev pub redirect_words : List (List ℕ) → Option ℕ → List ℕ
redirect_words names place = codes " redirect " ++ name_at names place

abbrev pub talk_words : MemberConfig → Endpoint → List ℕ
talk_words m e =
    codes " retries " ++ decimal e.retries ++ codes " packet " ++ decimal e.packet ++ codes " pool " ++ decimal m.pool
    ++ codes " recovery " ++ decimal e.recovery ++ codes " ping " ++ ping_letters e.ping_new e.ping_each e.ping_idle

-- a member, and how it is reached
abbrev pub member_line : List (List ℕ) → MemberConfig × Endpoint → List ℕ
member_line names pair =
    place_words pair.0 pair.1 ++ weight_words pair.0 ++ activation_words pair.0.activation ++ redirect_words names pair.0.redirect ++ talk_words pair.0 pair.1 ++ fail_words pair.1.fail_on ++ codes "\n"

-- and after it the line of its time limits, if it sets some
abbrev pub member_text : List (List ℕ) → MemberConfig × Endpoint → List ℕ
member_text names pair = member_line names pair ++ limits_line pair.0.name pair.1.limits
