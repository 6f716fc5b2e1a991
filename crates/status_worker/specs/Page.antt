-- The page of a status worker.
use Rattle.std.specs.Prelude.{ℕ, List, ◌++◌, Option, Some, None, codes, decimal, length, map, slice_index_or}
use Rattle.std.specs.List.{flat_map}
use Rattle.lb_model.specs.declared.view.MemberRow.{MemberRow}
use Rattle.status_worker.specs.declared.page.PagePart.{PagePart}
use Rattle.status_worker.specs.Words.{type_word, method_letter, activation_letter, state_word}

abbrev pub names_of : List MemberRow → List (List ℕ)
names_of rows = map (λ row. row.name) rows

-- the name of the member at a place, `-` for none
abbrev pub name_at : List (List ℕ) → Option ℕ → List ℕ
name_at names None = codes "-"
name_at names (Some place) = slice_index_or names place (codes "-")

-- which requests the member takes, and how it is: name, activation, state, load, tickets out
abbrev pub standing_words : MemberRow → List ℕ
standing_words row =
    row.name ++ codes " " ++ activation_letter row.activation ++ codes " " ++ state_word row.state
    ++ codes " " ++ decimal row.load ++ codes " " ++ decimal row.busy

-- its part of the balancer: factor, distance, redirect
abbrev pub weight_words : List (List ℕ) → MemberRow → List ℕ
weight_words names row = codes " " ++ decimal row.factor ++ codes " " ++ decimal row.distance ++ codes " " ++ name_at names row.redirect

-- the line of a member, where the balancer's members have these names
abbrev pub member_line : List (List ℕ) → MemberRow → List ℕ
member_line names row = standing_words row ++ weight_words names row ++ codes "\n"

-- the line of a balancer: type, name, method, how many members, the number of the next entry
abbrev pub balancer_line : PagePart → List ℕ
balancer_line part =
    type_word part.type_ ++ codes " " ++ part.name ++ codes " " ++ method_letter part.method
    ++ codes " " ++ decimal (length part.view.rows) ++ codes " " ++ decimal part.view.next ++ codes "\n"

-- a balancer and its members
abbrev pub part_lines : PagePart → List ℕ
part_lines part = balancer_line part ++ flat_map (member_line (names_of part.view.rows)) part.view.rows

abbrev pub page_of : List PagePart → List ℕ
page_of parts = codes "jk status\n" ++ flat_map part_lines parts
