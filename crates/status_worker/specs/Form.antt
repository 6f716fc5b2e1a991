-- The form in a row of the table: its fields are those of an update with the member's own values, and each button sends a command.
use Rattle.std.specs.Prelude.{ℕ, ◌++◌, Bool, List, [], Option, Some, None, codes, decimal, slice_index_or, if◌then◌else◌}
use Rattle.std.specs.Str.{bytes_eq}
use Rattle.lb_model.specs.declared.member.Activation.{Activation}
use Rattle.lb_model.specs.declared.member.Activation.TheVariants as activation
use Rattle.lb_model.specs.declared.view.MemberRow.{MemberRow}
use Rattle.status_worker.specs.declared.page.PagePart.{PagePart}
use Rattle.status_worker.specs.Marks.{html_text}
use Rattle.status_worker.specs.Page.{names_of}
use Rattle.status_worker.specs.Words.{activation_letter, activation_word}

-- ---- what is changed: the balancer and its member

abbrev pub hidden_field : (name value : List ℕ) → List ℕ
hidden_field name value = codes "<input type='hidden' name='" ++ name ++ codes "' value='" ++ html_text value ++ codes "'>"

abbrev pub target_fields : PagePart → MemberRow → List ℕ
target_fields part row =
    hidden_field (codes "mime") (codes "html") ++ hidden_field (codes "w") part.name ++ hidden_field (codes "sw") row.name

-- ---- the values

abbrev pub selected : Bool → List ℕ
selected is_it = if is_it then codes "' selected>" else codes "'>"

-- the member's own activation is the chosen one
abbrev pub activation_option : MemberRow → Activation → List ℕ
activation_option row to =
    codes "<option value='" ++ activation_letter to ++ selected (bytes_eq (activation_letter row.activation) (activation_letter to))
    ++ activation_word to ++ codes "</option>"

abbrev pub activation_field : MemberRow → List ℕ
activation_field row =
    codes "<label>Activation <select name='vwa'>" ++ activation_option row activation.Active ++ activation_option row activation.Disabled
    ++ activation_option row activation.Stopped ++ codes "</select></label> "

abbrev pub number_field : (label name : List ℕ) → ℕ → List ℕ
number_field label name number =
    codes "<label>" ++ label ++ codes " <input size='5' name='" ++ name ++ codes "' value='" ++ decimal number ++ codes "'></label> "

-- the name of the member at a place, empty for none
abbrev pub redirect_name : List (List ℕ) → Option ℕ → List ℕ
redirect_name names None = []
redirect_name names (Some place) = slice_index_or names place []

abbrev pub redirect_field : List (List ℕ) → MemberRow → List ℕ
redirect_field names row =
    codes "<label>Redirect <input size='10' name='vwr' value='" ++ html_text (redirect_name names row.redirect) ++ codes "'></label> "

abbrev pub value_fields : List (List ℕ) → MemberRow → List ℕ
value_fields names row =
    activation_field row ++ number_field (codes "Factor") (codes "vwf") row.factor
    ++ number_field (codes "Distance") (codes "vwd") row.distance ++ redirect_field names row

-- ---- the form

abbrev pub buttons : List ℕ
buttons =
    codes "<button name='cmd' value='update'>Change</button> <button name='cmd' value='reset'>Reset</button> <button name='cmd' value='recover'>Recover</button>"

abbrev pub member_form : PagePart → MemberRow → List ℕ
member_form part row =
    codes "<form>" ++ target_fields part row ++ value_fields (names_of part.view.rows) row ++ buttons ++ codes "</form>"
