-- The page as HTML: for each balancer a table with a row for each member, and a form in each row where changes may be made.
use Rattle.std.specs.Prelude.{ℕ, ◌++◌, Bool, List, [], codes, decimal, if◌then◌else◌}
use Rattle.std.specs.List.{flat_map, zip}
use Rattle.lb_model.specs.declared.view.MemberRow.{MemberRow}
use Rattle.status_worker.specs.declared.page.Address.{Address}
use Rattle.status_worker.specs.declared.page.PagePart.{PagePart}
use Rattle.status_worker.specs.Form.{member_form}
use Rattle.status_worker.specs.Marks.{html_text}
use Rattle.status_worker.specs.Page.{name_at, names_of}
use Rattle.status_worker.specs.Words.{activation_word, method_letter, state_phrase, type_word}

-- ---- a member: a cell is a text, a number or an address

abbrev pub text_cell : List ℕ → List ℕ
text_cell text = codes "<td>" ++ html_text text ++ codes "</td>"

abbrev pub number_cell : ℕ → List ℕ
number_cell n = codes "<td>" ++ decimal n ++ codes "</td>"

-- host and port
abbrev pub address_cell : Address → List ℕ
address_cell a = codes "<td>" ++ html_text a.host ++ codes ":" ++ decimal a.port ++ codes "</td>"

-- the names of the columns, in the order of a row's cells
abbrev pub columns : List ℕ
columns =
    codes "<th>Member</th><th>Address</th><th>Activation</th><th>State</th><th>Load</th><th>Busy</th><th>Factor</th><th>Distance</th><th>Redirect</th>"

abbrev pub standing_cells : MemberRow → List ℕ
standing_cells row =
    text_cell (activation_word row.activation) ++ text_cell (state_phrase row.state) ++ number_cell row.load ++ number_cell row.busy

abbrev pub weight_cells : List (List ℕ) → MemberRow → List ℕ
weight_cells names row = number_cell row.factor ++ number_cell row.distance ++ text_cell (name_at names row.redirect)

abbrev pub member_cells : List (List ℕ) → MemberRow → Address → List ℕ
member_cells names row address = text_cell row.name ++ address_cell address ++ standing_cells row ++ weight_cells names row

-- ---- the column of forms, where changes may be made

abbrev pub change_column : (may_change : Bool) → List ℕ
change_column may_change = if may_change then codes "<th>Change</th>" else []

abbrev pub change_cell : (may_change : Bool) → PagePart → MemberRow → List ℕ
change_cell may_change part row = if may_change then codes "<td>" ++ member_form part row ++ codes "</td>" else []

-- ---- a balancer

abbrev pub table_row : (may_change : Bool) → PagePart → MemberRow × Address → List ℕ
table_row may_change part pair =
    codes "<tr>" ++ member_cells (names_of part.view.rows) pair.0 pair.1 ++ change_cell may_change part pair.0 ++ codes "</tr>\n"

-- each member with its address
abbrev pub table_rows : (may_change : Bool) → PagePart → List ℕ
table_rows may_change part = flat_map (table_row may_change part) (zip part.view.rows part.addresses)

-- type and name
abbrev pub table_title : PagePart → List ℕ
table_title part = codes "<h2>" ++ type_word part.type_ ++ codes " " ++ html_text part.name ++ codes "</h2>\n"

-- method, the number of the next entry
abbrev pub table_about : PagePart → List ℕ
table_about part =
    codes "<p>Method " ++ method_letter part.method ++ codes ", next journal entry " ++ decimal part.view.next ++ codes ".</p>\n"

abbrev pub table_head : (may_change : Bool) → List ℕ
table_head may_change = codes "<table>\n<tr>" ++ columns ++ change_column may_change ++ codes "</tr>\n"

abbrev pub table_part : (may_change : Bool) → PagePart → List ℕ
table_part may_change part = table_title part ++ table_about part ++ table_head may_change ++ table_rows may_change part ++ codes "</table>\n"

-- ---- the page

abbrev pub page_top : List ℕ
page_top = codes "<!DOCTYPE html>\n<html lang='en'>\n<head>\n<meta charset='utf-8'>\n<title>jk status</title>\n"

abbrev pub page_style : List ℕ
page_style = codes "<style>table { border-collapse: collapse } th, td { border: 1px solid; padding: 0.2em 0.6em }</style>\n"

abbrev pub page_heading : List ℕ
page_heading = codes "</head>\n<body>\n<h1>jk status</h1>\n<p><a href='?mime=html'>All balancers</a></p>\n"

abbrev pub html_page : (may_change : Bool) → List PagePart → List ℕ
html_page may_change parts =
    page_top ++ page_style ++ page_heading ++ flat_map (table_part may_change) parts ++ codes "</body>\n</html>\n"
