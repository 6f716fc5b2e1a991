-- The lines that `play` prints.
use Rattle.std.specs.Prelude.{ℕ, Bool, List, [], ◌∷◌, ◌++◌, codes, decimal, slice_index_or, if◌then◌else◌}
use Rattle.std.specs.List.{flat_map}
use Rattle.lb_model.specs.declared.state.MemberState.{MemberState}
use Rattle.lb_model.specs.declared.state.MemberState.TheVariants as state
use Rattle.lb_model.specs.declared.view.MemberRow.{MemberRow}
use Rattle.lb_model.specs.declared.journal.How.{How}
use Rattle.lb_model.specs.declared.journal.How.TheVariants as how
use Rattle.lb_model.specs.declared.journal.Answer.{Answer}
use Rattle.lb_model.specs.declared.journal.Answer.TheVariants as answer
use Rattle.play_script.specs.declared.printed.ScriptRefusal.{ScriptRefusal}
use Rattle.play_script.specs.declared.printed.ScriptRefusal.TheVariants as refusal

abbrev pub name_at : List (List ℕ) → ℕ → List ℕ
name_at names member = slice_index_or names member []

-- how the member was found, where it wasn't the least loaded
abbrev pub how_words : How → List ℕ
how_words how.Sticky = codes " sticky"
how_words how.Redirect = codes " redirect"
how_words how.Balanced = []

abbrev pub probe_words : Bool → List ℕ
probe_words probe = if probe then codes " probe" else []

-- the line of a select: its ticket and the member's name, or why it has none
abbrev pub answer_line : List (List ℕ) → Answer → List ℕ
answer_line names (answer.Chosen member ticket how probe) =
    decimal ticket ++ codes " " ++ name_at names member ++ how_words how ++ probe_words probe ++ codes "\n"
answer_line names answer.NoMember = codes "none\n"
answer_line names answer.Forced = codes "forced\n"
answer_line names answer.Done = []

abbrev pub state_word : MemberState → List ℕ
state_word state.Ok = codes "ok"
state_word (state.Error at) = codes "error"
state_word state.Recover = codes "recover"
state_word (state.Probe ticket) = codes "probe"

-- the line of a member: name, state, load, tickets out
abbrev pub row_line : MemberRow → List ℕ
row_line row =
    row.name ++ codes " " ++ state_word row.state ++ codes " " ++ decimal row.load ++ codes " " ++ decimal row.busy ++ codes "\n"

abbrev pub row_lines : List MemberRow → List ℕ
row_lines rows = flat_map row_line rows

abbrev pub refusal_words : ScriptRefusal → List ℕ
refusal_words refusal.BadLine = codes "bad line\n"
refusal_words (refusal.NotOpen ticket) = codes "ticket " ++ decimal ticket ++ codes " is not open\n"
refusal_words (refusal.Refused code) = codes "refused " ++ decimal code ++ codes "\n"
refusal_words refusal.BadBalancer = codes "bad balancer\n"

-- the last line of a script that is refused at this line, counted from 1
abbrev pub refusal_line : ℕ → ScriptRefusal → List ℕ
refusal_line number r = codes "line " ++ decimal number ++ codes ": " ++ refusal_words r
