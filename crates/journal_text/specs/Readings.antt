-- The words of a line, read. A line is of its form where it is just what its words say, written again.
use Rattle.std.specs.Prelude.{ℕ, Bool, ◌==◌, List, [], ◌∷◌, length, drop, Option, Some, None, suc, zero, nat_eq, codes, if◌then◌else◌, option_map}
use Rattle.std.specs.List.{starts_with}
use Rattle.std.specs.Str.{bytes_eq}
use Rattle.jk_io.specs.Decimals.{decimal_of}
use Rattle.lb_model.specs.declared.ask.Ask.{Ask}
use Rattle.lb_model.specs.declared.change.Change.{Change}
use Rattle.lb_model.specs.declared.change.Command.{Command}
use Rattle.lb_model.specs.declared.change.Command.TheVariants as command
use Rattle.lb_model.specs.declared.change.Redirect.{Redirect}
use Rattle.lb_model.specs.declared.change.Redirect.TheVariants as redirect
use Rattle.lb_model.specs.declared.journal.Answer.{Answer}
use Rattle.lb_model.specs.declared.journal.Answer.TheVariants as answer
use Rattle.lb_model.specs.declared.journal.Call.{Call}
use Rattle.lb_model.specs.declared.journal.Call.TheVariants as call
use Rattle.lb_model.specs.declared.journal.Entry.{Entry}
use Rattle.lb_model.specs.declared.journal.How.{How}
use Rattle.lb_model.specs.declared.journal.How.TheVariants as how
use Rattle.lb_model.specs.declared.journal.Kind.{Kind}
use Rattle.lb_model.specs.declared.journal.Kind.TheVariants as kind
use Rattle.lb_model.specs.declared.member.Activation.{Activation}
use Rattle.lb_model.specs.declared.member.Activation.TheVariants as activation
use Rattle.lb_model.specs.declared.member.Method.{Method}
use Rattle.lb_model.specs.declared.state.MemberState.{MemberState}
use Rattle.lb_model.specs.declared.state.MemberState.TheVariants as state
use Rattle.play_script.specs.Parts.{parts_of}
use Rattle.play_script.specs.Values.{◌>>=◌, byte_count, flag_of, method_of, short_number}
use Rattle.journal_text.specs.Lines.{line_text}
use Rattle.journal_text.specs.Names.{name_of}
use Rattle.journal_text.specs.Wide.{wide_number}
use Rattle.journal_text.specs.declared.line.BalancerValues.{BalancerValues}
use Rattle.journal_text.specs.declared.line.Beginning.{Beginning}
use Rattle.journal_text.specs.declared.line.Line.{Line}
use Rattle.journal_text.specs.declared.line.Line.TheVariants as line
use Rattle.journal_text.specs.declared.line.MemberValues.{MemberValues}

-- what the first word says, if there is one
abbrev pub first : {A : Type 0} → (List ℕ → Option A) → List (List ℕ) → Option A
first read [] = None
first read (word ∷ words) = read word

-- the words after the first one
abbrev pub later : List (List ℕ) → List (List ℕ)
later [] = []
later (word ∷ words) = words

-- the words after the first n
abbrev pub past : (n : ℕ) → List (List ℕ) → List (List ℕ)
past zero words = words
past (suc n) words = past n (later words)

-- x, where no word is left
abbrev pub ended : {A : Type 0} → List (List ℕ) → A → Option A
ended [] x = Some x
ended (word ∷ words) x = None

-- `-`, or what is read otherwise
abbrev pub given : {A : Type 0} → (List ℕ → Option A) → List ℕ → Option (Option A)
given read word = if bytes_eq word (codes "-") then Some None else option_map Some (read word)

abbrev pub activation_of : List ℕ → Option Activation
activation_of word =
    if bytes_eq word (codes "A") then Some activation.Active
    else (if bytes_eq word (codes "D") then Some activation.Disabled
    else (if bytes_eq word (codes "S") then Some activation.Stopped
    else None))

-- the number after a key
abbrev pub keyed : (key word : List ℕ) → Option ℕ
keyed key word = if starts_with nat_eq word key then decimal_of (drop (length key) word) else None

abbrev pub state_of : List ℕ → Option MemberState
state_of word =
    if bytes_eq word (codes "ok") then Some state.Ok
    else (if bytes_eq word (codes "recover") then Some state.Recover
    else (if starts_with nat_eq word (codes "error:") then option_map state.Error (keyed (codes "error:") word)
    else option_map state.Probe (keyed (codes "probe:") word)))

abbrev pub kind_of : List ℕ → Option Kind
kind_of word =
    if bytes_eq word (codes "done") then Some kind.Done
    else (if bytes_eq word (codes "failed") then Some kind.Failed
    else (if bytes_eq word (codes "gone") then Some kind.Gone
    else None))

abbrev pub how_of : List ℕ → Option How
how_of word =
    if bytes_eq word (codes "sticky") then Some how.Sticky
    else (if bytes_eq word (codes "redirect") then Some how.Redirect
    else (if bytes_eq word (codes "balanced") then Some how.Balanced
    else None))

abbrev pub redirect_of : List ℕ → Option Redirect
redirect_of word =
    if bytes_eq word (codes "-") then Some redirect.Keep
    else (if bytes_eq word (codes "none") then Some redirect.None
    else option_map redirect.To (short_number word))

abbrev pub version_of : List ℕ → Option ℕ
version_of word =
    if bytes_eq word (codes "1") then Some 1 else (if bytes_eq word (codes "2") then Some 2 else None)

-- ROUTED FRESH TRIED, and under rules 2 DISABLED STOPPED
unfoldable pub ask_after : (rules : ℕ) → Option ℕ → Bool → ℕ → List (List ℕ) → Option Ask
ask_after rules routed fresh tried words =
    if rules == 1
    then Some (record { routed = routed; fresh = fresh; tried = tried; disabled = 0; stopped = 0 })
    else (first decimal_of words >>= λ disabled.
    first decimal_of (later words) >>= λ stopped.
    Some (record { routed = routed; fresh = fresh; tried = tried; disabled = disabled; stopped = stopped }))

abbrev pub ask_of : (rules : ℕ) → List (List ℕ) → Option Ask
ask_of rules words =
    first (given short_number) words >>= λ routed.
    first flag_of (later words) >>= λ fresh.
    first decimal_of (later (later words)) >>= λ tried.
    ask_after rules routed fresh tried (later (later (later words)))

-- TICKET KIND BYTES
abbrev pub return_of : List (List ℕ) → Option Call
return_of words =
    first decimal_of words >>= λ ticket.
    first kind_of (later words) >>= λ how.
    first byte_count (later (later words)) >>= λ bytes.
    Some (call.Return ticket (record { kind = how; bytes = bytes }))

-- ACTIVATION FACTOR DISTANCE REDIRECT
unfoldable pub change_of : List (List ℕ) → Option Change
change_of words =
    first (given activation_of) words >>= λ activation.
    first (given short_number) (later words) >>= λ factor.
    first (given short_number) (later (later words)) >>= λ distance.
    first redirect_of (later (later (later words))) >>= λ redirect.
    Some (record { activation = activation; factor = factor; distance = distance; redirect = redirect })

abbrev pub update_of : List (List ℕ) → Option Command
update_of words =
    first short_number words >>= λ member. option_map (command.Update member) (change_of (later words))

abbrev pub command_of : (verb : List ℕ) → List (List ℕ) → Option Command
command_of verb words =
    if bytes_eq verb (codes "update") then update_of words
    else (if bytes_eq verb (codes "reset") then option_map command.Reset (first short_number words)
    else (if bytes_eq verb (codes "recover") then option_map command.Recover (first short_number words)
    else None))

abbrev pub call_by : (rules : ℕ) → (verb : List ℕ) → List (List ℕ) → Option Call
call_by rules verb words =
    if bytes_eq verb (codes "select") then option_map call.Select (ask_of rules words)
    else (if bytes_eq verb (codes "return") then return_of words
    else (if bytes_eq verb (codes "maintain") then Some call.Maintain
    else option_map call.Admin (command_of verb words)))

-- the call that words begin with
unfoldable pub call_of : (rules : ℕ) → List (List ℕ) → Option Call
call_of rules [] = None
call_of rules (verb ∷ words) = call_by rules verb words

-- how many words a command and a call have
abbrev pub command_size : Command → ℕ
command_size (command.Update member change) = 6
command_size (command.Reset member) = 2
command_size (command.Recover member) = 2

abbrev pub call_size : (rules : ℕ) → Call → ℕ
call_size rules (call.Select ask) = if rules == 1 then 4 else 6
call_size rules (call.Return ticket outcome) = 4
call_size rules call.Maintain = 1
call_size rules (call.Admin c) = command_size c

-- MEMBER HOW PROBE
abbrev pub chosen_of : (seq : ℕ) → List (List ℕ) → Option Answer
chosen_of seq words =
    first short_number words >>= λ member.
    first how_of (later words) >>= λ how.
    first flag_of (later (later words)) >>= λ probe.
    ended (later (later (later words))) (answer.Chosen member seq how probe)

abbrev pub answer_by : (seq : ℕ) → (verb : List ℕ) → List (List ℕ) → Option Answer
answer_by seq verb words =
    if bytes_eq verb (codes "chosen") then chosen_of seq words
    else (if bytes_eq verb (codes "none") then ended words answer.NoMember
    else (if bytes_eq verb (codes "forced") then ended words answer.Forced
    else (if bytes_eq verb (codes "done") then ended words answer.Done
    else None)))

-- the answer of the entry with this number, which the words are
unfoldable pub answer_of : (seq : ℕ) → List (List ℕ) → Option Answer
answer_of seq [] = None
answer_of seq (verb ∷ words) = answer_by seq verb words

-- CALL ANSWER
unfoldable pub entry_after : (rules seq session at : ℕ) → List (List ℕ) → Option Entry
entry_after rules seq session at words =
    call_of rules words >>= λ call.
    answer_of seq (past (call_size rules call) words) >>= λ answer.
    Some (record { seq = seq; session = session; at = at; call = call; answer = answer })

-- SEQ SESSION AT, CALL ANSWER
abbrev pub entry_of : (rules : ℕ) → List (List ℕ) → Option Entry
entry_of rules words =
    first decimal_of words >>= λ seq.
    first short_number (later words) >>= λ session.
    first decimal_of (later (later words)) >>= λ at.
    entry_after rules seq session at (later (later (later words)))

-- DIRECT MAINTAIN RECOVER MEMBERS
unfoldable pub balancer_after : Method → (sticky force : Bool) → List (List ℕ) → Option BalancerValues
balancer_after method sticky force words =
    first flag_of words >>= λ direct.
    first decimal_of (later words) >>= λ maintain.
    first decimal_of (later (later words)) >>= λ recover.
    first short_number (later (later (later words))) >>= λ members.
    ended (later (later (later (later words)))) (record {
      method = method;
      sticky = sticky;
      force = force;
      direct = direct;
      maintain = maintain;
      recover = recover;
      members = members;
    })

-- METHOD STICKY FORCE, and those
abbrev pub balancer_of : List (List ℕ) → Option BalancerValues
balancer_of words =
    first method_of words >>= λ method.
    first flag_of (later words) >>= λ sticky.
    first flag_of (later (later words)) >>= λ force.
    balancer_after method sticky force (later (later (later words)))

-- REDIRECT POOL STATE LOAD
unfoldable pub member_after : (factor distance : ℕ) → Activation → List (List ℕ) → Option MemberValues
member_after factor distance activation words =
    first (given short_number) words >>= λ redirect.
    first short_number (later words) >>= λ pool.
    first state_of (later (later words)) >>= λ state.
    first wide_number (later (later (later words))) >>= λ load.
    ended (later (later (later (later words)))) (record {
      factor = factor;
      distance = distance;
      activation = activation;
      redirect = redirect;
      pool = pool;
      state = state;
      load = load;
    })

-- FACTOR DISTANCE ACTIVATION, and those
abbrev pub member_of : List (List ℕ) → Option MemberValues
member_of words =
    first short_number words >>= λ factor.
    first short_number (later words) >>= λ distance.
    first activation_of (later (later words)) >>= λ activation.
    member_after factor distance activation (later (later (later words)))

-- NEXT MOMENT MAINTAINED CHOSEN
unfoldable pub beginning_of : List (List ℕ) → Option Beginning
beginning_of words =
    first decimal_of words >>= λ next.
    first decimal_of (later words) >>= λ at.
    first decimal_of (later (later words)) >>= λ maintained.
    first (given short_number) (later (later (later words))) >>= λ chosen.
    ended (later (later (later (later words)))) (record { next = next; at = at; maintained = maintained; chosen = chosen })

abbrev pub rules_line : List (List ℕ) → Option Line
rules_line words = first version_of words >>= λ version. ended (later words) (line.Rules version)

abbrev pub balancer_line : List (List ℕ) → Option Line
balancer_line [] = None
balancer_line (name ∷ words) = option_map (line.Balancer (name_of name)) (balancer_of words)

abbrev pub member_line : List (List ℕ) → Option Line
member_line [] = None
member_line (name ∷ []) = None
member_line (name ∷ route ∷ words) = option_map (line.Member (name_of name) (name_of route)) (member_of words)

-- TICKET MEMBER
abbrev pub lease_line : List (List ℕ) → Option Line
lease_line words =
    first decimal_of words >>= λ ticket.
    first short_number (later words) >>= λ member.
    ended (later (later words)) (line.Lease ticket member)

abbrev pub end_line : List (List ℕ) → Option Line
end_line words = first decimal_of words >>= λ count. ended (later words) (line.End count)

-- the lines without names
abbrev pub plain_line : (rules : ℕ) → (verb : List ℕ) → List (List ℕ) → Option Line
plain_line rules verb words =
    if bytes_eq verb (codes "e") then option_map line.Entry (entry_of rules words)
    else (if bytes_eq verb (codes "lease") then lease_line words
    else (if bytes_eq verb (codes "from") then option_map line.From (beginning_of words)
    else (if bytes_eq verb (codes "end") then end_line words
    else (if bytes_eq verb (codes "jkj") then rules_line words
    else None))))

abbrev pub line_by : (rules : ℕ) → (verb : List ℕ) → List (List ℕ) → Option Line
line_by rules verb words =
    if bytes_eq verb (codes "member") then member_line words
    else (if bytes_eq verb (codes "lb") then balancer_line words
    else plain_line rules verb words)

-- what the words of a line say, in a segment of these rules
unfoldable pub said : (rules : ℕ) → List (List ℕ) → Option Line
said rules [] = None
said rules (verb ∷ words) = line_by rules verb words

-- the line, where its text is just the text of that line
abbrev pub if_spelled : (rules : ℕ) → (text : List ℕ) → Line → Option Line
if_spelled rules text l = if bytes_eq (line_text rules l) text then Some l else None

-- what the text of a line says; none where it isn't of the form of any
unfoldable pub line_of : (rules : ℕ) → (text : List ℕ) → Option Line
line_of rules text = said rules (parts_of 32 text) >>= if_spelled rules text
