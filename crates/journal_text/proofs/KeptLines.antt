-- The saying of a line can stand in a segment of its rules.
use Rattle.std.proofs.Common.{◌≡◌, ℕ, ◌≤◌, Bool, true, false, List, [], ◌∷◌, Option, Some, None, refl, arith}
use Rattle.std.specs.Prelude.{IfSome, ◌==◌, nat_le, codes, if◌then◌else◌, option_map}
use Rattle.std.specs.Str.{bytes_eq}
use Rattle.std.proofs.lemmas.Bool.{leb-true, eqb-false}
use Rattle.jk_io.specs.Decimals.{decimal_of}
use Rattle.lb_model.specs.Legal.{KnowsTerms}
use Rattle.lb_model.specs.Limits.{most_bytes}
use Rattle.lb_model.specs.Segments.{AreRules}
use Rattle.lb_model.specs.declared.ask.Ask.{Ask}
use Rattle.lb_model.specs.declared.journal.Answer.{Answer}
use Rattle.lb_model.specs.declared.journal.Answer.TheVariants as answer
use Rattle.lb_model.specs.declared.journal.Call.{Call}
use Rattle.lb_model.specs.declared.journal.Call.TheVariants as call
use Rattle.lb_model.specs.declared.change.Command.{Command}
use Rattle.lb_model.specs.declared.journal.Entry.{Entry}
use Rattle.lb_model.specs.declared.journal.How.{How}
use Rattle.lb_model.specs.declared.journal.Kind.{Kind}
use Rattle.play_script.specs.Values.{◌>>=◌, byte_count, flag_of, short_number}
use Rattle.journal_text.specs.Names.{name_of}
use Rattle.journal_text.specs.Ranges.{HasTicket, IsKeptCall, IsKeptLine}
use Rattle.journal_text.specs.Readings.{first, later, past, ended, given, kind_of, how_of, version_of, ask_after, ask_of, return_of, command_of, call_of, call_size, chosen_of, answer_of, entry_after, entry_of, beginning_of, rules_line, balancer_line, member_line, lease_line, end_line, plain_line, said, balancer_of, member_of}
use Rattle.journal_text.specs.declared.line.BalancerValues.{BalancerValues}
use Rattle.journal_text.specs.declared.line.Beginning.{Beginning}
use Rattle.journal_text.specs.declared.line.Line.{Line}
use Rattle.journal_text.specs.declared.line.Line.TheVariants as line
use Rattle.journal_text.specs.declared.line.MemberValues.{MemberValues}

first_is : {A : Type 0} (P : A → Type 0) (read : List ℕ → Option A) (words : List (List ℕ)) → ((word : List ℕ) → IfSome (read word) P) → IfSome (first read words) P
first_is P read [] all = tt
first_is P read (word ∷ words) all = all word

within : (most n : ℕ) (b : Bool) → nat_le n most ≡ b → IfSome (if b then Some n else None) (λ m. m ≤ most)
within most n true e = leb-true n most e
within most n false e = tt

up_to : (most : ℕ) (o : Option ℕ) → IfSome (o >>= (λ n. if nat_le n most then Some n else None)) (λ m. m ≤ most)
up_to most None = tt
up_to most (Some n) = within most n (nat_le n most) refl

few_bytes : (word : List ℕ) → IfSome (byte_count word) (λ n. n ≤ most_bytes)
few_bytes word = up_to 17592186044416 (decimal_of word)

version_by : (one two : Bool) → IfSome (if one then Some 1 else if two then Some 2 else None) AreRules
version_by true two = record { first = omega arith; last = omega arith }
version_by false true = record { first = omega arith; last = omega arith }
version_by false false = tt

version_kept : (word : List ℕ) → IfSome (version_of word) AreRules
version_kept word = version_by (bytes_eq word (codes "1")) (bytes_eq word (codes "2"))

-- ---- calls

terms_by : (rules : ℕ) (routed : Option ℕ) (fresh : Bool) (tried : ℕ) (one : Bool) → (rules == 1) ≡ one → (d s : Option ℕ)
    → IfSome (if one then Some (record { routed = routed; fresh = fresh; tried = tried; disabled = 0; stopped = 0 })
    else (d >>= λ disabled. s >>= λ stopped. Some (record { routed = routed; fresh = fresh; tried = tried; disabled = disabled; stopped = stopped }))) (KnowsTerms rules)
terms_by rules routed fresh tried true e d s = λ _. (refl, refl)
terms_by rules routed fresh tried false e None s = tt
terms_by rules routed fresh tried false e (Some d) None = tt
terms_by rules routed fresh tried false e (Some d) (Some s) = λ is. absurd (eqb-false rules 1 e is)

terms_kept : (rules : ℕ) (routed : Option ℕ) (fresh : Bool) (tried : ℕ) (words : List (List ℕ)) → IfSome (ask_after rules routed fresh tried words) (KnowsTerms rules)
unfolding ask_after
terms_kept rules routed fresh tried words = terms_by rules routed fresh tried (rules == 1) refl (first decimal_of words) (first decimal_of (later words))

ask_by : (rules : ℕ) (routed : Option (Option ℕ)) (fresh : Option Bool) (tried : Option ℕ) (words : List (List ℕ))
    → IfSome (routed >>= λ r. fresh >>= λ f. tried >>= λ t. ask_after rules r f t words) (KnowsTerms rules)
ask_by rules None fresh tried words = tt
ask_by rules (Some r) None tried words = tt
ask_by rules (Some r) (Some f) None words = tt
ask_by rules (Some r) (Some f) (Some t) words = terms_kept rules r f t words

ask_kept : (rules : ℕ) (words : List (List ℕ)) → IfSome (ask_of rules words) (KnowsTerms rules)
ask_kept rules words =
    ask_by rules (first (given short_number) words) (first flag_of (later words)) (first decimal_of (later (later words))) (later (later (later words)))

return_by : (rules : ℕ) (ticket : Option ℕ) (how : Option Kind) (bytes : Option ℕ) → IfSome bytes (λ n. n ≤ most_bytes)
    → IfSome (ticket >>= λ t. how >>= λ h. bytes >>= λ n. Some (call.Return t (record { kind = h; bytes = n }))) (IsKeptCall rules)
return_by rules None how bytes few = tt
return_by rules (Some t) None bytes few = tt
return_by rules (Some t) (Some h) None few = tt
return_by rules (Some t) (Some h) (Some n) few = few

return_kept : (rules : ℕ) (words : List (List ℕ)) → IfSome (return_of words) (IsKeptCall rules)
return_kept rules words =
    return_by rules (first decimal_of words) (first kind_of (later words)) (first byte_count (later (later words)))
    (first_is (λ n. n ≤ most_bytes) byte_count (later (later words)) few_bytes)

calls_by : (rules : ℕ) (select giving maintain : Bool) (ask : Option Ask) (back : Option Call) (command : Option Command)
    → IfSome ask (KnowsTerms rules) → IfSome back (IsKeptCall rules)
    → IfSome (if select then option_map call.Select ask else if giving then back else if maintain then Some call.Maintain else option_map call.Admin command) (IsKeptCall rules)
calls_by rules true giving maintain None back command asks backs = tt
calls_by rules true giving maintain (Some ask) back command asks backs = asks
calls_by rules false true maintain ask back command asks backs = backs
calls_by rules false false true ask back command asks backs = tt
calls_by rules false false false ask back None asks backs = tt
calls_by rules false false false ask back (Some command) asks backs = tt

call_kept : (rules : ℕ) (words : List (List ℕ)) → IfSome (call_of rules words) (IsKeptCall rules)
unfolding call_of
call_kept rules [] = tt
call_kept rules (verb ∷ words) =
    calls_by rules (bytes_eq verb (codes "select")) (bytes_eq verb (codes "return")) (bytes_eq verb (codes "maintain"))
    (ask_of rules words) (return_of words) (command_of verb words) (ask_kept rules words) (return_kept rules words)

-- ---- answers

ended_is : {A : Type 0} (P : A → Type 0) (words : List (List ℕ)) (x : A) → P x → IfSome (ended words x) P
ended_is P [] x is = is
ended_is P (word ∷ words) x is = tt

chosen_by : (seq : ℕ) (member : Option ℕ) (how : Option How) (probe : Option Bool) (words : List (List ℕ))
    → IfSome (member >>= λ m. how >>= λ h. probe >>= λ p. ended words (answer.Chosen m seq h p)) (HasTicket seq)
chosen_by seq None how probe words = tt
chosen_by seq (Some m) None probe words = tt
chosen_by seq (Some m) (Some h) None words = tt
chosen_by seq (Some m) (Some h) (Some p) words = ended_is (HasTicket seq) words (answer.Chosen m seq h p) refl

chosen_kept : (seq : ℕ) (words : List (List ℕ)) → IfSome (chosen_of seq words) (HasTicket seq)
chosen_kept seq words =
    chosen_by seq (first short_number words) (first how_of (later words)) (first flag_of (later (later words))) (later (later (later words)))

answers_by : (seq : ℕ) (chosen none forced done : Bool) (choice : Option Answer) (words : List (List ℕ)) → IfSome choice (HasTicket seq)
    → IfSome (if chosen then choice else if none then ended words answer.NoMember else if forced then ended words answer.Forced
    else if done then ended words answer.Done else None) (HasTicket seq)
answers_by seq true none forced done choice words is = is
answers_by seq false true forced done choice words is = ended_is (HasTicket seq) words answer.NoMember tt
answers_by seq false false true done choice words is = ended_is (HasTicket seq) words answer.Forced tt
answers_by seq false false false true choice words is = ended_is (HasTicket seq) words answer.Done tt
answers_by seq false false false false choice words is = tt

answer_kept : (seq : ℕ) (words : List (List ℕ)) → IfSome (answer_of seq words) (HasTicket seq)
unfolding answer_of
answer_kept seq [] = tt
answer_kept seq (verb ∷ words) =
    answers_by seq (bytes_eq verb (codes "chosen")) (bytes_eq verb (codes "none")) (bytes_eq verb (codes "forced")) (bytes_eq verb (codes "done"))
    (chosen_of seq words) words (chosen_kept seq words)

-- ---- entries

entry_with : (rules seq session at : ℕ) (asked : Call) (answered : Option Answer) → IsKeptCall rules asked → IfSome answered (HasTicket seq)
    → IfSome (answered >>= λ answer. Some (record { seq = seq; session = session; at = at; call = asked; answer = answer })) (λ e. IsKeptLine rules (line.Entry e))
entry_with rules seq session at asked None kept is = tt
entry_with rules seq session at asked (Some answered) kept is = (is, kept)

entry_by : (rules seq session at : ℕ) (asked : Option Call) (answered : Call → Option Answer) → IfSome asked (IsKeptCall rules)
    → ((c : Call) → IfSome (answered c) (HasTicket seq))
    → IfSome (asked >>= λ c. answered c >>= λ answer. Some (record { seq = seq; session = session; at = at; call = c; answer = answer }))
    (λ e. IsKeptLine rules (line.Entry e))
entry_by rules seq session at None answered kept is = tt
entry_by rules seq session at (Some c) answered kept is = entry_with rules seq session at c (answered c) kept (is c)

entry_after_kept : (rules seq session at : ℕ) (words : List (List ℕ)) → IfSome (entry_after rules seq session at words) (λ e. IsKeptLine rules (line.Entry e))
unfolding entry_after
entry_after_kept rules seq session at words =
    entry_by rules seq session at (call_of rules words) (λ c. answer_of seq (past (call_size rules c) words)) (call_kept rules words)
    (λ c. answer_kept seq (past (call_size rules c) words))

entries_by : (rules : ℕ) (seq session at : Option ℕ) (words : List (List ℕ))
    → IfSome (seq >>= λ s. session >>= λ n. at >>= λ a. entry_after rules s n a words) (λ e. IsKeptLine rules (line.Entry e))
entries_by rules None session at words = tt
entries_by rules (Some s) None at words = tt
entries_by rules (Some s) (Some n) None words = tt
entries_by rules (Some s) (Some n) (Some a) words = entry_after_kept rules s n a words

entry_kept : (rules : ℕ) (words : List (List ℕ)) → IfSome (entry_of rules words) (λ e. IsKeptLine rules (line.Entry e))
entry_kept rules words =
    entries_by rules (first decimal_of words) (first short_number (later words)) (first decimal_of (later (later words))) (later (later (later words)))

-- ---- lines

rules_by : (rules : ℕ) (version : Option ℕ) (words : List (List ℕ)) → IfSome version AreRules
    → IfSome (version >>= λ v. ended words (line.Rules v)) (IsKeptLine rules)
rules_by rules None words are = tt
rules_by rules (Some v) words are = ended_is (IsKeptLine rules) words (line.Rules v) are

rules_kept : (rules : ℕ) (words : List (List ℕ)) → IfSome (rules_line words) (IsKeptLine rules)
rules_kept rules words = rules_by rules (first version_of words) (later words) (first_is AreRules version_of words version_kept)

lease_by : (rules : ℕ) (ticket member : Option ℕ) (words : List (List ℕ))
    → IfSome (ticket >>= λ t. member >>= λ m. ended words (line.Lease t m)) (IsKeptLine rules)
lease_by rules None member words = tt
lease_by rules (Some t) None words = tt
lease_by rules (Some t) (Some m) words = ended_is (IsKeptLine rules) words (line.Lease t m) tt

lease_kept : (rules : ℕ) (words : List (List ℕ)) → IfSome (lease_line words) (IsKeptLine rules)
lease_kept rules words = lease_by rules (first decimal_of words) (first short_number (later words)) (later (later words))

end_by : (rules : ℕ) (count : Option ℕ) (words : List (List ℕ)) → IfSome (count >>= λ n. ended words (line.End n)) (IsKeptLine rules)
end_by rules None words = tt
end_by rules (Some n) words = ended_is (IsKeptLine rules) words (line.End n) tt

end_kept : (rules : ℕ) (words : List (List ℕ)) → IfSome (end_line words) (IsKeptLine rules)
end_kept rules words = end_by rules (first decimal_of words) (later words)

plain_by : (rules : ℕ) (e lease from end jkj : Bool) (entry : Option Entry) (leased : Option Line) (began : Option Beginning) (ends ruled : Option Line)
    → IfSome entry (λ x. IsKeptLine rules (line.Entry x)) → IfSome leased (IsKeptLine rules) → IfSome ends (IsKeptLine rules) → IfSome ruled (IsKeptLine rules)
    → IfSome (if e then option_map line.Entry entry else if lease then leased else if from then option_map line.From began
    else if end then ends else if jkj then ruled else None) (IsKeptLine rules)
plain_by rules true lease from end jkj None leased began ends ruled is l n r = tt
plain_by rules true lease from end jkj (Some x) leased began ends ruled is l n r = is
plain_by rules false true from end jkj entry leased began ends ruled is l n r = l
plain_by rules false false true end jkj entry leased None ends ruled is l n r = tt
plain_by rules false false true end jkj entry leased (Some b) ends ruled is l n r = tt
plain_by rules false false false true jkj entry leased began ends ruled is l n r = n
plain_by rules false false false false true entry leased began ends ruled is l n r = r
plain_by rules false false false false false entry leased began ends ruled is l n r = tt

plain_kept : (rules : ℕ) (verb : List ℕ) (words : List (List ℕ)) → IfSome (plain_line rules verb words) (IsKeptLine rules)
plain_kept rules verb words =
    plain_by rules (bytes_eq verb (codes "e")) (bytes_eq verb (codes "lease")) (bytes_eq verb (codes "from")) (bytes_eq verb (codes "end")) (bytes_eq verb (codes "jkj"))
    (entry_of rules words) (lease_line words) (beginning_of words) (end_line words) (rules_line words)
    (entry_kept rules words) (lease_kept rules words) (end_kept rules words) (rules_kept rules words)

balancer_by : (rules : ℕ) (name : List ℕ) (values : Option BalancerValues) → IfSome (option_map (line.Balancer name) values) (IsKeptLine rules)
balancer_by rules name None = tt
balancer_by rules name (Some values) = tt

balancer_kept : (rules : ℕ) (words : List (List ℕ)) → IfSome (balancer_line words) (IsKeptLine rules)
balancer_kept rules [] = tt
balancer_kept rules (name ∷ words) = balancer_by rules (name_of name) (balancer_of words)

member_by : (rules : ℕ) (name route : List ℕ) (values : Option MemberValues) → IfSome (option_map (line.Member name route) values) (IsKeptLine rules)
member_by rules name route None = tt
member_by rules name route (Some values) = tt

member_kept : (rules : ℕ) (words : List (List ℕ)) → IfSome (member_line words) (IsKeptLine rules)
member_kept rules [] = tt
member_kept rules (name ∷ []) = tt
member_kept rules (name ∷ route ∷ words) = member_by rules (name_of name) (name_of route) (member_of words)

lines_by : (rules : ℕ) (member lb : Bool) (m b p : Option Line) → IfSome m (IsKeptLine rules) → IfSome b (IsKeptLine rules) → IfSome p (IsKeptLine rules)
    → IfSome (if member then m else if lb then b else p) (IsKeptLine rules)
lines_by rules true lb m b p is bs ps = is
lines_by rules false true m b p is bs ps = bs
lines_by rules false false m b p is bs ps = ps

-- what the words of a line say can stand in a segment of these rules
pub said_kept : (rules : ℕ) (words : List (List ℕ)) → IfSome (said rules words) (IsKeptLine rules)
unfolding said
said_kept rules [] = tt
said_kept rules (verb ∷ words) =
    lines_by rules (bytes_eq verb (codes "member")) (bytes_eq verb (codes "lb")) (member_line words) (balancer_line words) (plain_line rules verb words)
    (member_kept rules words) (balancer_kept rules words) (plain_kept rules verb words)
