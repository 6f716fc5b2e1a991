-- The lines of a journal's text, each as its words.
use Rattle.std.specs.Prelude.{ℕ, List, [], ◌∷◌, ◌++◌, codes, decimal}
use Rattle.std.specs.List.{flat_map}
use Rattle.lb_model.specs.declared.journal.Entry.{Entry}
use Rattle.journal_text.specs.Calls.{answer_words, call_words}
use Rattle.journal_text.specs.Names.{name_word}
use Rattle.journal_text.specs.Words.{activation_letter, flag, method_letter, optional, state_word}
use Rattle.journal_text.specs.declared.line.BalancerValues.{BalancerValues}
use Rattle.journal_text.specs.declared.line.Beginning.{Beginning}
use Rattle.journal_text.specs.declared.line.Line.{Line}
use Rattle.journal_text.specs.declared.line.Line.TheVariants as line
use Rattle.journal_text.specs.declared.line.MemberValues.{MemberValues}

-- METHOD STICKY FORCE DIRECT MAINTAIN RECOVER MEMBERS
abbrev pub balancer_words : BalancerValues → List (List ℕ)
balancer_words b =
    method_letter b.method ∷ flag b.sticky ∷ flag b.force ∷ flag b.direct ∷ decimal b.maintain ∷ decimal b.recover ∷ decimal b.members ∷ []

-- REDIRECT POOL STATE LOAD
abbrev pub standing_words : MemberValues → List (List ℕ)
standing_words m = optional m.redirect ∷ decimal m.pool ∷ state_word m.state ∷ decimal m.load ∷ []

-- FACTOR DISTANCE ACTIVATION, and those
abbrev pub member_words : MemberValues → List (List ℕ)
member_words m = decimal m.factor ∷ decimal m.distance ∷ activation_letter m.activation ∷ standing_words m

-- NEXT MOMENT MAINTAINED CHOSEN
abbrev pub beginning_words : Beginning → List (List ℕ)
beginning_words b = decimal b.next ∷ decimal b.at ∷ decimal b.maintained ∷ optional b.chosen ∷ []

-- SEQ SESSION AT CALL ANSWER
abbrev pub entry_words : (rules : ℕ) → Entry → List (List ℕ)
entry_words rules e = decimal e.seq ∷ decimal e.session ∷ decimal e.at ∷ (call_words rules e.call ++ answer_words e.answer)

-- the words of a line in a segment of these rules
abbrev pub line_words : (rules : ℕ) → Line → List (List ℕ)
line_words rules (line.Rules version) = codes "jkj" ∷ decimal version ∷ []
line_words rules (line.Balancer name values) = codes "lb" ∷ name_word name ∷ balancer_words values
line_words rules (line.Member name route values) = codes "member" ∷ name_word name ∷ name_word route ∷ member_words values
line_words rules (line.Lease ticket member) = codes "lease" ∷ decimal ticket ∷ decimal member ∷ []
line_words rules (line.From beginning) = codes "from" ∷ beginning_words beginning
line_words rules (line.Entry entry) = codes "e" ∷ entry_words rules entry
line_words rules (line.End count) = codes "end" ∷ decimal count ∷ []

-- words after single spaces
abbrev pub spaced : List (List ℕ) → List ℕ
spaced words = flat_map (λ word. 32 ∷ word) words

-- words with single spaces between them
abbrev pub joined : List (List ℕ) → List ℕ
joined [] = []
joined (word ∷ words) = word ++ spaced words

-- a line, without its LF
abbrev pub line_text : (rules : ℕ) → Line → List ℕ
line_text rules l = joined (line_words rules l)

-- lines, each with its LF
abbrev pub lines_text : (rules : ℕ) → List Line → List ℕ
lines_text rules lines = flat_map (λ l. line_text rules l ++ 10 ∷ []) lines
