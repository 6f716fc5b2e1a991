-- The words of each line are read as the line.
use Rattle.std.proofs.Common.{◌≡◌, ℕ, ◌≤◌, ◌==◌, List, [], ◌∷◌, ◌++◌, Some, option_map, refl, ap, codes, decimal, arith, ⊎_elim}
use Rattle.std.proofs.lemmas.Bool.{cases_Bool, cases_eq, MatchBool-at_true, MatchBool-at_false}
use Rattle.std.proofs.lemmas.Fmt.{decimal_digit}
use Rattle.lb_model.specs.declared.ask.Ask.{Ask}
use Rattle.lb_model.specs.declared.change.Change.{Change}
use Rattle.lb_model.specs.declared.change.Command.TheVariants as command
use Rattle.lb_model.specs.declared.journal.Answer.{Answer}
use Rattle.lb_model.specs.declared.journal.Answer.TheVariants as answer
use Rattle.lb_model.specs.declared.journal.Call.{Call}
use Rattle.lb_model.specs.declared.journal.Call.TheVariants as call
use Rattle.lb_model.specs.declared.journal.Entry.{Entry}
use Rattle.journal_text.specs.Calls.{answer_words, ask_words, call_words, change_words}
use Rattle.journal_text.specs.Lines.{balancer_words, beginning_words, entry_words, line_words, member_words}
use Rattle.journal_text.specs.Ranges.{FitsAnswer, FitsAsk, FitsBalancer, FitsBeginning, FitsCall, FitsChange, FitsEntry, FitsLine, FitsMember}
use Rattle.journal_text.specs.Readings.{answer_of, ask_after, ask_of, balancer_after, balancer_of, beginning_of, call_of, call_size, change_of, entry_after, entry_of, member_after, member_of, past, said}
use Rattle.journal_text.specs.declared.line.BalancerValues.{BalancerValues}
use Rattle.journal_text.specs.declared.line.Beginning.{Beginning}
use Rattle.journal_text.specs.declared.line.Line.{Line}
use Rattle.journal_text.specs.declared.line.Line.TheVariants as line
use Rattle.journal_text.specs.declared.line.MemberValues.{MemberValues}
use Rattle.journal_text.proofs.NameFacts.{name_back}
use Rattle.journal_text.proofs.NumberFacts.{bytes_back, long_back, short_back, wide_back}
use Rattle.journal_text.proofs.WordFacts.{activation_back, flag_back, given_activation_back, how_back, kind_back, method_back, optional_back, redirect_back, state_back}

-- the words of an ask, and what follows them
ask_back : (rules : ℕ) (ask : Ask) (rest : List (List ℕ)) → FitsAsk rules ask
    → ask_of rules (ask_words rules ask ++ rest) ≡ Some ask
unfolding ask_after
ask_back rules ask rest h =
    ⊎_elim
    (λ one. let terms = MatchBool-at_true _ _ one h.terms in
    rw (optional_back ask.routed h.routed, flag_back ask.fresh, long_back ask.tried h.tried, one, terms.0, terms.1) refl)
    (λ two. let terms = MatchBool-at_false _ _ two h.terms in
    rw (optional_back ask.routed h.routed, flag_back ask.fresh, long_back ask.tried h.tried, two, long_back ask.disabled terms.0, long_back ask.stopped terms.1) refl)
    (cases_Bool (rules == 1))

change_back : (change : Change) (rest : List (List ℕ)) → FitsChange change → change_of (change_words change ++ rest) ≡ Some change
unfolding change_of
change_back change rest h =
    rw (given_activation_back change.activation, optional_back change.factor h.factor, optional_back change.distance h.distance, redirect_back change.redirect h.redirect) refl

call_back : (rules : ℕ) (c : Call) (rest : List (List ℕ)) → FitsCall rules c → call_of rules (call_words rules c ++ rest) ≡ Some c
unfolding call_of
call_back rules (call.Select ask) rest h = ap (option_map call.Select) (ask_back rules ask rest h)
call_back rules (call.Return ticket outcome) rest h =
    rw (long_back ticket h.0, kind_back outcome.kind, bytes_back outcome.bytes h.1) refl
call_back rules call.Maintain rest h = refl
call_back rules (call.Admin (command.Update member change)) rest h =
    rw (short_back member h.0, change_back change rest h.1) refl
call_back rules (call.Admin (command.Reset member)) rest h = rw (short_back member h) refl
call_back rules (call.Admin (command.Recover member)) rest h = rw (short_back member h) refl

call_past : (rules : ℕ) (c : Call) (rest : List (List ℕ)) → past (call_size rules c) (call_words rules c ++ rest) ≡ rest
call_past rules (call.Select ask) rest = ⊎_elim (λ one. rw one refl) (λ two. rw two refl) (cases_Bool (rules == 1))
call_past rules (call.Return ticket outcome) rest = refl
call_past rules call.Maintain rest = refl
call_past rules (call.Admin (command.Update member change)) rest = refl
call_past rules (call.Admin (command.Reset member)) rest = refl
call_past rules (call.Admin (command.Recover member)) rest = refl

answer_back : (seq : ℕ) (a : Answer) → FitsAnswer seq a → answer_of seq (answer_words a) ≡ Some a
unfolding answer_of
answer_back seq (answer.Chosen member ticket how probe) h =
    rw (short_back member h.0, how_back how, flag_back probe, h.1) refl
answer_back seq answer.NoMember h = refl
answer_back seq answer.Forced h = refl
answer_back seq answer.Done h = refl

entry_back : (rules : ℕ) (e : Entry) → FitsEntry rules e → entry_of rules (entry_words rules e) ≡ Some e
unfolding entry_after
entry_back rules e h =
    rw (
      long_back e.seq h.seq,
      short_back e.session h.session,
      long_back e.at h.at,
      call_back rules e.call (answer_words e.answer) h.asked,
      call_past rules e.call (answer_words e.answer),
      answer_back e.seq e.answer h.answered,
    ) refl

balancer_back : (b : BalancerValues) → FitsBalancer b → balancer_of (balancer_words b) ≡ Some b
unfolding balancer_after
balancer_back b h =
    rw (method_back b.method, flag_back b.sticky, flag_back b.force, flag_back b.direct, long_back b.maintain h.maintain, long_back b.recover h.recover, short_back b.members h.members) refl

member_back : (m : MemberValues) → FitsMember m → member_of (member_words m) ≡ Some m
unfolding member_after
member_back m h =
    rw (short_back m.factor h.factor, short_back m.distance h.distance, activation_back m.activation, optional_back m.redirect h.redirect, short_back m.pool h.pool, state_back m.state h.state, wide_back m.load h.load) refl

beginning_back : (b : Beginning) → FitsBeginning b → beginning_of (beginning_words b) ≡ Some b
unfolding beginning_of
beginning_back b h =
    rw (long_back b.next h.next, long_back b.at h.at, long_back b.maintained h.maintained, optional_back b.chosen h.chosen) refl

rules_back : (rules version : ℕ) → 1 ≤ version → version ≤ 2 → said rules (codes "jkj" ∷ decimal version ∷ []) ≡ Some (line.Rules version)
unfolding said
rules_back rules version some few =
    ⊎_elim
    (λ is. rw (is, decimal_digit 1 (omega arith)) refl)
    (λ other. let is : version ≡ 2 = omega arith in rw (is, decimal_digit 2 (omega arith)) refl)
    (cases_eq version 1)

pub said_back : (rules : ℕ) (l : Line) → FitsLine rules l → said rules (line_words rules l) ≡ Some l
unfolding said
said_back rules (line.Rules version) h = rules_back rules version h.0 h.1
said_back rules (line.Balancer name values) h =
    rw (balancer_back values h.1, name_back name h.0) refl
said_back rules (line.Member name route values) h =
    rw (member_back values h.2, name_back name h.0, name_back route h.1) refl
said_back rules (line.Lease ticket member) h = rw (long_back ticket h.0, short_back member h.1) refl
said_back rules (line.From beginning) h = ap (option_map line.From) (beginning_back beginning h)
said_back rules (line.Entry entry) h = ap (option_map line.Entry) (entry_back rules entry h)
said_back rules (line.End count) h = rw (long_back count h) refl
