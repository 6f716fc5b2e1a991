-- A line that is written is read as the same line, and no other text is.
use Rattle.std.proofs.Common.{◌≡◌, ℕ, ◌^◌, ◌<◌, ◌==◌, List, [], ◌∷◌, length, Option, Some, None, refl, sym, ap, ◌∙◌, decimal, arith, ⊎_elim}
use Rattle.std.specs.Str.{bytes_eq}
use Rattle.std.proofs.lemmas.Bool.{cond-true, cond-false, cases_Bool, MatchBool-at_false}
use Rattle.std.proofs.lemmas.Slice.Eq.{bytes_eq-Decides}
use Rattle.lb_model.specs.declared.ask.Ask.{Ask}
use Rattle.lb_model.specs.declared.change.Command.TheVariants as command
use Rattle.lb_model.specs.declared.journal.Answer.{Answer}
use Rattle.lb_model.specs.declared.journal.Answer.TheVariants as answer
use Rattle.lb_model.specs.declared.journal.Call.{Call}
use Rattle.lb_model.specs.declared.journal.Call.TheVariants as call
use Rattle.play_script.specs.Parts.{parts_of}
use Rattle.play_script.specs.Values.{◌>>=◌}
use Rattle.journal_text.specs.Calls.{answer_words, call_words, term_words}
use Rattle.journal_text.specs.Lines.{joined, line_text, line_words}
use Rattle.journal_text.specs.Ranges.{FitsAnswer, FitsAsk, FitsCall, FitsLine}
use Rattle.journal_text.specs.Readings.{if_spelled, line_of, said}
use Rattle.journal_text.specs.declared.line.Line.{Line}
use Rattle.journal_text.specs.declared.line.Line.TheVariants as line
use Rattle.journal_text.proofs.NameFacts.{name_graphic}
use Rattle.journal_text.proofs.SaidFacts.{said_back}
use Rattle.journal_text.proofs.SplitFacts.{AreGraphic, IsGraphic, are_graphic_append, joined_split}
use Rattle.journal_text.proofs.WordFacts.{activation_graphic, flag_graphic, given_activation_graphic, how_graphic, kind_graphic, method_graphic, number_graphic, optional_graphic, redirect_graphic, state_graphic}

long_graphic : (n : ℕ) → n < 2 ^ 64 → IsGraphic (decimal n)
long_graphic n h = number_graphic n (omega arith)

short_graphic : (n : ℕ) → n < 2 ^ 32 → IsGraphic (decimal n)
short_graphic n h = number_graphic n (omega arith)

terms_graphic : (rules : ℕ) (ask : Ask) → FitsAsk rules ask → AreGraphic (term_words rules ask)
terms_graphic rules ask h =
    ⊎_elim
    (λ one. rw one tt)
    (λ two. let terms = MatchBool-at_false _ _ two h.terms in rw two (long_graphic ask.disabled terms.0, (long_graphic ask.stopped terms.1, tt)))
    (cases_Bool (rules == 1))

call_graphic : (rules : ℕ) (c : Call) → FitsCall rules c → AreGraphic (call_words rules c)
call_graphic rules (call.Select ask) h =
    (refl, (optional_graphic ask.routed h.routed, (flag_graphic ask.fresh, (long_graphic ask.tried h.tried, terms_graphic rules ask h))))
call_graphic rules (call.Return ticket outcome) h =
    (refl, (long_graphic ticket h.0, (kind_graphic outcome.kind, (number_graphic outcome.bytes (omega (arith, h.1)), tt))))
call_graphic rules call.Maintain h = (refl, tt)
call_graphic rules (call.Admin (command.Update member change)) h =
    (refl, (short_graphic member h.0, (given_activation_graphic change.activation, (optional_graphic change.factor h.1.factor, (optional_graphic change.distance h.1.distance, (redirect_graphic change.redirect h.1.redirect, tt))))))
call_graphic rules (call.Admin (command.Reset member)) h = (refl, (short_graphic member h, tt))
call_graphic rules (call.Admin (command.Recover member)) h = (refl, (short_graphic member h, tt))

answer_graphic : (seq : ℕ) (a : Answer) → FitsAnswer seq a → AreGraphic (answer_words a)
answer_graphic seq (answer.Chosen member ticket how probe) h = (refl, (short_graphic member h.0, (how_graphic how, (flag_graphic probe, tt))))
answer_graphic seq answer.NoMember h = (refl, tt)
answer_graphic seq answer.Forced h = (refl, tt)
answer_graphic seq answer.Done h = (refl, tt)

pub line_graphic : (rules : ℕ) (l : Line) → FitsLine rules l → AreGraphic (line_words rules l)
line_graphic rules (line.Rules version) h = (refl, (number_graphic version (omega (arith, h.1)), tt))
line_graphic rules (line.Balancer name b) h =
    (refl, (name_graphic name, (method_graphic b.method, (flag_graphic b.sticky, (flag_graphic b.force, (flag_graphic b.direct, (long_graphic b.maintain h.1.maintain, (long_graphic b.recover h.1.recover, (short_graphic b.members h.1.members, tt)))))))))
line_graphic rules (line.Member name route m) h =
    let fits = h.2 in
    (refl, (name_graphic name, (name_graphic route, (short_graphic m.factor fits.factor, (short_graphic m.distance fits.distance, (activation_graphic m.activation, (optional_graphic m.redirect fits.redirect, (short_graphic m.pool fits.pool, (state_graphic m.state fits.state, (number_graphic m.load (omega (arith, fits.load)), tt))))))))))
line_graphic rules (line.Lease ticket member) h = (refl, (long_graphic ticket h.0, (short_graphic member h.1, tt)))
line_graphic rules (line.From b) h =
    (refl, (long_graphic b.next h.next, (long_graphic b.at h.at, (long_graphic b.maintained h.maintained, (optional_graphic b.chosen h.chosen, tt)))))
line_graphic rules (line.Entry e) h =
    (refl, (long_graphic e.seq h.seq, (short_graphic e.session h.session, (long_graphic e.at h.at, are_graphic_append (call_words rules e.call) (answer_words e.answer) (call_graphic rules e.call h.asked) (answer_graphic e.seq e.answer h.answered)))))
line_graphic rules (line.End count) h = (refl, (long_graphic count h, tt))

-- the words of a line are cut out of its text
words_cut : (words : List (List ℕ)) → AreGraphic words → 0 < length words → parts_of 32 (joined words) ≡ words
words_cut [] h some = absurd (omega arith)
words_cut (word ∷ words) h some = joined_split word words h.0 h.1

some_words : (rules : ℕ) (l : Line) → 0 < length (line_words rules l)
some_words rules (line.Rules version) = omega arith
some_words rules (line.Balancer name b) = omega arith
some_words rules (line.Member name route m) = omega arith
some_words rules (line.Lease ticket member) = omega arith
some_words rules (line.From b) = omega arith
some_words rules (line.Entry e) = omega arith
some_words rules (line.End count) = omega arith

pub line_back : (rules : ℕ) (l : Line) → FitsLine rules l → line_of rules (line_text rules l) ≡ Some l
unfolding line_of
line_back rules l h =
    ap (λ ws. said rules ws >>= if_spelled rules (line_text rules l)) (words_cut (line_words rules l) (line_graphic rules l h) (some_words rules l))
    ∙ ap (λ o. o >>= if_spelled rules (line_text rules l)) (said_back rules l h)
    ∙ cond-true _ (Some l) None ((bytes_eq-Decides (line_text rules l) (line_text rules l)).1 refl)

if_spelled_is : (rules : ℕ) (text : List ℕ) (x l : Line) → if_spelled rules text x ≡ Some l → text ≡ line_text rules l
if_spelled_is rules text x l h =
    ⊎_elim
    (λ yes. let is : Some x ≡ Some l = sym (cond-true (bytes_eq (line_text rules x) text) (Some x) None yes) ∙ h in
    let same : x ≡ l = cc in
    sym ((bytes_eq-Decides (line_text rules x) text).0 yes) ∙ ap (line_text rules) same)
    (λ no. absurd (let is : None ≡ Some l = sym (cond-false (bytes_eq (line_text rules x) text) (Some x) None no) ∙ h in cc))
    (cases_Bool (bytes_eq (line_text rules x) text))

said_is : (rules : ℕ) (text : List ℕ) (o : Option Line) (l : Line) → (o >>= if_spelled rules text) ≡ Some l → text ≡ line_text rules l
said_is rules text None l h = absurd (let is : None ≡ Some l = h in cc)
said_is rules text (Some x) l h = if_spelled_is rules text x l h

pub line_spelled : (rules : ℕ) (text : List ℕ) (l : Line) → line_of rules text ≡ Some l → text ≡ line_text rules l
unfolding line_of
line_spelled rules text l h = said_is rules text (said rules (parts_of 32 text)) l h
