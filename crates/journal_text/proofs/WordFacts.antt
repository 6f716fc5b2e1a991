-- Each word is read as the value that it was written for, and has no blank in it.
use Rattle.std.proofs.Common.{◌≡◌, ℕ, ◌^◌, ◌≤◌, ◌<◌, true, false, nat_le, Bool, List, [], ◌∷◌, Option, Some, None, option_map, refl, ap, ◌∙◌, codes, decimal, arith}
use Rattle.std.specs.Char.{digit_value}
use Rattle.std.specs.Str.{bytes_eq}
use Rattle.std.specs.Str.Parse.{AllDigits}
use Rattle.std.proofs.lemmas.Bool.{cond-false, false_from_ne_true, and_from}
use Rattle.std.proofs.lemmas.Bool.Decides.{nat_tests}
use Rattle.std.proofs.lemmas.Slice.Eq.{bytes_eq-Decides}
use Rattle.lb_model.specs.declared.change.Redirect.{Redirect}
use Rattle.lb_model.specs.declared.change.Redirect.TheVariants as redirect
use Rattle.lb_model.specs.declared.journal.How.{How}
use Rattle.lb_model.specs.declared.journal.How.TheVariants as how
use Rattle.lb_model.specs.declared.journal.Kind.{Kind}
use Rattle.lb_model.specs.declared.journal.Kind.TheVariants as kind
use Rattle.lb_model.specs.declared.member.Activation.{Activation}
use Rattle.lb_model.specs.declared.member.Activation.TheVariants as activation
use Rattle.lb_model.specs.declared.member.Method.{Method}
use Rattle.lb_model.specs.declared.member.Method.TheVariants as method
use Rattle.lb_model.specs.declared.state.MemberState.{MemberState}
use Rattle.lb_model.specs.declared.state.MemberState.TheVariants as state
use Rattle.play_script.specs.Values.{flag_of, method_of, short_number}
use Rattle.journal_text.specs.Ranges.{FitsRedirect, FitsState, IsShortIfAny}
use Rattle.journal_text.specs.Readings.{activation_of, given, how_of, kind_of, redirect_of, state_of}
use Rattle.journal_text.specs.Words.{activation_change, activation_letter, flag, how_word, kind_word, method_letter, optional, redirect_change, state_word}
use Rattle.journal_text.proofs.NumberFacts.{long_back, numeral, short_back}
use Rattle.journal_text.proofs.SplitFacts.{IsGraphic, graphic_append}

digits_graphic : (ds : List ℕ) → AllDigits 10 ds → IsGraphic ds
digits_graphic [] h = refl
digits_graphic (d ∷ ds) h = and_from (nat_le 33 d) _ (let low : digit_value d < 10 = h.0 in grind (arith, nat_tests)) (digits_graphic ds h.1)

pub number_graphic : (n : ℕ) → n < 10 ^ 64 → IsGraphic (decimal n)
number_graphic n small = digits_graphic (decimal n) (numeral n small).0.1

-- digits aren't a word that begins with another byte
no_digits : (byte : ℕ) (rest : List ℕ) → 10 ≤ digit_value byte → (n : ℕ) → n < 10 ^ 64 → bytes_eq (decimal n) (byte ∷ rest) ≡ false
no_digits byte rest high n small =
    false_from_ne_true _ (λ same.
    let equal : decimal n ≡ byte ∷ rest = (bytes_eq-Decides (decimal n) (byte ∷ rest)).0 same in
    let digits : AllDigits 10 (byte ∷ rest) = rw equal at (numeral n small).0.1 in
    omega (arith, high, digits.0))

pub flag_back : (b : Bool) → flag_of (flag b) ≡ Some b
flag_back true = refl
flag_back false = refl

pub flag_graphic : (b : Bool) → IsGraphic (flag b)
flag_graphic true = refl
flag_graphic false = refl

pub method_back : (m : Method) → method_of (method_letter m) ≡ Some m
method_back method.Request = refl
method_back method.Session = refl
method_back method.Traffic = refl
method_back method.Busyness = refl

pub method_graphic : (m : Method) → IsGraphic (method_letter m)
method_graphic method.Request = refl
method_graphic method.Session = refl
method_graphic method.Traffic = refl
method_graphic method.Busyness = refl

pub activation_back : (a : Activation) → activation_of (activation_letter a) ≡ Some a
activation_back activation.Active = refl
activation_back activation.Disabled = refl
activation_back activation.Stopped = refl

pub activation_graphic : (a : Activation) → IsGraphic (activation_letter a)
activation_graphic activation.Active = refl
activation_graphic activation.Disabled = refl
activation_graphic activation.Stopped = refl

pub given_activation_back : (a : Option Activation) → given activation_of (activation_change a) ≡ Some a
given_activation_back None = refl
given_activation_back (Some activation.Active) = refl
given_activation_back (Some activation.Disabled) = refl
given_activation_back (Some activation.Stopped) = refl

pub given_activation_graphic : (a : Option Activation) → IsGraphic (activation_change a)
given_activation_graphic None = refl
given_activation_graphic (Some a) = activation_graphic a

pub kind_back : (k : Kind) → kind_of (kind_word k) ≡ Some k
kind_back kind.Done = refl
kind_back kind.Failed = refl
kind_back kind.Gone = refl

pub kind_graphic : (k : Kind) → IsGraphic (kind_word k)
kind_graphic kind.Done = refl
kind_graphic kind.Failed = refl
kind_graphic kind.Gone = refl

pub how_back : (h : How) → how_of (how_word h) ≡ Some h
how_back how.Sticky = refl
how_back how.Redirect = refl
how_back how.Balanced = refl

pub how_graphic : (h : How) → IsGraphic (how_word h)
how_graphic how.Sticky = refl
how_graphic how.Redirect = refl
how_graphic how.Balanced = refl

pub optional_back : (o : Option ℕ) → IsShortIfAny o → given short_number (optional o) ≡ Some o
optional_back None h = refl
optional_back (Some n) h =
    cond-false _ (Some None) (option_map Some (short_number (decimal n))) (no_digits 45 [] (omega arith) n (omega arith))
    ∙ ap (option_map Some) (short_back n h)

pub optional_graphic : (o : Option ℕ) → IsShortIfAny o → IsGraphic (optional o)
optional_graphic None h = refl
optional_graphic (Some n) h = number_graphic n (omega arith)

pub redirect_back : (r : Redirect) → FitsRedirect r → redirect_of (redirect_change r) ≡ Some r
redirect_back redirect.Keep h = refl
redirect_back redirect.None h = refl
redirect_back (redirect.To m) h =
    cond-false _ (Some redirect.Keep) _ (no_digits 45 [] (omega arith) m (omega arith))
    ∙ cond-false _ (Some redirect.None) _ (no_digits 110 (111 ∷ 110 ∷ 101 ∷ []) (omega arith) m (omega arith))
    ∙ ap (option_map redirect.To) (short_back m h)

pub redirect_graphic : (r : Redirect) → FitsRedirect r → IsGraphic (redirect_change r)
redirect_graphic redirect.Keep h = refl
redirect_graphic redirect.None h = refl
redirect_graphic (redirect.To m) h = number_graphic m (omega arith)

pub state_back : (s : MemberState) → FitsState s → state_of (state_word s) ≡ Some s
state_back state.Ok h = refl
state_back (state.Error at) h = ap (option_map state.Error) (long_back at h)
state_back state.Recover h = refl
state_back (state.Probe t) h = ap (option_map state.Probe) (long_back t h)

pub state_graphic : (s : MemberState) → FitsState s → IsGraphic (state_word s)
state_graphic state.Ok h = refl
state_graphic (state.Error at) h = graphic_append (codes "error:") (decimal at) refl (number_graphic at (omega arith))
state_graphic state.Recover h = refl
state_graphic (state.Probe t) h = graphic_append (codes "probe:") (decimal t) refl (number_graphic t (omega arith))
