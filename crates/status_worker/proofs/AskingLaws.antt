-- The fields that ask for a command are read as it.
use Rattle.std.proofs.Common.{ℕ, ◌<◌, ◌^◌, ◌≡◌, ◌≢◌, Bool, cond, leb, List, [], ◌∷◌, ◌++◌, length, Option, Some, None, IfSome, All, refl, sym, ap, ◌∙◌, ⊎_elim, arith, append-nil}
use Rattle.std.specs.Fmt.{decimal}
use Rattle.std.specs.List.{flat_map}
use Rattle.std.specs.Option.{option_map, option_to_list}
use Rattle.std.specs.Str.{bytes_eq}
use Rattle.std.proofs.lemmas.Bool.{cases_Bool, cond-true, le-leb, lt-ltb}
use Rattle.std.proofs.lemmas.Fmt.{decimal_is_IsNumeral, length-decimal-le}
use Rattle.percent_encoding.specs.declared.ascii_set.AsciiSet.{AsciiSet}
use Rattle.jk_io.proofs.DecimalLaws.{SomeIff-decimal_of}
use Rattle.jk_io.specs.Decimals.{decimal_of}
use Rattle.lb_model.specs.declared.member.Activation.{Activation}
use Rattle.lb_model.specs.declared.member.Activation.TheVariants as activation
use Rattle.status_worker.specs.declared.command.NamedRedirect.{NamedRedirect}
use Rattle.status_worker.specs.declared.command.NamedRedirect.TheVariants as redirect
use Rattle.status_worker.specs.declared.command.StatusCommand.{StatusCommand}
use Rattle.status_worker.specs.declared.command.StatusCommand.TheVariants as command
use Rattle.status_worker.specs.declared.field.Field.{Field}
use Rattle.status_worker.specs.declared.name.Name.{Name}
use Rattle.status_worker.specs.declared.name.Name.TheVariants as name
use Rattle.status_worker.specs.declared.texts.Texts.{Texts}
use Rattle.status_worker.specs.PageAsking.{redirect_text, texts_for, text_at, field_for, fields_with, fields_for, IsAsked}
use Rattle.status_worker.specs.PageCommands.{values_of, AreGiven, Asks, list, update, reset, recover}
use Rattle.status_worker.specs.Meaning.{command_in, meaning_of}
use Rattle.status_worker.specs.Names.{names, text_of}
use Rattle.status_worker.specs.Values.{◌>>=◌, activation_of, short_number, redirect_of, given}
use Rattle.status_worker.specs.Words.{activation_letter}
use Rattle.status_worker.specs.Written.{written, EscapesMarks, HasBytes}
use Rattle.status_worker.proofs.PageCommandLaws.{command_read}
use Rattle.status_worker.proofs.WrittenLaws.{written_read}

-- ---- each value is given

given_or_none : Bool → Option (List ℕ) → List (List ℕ)
given_or_none same o = cond same (option_to_list o) []

values_of-field_for : (m n : Name) (o : Option (List ℕ)) (rest : List Field) → values_of (field_for m o ++ rest) n ≡ given_or_none (bytes_eq (text_of m) (text_of n)) o ++ values_of rest n
unfolding given_or_none
values_of-field_for m n None rest =
    ⊎_elim (λ same. rw same refl) (λ differs. rw differs refl) (cases_Bool (bytes_eq (text_of m) (text_of n)))
values_of-field_for m n (Some v) rest =
    ⊎_elim (λ same. rw same refl) (λ differs. rw differs refl) (cases_Bool (bytes_eq (text_of m) (text_of n)))

module _ (t : Texts) where
  values_of-fields : (n : Name) (ms : List Name) → values_of (flat_map (λ m. field_for m (text_at t m)) ms) n ≡ flat_map (λ m. given_or_none (bytes_eq (text_of m) (text_of n)) (text_at t m)) ms
  values_of-fields n [] = refl
  values_of-fields n (m ∷ ms) =
      values_of-field_for m n (text_at t m) (flat_map (λ m. field_for m (text_at t m)) ms)
      ∙ ap (λ vs. given_or_none (bytes_eq (text_of m) (text_of n)) (text_at t m) ++ vs) (values_of-fields n ms)

  values_given : (n : Name) → values_of (fields_with t) n ≡ option_to_list (text_at t n)
  unfolding given_or_none
  values_given n =
      values_of-fields n names
      ∙ elim n as (λ n. flat_map (λ m. given_or_none (bytes_eq (text_of m) (text_of n)) (text_at t m)) names ≡ option_to_list (text_at t n)) [
        | name.Command ↦ append-nil (option_to_list t.command)
        | name.Worker ↦ append-nil (option_to_list t.worker)
        | name.Member ↦ append-nil (option_to_list t.member)
        | name.Activation ↦ append-nil (option_to_list t.change.activation)
        | name.Factor ↦ append-nil (option_to_list t.change.factor)
        | name.Distance ↦ append-nil (option_to_list t.change.distance)
        | name.Redirect ↦ append-nil (option_to_list t.change.redirect)
      ]

  all_given : AreGiven (fields_with t) t
  all_given = record {
    command = values_given name.Command;
    worker = values_given name.Worker;
    member = values_given name.Member;
    activation = values_given name.Activation;
    factor = values_given name.Factor;
    distance = values_given name.Distance;
    redirect = values_given name.Redirect;
  }

-- ---- each value says what it is written for

number_said : (n : ℕ) → n < 2 ^ 32 → short_number (decimal n) ≡ Some n
number_said n small =
    let numeral = decimal_is_IsNumeral n (omega arith) in
    let short = length-decimal-le 20 n (omega arith) (omega arith) (omega arith) in
    let read : Some n ≡ decimal_of (decimal n) = SomeIff-decimal_of (Some n) (decimal n) (record { some = numeral.0.0; short = short; digits = numeral.0.1; small = omega (arith, numeral.1) }, sym numeral.1) in
    ap (λ o. o >>= λ n. cond (leb n 4294967295) (Some n) None) (sym read) ∙ cond-true (leb n 4294967295) (Some n) None (le-leb n 4294967295 (omega arith))

given_number : (o : Option ℕ) → IfSome o (λ n. n < 2 ^ 32) → given short_number (option_map decimal o) ≡ Some o
given_number None small = refl
given_number (Some n) small = ap (option_map Some) (number_said n small)

given_activation : (o : Option Activation) → given activation_of (option_map activation_letter o) ≡ Some o
given_activation None = refl
given_activation (Some activation.Active) = refl
given_activation (Some activation.Disabled) = refl
given_activation (Some activation.Stopped) = refl

given_redirect : (r : NamedRedirect) → r ≢ redirect.To [] → redirect_of (redirect_text r) ≡ r
given_redirect redirect.Keep some = refl
given_redirect redirect.None some = refl
given_redirect (redirect.To []) some = absurd (some refl)
given_redirect (redirect.To (b ∷ bs)) some = cond-true _ (redirect.To (b ∷ bs)) redirect.None (lt-ltb 0 (length (b ∷ bs)) (omega arith))

asked : (c : StatusCommand) → IsAsked c → Asks (texts_for c) c
asked (command.List w) said = list refl
asked (command.Update w sw c) said =
    update refl refl refl (record {
      some = said.some;
      activation = given_activation c.activation;
      factor = given_number c.factor said.factor;
      distance = given_number c.distance said.distance;
      redirect = given_redirect c.redirect said.redirect;
    })
asked (command.Reset w sw) said = reset refl refl
asked (command.Recover w sw) said = recover refl refl refl

pub asked_read_again : (c : StatusCommand) → IsAsked c → command_in (fields_for c) ≡ Some c
asked_read_again c said = command_read (fields_for c) (texts_for c) c (all_given (texts_for c)) (asked c said)

pub written_command_read : (set : AsciiSet) (c : StatusCommand) → EscapesMarks set → All HasBytes (fields_for c) → IsAsked c → meaning_of (Some (written set (fields_for c))) ≡ Some c
written_command_read set c marks bytes said =
    ap (λ o. o >>= command_in) (written_read set marks (fields_for c) bytes) ∙ asked_read_again c said
