-- Inputs that are too long, and what reports print.
use Rattle.std.proofs.Common.{ℕ, ◌≡◌, ◌<◌, Bool, true, List, [], ◌∷◌, length, Option, Some, None, Result, Ok, Err, IfOk, IfSome, refl, sym, ap, subst, inl, inr, arith, length-append}
use Rattle.std.specs.Prelude.{IsErrOf}
use Rattle.jk_cli.specs.declared.order.Order.TheVariants as order
use Rattle.jk_io.specs.Told.{prepended}
use Rattle.jk_io.specs.declared.failures.IoError.{IoError}
use Rattle.jk_io.specs.declared.failures.IoError.TheVariants as io
use Rattle.jk_io.specs.declared.failures.NoMemory.{NoMemory}
use Rattle.plain_commands.specs.Causes.{IsJustCaused}
use Rattle.plain_commands.specs.Endings.{status_of, IsTooLong, OfAnswer, PrintsOfInput}
use Rattle.plain_commands.specs.Plain.{MatchesRead, Plain, PrintsOf, Reported, status_if, readings, InputIsDue}
use Rattle.plain_commands.specs.Printed.{IsPrinted}
use Rattle.site_reports.specs.Found.{is_refused}
use Rattle.site_reports.specs.Readings.{CommandOutside, Reading, File, Input, AreRead, IsRead, StopsLong, has_file}
use Rattle.site_reports.specs.declared.found.SiteFound.{SiteFound}
use Rattle.site_reports.specs.declared.report.Report.{Report}
use Rattle.plain_commands.specs.declared.answered.PlainAnswer.{PlainAnswer}

-- a front that is too long makes the whole too long, where that is told
pub long_input : (bytes : List ℕ) (now : Option (List ℕ)) → 67108864 < length bytes → IfSome (prepended bytes now) (λ all. 67108864 < length all)
long_input bytes None long = tt
long_input bytes (Some rest) long = omega (arith, length-append bytes rest, long)

-- what is too long before other readings is too long
pub stops_early : (outside : CommandOutside) (first second : Reading) (later : List Reading) → StopsLong outside (first ∷ second ∷ [])
    → StopsLong outside (first ∷ second ∷ later)
stops_early outside first second later (inl long) = inl long
stops_early outside first second later (inr (text, read, inl long)) = inr (text, read, inl long)
stops_early outside first second later (inr (text, read, inr (other, also, none))) = absurd none

-- a report is printed with its status, and its site is handed on
pub reported : (Finds : SiteFound → Type 0) (reports : List ℕ → Bool → Type 0) (text out : List ℕ) (f : SiteFound) (status : ℕ) (site : Option SiteFound)
    → out ≡ text → status ≡ status_if (is_refused f) → site ≡ Some f → Finds f → reports text (is_refused f) → Reported Finds reports out status site
reported Finds reports text out f status site same ended is finds says =
    subst (λ (s : Option SiteFound). Reported Finds reports out status s) (sym is)
    (finds, subst (λ (o : List ℕ). reports o (is_refused f)) (sym same) says, ended)

-- what an answer says of everything, it says of this
pub said_of : {A E X : Type 0} (P : X → A → Type 0) (x : X) (result : Result A E) → IfOk result (λ a. (y : X) → P y a) → IfOk result (P x)
said_of P x (Ok a) says = says x
said_of P x (Err e) says = tt

-- `config` reads a file, with a map and without
pub config_has_file : (workers : List ℕ) (map : Option (List ℕ)) → has_file (readings (order.Config workers map)) ≡ true
config_has_file workers None = refl
config_has_file workers (Some map) = refl

-- no file comes before the input of `play`
pub play_due : (outside : CommandOutside) → InputIsDue outside order.Play
play_due outside = (refl, ([], tt))

-- so of `check`
pub check_due : (outside : CommandOutside) → InputIsDue outside order.Check
check_due outside = (refl, ([], tt))

-- and of `follow`
pub follow_due : (outside : CommandOutside) → InputIsDue outside order.Follow
follow_due outside = (refl, ([], tt))

-- both files of `match` were read whole
pub match_due : (outside : CommandOutside) (workers map : List ℕ) (verbose : Bool) (text rules : List ℕ) → IsRead outside (File workers) text → IsRead outside (File map) rules
    → InputIsDue outside (order.Match workers map verbose)
match_due outside workers map verbose text rules first second = (refl, (text ∷ rules ∷ [], (first, (second, tt))))

-- both files were read, and then the paths
pub then_input : (outside : CommandOutside) (verbose : Bool) (w m workers map out : List ℕ) (status : ℕ) (site : Option SiteFound)
    → IsRead outside (File w) workers → IsRead outside (File m) map
    → PrintsOf outside (Input ∷ []) (MatchesRead workers map verbose) out status site → Plain outside (order.Match w m verbose) out status site
then_input outside verbose w m workers map out status site first second (inl (inl long, said, is, none)) =
    inl (inr (workers, first, inr (map, second, inl long)), said, is, none)
then_input outside verbose w m workers map out status site first second (inl (inr (text, read, never), said, is, none)) = absurd never
then_input outside verbose w m workers map out status site first second (inr (texts, read, of)) = inr (workers ∷ map ∷ texts, (first, (second, read)), of)

pub match_ok : {E : Type 0} (outside : CommandOutside) (verbose : Bool) (w m workers map : List ℕ) → IsRead outside (File w) workers → IsRead outside (File m) map
    → (result : Result PlainAnswer E) → IfOk result (λ o. PrintsOfInput outside.incoming (Input ∷ []) (MatchesRead workers map verbose) o)
    → IfOk result (OfAnswer (Plain outside (order.Match w m verbose)))
match_ok outside verbose w m workers map first second (Ok o) says =
    then_input outside verbose w m workers map o.output.text (status_of o.output.ending) o.site first second (says outside.files)
match_ok outside verbose w m workers map first second (Err e) says = tt

-- ---- what is answered to texts that are read, and to one that is too long

-- what never fails after a text that was read has the cause of that read
pub just_kept : {A B : Type 0} (before now : ℕ) (read : A) (result : Result B IoError) → IsJustCaused before now (Ok read)
    → (IsErrOf result io.Failed → ⊥) → IsJustCaused before now result
just_kept before now read result cause never = record {
  no_fewer = cause.no_fewer;
  failed = λ failed. absurd (never failed);
  wanted = λ _. cause.steady refl;
  steady = λ _. cause.steady refl;
}

-- no file was read
pub never_caused : {B : Type 0} (before : ℕ) (result : Result B IoError) → (IsErrOf result io.Failed → ⊥) → IsJustCaused before before result
never_caused before result never = record { no_fewer = omega arith; failed = λ failed. absurd (never failed); wanted = λ _. refl; steady = λ _. refl }

pub long_ok : {X : Type 0} (outside : X → CommandOutside) (all : List Reading) (Of : List (List ℕ) → List ℕ → ℕ → Option SiteFound → Type 0) (result : Result PlainAnswer IoError)
    → IfOk result IsTooLong → ((x : X) → StopsLong (outside x) all) → IfOk result (λ o. (x : X) → OfAnswer (PrintsOf (outside x) all Of) o)
long_ok outside all Of (Ok o) (text, is, none) long = λ x. inl (long x, text, ap status_of is, none)
long_ok outside all Of (Err e) said long = tt

pub read_ok : {X : Type 0} (outside : X → CommandOutside) (all : List Reading) (texts : List (List ℕ)) (Of : List (List ℕ) → List ℕ → ℕ → Option SiteFound → Type 0) (result : Result PlainAnswer IoError)
    → ((x : X) → AreRead (outside x) all texts) → IfOk result (OfAnswer (Of texts)) → IfOk result (λ o. (x : X) → OfAnswer (PrintsOf (outside x) all Of) o)
read_ok outside all texts Of (Ok o) read says = λ x. inr (texts, read x, says)
read_ok outside all texts Of (Err e) read says = tt

-- the same of one outside
pub long_at : (outside : CommandOutside) (all : List Reading) (Of : List (List ℕ) → List ℕ → ℕ → Option SiteFound → Type 0) (result : Result PlainAnswer IoError)
    → IfOk result IsTooLong → StopsLong outside all → IfOk result (OfAnswer (PrintsOf outside all Of))
long_at outside all Of (Ok o) (text, is, none) long = inl (long, text, ap status_of is, none)
long_at outside all Of (Err e) said long = tt

-- the report that was made is printed
pub printed_ok : (Finds : SiteFound → Type 0) (reports : List ℕ → Bool → Type 0) (made : Result Report NoMemory) (result : Result PlainAnswer IoError)
    → IfOk made (λ r. Finds r.found) → IfOk made (λ r. reports r.text (is_refused r.found)) → IfOk result (IsPrinted made)
    → IfOk result (OfAnswer (Reported Finds reports))
printed_ok Finds reports made (Ok o) finds says (report, is, same, ended, site) =
    reported Finds reports report.text o.output.text report.found (status_of o.output.ending) o.site same ended site
    (subst (λ (m : Result Report NoMemory). IfOk m (λ r. Finds r.found)) is finds)
    (subst (λ (m : Result Report NoMemory). IfOk m (λ r. reports r.text (is_refused r.found))) is says)
printed_ok Finds reports made (Err e) finds says printed = tt
