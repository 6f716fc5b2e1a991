-- The commands of a status worker's request, one after the other.
use Rattle.std.proofs.Common.{◌≡◌, ℕ, suc, List, [], ◌∷◌, ◌++◌, ◌+◌, ◌<◌, ◌≤◌, Option, Some, refl, sym, subst, inl, inr, ap, ◌∙◌, take, drop, get_or, length, arith}
use Rattle.std.proofs.Math.Seq.{drop-cons, take-suc}
use Rattle.std.proofs.lemmas.List.{get_or_default, take-append-drop, take_all}
use Rattle.lb_model.specs.declared.change.Command.{Command}
use Rattle.lb_model.specs.declared.refusal.AdminError.{AdminError}
use Rattle.lb_model.specs.declared.refusal.AdminError.TheVariants as admin
use Rattle.lb_model.specs.declared.refusal.FullMark.{FullMark}
use Rattle.site_config.specs.declared.config.Config.{Config}
use Rattle.site_config.specs.declared.config.Status.{Status}
use Rattle.status_worker.specs.Asking.{IfRefused}
use Rattle.status_worker.specs.Commanding.{FailsChange, FailsOne, FailsWork, no_page_by}
use Rattle.status_worker.specs.Commands.{AsksDesk, Does, DoesAll, IsRefusedQuery, StopsAtRefused, TurnsAway}
use Rattle.status_worker.specs.Desks.{DeskSide}
use Rattle.status_worker.specs.declared.asking.NoPage.{NoPage}
use Rattle.status_worker.specs.declared.asking.NoPage.TheVariants as no_page
use Rattle.status_worker.specs.declared.asking.Work.{Work}

pub does_one_more : (session lb : ℕ) (done : List Command) (c : Command) (s mid n : DeskSide) → DoesAll session lb done s mid → Does session lb c mid n
    → DoesAll session lb (done ++ c ∷ []) s n
does_one_more session lb [] c s mid n before more = (n, subst (λ (d : DeskSide). Does session lb c d n) before more, refl)
does_one_more session lb (first ∷ done) c s mid n before more =
    (before.0, before.1, does_one_more session lb done c before.0 mid n before.2 more)

-- nothing was asked
pub unasked : (cfg : Config) (session : ℕ) (status : Status) (query : Option (List ℕ)) (s : DeskSide) (why : NoPage) → IfRefused (IsRefusedQuery cfg status query) why
    → FailsChange cfg session status query s s why
unasked cfg session status query s (no_page.Refused refusal) refused = inl (refused, refl)
unasked cfg session status query s no_page.NoMemory refused = inl refl

stopped : (cfg : Config) (session : ℕ) (status : Status) (query : Option (List ℕ)) (work : Work) (s n : DeskSide) (error : AdminError FullMark)
    → AsksDesk cfg status query work → StopsAtRefused session work s n error → FailsChange cfg session status query s n (no_page_by error)
stopped cfg session status query work s n admin.UnknownMember asks stops = inr (work, admin.UnknownMember, asks, stops, refl)
stopped cfg session status query work s n admin.BadValue asks stops = inr (work, admin.BadValue, asks, stops, refl)
stopped cfg session status query work s n (admin.TooWide mark) asks stops = inr (work, admin.TooWide mark, asks, stops, refl)
stopped cfg session status query work s n (admin.Full mark) asks stops = inr (work, admin.Full mark, asks, stops, refl)
stopped cfg session status query work s n admin.NoMemory asks stops = inr (work, asks, stops)

-- a command was refused
pub refused : (cfg : Config) (session : ℕ) (status : Status) (query : Option (List ℕ)) (work : Work) (s n : DeskSide) (why : NoPage)
    → AsksDesk cfg status query work → FailsWork session work s n why → FailsChange cfg session status query s n why
refused cfg session status query work s n why asks fails =
    subst (FailsChange cfg session status query s n) (sym fails.2) (stopped cfg session status query work s n fails.0 asks fails.1)

plus_one : (i : ℕ) → i + 1 ≡ suc i
plus_one i = omega arith

pub next_taken : {X : Type 0} (xs : List X) (i : ℕ) (x : X) → i < length xs → x ≡ get_or xs i x → take (i + 1) xs ≡ take i xs ++ x ∷ []
next_taken xs i x within is = ap (λ n. take n xs) (plus_one i) ∙ take-suc xs i x within ∙ ap (λ y. take i xs ++ y ∷ []) (sym is)

cut_here : {X : Type 0} (xs : List X) (i : ℕ) (x : X) → i < length xs → x ≡ get_or xs i x → xs ≡ take i xs ++ x ∷ drop (i + 1) xs
cut_here xs i x within is =
    sym (take-append-drop i xs) ∙ ap (λ ys. take i xs ++ ys) (drop-cons xs i x within) ∙ ap (λ y. take i xs ++ y ∷ drop (suc i) xs) (sym is)
    ∙ ap (λ n. take i xs ++ x ∷ drop n xs) (sym (plus_one i))

-- the command at this place was done too
pub works_on : (session lb : ℕ) (items : List Command) (i : ℕ) (d : Command) (s mid n : DeskSide) → i < length items
    → DoesAll session lb (take i items) s mid → Does session lb (get_or items i d) mid n → DoesAll session lb (take (i + 1) items) s n
works_on session lb items i d s mid n within before more =
    subst (λ (cs : List Command). DoesAll session lb cs s n)
    (sym (next_taken items i (get_or items i d) within (get_or_default items i d (get_or items i d) within)))
    (does_one_more session lb (take i items) (get_or items i d) s mid n before more)

pub all_done : (session lb : ℕ) (items commands : List Command) (i : ℕ) (s n : DeskSide) → length items ≤ i → items ≡ commands
    → DoesAll session lb (take i items) s n → DoesAll session lb commands s n
all_done session lb items commands i s n past are done =
    subst (λ (cs : List Command). DoesAll session lb cs s n) (take_all i items past ∙ are) done

-- the command at this place was refused
pub stops_here : (session lb : ℕ) (work : Work) (items : List Command) (i : ℕ) (d : Command) (s mid n : DeskSide) (why : NoPage) → work.only ≡ Some lb
    → items ≡ work.commands → i < length items → DoesAll session lb (take i items) s mid → FailsOne session lb (get_or items i d) mid n why
    → FailsWork session work s n why
stops_here session lb work items i d s mid n why only are within done fails = (
  fails.0,
  record {
    lb = lb;
    only = only;
    done = take i items;
    refused = get_or items i d;
    rest = drop (i + 1) items;
    order = sym are ∙ cut_here items i (get_or items i d) within (get_or_default items i d (get_or items i d) within);
    mid = mid;
    worked = done;
    stops = fails.1;
  },
  fails.2,
)
