-- The work of a query, from the command that it means.
use Rattle.std.proofs.Common.{◌≡◌, ◌<◌, ℕ, Bool, true, false, List, Option, Some, None, refl, sym, subst, inl, inr, IfSome, IfOk, IfErr, Result, Ok, Err, length, ◌&&◌, ◌⊎◌}
use Rattle.std.proofs.lemmas.Bool.{and_parts}
use Rattle.std.proofs.lemmas.Option.{slice_get_within}
use Rattle.site_config.specs.declared.balancer.Lb.{Lb}
use Rattle.site_config.specs.declared.config.Config.{Config}
use Rattle.site_config.specs.declared.config.Status.{Status}
use Rattle.status_worker.specs.BookCommands.{commands_for}
use Rattle.status_worker.specs.Effects.{is_change}
use Rattle.status_worker.specs.Meaning.{meaning_of}
use Rattle.status_worker.specs.declared.command.StatusCommand.{StatusCommand}
use Rattle.status_worker.specs.Asking.{AsksBy, IfRefused, IsNamedBalancer, IsRefusedBy}
use Rattle.status_worker.specs.Commands.{AsksDesk, AsksOpen, IsAllowed, IsRefusedQuery, IsRefusedOpen, IsWorkFor, NamesNone}
use Rattle.status_worker.specs.declared.asking.NoPage.{NoPage}
use Rattle.status_worker.specs.declared.asking.NoPage.TheVariants as no_page
use Rattle.status_worker.specs.declared.asking.Work.{Work}
use Rattle.status_worker.specs.declared.refusal.PageRefusal.{PageRefusal}

-- a change that isn't forbidden is allowed, as is what changes nothing
pub allowed : (status : Status) (c : StatusCommand) → (is_change c && status.read_only) ≡ false → IsAllowed status c
allowed status c is = by_tests (is_change c) status.read_only is
  where
    by_tests : (a b : Bool) → (a && b) ≡ false → (a ≡ false) ⊎ (b ≡ false)
    by_tests false b e = inl refl
    by_tests true false e = inr refl
    by_tests true true e = absurd cc

pub forbidden : (cfg : Config) (status : Status) (c : StatusCommand) → (is_change c && status.read_only) ≡ true → IsRefusedBy cfg status c PageRefusal.ReadOnly
forbidden cfg status c is = let both = and_parts (is_change c) status.read_only is in inl (refl, both.0, both.1)

-- the query means no command
pub means_none : (cfg : Config) (status : Status) (query : Option (List ℕ)) (why : NoPage)
    → IfRefused (λ x. (x ≡ PageRefusal.BadQuery) × (meaning_of query ≡ None)) why → IfRefused (IsRefusedOpen cfg status query) why
means_none cfg status query (no_page.Refused refusal) bad = inl bad
means_none cfg status query no_page.NoMemory bad = tt

pub works_for : (cfg : Config) (c : StatusCommand) (place : ℕ) (mine : Lb) (work : Work) (named : IsNamedBalancer cfg c (Some place)) → mine ≡ named.1
    → work.only ≡ Some place → commands_for mine.book.members c ≡ Some work.commands → IsWorkFor cfg c work
works_for cfg c place mine work named same only commands =
    inr (named.0, place, named.1, named.2, named.3, only, subst (λ (b : Lb). commands_for b.book.members c ≡ Some work.commands) same commands)

pub names_no_member : (cfg : Config) (c : StatusCommand) (place : ℕ) (mine : Lb) (named : IsNamedBalancer cfg c (Some place)) → mine ≡ named.1
    → commands_for mine.book.members c ≡ None → NamesNone cfg c
names_no_member cfg c place mine named same none =
    (named.0, named.2, inr (place, named.1, named.3, subst (λ (b : Lb). commands_for b.book.members c ≡ None) same none))

pub only_within : (cfg : Config) (c : StatusCommand) (work : Work) → IsWorkFor cfg c work → IfSome work.only (λ lb. lb < length cfg.lbs)
only_within cfg c work (inl all) = subst (λ (o : Option ℕ). IfSome o (λ lb. lb < length cfg.lbs)) (sym all.1) tt
only_within cfg c work (inr one) =
    subst (λ (o : Option ℕ). IfSome o (λ lb. lb < length cfg.lbs)) (sym one.5) (slice_get_within cfg.lbs one.1 one.2 one.4.stands)

-- a command that isn't forbidden
pub asks_by : (cfg : Config) (status : Status) (c : StatusCommand) (r : Result Work NoPage) → (is_change c && status.read_only) ≡ false
    → IfOk r (IsWorkFor cfg c) → IfOk r (AsksBy cfg status c)
asks_by cfg status c (Ok work) may works = (allowed status c may, works)
asks_by cfg status c (Err why) may works = tt

-- what the command asks for is what the query asks for
pub asks : (cfg : Config) (status : Status) (query : Option (List ℕ)) (c : StatusCommand) (r : Result Work NoPage) → meaning_of query ≡ Some c
    → IfOk r (AsksBy cfg status c) → IfOk r (AsksOpen cfg status query)
asks cfg status query c (Ok work) means by = (c, means, by.0, by.1)
asks cfg status query c (Err why) means by = tt

pub all_within : (cfg : Config) (c : StatusCommand) (r : Result Work NoPage) → IfOk r (IsWorkFor cfg c)
    → IfOk r (λ work. IfSome work.only (λ lb. lb < length cfg.lbs))
all_within cfg c (Ok work) works = only_within cfg c work works
all_within cfg c (Err why) works = tt

-- a name is nobody's
pub none_named : (cfg : Config) (status : Status) (c : StatusCommand) (r : Result Work NoPage) → (is_change c && status.read_only) ≡ false
    → IfErr r (IfRefused (λ x. (x ≡ PageRefusal.UnknownName) × NamesNone cfg c)) → IfErr r (IfRefused (IsRefusedBy cfg status c))
none_named cfg status c (Ok work) may none = tt
none_named cfg status c (Err (no_page.Refused refusal)) may none = inr (none.0, allowed status c may, none.1)
none_named cfg status c (Err no_page.NoMemory) may none = tt

-- why the command isn't done is why the query isn't
pub refused : (cfg : Config) (status : Status) (query : Option (List ℕ)) (c : StatusCommand) (r : Result Work NoPage) → meaning_of query ≡ Some c
    → IfErr r (IfRefused (IsRefusedBy cfg status c)) → IfErr r (IfRefused (IsRefusedOpen cfg status query))
refused cfg status query c (Ok work) means why = tt
refused cfg status query c (Err (no_page.Refused refusal)) means (inl change) = inr (inl (c, change.0, means, change.1, change.2))
refused cfg status query c (Err (no_page.Refused refusal)) means (inr name) = inr (inr (c, name.0, means, name.1, name.2))
refused cfg status query c (Err no_page.NoMemory) means why = tt

-- ---- an open status worker

pub open_asks : (cfg : Config) (status : Status) (query : Option (List ℕ)) (r : Result Work NoPage) → status.closed ≡ false
    → IfOk r (AsksOpen cfg status query) → IfOk r (AsksDesk cfg status query)
open_asks cfg status query (Ok work) open' asks = (open', asks)
open_asks cfg status query (Err why) open' asks = tt

pub open_refuses : (cfg : Config) (status : Status) (query : Option (List ℕ)) (r : Result Work NoPage) → status.closed ≡ false
    → IfErr r (IfRefused (IsRefusedOpen cfg status query)) → IfErr r (IfRefused (IsRefusedQuery cfg status query))
open_refuses cfg status query (Ok work) open' why = tt
open_refuses cfg status query (Err (no_page.Refused refusal)) open' why = inr (open', why)
open_refuses cfg status query (Err no_page.NoMemory) open' why = tt
