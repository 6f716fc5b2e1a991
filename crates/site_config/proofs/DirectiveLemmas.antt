-- The directives, each by its name and its place.
use Rattle.std.proofs.Common.{◌≡◌, ◌≢◌, ℕ, ◌<◌, Bool, true, false, List, [], ◌∷◌, get_or, Some, None, refl, sym, ◌∙◌, ap, cond, lit<}
use Rattle.std.proofs.lemmas.Bool.{false_from_ne_true}
use Rattle.std.proofs.lemmas.Option.{same_Some, none-some}
use Rattle.std.proofs.lemmas.Slice.Eq.{bytes_eq-Decides}
use Rattle.std.specs.Str.{bytes_eq}
use Rattle.site_config.specs.declared.directive.Directive.{Directive}
use Rattle.site_config.specs.declared.directive.Directive.TheVariants as directive
use Rattle.site_config.specs.Directives.{name_of, slot_of, directives, directive_among, directive_of}

-- the directive of each name is the one that has it
pub directive_of-name_of : (d : Directive) → directive_of (name_of d) ≡ Some d
unfolding name_of
directive_of-name_of directive.Kind = refl
directive_of-name_of directive.Reference = refl
directive_of-name_of directive.Host = refl
directive_of-name_of directive.Port = refl
directive_of-name_of directive.Factor = refl
directive_of-name_of directive.Distance = refl
directive_of-name_of directive.Route = refl
directive_of-name_of directive.Redirect = refl
directive_of-name_of directive.Activation = refl
directive_of-name_of directive.PoolSize = refl
directive_of-name_of directive.Retries = refl
directive_of-name_of directive.PacketSize = refl
directive_of-name_of directive.Secret = refl
directive_of-name_of directive.PingMode = refl
directive_of-name_of directive.RecoveryOptions = refl
directive_of-name_of directive.FailOnStatus = refl
directive_of-name_of directive.BalanceWorkers = refl
directive_of-name_of directive.Method = refl
directive_of-name_of directive.Sticky = refl
directive_of-name_of directive.Force = refl
directive_of-name_of directive.RecoverTime = refl
directive_of-name_of directive.Cookie = refl
directive_of-name_of directive.Path = refl
directive_of-name_of directive.ReadOnly = refl
directive_of-name_of directive.DialTimeout = refl
directive_of-name_of directive.ConnectTimeout = refl
directive_of-name_of directive.PrepostTimeout = refl
directive_of-name_of directive.PingTimeout = refl
directive_of-name_of directive.SocketTimeout = refl
directive_of-name_of directive.ReplyTimeout = refl
directive_of-name_of directive.Keepalive = refl
directive_of-name_of directive.PoolTimeout = refl
directive_of-name_of directive.PingInterval = refl
directive_of-name_of directive.User = refl
directive_of-name_of directive.Good = refl
directive_of-name_of directive.Bad = refl

-- each stands in its place
pub directive_at-slot_of : (d : Directive) → get_or directives (slot_of d) directive.Kind ≡ d
directive_at-slot_of directive.Kind = refl
directive_at-slot_of directive.Reference = refl
directive_at-slot_of directive.Host = refl
directive_at-slot_of directive.Port = refl
directive_at-slot_of directive.Factor = refl
directive_at-slot_of directive.Distance = refl
directive_at-slot_of directive.Route = refl
directive_at-slot_of directive.Redirect = refl
directive_at-slot_of directive.Activation = refl
directive_at-slot_of directive.PoolSize = refl
directive_at-slot_of directive.Retries = refl
directive_at-slot_of directive.PacketSize = refl
directive_at-slot_of directive.Secret = refl
directive_at-slot_of directive.PingMode = refl
directive_at-slot_of directive.RecoveryOptions = refl
directive_at-slot_of directive.FailOnStatus = refl
directive_at-slot_of directive.BalanceWorkers = refl
directive_at-slot_of directive.Method = refl
directive_at-slot_of directive.Sticky = refl
directive_at-slot_of directive.Force = refl
directive_at-slot_of directive.RecoverTime = refl
directive_at-slot_of directive.Cookie = refl
directive_at-slot_of directive.Path = refl
directive_at-slot_of directive.ReadOnly = refl
directive_at-slot_of directive.DialTimeout = refl
directive_at-slot_of directive.ConnectTimeout = refl
directive_at-slot_of directive.PrepostTimeout = refl
directive_at-slot_of directive.PingTimeout = refl
directive_at-slot_of directive.SocketTimeout = refl
directive_at-slot_of directive.ReplyTimeout = refl
directive_at-slot_of directive.Keepalive = refl
directive_at-slot_of directive.PoolTimeout = refl
directive_at-slot_of directive.PingInterval = refl
directive_at-slot_of directive.User = refl
directive_at-slot_of directive.Good = refl
directive_at-slot_of directive.Bad = refl

pub slot_of-within : (d : Directive) → slot_of d < 36
slot_of-within directive.Kind = lit< tt
slot_of-within directive.Reference = lit< tt
slot_of-within directive.Host = lit< tt
slot_of-within directive.Port = lit< tt
slot_of-within directive.Factor = lit< tt
slot_of-within directive.Distance = lit< tt
slot_of-within directive.Route = lit< tt
slot_of-within directive.Redirect = lit< tt
slot_of-within directive.Activation = lit< tt
slot_of-within directive.PoolSize = lit< tt
slot_of-within directive.Retries = lit< tt
slot_of-within directive.PacketSize = lit< tt
slot_of-within directive.Secret = lit< tt
slot_of-within directive.PingMode = lit< tt
slot_of-within directive.RecoveryOptions = lit< tt
slot_of-within directive.FailOnStatus = lit< tt
slot_of-within directive.BalanceWorkers = lit< tt
slot_of-within directive.Method = lit< tt
slot_of-within directive.Sticky = lit< tt
slot_of-within directive.Force = lit< tt
slot_of-within directive.RecoverTime = lit< tt
slot_of-within directive.Cookie = lit< tt
slot_of-within directive.Path = lit< tt
slot_of-within directive.ReadOnly = lit< tt
slot_of-within directive.DialTimeout = lit< tt
slot_of-within directive.ConnectTimeout = lit< tt
slot_of-within directive.PrepostTimeout = lit< tt
slot_of-within directive.PingTimeout = lit< tt
slot_of-within directive.SocketTimeout = lit< tt
slot_of-within directive.ReplyTimeout = lit< tt
slot_of-within directive.Keepalive = lit< tt
slot_of-within directive.PoolTimeout = lit< tt
slot_of-within directive.PingInterval = lit< tt
slot_of-within directive.User = lit< tt
slot_of-within directive.Good = lit< tt
slot_of-within directive.Bad = lit< tt

-- two directives of one place are one
pub same_slot : (d e : Directive) → slot_of d ≡ slot_of e → d ≡ e
same_slot d e h = sym (directive_at-slot_of d) ∙ ap (λ (i : ℕ). get_or directives i directive.Kind) h ∙ directive_at-slot_of e

among_named : (ds : List Directive) (text : List ℕ) (d : Directive) → directive_among ds text ≡ Some d → name_of d ≡ text
among_named [] text d e = absurd (none-some d e)
among_named (x ∷ ds) text d e = by_test (among_named ds text d) (bytes_eq (name_of x) text) refl e
  where
    by_test : (directive_among ds text ≡ Some d → name_of d ≡ text) → (t : Bool) → bytes_eq (name_of x) text ≡ t → cond t (Some x) (directive_among ds text) ≡ Some d → name_of d ≡ text
    by_test rest true yea e = ap name_of (sym (same_Some x d e)) ∙ (bytes_eq-Decides (name_of x) text).0 yea
    by_test rest false nay e = rest e

-- a directive has the name by which it was found
pub directive_named : (text : List ℕ) (d : Directive) → directive_of text ≡ Some d → name_of d ≡ text
directive_named text d e = among_named directives text d e

-- a text that is no directive's name is that of none
pub name_of-none : (text : List ℕ) (d : Directive) → directive_of text ≡ None → bytes_eq text (name_of d) ≡ false
name_of-none text d e =
    false_from_ne_true _ (λ same.
    let named : text ≡ name_of d = (bytes_eq-Decides text (name_of d)).0 same in
    none-some d (sym e ∙ ap directive_of named ∙ directive_of-name_of d))

-- a directive's name is that of no other
pub name_of-other : (text : List ℕ) (d e : Directive) → directive_of text ≡ Some d → slot_of e ≢ slot_of d → bytes_eq text (name_of e) ≡ false
name_of-other text d e h other =
    false_from_ne_true _ (λ same.
    let named : text ≡ name_of e = (bytes_eq-Decides text (name_of e)).0 same in
    other (ap slot_of (same_Some e d (sym (directive_of-name_of e) ∙ ap directive_of (sym named) ∙ h))))

pub name_of-same : (text : List ℕ) (d : Directive) → directive_of text ≡ Some d → bytes_eq text (name_of d) ≡ true
name_of-same text d h = (bytes_eq-Decides text (name_of d)).1 (sym (directive_named text d h))
