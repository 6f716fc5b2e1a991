-- The number that a line gives a directive, or its default, is within the directive's range.
use Rattle.std.proofs.Common.{◌≡◌, ℕ, ◌≤◌, Bool, true, false, List, Option, Some, None, refl, sym, cond, arith, nat_le, ◌&&◌}
use Rattle.std.proofs.lemmas.Bool.{and_parts}
use Rattle.std.specs.Option.{option_map, unwrap_or}
use Rattle.jk_io.specs.Decimals.{decimal_of}
use Rattle.lb_model.specs.declared.member.Activation.{Activation}
use Rattle.lb_model.specs.declared.member.Method.{Method}
use Rattle.site_config.specs.declared.directive.Directive.{Directive}
use Rattle.site_config.specs.declared.directive.Directive.TheVariants as directive
use Rattle.site_config.specs.declared.property.Property.{Property}
use Rattle.site_config.specs.declared.value.Value.TheVariants as value
use Rattle.site_config.specs.declared.values.Pings.{Pings}
use Rattle.site_config.specs.declared.values.WorkerKind.{WorkerKind}
use Rattle.site_config.specs.Bounds.{is_at_most}
use Rattle.site_config.specs.Directives.{worker_part}
use Rattle.site_config.specs.Meanings.{least_in, least_of, most_in, most_of, names_directive, other_value, range_of, text_if, value_by, value_of}
use Rattle.site_config.specs.Values as values
use Rattle.site_config.specs.Values.{activation_of, kind_of, method_of, pings_of, truth_of, within}
use Rattle.site_workers.specs.Settings.{as_number, number_in, number_or, said_in}

no_kind : (o : Option WorkerKind) → as_number (option_map value.Kind o) ≡ None
no_kind None = refl
no_kind (Some k) = refl

no_truth : (o : Option Bool) → as_number (option_map value.Truth o) ≡ None
no_truth None = refl
no_truth (Some t) = refl

no_activation : (o : Option Activation) → as_number (option_map value.Activation o) ≡ None
no_activation None = refl
no_activation (Some a) = refl

no_method : (o : Option Method) → as_number (option_map value.Method o) ≡ None
no_method None = refl
no_method (Some m) = refl

no_pings : (o : Option Pings) → as_number (option_map value.Pings o) ≡ None
no_pings None = refl
no_pings (Some p) = refl

no_text : (good : Bool) → as_number (text_if good) ≡ None
no_text true = refl
no_text false = refl

-- a directive without a range takes no number
no_number : (d : Directive) (text : List ℕ) → as_number (other_value d text) ≡ None
no_number directive.Kind text = no_kind (kind_of text)
no_number directive.Reference text = no_text _
no_number directive.Host text = refl
no_number directive.Port text = refl
no_number directive.Factor text = refl
no_number directive.Distance text = refl
no_number directive.Route text = refl
no_number directive.Redirect text = refl
no_number directive.Activation text = no_activation (activation_of text)
no_number directive.PoolSize text = refl
no_number directive.Retries text = refl
no_number directive.PacketSize text = refl
no_number directive.Secret text = refl
no_number directive.PingMode text = no_pings (pings_of text)
no_number directive.RecoveryOptions text = refl
no_number directive.FailOnStatus text = no_text _
no_number directive.BalanceWorkers text = refl
no_number directive.Method text = no_method (method_of text)
no_number directive.Sticky text = no_truth (truth_of text)
no_number directive.Force text = no_truth (truth_of text)
no_number directive.RecoverTime text = refl
no_number directive.Cookie text = no_text _
no_number directive.Path text = no_text _
no_number directive.ReadOnly text = no_truth (truth_of text)
no_number directive.DialTimeout text = refl
no_number directive.ConnectTimeout text = refl
no_number directive.PrepostTimeout text = refl
no_number directive.PingTimeout text = refl
no_number directive.SocketTimeout text = refl
no_number directive.ReplyTimeout text = refl
no_number directive.Keepalive text = no_truth (truth_of text)
no_number directive.PoolTimeout text = refl
no_number directive.PingInterval text = refl
no_number directive.User text = refl
no_number directive.Good text = refl
no_number directive.Bad text = refl

its_number : (o : Option ℕ) → as_number (option_map value.Number o) ≡ o
its_number None = refl
its_number (Some n) = refl

-- a number is within its range
within_low : (low high default : ℕ) (o : Option ℕ) → low ≤ default → low ≤ unwrap_or (within low high o) default
within_low low high default None h = h
within_low low high default (Some n) h = by_test (nat_le low n && nat_le n high) refl
  where
    by_test : (t : Bool) → (nat_le low n && nat_le n high) ≡ t → low ≤ unwrap_or (cond t (Some n) None) default
    by_test true e = let both = and_parts (nat_le low n) (nat_le n high) e in grind (arith, both.0)
    by_test false e = h

within_high : (low high default : ℕ) (o : Option ℕ) → default ≤ high → unwrap_or (within low high o) default ≤ high
within_high low high default None h = h
within_high low high default (Some n) h = by_test (nat_le low n && nat_le n high) refl
  where
    by_test : (t : Bool) → (nat_le low n && nat_le n high) ≡ t → unwrap_or (cond t (Some n) None) default ≤ high
    by_test true e = let both = and_parts (nat_le low n) (nat_le n high) e in grind (arith, both.1)
    by_test false e = h

within_most : (low high : ℕ) (o : Option ℕ) → is_at_most high (within low high o) ≡ true
within_most low high None = refl
within_most low high (Some n) = by_test (nat_le low n && nat_le n high) refl
  where
    by_test : (t : Bool) → (nat_le low n && nat_le n high) ≡ t → is_at_most high (cond t (Some n) None) ≡ true
    by_test true e = (and_parts (nat_le low n) (nat_le n high) e).1
    by_test false e = refl

low_by : (d : Directive) (text : List ℕ) (default : ℕ) (r : Option (ℕ × ℕ)) → least_in r ≤ default → least_in r ≤ unwrap_or (as_number (value_by r d text)) default
low_by d text default None h = rw (no_number d text) h
low_by d text default (Some r) h = rw (its_number (values.number_in r.0 r.1 text)) (within_low r.0 r.1 default (decimal_of text) h)

high_by : (d : Directive) (text : List ℕ) (default : ℕ) (r : Option (ℕ × ℕ)) → default ≤ most_in r → unwrap_or (as_number (value_by r d text)) default ≤ most_in r
high_by d text default None h = rw (no_number d text) h
high_by d text default (Some r) h = rw (its_number (values.number_in r.0 r.1 text)) (within_high r.0 r.1 default (decimal_of text) h)

most_by : (d : Directive) (text : List ℕ) (r : Option (ℕ × ℕ)) → is_at_most (most_in r) (as_number (value_by r d text)) ≡ true
most_by d text None = rw (no_number d text) refl
most_by d text (Some r) = rw (its_number (values.number_in r.0 r.1 text)) (within_most r.0 r.1 (decimal_of text))

-- a number, or its default, is within the directive's range
pub said-low : (d : Directive) (default : ℕ) (o : Option Property) → least_of d ≤ default → least_of d ≤ unwrap_or (as_number (said_in d o)) default
said-low d default None h = h
said-low d default (Some p) h = by_test (names_directive d (worker_part p.key))
  where
    by_test : (t : Bool) → least_of d ≤ unwrap_or (as_number (cond t (value_of d p.value) None)) default
    by_test true = low_by d p.value default (range_of d) h
    by_test false = h

pub said-high : (d : Directive) (default : ℕ) (o : Option Property) → default ≤ most_of d → unwrap_or (as_number (said_in d o)) default ≤ most_of d
said-high d default None h = h
said-high d default (Some p) h = by_test (names_directive d (worker_part p.key))
  where
    by_test : (t : Bool) → unwrap_or (as_number (cond t (value_of d p.value) None)) default ≤ most_of d
    by_test true = high_by d p.value default (range_of d) h
    by_test false = h

pub said-most : (d : Directive) (o : Option Property) → is_at_most (most_of d) (as_number (said_in d o)) ≡ true
said-most d None = refl
said-most d (Some p) = by_test (names_directive d (worker_part p.key))
  where
    by_test : (t : Bool) → is_at_most (most_of d) (as_number (cond t (value_of d p.value) None)) ≡ true
    by_test true = most_by d p.value (range_of d)
    by_test false = refl

pub number_or-low : (v : Directive → Option Property) (d : Directive) (default : ℕ) → least_of d ≤ default → least_of d ≤ number_or v d default
number_or-low v d default h = said-low d default (v d) h

pub number_or-high : (v : Directive → Option Property) (d : Directive) (default : ℕ) → default ≤ most_of d → number_or v d default ≤ most_of d
number_or-high v d default h = said-high d default (v d) h

-- a number that a line says
pub said_number : (d : Directive) (o : Option Property) (n : ℕ) → Some (value.Number n) ≡ said_in d o → is_at_most (most_of d) (Some n) ≡ true
said_number d o n e =
    let below : is_at_most (most_of d) (as_number (said_in d o)) ≡ true = said-most d o in
    rw (sym e) at below

pub given_low : (v : Directive → Option Property) (d : Directive) (n : ℕ) → Some n ≡ number_in v d → least_of d ≤ n
given_low v d n e =
    let low : least_of d ≤ unwrap_or (number_in v d) (least_of d) = number_or-low v d (least_of d) (omega arith) in
    rw (sym e) at low

pub given_high : (v : Directive → Option Property) (d : Directive) (n : ℕ) → Some n ≡ number_in v d → n ≤ most_of d
given_high v d n e =
    let high : unwrap_or (number_in v d) (most_of d) ≤ most_of d = number_or-high v d (most_of d) (omega arith) in
    rw (sym e) at high
