use Rattle.std.proofs.Common.{◌≡◌, ◌+◌, ◌<◌, ℕ, true, false, List, length, drop, get_or, Some, sym, ◌∙◌, arith, refl}
use Rattle.std.proofs.lemmas.List.{drop_more}
use Rattle.std.specs.Str.{bytes_eq}
use Rattle.site_config.specs.Directives.{directive_among, name_of}
use Rattle.site_config.specs.declared.directive.Directive.{Directive}
use Rattle.site_config.specs.declared.directive.Directive.TheVariants.{Kind}
use Rattle.site_config.proofs.directive.directive_among.Goals as goal

-- the first of the rest has the name
here : (ds : List Directive) (text : List ℕ) (i : ℕ) (d : Directive) → i < length ds → bytes_eq (name_of (get_or ds i d)) text ≡ true → directive_among (drop i ds) text ≡ Some (get_or ds i d)
here ds text i d h yea = rw (drop_more ds i d h, yea) refl

there : (ds : List Directive) (text : List ℕ) (i : ℕ) (d : Directive) → i < length ds → bytes_eq (name_of (get_or ds i d)) text ≡ false → directive_among (drop i ds) text ≡ directive_among (drop (i + 1) ds) text
there ds text i d h nay = rw (drop_more ds i d h, nay) refl

pub returns-then-eq : goal.returns-then-eq
returns-then-eq c =
    sym (here c.args.among.now c.args.text.now c.loop-d.d-index Kind (omega arith) (rw (← c.name.ensures) (sym c.if-eq.ensures))) ∙ c.loop-d.invariant

pub loop-d-preserved : goal.loop-d-preserved
loop-d-preserved c =
    sym (there c.args.among.now c.args.text.now c.loop-d.d-index Kind (omega arith) (rw (← c.name.ensures) (sym c.if-eq.ensures))) ∙ c.loop-d.invariant
