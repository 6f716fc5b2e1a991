use Rattle.std.proofs.Common.{◌≡◌, ◌<◌, ◌∷◌, [], ◌++◌, ℕ, Bool, true, false, List, length, map, reverse, arith, sym, ◌∙◌, ap, subst, Some, None, Bor, refl, cond}
use Rattle.std.proofs.lemmas.Option.{slice_get_read, same_Some, none-some}
use Rattle.std.specs.List.{slice_get}
use Rattle.site_config.specs.declared.directive.Directive.TheVariants as directive
use Rattle.site_config.specs.Entries.{as_property, as_properties}
use Rattle.site_workers.specs.Given.{target_in, target_name, last_given}
use Rattle.site_workers.specs.Numbers.{number_of}
use Rattle.site_workers.specs.Rows.{property_at, adjusted}
use Rattle.site_workers.specs.Ways.{IsAt, is_whole, is_open, passed_row, fresh_in}
use Rattle.site_workers.proofs.WayLemmas.{row_within, path_more, way_meets, way_ends, way_breaks, at_next, at_own, at_lines, fresh_less}
use Rattle.site_workers.proofs.reference.walk.Goals as goal

-- an open worker is the one that was asked for
open_next : (o : Bool) (t x : List ℕ) → Some x ≡ cond o (Some t) None → (o ≡ true) × (t ≡ x)
open_next true t x e = (refl, sym (same_Some x t e))
open_next false t x e = absurd (none-some x (sym e))

open_none : (o : Bool) (t : List ℕ) → None ≡ cond o (Some t) None → o ≡ false
open_none true t e = absurd (none-some t e)
open_none false t e = refl

pub index-requires : goal.index-requires
index-requires c =
    let num : number_of c.loop-at.at.now c.args.given.now.names.now ≡ Some c.unwrap-number.result = sym c.find.ensures ∙ c.unwrap-number.ensures in
    let within = row_within c.args.given.now.names.now c.loop-at.rows.items c.loop-at.at.now c.unwrap-number.result c.loop-at.invariant.rows_are num in
    omega arith

pub pass-requires : goal.pass-requires
pass-requires c =
    let num : number_of c.loop-at.at.now c.args.given.now.names.now ≡ Some c.unwrap-number.result = sym c.find.ensures ∙ c.unwrap-number.ensures in
    row_within c.args.given.now.names.now c.loop-at.rows.items c.loop-at.at.now c.unwrap-number.result c.loop-at.invariant.rows_are num

pub returns-then-is_whole-clause-way : goal.returns-then-is_whole-clause-way
returns-then-is_whole-clause-way c =
    let rows = c.loop-at.rows.items in
    let i = c.unwrap-number.result in
    let num : number_of c.loop-at.at.now c.args.given.now.names.now ≡ Some i = sym c.find.ensures ∙ c.unwrap-number.ensures in
    let within : i < length rows = row_within c.args.given.now.names.now rows c.loop-at.at.now i c.loop-at.invariant.rows_are num in
    let got : slice_get rows i ≡ Some c.index.result.now = slice_get_read rows (length rows) i c.index.result.now refl within c.index.ensures in
    way_meets (as_properties c.args.given.now.entries.now) c.args.start.now c.args.given.now.names.now rows _ c.loop-at.at.now i c.index.result.now c.requires.given c.loop-at.invariant num got (sym c.if-is_whole.ensures)

pub returns-in-None-clause-way : goal.returns-in-None-clause-way
returns-in-None-clause-way c =
    let rows = c.loop-at.rows.items in
    let i = c.unwrap-number.result in
    let num : number_of c.loop-at.at.now c.args.given.now.names.now ≡ Some i = sym c.find.ensures ∙ c.unwrap-number.ensures in
    let within : i < length rows = row_within c.args.given.now.names.now rows c.loop-at.at.now i c.loop-at.invariant.rows_are num in
    let got : slice_get rows i ≡ Some c.index.result.now = slice_get_read rows (length rows) i c.index.result.now refl within c.index.ensures in
    let items : c.push.new.self.items ≡ c.loop-at.path.items ++ c.loop-at.at ∷ [] = grind arith in
    rw (items, path_more, c.pass.ensures) (way_ends (as_properties c.args.given.now.entries.now) c.args.start.now c.args.given.now.names.now rows _ c.loop-at.at.now i c.index.result.now c.requires.given c.loop-at.invariant num got (sym c.if-is_whole.ensures) (sym c.in-None.ensures))

pub loop-at-smaller : goal.loop-at-smaller
loop-at-smaller c =
    let rows = c.loop-at.rows.items in
    let i = c.unwrap-number.result in
    let num : number_of c.loop-at.at.now c.args.given.now.names.now ≡ Some i = sym c.find.ensures ∙ c.unwrap-number.ensures in
    let within : i < length rows = row_within c.args.given.now.names.now rows c.loop-at.at.now i c.loop-at.invariant.rows_are num in
    let got : slice_get rows i ≡ Some c.index.result.now = slice_get_read rows (length rows) i c.index.result.now refl within c.index.ensures in
    let own = at_own (as_properties c.args.given.now.entries.now) c.args.start.now c.args.given.now.names.now rows _ c.loop-at.at.now i c.index.result.now c.loop-at.invariant num got (sym c.if-is_whole.ensures) in
    let less : fresh_in (adjusted passed_row rows i) < fresh_in rows = fresh_less rows i c.index.result.now got own in
    rw c.pass.ensures less

pub loop-at-preserved : goal.loop-at-preserved
loop-at-preserved c =
    let rows = c.loop-at.rows.items in
    let i = c.unwrap-number.result in
    let num : number_of c.loop-at.at.now c.args.given.now.names.now ≡ Some i = sym c.find.ensures ∙ c.unwrap-number.ensures in
    let within : i < length rows = row_within c.args.given.now.names.now rows c.loop-at.at.now i c.loop-at.invariant.rows_are num in
    let got : slice_get rows i ≡ Some c.index.result.now = slice_get_read rows (length rows) i c.index.result.now refl within c.index.ensures in
    let items : c.push.new.self.items ≡ c.loop-at.path.items ++ c.loop-at.at ∷ [] = grind arith in
    let ps = as_properties c.args.given.now.entries.now in
    let p = as_property c.in-Some.entry in
    let at : property_at ps c.index.result.now directive.Reference ≡ Some p = sym c.in-Some.ensures in
    let whole : is_whole c.index.result.now ≡ false = sym c.if-is_whole.ensures in
    let last : last_given ps c.loop-at.at.now directive.Reference ≡ Some p = sym (at_lines ps c.args.start.now c.args.given.now.names.now rows _ c.loop-at.at.now i c.index.result.now c.loop-at.invariant num got whole) ∙ at in
    let opened = open_next (is_open c.args.given.now.names.now c.as_slice.result.now (target_name p)) (target_name p) c.in-Some-next_on_way.next.now c.in-Some-next_on_way.ensures in
    let open_now : is_open c.args.given.now.names.now (adjusted passed_row rows i) (target_name p) ≡ true = rw (c.as_slice.ensures.value, c.pass.ensures) at opened.0 in
    let stands = at_next ps c.args.start.now c.args.given.now.names.now rows _ c.loop-at.at.now (target_name p) i c.index.result.now c.args.given.now.known c.loop-at.invariant num got whole (ap target_in last) open_now in
    rw (items, path_more, c.pass.ensures) (subst (λ (x : List ℕ). IsAt ps c.args.start.now c.args.given.now.names.now (adjusted passed_row rows i) (c.loop-at.at.now ∷ reverse (map (λ (n : Bor (List ℕ)). n.now) c.loop-at.path.items)) x) opened.1 stands)

pub returns-in-None-next_on_way-clause-broken : goal.returns-in-None-next_on_way-clause-broken
returns-in-None-next_on_way-clause-broken c =
    let rows = c.loop-at.rows.items in
    let i = c.unwrap-number.result in
    let num : number_of c.loop-at.at.now c.args.given.now.names.now ≡ Some i = sym c.find.ensures ∙ c.unwrap-number.ensures in
    let within : i < length rows = row_within c.args.given.now.names.now rows c.loop-at.at.now i c.loop-at.invariant.rows_are num in
    let got : slice_get rows i ≡ Some c.index.result.now = slice_get_read rows (length rows) i c.index.result.now refl within c.index.ensures in
    let ps = as_properties c.args.given.now.entries.now in
    let p = as_property c.in-Some.entry in
    let at : property_at ps c.index.result.now directive.Reference ≡ Some p = sym c.in-Some.ensures in
    let whole : is_whole c.index.result.now ≡ false = sym c.if-is_whole.ensures in
    let shut = open_none (is_open c.args.given.now.names.now c.as_slice.result.now (target_name p)) (target_name p) c.in-None-next_on_way.ensures in
    let shut_now : is_open c.args.given.now.names.now (adjusted passed_row rows i) (target_name p) ≡ false = rw (c.as_slice.ensures.value, c.pass.ensures) at shut in
    let breaks = way_breaks ps c.args.start.now c.args.given.now.names.now rows _ c.loop-at.at.now i c.index.result.now p c.args.given.now.known c.loop-at.invariant num got whole at shut_now in
    rw c.refused.ensures (p.line, breaks, refl)
