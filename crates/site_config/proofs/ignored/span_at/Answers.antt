use Rattle.std.proofs.Common.{◌≡◌, ◌≤◌, ◌<◌, Some, length, refl, sym, arith}
use Rattle.std.proofs.lemmas.Option.{slice_get_past, slice_get_read}
use Rattle.std.specs.List.{slice_get}
use Rattle.site_config.proofs.IgnoredLemmas.{key_bounds, key_found, no_key}
use Rattle.site_config.proofs.ignored.span_at.Goals as goal

pub returns-in-None-clause-value : goal.returns-in-None-clause-value
returns-in-None-clause-value c =
    let past : length c.args.ends.now ≤ c.args.place = grind (arith, c.in-None.ensures.lookup.0) in
    sym (no_key 0 c.args.keys.now c.args.ends.now c.args.place (slice_get_past c.args.ends.now c.args.place past))

pub returns-in-Some-clause-value : goal.returns-in-Some-clause-value
returns-in-Some-clause-value c =
    let last = c.in-Some.last.now in
    let within : c.args.place < length c.args.ends.now = grind (arith, c.in-Some.ensures.lookup.0) in
    let got : slice_get c.args.ends.now c.args.place ≡ Some last = slice_get_read c.args.ends.now (length c.args.ends.now) c.args.place last refl within c.in-Some.ensures.lookup.1 in
    rw c.start_of.ensures (sym (key_found 0 c.args.keys.now c.args.ends.now c.args.place last got))

pub returns-in-Some-clause-rises : goal.returns-in-Some-clause-rises
returns-in-Some-clause-rises c =
    let last = c.in-Some.last.now in
    let within : c.args.place < length c.args.ends.now = grind (arith, c.in-Some.ensures.lookup.0) in
    let got : slice_get c.args.ends.now c.args.place ≡ Some last = slice_get_read c.args.ends.now (length c.args.ends.now) c.args.place last refl within c.in-Some.ensures.lookup.1 in
    rw c.start_of.ensures (key_bounds 0 c.args.ends.now (length c.args.keys.now) c.args.place last c.requires got).0

pub returns-in-Some-clause-within : goal.returns-in-Some-clause-within
returns-in-Some-clause-within c =
    let last = c.in-Some.last.now in
    let within : c.args.place < length c.args.ends.now = grind (arith, c.in-Some.ensures.lookup.0) in
    let got : slice_get c.args.ends.now c.args.place ≡ Some last = slice_get_read c.args.ends.now (length c.args.ends.now) c.args.place last refl within c.in-Some.ensures.lookup.1 in
    (key_bounds 0 c.args.ends.now (length c.args.keys.now) c.args.place last c.requires got).1
