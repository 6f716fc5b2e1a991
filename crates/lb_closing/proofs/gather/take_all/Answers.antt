-- One desk more; and after the last, nothing is left.
use Rattle.std.proofs.Common.{◌≡◌, ◌+◌, false, List, [], ◌∷◌, ◌++◌, length, map, sym, ap, subst, arith}
use Rattle.std.specs.Prelude.{◌↔◌, sum_by}
use Rattle.std.specs.List.{All, flat_map}
use Rattle.std.proofs.lemmas.List.{length-append}
use Rattle.lb_closing.specs.Closings.{noted}
use Rattle.lb_closing.proofs.ListLaws.{all_end, all_step, if_refused, map_end, map_step, no_items, noted_end, noted_step, sum_end, sum_step}
use Rattle.lb_closing.proofs.gather.take_all.Goals as goal

pub loop-left-init : goal.loop-left-init
loop-left-init g c =
    let is = c.into_iter-left-iterator.ensures.into_iter_gives.0 in
    let P : List _ → Type 0 = λ xs. ((c.args.all.now.forgot ≡ false) × All (λ x. x.forgotten ≡ 0) xs) ↔ ((c.args.all.now.forgot ≡ false) × All (λ x. x.forgotten ≡ 0) c.args.leaving.items) in
    record {
      parts = ap (λ (xs : List _). c.args.all.now.share.parts + sum_by (λ x. x.share.parts) xs) is;
      amount = ap (λ (xs : List _). c.args.all.now.share.amount + sum_by (λ x. x.share.amount) xs) is;
      cuts = ap (λ (xs : List _). c.args.all.now.cuts.amount + sum_by (λ x. x.cuts.amount) xs) is;
      noted = ap (λ (xs : List _). c.args.all.now.noted.items ++ noted (flat_map (λ x. x.receipts) xs)) is;
      shelves = ap (λ (xs : List _). c.args.all.now.shelves.items ++ map (λ x. x.shelf) xs) is;
      seats = ap (λ (xs : List _). c.args.all.now.seats.items ++ map (λ x. x.seat) xs) is;
      room = omega (arith, c.requires.room, c.args.leaving.ok.0, ap length is);
      for_seats = omega (arith, c.requires.for_seats, c.args.leaving.ok.0, ap length is);
      forgot = subst P (sym is) (λ x. x, λ x. x);
    }

pub loop-left-preserved : goal.loop-left-preserved
loop-left-preserved g c =
    let is = c.in-Some.ensures.steps.0 in
    let I = c.loop-left.invariant in
    record {
      parts = sum_step _ _ _ _ _ _ _ I.parts is c.take.ensures.parts;
      amount = sum_step _ _ _ _ _ _ _ I.amount is c.take.ensures.amount;
      cuts = sum_step _ _ _ _ _ _ _ I.cuts is c.take.ensures.cuts;
      noted = noted_step _ _ _ _ _ _ _ I.noted is c.in_ok-take.ensures.noted;
      shelves = map_step _ _ _ _ _ _ _ I.shelves is c.in_ok-take.ensures.shelves;
      seats = map_step _ _ _ _ _ _ _ I.seats is c.in_ok-take.ensures.seats;
      room = omega (
        arith,
        I.room,
        ap length is,
        ap length c.in_ok-take.ensures.shelves,
        length-append c.loop-left.all.shelves.items (c.in-Some.left.shelf ∷ []),
        c.take.ensures.room,
        c.loop-left.all.shelves.ok.0,
        c.take.new.all.shelves.ok.0,
      );
      for_seats = omega (
        arith,
        I.for_seats,
        ap length is,
        ap length c.in_ok-take.ensures.seats,
        length-append c.loop-left.all.seats.items (c.in-Some.left.seat ∷ []),
        c.take.ensures.for_seats,
        c.loop-left.all.seats.ok.0,
        c.take.new.all.seats.ok.0,
      );
      forgot = all_step (λ x. x.forgotten ≡ 0) _ _ _ _ _ _ I.forgot is c.take.ensures.forgot;
    }

pub returns-in_err-take-clause-parts : goal.returns-in_err-take-clause-parts
returns-in_err-take-clause-parts g c = if_refused c.from_residual.result _ _ c.from_residual.ensures.1

pub returns-in_err-take-clause-amount : goal.returns-in_err-take-clause-amount
returns-in_err-take-clause-amount g c = if_refused c.from_residual.result _ _ c.from_residual.ensures.1

pub returns-in_err-take-clause-cuts : goal.returns-in_err-take-clause-cuts
returns-in_err-take-clause-cuts g c = if_refused c.from_residual.result _ _ c.from_residual.ensures.1

pub returns-in_err-take-clause-noted : goal.returns-in_err-take-clause-noted
returns-in_err-take-clause-noted g c = if_refused c.from_residual.result _ _ c.from_residual.ensures.1

pub returns-in_err-take-clause-shelves : goal.returns-in_err-take-clause-shelves
returns-in_err-take-clause-shelves g c = if_refused c.from_residual.result _ _ c.from_residual.ensures.1

pub returns-in_err-take-clause-seats : goal.returns-in_err-take-clause-seats
returns-in_err-take-clause-seats g c = if_refused c.from_residual.result _ _ c.from_residual.ensures.1

pub returns-in_err-take-clause-forgot : goal.returns-in_err-take-clause-forgot
returns-in_err-take-clause-forgot g c = if_refused c.from_residual.result _ _ c.from_residual.ensures.1

pub returns-clause-parts : goal.returns-clause-parts
returns-clause-parts g c = sum_end _ _ _ _ c.loop-left.invariant.parts (no_items c.loop-left.left-iterator.rest.items (omega (arith, c.in-None.ensures.steps.0, c.loop-left.left-iterator.rest.ok.0)))

pub returns-clause-amount : goal.returns-clause-amount
returns-clause-amount g c = sum_end _ _ _ _ c.loop-left.invariant.amount (no_items c.loop-left.left-iterator.rest.items (omega (arith, c.in-None.ensures.steps.0, c.loop-left.left-iterator.rest.ok.0)))

pub returns-clause-cuts : goal.returns-clause-cuts
returns-clause-cuts g c = sum_end _ _ _ _ c.loop-left.invariant.cuts (no_items c.loop-left.left-iterator.rest.items (omega (arith, c.in-None.ensures.steps.0, c.loop-left.left-iterator.rest.ok.0)))

pub returns-clause-noted : goal.returns-clause-noted
returns-clause-noted g c = noted_end _ _ _ _ c.loop-left.invariant.noted (no_items c.loop-left.left-iterator.rest.items (omega (arith, c.in-None.ensures.steps.0, c.loop-left.left-iterator.rest.ok.0)))

pub returns-clause-shelves : goal.returns-clause-shelves
returns-clause-shelves g c = map_end _ _ _ _ c.loop-left.invariant.shelves (no_items c.loop-left.left-iterator.rest.items (omega (arith, c.in-None.ensures.steps.0, c.loop-left.left-iterator.rest.ok.0)))

pub returns-clause-seats : goal.returns-clause-seats
returns-clause-seats g c = map_end _ _ _ _ c.loop-left.invariant.seats (no_items c.loop-left.left-iterator.rest.items (omega (arith, c.in-None.ensures.steps.0, c.loop-left.left-iterator.rest.ok.0)))

pub returns-clause-forgot : goal.returns-clause-forgot
returns-clause-forgot g c = all_end (λ x. x.forgotten ≡ 0) _ _ _ c.loop-left.invariant.forgot (no_items c.loop-left.left-iterator.rest.items (omega (arith, c.in-None.ensures.steps.0, c.loop-left.left-iterator.rest.ok.0)))
