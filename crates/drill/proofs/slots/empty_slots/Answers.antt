use Rattle.std.proofs.Common.{◌≡◌, [], ◌∷◌, length, refl, sym, ap, ◌∙◌, sum_by, arith}
use Rattle.std.proofs.lemmas.List.{length-append}
use Rattle.std.proofs.lemmas.List.Elements.{All-nil, All-push, All-same}
use Rattle.std.proofs.lemmas.List.Sums.{sum_by_push}
use Rattle.lb_shared.specs.declared.mem_shelf.MemShelf.{MemShelf}
use Rattle.lb_shared.specs.declared.shared_desk.Leaving.{Leaving}
use Rattle.drill.proofs.BodyLaws.{none_together, one_together}
use Rattle.drill.proofs.PassLaws.{no_more, none_put, one_put}
use Rattle.drill.proofs.SlotLaws.{none-forgotten, one-left}
use Rattle.drill.proofs.slots.empty_slots.Goals as goal

pub slots-init : goal.slots-init
slots-init g c =
    let all : c.into_iter-slot-iterator.result.rest.items ≡ c.args.slots.items = cc in
    let none = ap length c.requires.none in
    record {
      parts = omega (arith, ap (sum_by {X = Leaving g.row.L.Denot MemShelf} (λ x. x.share.parts)) c.requires.none, ap length all, c.args.slots.ok.0);
      count = omega (arith, none, ap length all, c.args.slots.ok.0);
      none_forgot = All-same (λ x. x.forgotten ≡ 0) _ _ c.requires.none (All-nil (λ x. x.forgotten ≡ 0));
      bodies = rw all refl;
      receipts = none_put _ _ _ _ _ c.requires.none all;
      room = omega (arith, ap length all, none, c.args.leaving.now.ok.0, c.args.slots.ok.0, c.requires.room);
    }

pub slots-preserved : goal.slots-preserved
slots-preserved g c =
    let inv = c.slots.invariant in
    let first = c.in-Some.ensures.steps.0 in
    let rest = ap length first in
    let pushed = c.push_reserved.ensures.items in
    let more = ap length pushed in
    let here = c.in-Some.slot.whole in
    let part = one-left _ _ here.one_part c.leave.ensures.parts in
    let forgot =
    none-forgotten _ _ _ _ c.leave.ensures.amount (here.counted ∙ ap length (sym c.leave.ensures.receipts)) c.leave.result.counted in
    record {
      parts =
          let sum =
          ap (sum_by {X = Leaving g.row.L.Denot MemShelf} (λ x. x.share.parts)) pushed
          ∙ sum_by_push (λ x. x.share.parts) c.slots.leaving.items c.leave.result in
          omega (arith, sum, part, rest, inv.parts);
      count = omega (arith, more, length-append c.slots.leaving.items (c.leave.result ∷ []), rest, inv.count);
      none_forgot =
          All-same (λ x. x.forgotten ≡ 0) _ _ pushed (All-push (λ x. x.forgotten ≡ 0) c.slots.leaving.items c.leave.result inv.none_forgot forgot);
      bodies = one_together _ _ _ _ _ _ _ inv.bodies first c.together-bodies.ensures;
      receipts = one_put _ _ _ _ _ _ _ _ _ inv.receipts first pushed c.leave.ensures.receipts;
      room = omega (arith, rest, inv.room, c.push_reserved.ensures.len, c.push_reserved.ensures.capacity);
    }

pub returns-clause-receipts : goal.returns-clause-receipts
returns-clause-receipts g c =
    let none : length c.slots.slot-iterator.rest.items ≡ 0 = omega (arith, c.in-None.ensures.steps.0, c.slots.slot-iterator.rest.ok.0) in
    no_more _ _ _ _ _ c.slots.invariant.receipts none

pub returns-clause-bodies : goal.returns-clause-bodies
returns-clause-bodies g c =
    let none : length c.slots.slot-iterator.rest.items ≡ 0 = omega (arith, c.in-None.ensures.steps.0, c.slots.slot-iterator.rest.ok.0) in
    none_together _ _ _ _ c.slots.invariant.bodies none
