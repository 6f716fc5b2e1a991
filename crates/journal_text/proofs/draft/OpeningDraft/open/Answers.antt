use Rattle.std.proofs.Common.{refl, subst, IsTrue, arith}
use Rattle.lb_model.specs.Validity.{IsOpening}
use Rattle.lb_model.specs.declared.opening.Opening.{Opening}
use Rattle.journal_text.specs.Openings.{IsOpened}
use Rattle.journal_text.proofs.OpeningFacts.{refused_none, same_opening}
use Rattle.journal_text.proofs.draft.OpeningDraft.open.Goals as goal

pub returns-in-Err : goal.returns-in-Err
returns-in-Err c = λ o h _. refused_none c.args.self o.config c.in-Err.field-0 h.config c.in-Err.ensures.refused

pub returns-else-is_valid : goal.returns-else-is_valid
returns-else-is_valid c =
    let b = c.args.beginning.now in
    let opening : Opening = record {
      config = c.in-Ok.config;
      rows = c.from_vec.result;
      out = c.args.self.out;
      next = b.next;
      at = b.at;
      maintained = b.maintained;
      chosen = b.chosen;
    } in
    let mine : IsOpened c.args.self b opening = record {
      config = record {
        method = c.in-Ok.ensures.flags.0;
        sticky = c.in-Ok.ensures.flags.1;
        force = c.in-Ok.ensures.flags.2;
        direct = c.in-Ok.ensures.flags.3;
        maintain = c.in-Ok.ensures.times.0;
        recover = c.in-Ok.ensures.times.1;
        members = c.in-Ok.ensures.members;
      };
      rows = rw (c.from_vec.ensures, ← c.into_vec-rows.ensures, ← c.as_slice.ensures) c.count_tickets.ensures;
      out = refl;
      next = refl;
      at = refl;
      maintained = refl;
      chosen = refl;
    } in
    λ o h valid.
    let told : IsTrue c.is_valid.result = c.is_valid.ensures.valid.1 (subst IsOpening (same_opening c.args.self b o opening h mine) valid) in
    grind (arith, told, c.if-is_valid.false)
