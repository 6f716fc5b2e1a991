-- Each part of the copy is equal, and so the whole is.
use Rattle.std.proofs.Common.{◌≡◌, ◌∙◌, ℕ, List, ap}
use Rattle.lb_model.specs.declared.config.LbConfig.{LbConfig}
use Rattle.lb_model.specs.declared.opening.Opening.{Opening}
use Rattle.lb_model.specs.declared.view.MemberRow.{MemberRow}
use Rattle.lb_book.proofs.copies.copy_opening.Goals as goal

same_opening : (o : Opening) (config : LbConfig) (rows : List MemberRow) (out : List (ℕ × ℕ)) → config ≡ o.config → rows ≡ o.rows → out ≡ o.out
    → record o { config = config; rows = rows; out = out } ≡ o
same_opening o config rows out same_config same_rows same_out =
    ap (λ (k : LbConfig). record o { config = k; rows = rows; out = out }) same_config
    ∙ ap (λ (xs : List MemberRow). record o { rows = xs; out = out }) same_rows
    ∙ ap (λ (ts : List (ℕ × ℕ)). record o { out = ts }) same_out

pub returns : goal.returns
returns c =
    same_opening c.args.opening.now c.in_ok-copy.field-0 c.from_vec.result c.in_ok-copy-2.field-0 c.in_ok-copy.ensures.ok
    (c.from_vec.ensures ∙ c.in_ok-rows.ensures ∙ c.as_slice.ensures) c.in_ok-copy-2.ensures
