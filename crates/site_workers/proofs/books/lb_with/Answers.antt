use Rattle.std.proofs.Common.{ℕ, List, Option, Ok, length, map, ◌∙◌, sym, ap, subst}
use Rattle.std.proofs.lemmas.List.{length-map}
use Rattle.lb_model.specs.declared.member.MemberConfig.{MemberConfig}
use Rattle.site_config.specs.declared.error.PropsReason.TheVariants as reason
use Rattle.site_config.specs.Entries.{as_properties}
use Rattle.site_config.specs.Refusals.{refusal}
use Rattle.site_config.specs.declared.endpoint.Endpoint.{Endpoint}
use Rattle.site_workers.specs.Books.{AreTooWide, IsBook}
use Rattle.site_workers.specs.Rows.{property_at}
use Rattle.site_workers.specs.Settings.{shared}
use Rattle.site_workers.proofs.LbLemmas.{made_lb}
use Rattle.site_workers.proofs.books.lb_with.Goals as goal

pub book_of-requires : goal.book_of-requires
book_of-requires c = rw c.from_vec.ensures (record { some = c.requires.some; few = c.requires.few; within = c.requires.within })

pub made_of-requires : goal.made_of-requires
made_of-requires c = record {
  paired = ap (λ (es : List Endpoint). length es) c.in_ok-ends.ensures ∙ length-map c.args.made.ends.items _ ∙ c.requires.paired ∙ ap (λ (ms : List MemberConfig). length ms) (sym (c.in-Ok.ensures.book.members ∙ c.from_vec.ensures));
  cookie = c.filled_or-cookie.ensures.filled;
  path = c.filled_or-path.ensures.filled;
}

pub returns-in_ok-made_of-in-Ok-clause-lb : goal.returns-in_ok-made_of-in-Ok-clause-lb
returns-in_ok-made_of-in-Ok-clause-lb c =
    let v = property_at (as_properties c.args.given.now.entries.now) c.args.row.now in
    let maintain = c.args.given.now.maintain in
    let is : IsBook v maintain c.args.made.configs.items c.in-Ok.book = subst (λ (ms : List MemberConfig). IsBook v maintain ms c.in-Ok.book) c.from_vec.ensures c.in-Ok.ensures.book in
    let all = c.args.made.ends.items in
    let shares = c.in_ok-ends.ensures ∙ ap (λ (o : Option (List ℕ)). map (shared o) all) c.text-common.ensures in
    made_lb v maintain c.args.name.now c.filled_or-cookie.result.now c.filled_or-path.result.now c.in-Ok.book c.args.made.configs.items all c.in_ok-ends.ends.items (Ok c.in_ok-made_of-in-Ok.field-0) is shares
    c.filled_or-cookie.ensures.value c.filled_or-path.ensures.value c.in_ok-made_of-in-Ok.ensures

pub returns-in-Err-clause-wide : goal.returns-in-Err-clause-wide
returns-in-Err-clause-wide c =
    rw c.refused.ensures (subst AreTooWide c.from_vec.ensures c.in-Err.ensures.wide, ap (λ (n : ℕ). refusal n reason.TooWide) c.type_line.ensures)
