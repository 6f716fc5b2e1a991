use Rattle.std.proofs.lemmas.Result.{IfOk-weaker}
use Rattle.site_config.specs.Entries.{as_properties}
use Rattle.site_workers.proofs.MemberListLemmas.{once_each}
use Rattle.site_workers.proofs.member_lists.member_lists.Goals as goal

pub returns : goal.returns
returns c =
    IfOk-weaker c.once.result _ _ (λ v same.
    once_each (as_properties c.args.entries.now) c.args.names.now c.in_ok-joined_lists.field-0.items v.items c.in_ok-joined_lists.ensures (rw c.as_slice.ensures.value at same)) c.once.ensures
