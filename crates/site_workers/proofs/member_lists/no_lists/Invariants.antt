use Rattle.std.proofs.Common.{◌≡◌, List, [], All, vec_len}
use Rattle.site_workers.specs.declared.listing.Listing as declared
use Rattle.site_workers.proofs.member_lists.no_lists.Given as goal

-- the lists so far are empty
abbrev pub invariant-loop-i : goal.invariant-loop-i
invariant-loop-i l = record {
  count : vec_len l.lists ≡ l._i;
  empty : All (λ (list : List declared.Listing). list ≡ []) l.lists.items;
}
