use Rattle.std.proofs.Common.{◌≡◌, List, [], ◌∷◌, ◌⊎◌, inl, inr, refl, arith, length, Iter, sym, ◌∙◌}
use Rattle.std.proofs.lemmas.List.{append-nil}
use Rattle.std.specs.Iterator.Adapters.{zip_first, zip_second}
use Rattle.std.specs.List.{zip}
use Rattle.std.specs.Slice.Iter.{iter_rest}
use Rattle.lb_model.specs.declared.member.MemberConfig.{MemberConfig}
use Rattle.site_config.specs.declared.endpoint.Endpoint.{Endpoint}
use Rattle.site_reports.proofs.config_text.put_members.Goals as goal

-- where one list is empty there is no pair
no_pairs : {K X : Type 0} (ks : List K) (vs : List X) → (length ks ≡ 0) ⊎ (length vs ≡ 0) → zip ks vs ≡ []
no_pairs [] vs e = refl
no_pairs (k ∷ ks) [] e = refl
no_pairs (k ∷ ks) (v ∷ vs) (inl e) = absurd (omega (arith, e))
no_pairs (k ∷ ks) (v ∷ vs) (inr e) = absurd (omega (arith, e))

-- one of the two iterators had come to its end
no_more : (s : Iter MemberConfig) (t : Iter Endpoint) → (((x : Iter MemberConfig) × ((length (iter_rest s) ≡ 0) × (x ≡ s))) ⊎ ((x : Iter Endpoint) × ((length (iter_rest t) ≡ 0) × (x ≡ t)))) → zip (iter_rest s) (iter_rest t) ≡ []
no_more s t (inl e) = no_pairs _ _ (inl e.1.0)
no_more s t (inr e) = no_pairs _ _ (inr e.1.0)

pub returns : goal.returns
returns c =
    let none : _ = no_more (zip_first c.loop-member.member-iterator) (zip_second c.loop-member.member-iterator) c.in-None.ensures.steps in
    sym (append-nil c.loop-member.out) ∙ (rw none at c.loop-member.invariant)
