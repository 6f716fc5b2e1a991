-- Who waited at the place is the one who is away now; where none did, all is as it was.
use Rattle.std.proofs.Common.{◌≡◌, refl, sym, ap, subst, ◌∙◌, rules}
use Rattle.std.specs.Prelude.{Some, slice_get, slice_set}
use Rattle.std.proofs.lemmas.List.{set-get_or}
use Rattle.std.proofs.lemmas.Option.{slice_get_read}
use Rattle.waiting_room.specs.declared.places.Place.TheVariants as place
use Rattle.waiting_room.specs.Rooms.{RoomState, stay_in, stay_at}
use Rattle.waiting_room.proofs.places.Places.lift.Goals as goal

pub returns-in-Err-clause-none : goal.returns-in-Err-clause-none
returns-in-Err-clause-none g c =
    let there = slice_get_read c.self.inside.places.items _ c.args.at c.in_ok-place.place.now c.self.inside.places.ok.0 (c.in_ok-place.ensures.variant.0 refl) c.in_ok-place.ensures.value in
    let none = ap stay_in there ∙ ap (λ p. stay_in (Some p)) (sym c.replace.ensures.value) ∙ c.in-Err.ensures.err.1 in
    let same = ap (slice_set c.self.inside.places.items c.args.at) (c.in-Err.ensures.err.0 ∙ c.replace.ensures.value ∙ c.in_ok-place.ensures.value) ∙ set-get_or _ _ _ in (
      subst (λ (s : RoomState _). stay_at s.places c.args.at ≡ _) c.self.view_is none,
      ap (λ xs. record { places = xs; ready = c.self.inside.ready.items }) same ∙ c.self.view_is,
    )

pub returns-clause-some : goal.returns-clause-some
returns-clause-some g c =
    let there = slice_get_read c.self.inside.places.items _ c.args.at c.in_ok-place.place.now c.self.inside.places.ok.0 (c.in_ok-place.ensures.variant.0 refl) c.in_ok-place.ensures.value in
    record {
      was_there = subst (λ (s : RoomState _). slice_get s.places c.args.at ≡ Some (place.Waits c.in-Ok.gone.0 c.in-Ok.gone.1)) c.self.view_is (there ∙ ap Some (sym c.replace.ensures.value ∙ c.in-Ok.ensures.ok));
      is_there = search rules;
    }
