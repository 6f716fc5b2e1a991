use Rattle.std.proofs.Common.{◌≡◌, ℕ, ◌+◌, ◌<◌, List, length, Some, get_or, refl, sym, ◌∙◌, subst, ap, arith, below_more}
use Rattle.std.specs.Prelude.{slice_get}
use Rattle.std.proofs.lemmas.Option.{get_or_from_slice_get, slice_get-get_or, slice_get_within}
use Rattle.lb_model.specs.Validity.{IsOpeningRow}
use Rattle.lb_model.specs.declared.member.MemberConfig.{MemberConfig}
use Rattle.lb_model.specs.declared.view.MemberRow.{MemberRow}
use Rattle.lb_model.proofs.validity.are_opening_rows.Goals as goal

-- The item at a place of a list that was lent.
read : {A : Type 0} (lent xs : List A) (i : ℕ) (x y : A) → lent ≡ xs → x ≡ get_or lent i x → slice_get xs i ≡ Some y → x ≡ y
read lent xs i x y same is found =
    is ∙ ap (λ (zs : List _). get_or zs i x) same ∙ get_or_from_slice_get xs i y x found

pub is_opening_row-requires-clause-factor : goal.is_opening_row-requires-clause-factor
is_opening_row-requires-clause-factor c =
    let ms : List MemberConfig = c.as_slice-members.result.now in
    let m : MemberConfig = c.index-members-i.result in
    let lt : c.loop-i.i < length ms = omega arith in
    let found : slice_get ms c.loop-i.i ≡ Some m =
    slice_get-get_or ms c.loop-i.i m lt ∙ ap (λ (x : MemberConfig). Some x) (sym c.index-members-i.is) in
    let here : slice_get c.args.opening.now.config.members c.loop-i.i ≡ Some m =
    subst (λ (xs : List MemberConfig). slice_get xs c.loop-i.i ≡ Some m) c.as_slice-members.ensures found in
    (c.args.opening.now.config.in_range.at c.loop-i.i m here).factor_above

pub loop-i-preserved : goal.loop-i-preserved
loop-i-preserved c =
    let P : ℕ → Type 0 = λ m. (k : MemberConfig) (r : MemberRow) → slice_get c.args.opening.now.config.members m ≡ Some k
    → slice_get c.args.opening.now.rows m ≡ Some r → IsOpeningRow c.args.opening.now m k r in
    let here : P c.loop-i.i = λ k r member row.
    let same_member : c.index-members-i.result ≡ k =
    read c.as_slice-members.result.now c.args.opening.now.config.members c.loop-i.i c.index-members-i.result k
    c.as_slice-members.ensures c.index-members-i.is member in
    let same_row : c.index-rows-i.result ≡ r =
    read c.as_slice-rows.result.now c.args.opening.now.rows c.loop-i.i c.index-rows-i.result r
    c.as_slice-rows.ensures c.index-rows-i.is row in
    subst (λ (x : MemberRow). IsOpeningRow c.args.opening.now c.loop-i.i k x) same_row
    (subst (λ (x : MemberConfig). IsOpeningRow c.args.opening.now c.loop-i.i x c.index-rows-i.result) same_member
    (c.if-not-is_opening_row.ensures.value.0 refl)) in
    let all : (m : ℕ) → m < c.loop-i.i + 1 → P m =
    below_more P c.loop-i.i (λ m lt k r. c.loop-i.invariant m k r lt) here in
    λ m k r lt. all m lt k r

pub returns : goal.returns
returns c =
    let rows : c.as_slice-rows.result.now ≡ c.args.opening.now.rows = c.as_slice-rows.ensures in
    let members : c.as_slice-members.result.now ≡ c.args.opening.now.config.members = c.as_slice-members.ensures in
    let count : length c.args.opening.now.rows ≡ length c.args.opening.now.config.members =
    omega (arith, ap length rows, ap length members) in
    record {
      value = (
        λ h. record {
          count = count;
          row = λ m k r member row.
              let lt : m < length c.args.opening.now.rows = slice_get_within c.args.opening.now.rows m r row in
              c.loop-i.invariant m k r (omega (arith, ap length rows)) member row;
        },
        λ h. refl,
      );
    }
