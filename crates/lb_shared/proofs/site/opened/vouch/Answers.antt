-- Each Book says that it is sound.
use Rattle.std.proofs.Common.{◌≡◌, ◌<◌, ◌∙◌, ℕ, List, length, Some, get_or, arith, inl, inr, subst}
use Rattle.std.specs.Prelude.{slice_get}
use Rattle.std.proofs.lemmas.Bool.{cases_lt}
use Rattle.std.proofs.lemmas.Option.{get_or_from_slice_get, slice_get_within}
use Rattle.lb_book.specs.Journal.{IsSound, Journal}
use Rattle.lb_shared.proofs.site.opened.vouch.Goals as goal

item_is : (books : List Journal) (i k : ℕ) (x b : Journal) → k ≡ i → slice_get books k ≡ Some b → x ≡ get_or books i x → x ≡ b
item_is books i k x b same found is =
    is ∙ get_or_from_slice_get books i b x (subst (λ (j : ℕ). slice_get books j ≡ Some b) same found)

pub loop-book-preserved : goal.loop-book-preserved
loop-book-preserved c = λ k b below found.
    elim (cases_lt k c.loop-book.book-index) [
      | inl before ↦ c.loop-book.invariant k b before found
      | inr here ↦
          let same : k ≡ c.loop-book.book-index = omega arith in
          subst (λ (x : Journal). IsSound x) (item_is c.args.books.now c.loop-book.book-index k c.book-item.result b same found c.book-item.is) c.kept.ensures.sound
    ]

pub returns : goal.returns
returns c = λ k b found.
    let within : k < length c.args.books.now = slice_get_within c.args.books.now k b found in
    c.loop-book.invariant k b (omega arith) found
