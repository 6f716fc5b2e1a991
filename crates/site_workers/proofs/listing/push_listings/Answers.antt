use Rattle.std.proofs.Common.{◌≡◌, ◌++◌, ℕ, List, [], ◌∷◌, map, take, Bor, refl, ap, ◌∙◌}
use Rattle.std.proofs.lemmas.List.{take_all}
use Rattle.site_workers.specs.Lists.{Listing, listing_at}
use Rattle.site_workers.specs.Listings.{as_listings}
use Rattle.site_config.specs.Names.{words}
use Rattle.site_workers.proofs.listing.push_listings.Goals as goal

-- each word with its line
at_line : (line : ℕ) (ws : List (Bor (List ℕ))) → map (λ (w : Bor (List ℕ)). listing_at line w.now) ws ≡ map (listing_at line) (map (λ (w : Bor (List ℕ)). w.now) ws)
at_line line [] = refl
at_line line (w ∷ ws) = ap (λ (ls : List Listing). listing_at line w.now ∷ ls) (at_line line ws)

pub returns : goal.returns
returns c =
    let read : map (λ (w : Bor (List ℕ)). w.now) c.push_words.new.out.items ≡ words c.args.entry.now.value.now = rw c.new-words.ensures.items at c.in_ok-push_words.ensures in
    let whole : take c.loop-word.word-index c.deref-word-items.result.now ≡ c.push_words.new.out.items = take_all _ _ c.loop-word-test.false ∙ c.deref-word-items.ensures.value in
    c.loop-word.invariant ∙ ap (λ (ls : List Listing). as_listings c.args.out.now ++ ls) (rw whole (at_line _ _) ∙ ap (λ (ws : List (List ℕ)). map (listing_at c.args.entry.now.line) ws) read)
