-- The head, the chunks and the end, one after another.
use Rattle.std.proofs.Common.{◌≡◌, ℕ, List, [], ◌∷◌, ◌++◌, map, ap, ◌∙◌, append_assoc}
use Rattle.ajp_reply.specs.declared.message.Message.{Message}
use Rattle.ajp_reply.specs.declared.message.Message.TheVariants.{Chunk}
use Rattle.ajp_container.specs.Answer.{cut}
use Rattle.ajp_container.proofs.answering.put_page.Goals as goal

parts : (old headed chunked all : List Message) (first last : Message) (size : ℕ) (body slice : List ℕ) → headed ≡ old ++ first ∷ [] → slice ≡ body
    → chunked ≡ headed ++ map Chunk (cut size slice) → all ≡ chunked ++ last ∷ [] → all ≡ old ++ (first ∷ map Chunk (cut size body) ++ last ∷ [])
parts old headed chunked all first last size body slice head same chunks end_of =
    let pieces : List Message = map Chunk (cut size body) in
    end_of
    ∙ ap (λ (ms : List Message). ms ++ last ∷ []) (chunks ∙ ap (λ (ms : List Message). ms ++ map Chunk (cut size slice)) head ∙ ap (λ (b : List ℕ). (old ++ first ∷ []) ++ map Chunk (cut size b)) same)
    ∙ append_assoc (old ++ first ∷ []) pieces (last ∷ [])
    ∙ append_assoc old (first ∷ []) (pieces ++ last ∷ [])

pub returns : goal.returns
returns c =
    parts c.args.messages.now c.put_head.new.messages c.put_chunks.new.messages _ _ _ _ c.args.page.now.body c.as_slice.result.now c.in_ok-put_head.ensures c.as_slice.ensures c.in_ok-put_chunks.ensures c.in_ok-push.ensures.ok
