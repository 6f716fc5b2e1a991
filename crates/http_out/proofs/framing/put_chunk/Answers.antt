use Rattle.std.proofs.Common.{◌≡◌, ℕ, Bool, false, List, [], ◌∷◌, ◌++◌, refl, append_assoc, length}
use Rattle.std.specs.Prelude.{codes, ◌==◌}
use Rattle.http_out.specs.declared.framing.Framing.TheVariants as By
use Rattle.http_out.specs.Framing.{hex, framed, chunk_line}
use Rattle.http_out.proofs.framing.put_chunk.Goals as goal

-- a chunk that isn't empty goes with its line
not_empty : (chunk : List ℕ) (empty : Bool) → empty ≡ (length chunk == 0) → empty ≡ false → framed By.Chunks chunk ≡ chunk_line chunk
not_empty [] empty is isnt = absurd (cc)
not_empty (b ∷ bytes) empty is isnt = refl

-- a text to which four pieces were added
joined : (t u v w size crlf chunk : List ℕ) → u ≡ t ++ size → v ≡ u ++ crlf → w ≡ v ++ chunk → w ++ crlf ≡ t ++ (((size ++ crlf) ++ chunk) ++ crlf)
joined t u v w size crlf chunk a b d = rw (d, b, a) (simp append_assoc)

pub returns : goal.returns
unfolding hex
returns c =
    let line = not_empty c.args.chunk.now c.is_empty.result c.is_empty.ensures c.if-is_empty.false in
    let whole = joined c.reserve.new.self c.put_hex.new.text c.extend.new.self c.extend-2.new.self (hex (length c.args.chunk.now)) (codes "\r\n")
    c.args.chunk.now c.in_ok-put_hex.ensures c.in_ok-extend.ensures.ok c.in_ok-extend-2.ensures.ok in
    rw (line, ← c.reserve.ensures, ← whole) c.extend-3.ensures.ok
