-- A packet that is read in two parts: its head, and the payload after it.
use Rattle.std.proofs.Common.{◌≡◌, ℕ, ◌<◌, length, List, ◌++◌, Option, Result, Ok, Err, IsErr, Bool, true, false, refl, sym, ap, ◌∙◌, arith, length-append}
use Rattle.jk_io.specs.Moments.{Moment}
use Rattle.jk_io.specs.Told.{appended, prepended}
use Rattle.jk_io.proofs.ToldLaws.{appended-appended, prepended-prepended}
use Rattle.ajp_wire.specs.declared.errors.PacketError.{PacketError}
use Rattle.ajp_wire.specs.declared.errors.PacketError.TheVariants.{End, Short, BadMagic, TooLong, Fault, NoMemory}
use Rattle.ajp_wire.specs.Packet.{head, IsPart, CameAs, count_of, HasCome, ReadsPacket, read_into}
use Rattle.ajp_wire.specs.Head.{IsHead, Lacks, HeadCameAs, PayloadCameAs}
use Rattle.ajp_wire.proofs.PacketLaws.{part-behind_head}

HasCome-then : (l m n : Moment) (x y : List ℕ) → HasCome l m x → HasCome m n y → HasCome l n (x ++ y)
HasCome-then l m n x y p q = record {
  used = p.used ∙ ap (prepended x) q.used ∙ prepended-prepended x y n.incoming;
  kept = q.kept ∙ ap (λ (r : Option (List ℕ)). appended r y) p.kept ∙ appended-appended l.received x y;
}

length-head : (from_container : Bool) (size : ℕ) → length (head from_container size) ≡ 4
length-head b size = elim b as (λ v. length (head v size) ≡ 4) [ true ↦ refl | false ↦ refl ]

-- the bytes of a head and what came after it, and their number
counted : (from_container : Bool) (most size count : ℕ) (front bytes : List ℕ) → IsHead from_container most size front → Lacks size count bytes → count ≡ length (front ++ bytes)
counted b most size count front bytes h lacks =
    let four : length front ≡ 4 = ap length h.whole ∙ length-head b size in
    let count_is = lacks.counted in
    omega (arith, length-append front bytes)

some_part : (from_container : Bool) (most size count : ℕ) (front bytes : List ℕ) → IsHead from_container most size front → Lacks size count bytes
    → (0 < length (front ++ bytes)) × IsPart from_container most (front ++ bytes)
some_part b most size count front bytes h lacks =
    let four : length front ≡ 4 = ap length h.whole ∙ length-head b size in
    (omega (arith, length-append front bytes), part-behind_head b most size count front bytes h lacks)

pub are-joined : (from_container : Bool) (most size : ℕ) (result : Result (List ℕ) PacketError) (front bytes : List ℕ)
    → IsHead from_container most size front → PayloadCameAs size result bytes → CameAs from_container most result (front ++ bytes) × (count_of result ≡ length (front ++ bytes))
are-joined b most size (Ok payload) front bytes h p =
    let narrow = h.narrow in
    let within = h.within in
    let four : length front ≡ 4 = ap length h.whole ∙ length-head b size in (
      record {
        whole = ap (λ (f : List ℕ). f ++ bytes) h.whole ∙ ap (λ (n : ℕ). head b n ++ bytes) (sym p.1) ∙ ap (λ (t : List ℕ). head b (length payload) ++ t) p.0;
        fits = record { within = omega (arith, p.1); narrow = omega (arith, p.1) };
      },
      omega (arith, length-append front bytes, ap length p.0),
    )
are-joined b most size (Err (End count)) front bytes h p = absurd p
are-joined b most size (Err (Short count)) front bytes h p = (some_part b most size count front bytes h p, counted b most size count front bytes h p)
are-joined b most size (Err (BadMagic count)) front bytes h p = absurd p
are-joined b most size (Err (TooLong count)) front bytes h p = absurd p
are-joined b most size (Err (Fault count)) front bytes h p = ((some_part b most size count front bytes h p).1, counted b most size count front bytes h p)
are-joined b most size (Err (NoMemory count)) front bytes h p = ((some_part b most size count front bytes h p).1, counted b most size count front bytes h p)

pub reads-joined : (from_container : Bool) (most size : ℕ) (result : Result (List ℕ) PacketError) (l m n : Moment)
    → ((front : List ℕ) × HasCome l m front × IsHead from_container most size front)
    → ((bytes : List ℕ) × HasCome m n bytes × PayloadCameAs size result bytes)
    → ReadsPacket from_container most result l n
reads-joined b most size result l m n p q =
    let joined = are-joined b most size result p.0 q.0 p.2 q.2 in
    record { bytes = p.0 ++ q.0; came = HasCome-then l m n p.0 q.0 p.1 q.1; are = joined.0; counted = joined.1 }

-- a head that was refused is all that came
pub reads-head : (from_container : Bool) (most : ℕ) (error : PacketError) (l m : Moment) → (bytes : List ℕ) × HasCome l m bytes × HeadCameAs from_container most (Err error) bytes
    → ReadsPacket from_container most (Err error) l m
reads-head b most error l m p = record { bytes = p.0; came = p.1; are = p.2.0; counted = p.2.1 }

-- after an error it is no matter which bytes the buffer has
pub emptied : (from_container : Bool) (most : ℕ) (result : Result Unit PacketError) (l m : Moment) (payload left : List ℕ) → IsErr result
    → ReadsPacket from_container most (read_into result payload) l m → ReadsPacket from_container most (read_into result left) l m
emptied b most (Ok done) l m payload left failed reads = absurd cc
emptied b most (Err error) l m payload left failed reads = reads
