-- Bytes are read as messages in one way: from the front, packet by packet.
use Rattle.std.proofs.Common.{◌≡◌, ℕ, ◌/◌, ◌%◌, Bool, true, List, [], ◌∷◌, ◌++◌, length, refl, sym, ap, subst, ◌∙◌, arith, append_assoc, ◌⊎◌, inl, inr}
use Rattle.std.proofs.lemmas.List.{append-nil}
use Rattle.ajp_wire.specs.Packet.{packet, IsPacket, IsPart, IsNoPacket, IsTooLong, head}
use Rattle.ajp_wire.proofs.PacketLaws.{packet-only, part-none}
use Rattle.ajp_reply.specs.declared.message.Message.{Message}
use Rattle.ajp_reply.specs.declared.message.Message.TheVariants.{Headers, Chunk, End, Ask, Pong}
use Rattle.ajp_reply.specs.declared.message.ReplyParts.{ReplyParts}
use Rattle.ajp_reply.specs.Spelling.{Spells}
use Rattle.ajp_reply.specs.Stream.{IsPacketOf, Spelled, IsStream, IsFront, IsForm, NoReply, BeginsNoMessage}
use Rattle.ajp_reply.proofs.ReplyLaws.{spells-only}

-- ---- the same reading with the oldest message first

abbrev Reads : ℕ → List Message → List ℕ → Type 0
Reads most [] bytes = bytes ≡ []
Reads most (message ∷ later) bytes =
    (first : List ℕ) × (rest : List ℕ) × IsPacketOf most message first × Reads most later rest × (bytes ≡ first ++ rest)

-- the messages of the first list in the other order, before those of the second
abbrev turned : List Message → List Message → List Message
turned [] later = later
turned (message ∷ past) later = turned past (message ∷ later)

turned-turned : (p l k : List Message) → turned (turned p l) k ≡ turned l (p ++ k)
turned-turned [] l k = refl
turned-turned (m ∷ p) l k = turned-turned p (m ∷ l) k

turned-append : (p q k : List Message) → turned (p ++ q) k ≡ turned q (turned p k)
turned-append [] q k = refl
turned-append (m ∷ p) q k = turned-append p q (m ∷ k)

turned-onto : (p a k : List Message) → turned p (a ++ k) ≡ turned p a ++ k
turned-onto [] a k = refl
turned-onto (m ∷ p) a k = turned-onto p (m ∷ a) k

turned-back : (p : List Message) → turned (turned p []) [] ≡ p
turned-back p = turned-turned p [] [] ∙ append-nil p

reads-from : (most : ℕ) (past later : List Message) (bytes rest : List ℕ) → Spelled most past bytes → Reads most later rest → Reads most (turned past later) (bytes ++ rest)
reads-from most [] later bytes rest s r = subst (λ (b : List ℕ). Reads most later (b ++ rest)) (sym s) r
reads-from most (m ∷ past) later bytes rest (before, last, s, p, whole) r =
    subst (Reads most (turned past (m ∷ later))) (sym (ap (λ (b : List ℕ). b ++ rest) whole ∙ append_assoc before last rest))
    (reads-from most past (m ∷ later) before (last ++ rest) s (last, rest, p, r, refl))

spelled-from : (most : ℕ) (later past : List Message) (bytes rest : List ℕ) → Spelled most past bytes → Reads most later rest → Spelled most (turned later past) (bytes ++ rest)
spelled-from most [] past bytes rest s r = subst (Spelled most past) (sym (ap (λ (b : List ℕ). bytes ++ b) r ∙ append-nil bytes)) s
spelled-from most (m ∷ later) past bytes rest s (first, behind, p, r, whole) =
    subst (Spelled most (turned later (m ∷ past))) (append_assoc bytes first behind ∙ ap (λ (b : List ℕ). bytes ++ b) (sym whole))
    (spelled-from most later (m ∷ past) (bytes ++ first) behind (bytes, first, s, p, refl) r)

reads : (most : ℕ) (past : List Message) (bytes : List ℕ) → Spelled most past bytes → Reads most (turned past []) bytes
reads most past bytes s = subst (Reads most (turned past [])) (append-nil bytes) (reads-from most past [] bytes [] s refl)

spelled : (most : ℕ) (later : List Message) (bytes : List ℕ) → Reads most later bytes → Spelled most (turned later []) bytes
spelled most later bytes r = spelled-from most later [] [] bytes refl r

-- ---- two packets in one place are one

pub record IsSame (m n : Message) (x y : List ℕ) : Type 0 where
  pub message : m ≡ n
  pub behind : x ≡ y

pub packets-only : (most : ℕ) (m n : Message) (first other x y : List ℕ) → IsPacketOf most m first → IsPacketOf most n other → first ++ x ≡ other ++ y → IsSame m n x y
packets-only most m n first other x y p q e =
    let one : packet true p.payload ++ x ≡ packet true q.payload ++ y =
    ap (λ (b : List ℕ). b ++ x) (sym p.packet.whole) ∙ e ∙ ap (λ (b : List ℕ). b ++ y) q.packet.whole in
    let same = packet-only true p.payload q.payload x y one in
    record { message = spells-only m n p.payload p.spelled (subst (Spells n) (sym same.0) q.spelled); behind = same.1 }

-- a packet is not nothing
packet-some : (most : ℕ) (m : Message) (first x : List ℕ) → IsPacketOf most m first → first ++ x ≡ [] → ⊥
packet-some most m first x p e =
    let none : packet true p.payload ++ x ≡ [] = ap (λ (b : List ℕ). b ++ x) (sym p.packet.whole) ∙ e in
    absurd cc

-- what follows a reading is read on
reads-go_on : (most : ℕ) (ms ns : List Message) (bytes more : List ℕ) → Reads most ms bytes → Reads most ns (bytes ++ more) → (later : List Message) × (ns ≡ ms ++ later) × Reads most later more
reads-go_on most [] ns bytes more r s = (ns, refl, subst (λ (b : List ℕ). Reads most ns (b ++ more)) r s)
reads-go_on most (m ∷ ms) [] bytes more (first, rest, p, r, whole) s =
    absurd (packet-some most m first (rest ++ more) p (sym (append_assoc first rest more) ∙ ap (λ (b : List ℕ). b ++ more) (sym whole) ∙ s))
reads-go_on most (m ∷ ms) (n ∷ ns) bytes more (first, rest, p, r, whole) (other, behind, q, s, whole') =
    let same = packets-only most m n first other (rest ++ more) behind p q (sym (append_assoc first rest more) ∙ ap (λ (b : List ℕ). b ++ more) (sym whole) ∙ whole') in
    let on = reads-go_on most ms ns rest more r (subst (Reads most ns) (sym same.behind) s) in
    (on.0, ap (λ (l : List Message). n ∷ l) on.1 ∙ ap (λ (x : Message). x ∷ (ms ++ on.0)) (sym same.message), on.2)

pub goes_on : (most : ℕ) (past all : List Message) (bytes more : List ℕ) → Spelled most past bytes → Spelled most all (bytes ++ more) → (later : List Message) × (all ≡ later ++ past) × Spelled most later more
goes_on most past all bytes more s t =
    let on = reads-go_on most (turned past []) (turned all []) bytes more (reads most past bytes s) (reads most all (bytes ++ more) t) in
    let same : all ≡ turned on.0 [] ++ past =
    sym (turned-back all) ∙ ap (λ (l : List Message). turned l []) on.1 ∙ turned-append (turned past []) on.0 []
    ∙ ap (turned on.0) (turned-back past) ∙ turned-onto on.0 [] past in
    (turned on.0 [], same, spelled most on.0 more on.2)

-- the bytes after a reading are read after it
pub spelled-behind : (most : ℕ) (past later : List Message) (bytes more : List ℕ) → Spelled most past bytes → Spelled most later more → Spelled most (later ++ past) (bytes ++ more)
spelled-behind most past later bytes more s t =
    subst (λ (l : List Message). Spelled most l (bytes ++ more)) (turned-onto (turned later []) [] past ∙ ap (λ (l : List Message). l ++ past) (turned-back later))
    (spelled-from most (turned later []) past bytes more s (reads most later more t))

pub one_reading : (most : ℕ) (p q : List Message) (bytes : List ℕ) → Spelled most p bytes → Spelled most q bytes → p ≡ q
one_reading most p q bytes s t =
    let on = goes_on most p q bytes [] s (subst (Spelled most q) (sym (append-nil bytes)) t) in
    sym (on.1 ∙ ap (λ (l : List Message). l ++ p) (none-none most on.0 on.2))
  where
    none-none : (most : ℕ) (later : List Message) → Spelled most later [] → later ≡ []
    none-none most [] s = refl
    none-none most (m ∷ later) (before, last, s, p, whole) = absurd (packet-some most m last [] p (append-nil last ∙ behind before last whole))
      where
        behind : (a b : List ℕ) → [] ≡ a ++ b → b ≡ []
        behind [] b e = sym e
        behind (x ∷ a) b e = absurd cc

-- the oldest message of some stands first
pub first_of_all : (most : ℕ) (message : Message) (past : List Message) (bytes : List ℕ) → Spelled most (message ∷ past) bytes
    → (oldest : Message) × (first : List ℕ) × (rest : List ℕ) × IsPacketOf most oldest first × (bytes ≡ first ++ rest)
first_of_all most message past bytes s = of (turned past (message ∷ [])) (reads most (message ∷ past) bytes s) (some past message [])
  where
    of : (later : List Message) → Reads most later bytes → (later ≡ [] → ⊥) → (oldest : Message) × (first : List ℕ) × (rest : List ℕ) × IsPacketOf most oldest first × (bytes ≡ first ++ rest)
    of [] r some = absurd (some refl)
    of (m ∷ later) (first, rest, p, r, whole) some = (m, first, rest, p, whole)

    some : (past : List Message) (m : Message) (later : List Message) → turned past (m ∷ later) ≡ [] → ⊥
    some [] m later e = cc
    some (n ∷ past) m later e = some past n (m ∷ later) e

-- ---- replies

front-behind : (good : ReplyParts → Bool) (later past : List Message) → IsFront good (later ++ past) → IsFront good past
front-behind good [] past f = f
front-behind good (Headers parts ∷ later) past f = front-behind good later past f.2
front-behind good (Chunk bytes ∷ later) past f = front-behind good later past f.1
front-behind good (End reuse ∷ later) past f = absurd f
front-behind good (Ask most ∷ later) past f = front-behind good later past f
front-behind good (Pong ∷ later) past f = absurd f

-- what stands before the last message of a reply is a front
form-front : (good : ReplyParts → Bool) (m : Message) (later past : List Message) → IsForm good (m ∷ (later ++ past)) → IsFront good past
form-front good (Headers parts) later past f = absurd f
form-front good (Chunk bytes) later past f = absurd f
form-front good (End reuse) later past f = front-behind good later past f.1
form-front good (Ask most) later past f = absurd f
form-front good Pong later past f = absurd f

pub not_both : (good : ReplyParts → Bool) (past : List Message) → IsFront good past → IsForm good past → ⊥
not_both good [] f g = g
not_both good (Headers parts ∷ past) f g = g
not_both good (Chunk bytes ∷ past) f g = g
not_both good (End reuse ∷ past) f g = f
not_both good (Ask most ∷ past) f g = g
not_both good (Pong ∷ past) f g = f

-- a reply that goes on after some messages has them as a front
form-behind : (good : ReplyParts → Bool) (later past : List Message) → IsForm good (later ++ past) → (later ≡ []) ⊎ IsFront good past
form-behind good [] past f = inl refl
form-behind good (m ∷ later) past f = inr (form-front good m later past f)

-- where a message came that may not stand there, the bytes are no reply, however they go on
pub no_reply-other : (good : ReplyParts → Bool) (most : ℕ) (past : List Message) (bytes last : List ℕ) (message : Message)
    → Spelled most past bytes → IsPacketOf most message last → (IsFront good (message ∷ past) → ⊥) → (IsForm good (message ∷ past) → ⊥) → NoReply good most (bytes ++ last)
no_reply-other good most past bytes last message s p no_front no_form = λ more all t form.
    let on = goes_on most (message ∷ past) all (bytes ++ last) more (bytes, last, s, p, refl) t in
    let whole : IsForm good (on.0 ++ (message ∷ past)) = subst (IsForm good) on.1 form in
    elim (form-behind good on.0 (message ∷ past) whole) [
      | inl none ↦ no_form (subst (λ (l : List Message). IsForm good (l ++ (message ∷ past))) none whole)
      | inr front ↦ no_front front
    ]

-- messages that begin no reply and are none
pub no_reply-these : (good : ReplyParts → Bool) (most : ℕ) (past : List Message) (bytes : List ℕ)
    → Spelled most past bytes → (IsFront good past → ⊥) → (IsForm good past → ⊥) → NoReply good most bytes
no_reply-these good most [] bytes s no_front no_form = absurd (no_front tt)
no_reply-these good most (message ∷ past) bytes (before, last, s, p, whole) no_front no_form =
    subst (NoReply good most) (sym whole) (no_reply-other good most past before last message s p no_front no_form)

-- where what follows a front begins no message, the bytes are no reply, however they go on
pub no_reply-none : (good : ReplyParts → Bool) (most : ℕ) (past : List Message) (bytes rest : List ℕ)
    → Spelled most past bytes → IsFront good past → BeginsNoMessage most rest → NoReply good most (bytes ++ rest)
no_reply-none good most past bytes rest s front none = λ more all t form.
    let on = goes_on most past all bytes (rest ++ more) s (subst (Spelled most all) (append_assoc bytes rest more) t) in
    let whole : IsForm good (on.0 ++ past) = subst (IsForm good) on.1 form in
    behind on.0 more whole on.2
  where
    behind : (later : List Message) (more : List ℕ) → IsForm good (later ++ past) → Spelled most later (rest ++ more) → ⊥
    behind [] more form t = not_both good past front form
    behind (m ∷ later) more form t =
        let f = first_of_all most m later (rest ++ more) t in
        none more f.1 f.2 f.0 f.3 f.4

-- what begins no packet begins no message
pub no_packet-begins : (most : ℕ) (bytes : List ℕ) → IsNoPacket true bytes → BeginsNoMessage most bytes
no_packet-begins most bytes no_packet = λ more first behind message p e.
    no_packet more p.payload behind (e ∙ ap (λ (b : List ℕ). b ++ behind) p.packet.whole)

-- the head of a packet above the limit begins no message
pub too_long-begins : (most : ℕ) (bytes : List ℕ) → IsTooLong true most bytes → BeginsNoMessage most bytes
too_long-begins most bytes t = λ more first behind message p e.
    let one : head true t.size ++ more ≡ head true (length p.payload) ++ (p.payload ++ behind) =
    ap (λ (b : List ℕ). b ++ more) (sym t.head_alone) ∙ e ∙ ap (λ (b : List ℕ). b ++ behind) p.packet.whole ∙ append_assoc (head true (length p.payload)) p.payload behind in
    let high : t.size / 256 ≡ length p.payload / 256 = cc in
    let low : t.size % 256 ≡ length p.payload % 256 = cc in
    let above = t.above in
    let within = p.packet.fits.within in
    absurd (omega arith)

-- a packet whose payload spells no message begins none
pub unread-begins : (most : ℕ) (payload bytes : List ℕ) → IsPacket true most payload bytes → ((message : Message) → Spells message payload → ⊥) → BeginsNoMessage most bytes
unread-begins most payload bytes whole none = λ more first behind message p e.
    let one : packet true payload ++ more ≡ packet true p.payload ++ behind =
    ap (λ (b : List ℕ). b ++ more) (sym whole.whole) ∙ e ∙ ap (λ (b : List ℕ). b ++ behind) p.packet.whole in
    none message (subst (Spells message) (sym (packet-only true payload p.payload more behind one).0) p.spelled)

-- ---- and then less than a packet

reads-part : (most : ℕ) (ms ns : List Message) (came other rest end : List ℕ) → Reads most ms came → Reads most ns other → IsPart true most rest → IsPart true most end → came ++ rest ≡ other ++ end → (ms ≡ ns) × (rest ≡ end)
reads-part most [] [] came other rest end r s p q e = (refl, ap (λ (b : List ℕ). b ++ rest) (sym r) ∙ e ∙ ap (λ (b : List ℕ). b ++ end) s)
reads-part most [] (n ∷ ns) came other rest end r (first, behind, f, s, whole) p q e =
    absurd (part-none true most rest f.payload (behind ++ end) p
    (ap (λ (b : List ℕ). b ++ rest) (sym r) ∙ e ∙ ap (λ (b : List ℕ). b ++ end) whole ∙ append_assoc first behind end ∙ ap (λ (b : List ℕ). b ++ (behind ++ end)) f.packet.whole))
reads-part most (m ∷ ms) [] came other rest end (first, behind, f, r, whole) s p q e =
    absurd (part-none true most end f.payload (behind ++ rest) q
    (ap (λ (b : List ℕ). b ++ end) (sym s) ∙ sym e ∙ ap (λ (b : List ℕ). b ++ rest) whole ∙ append_assoc first behind rest ∙ ap (λ (b : List ℕ). b ++ (behind ++ rest)) f.packet.whole))
reads-part most (m ∷ ms) (n ∷ ns) came other rest end (first, behind, f, r, whole) (first', behind', g, s, whole') p q e =
    let one : first ++ (behind ++ rest) ≡ first' ++ (behind' ++ end) =
    sym (append_assoc first behind rest) ∙ ap (λ (b : List ℕ). b ++ rest) (sym whole) ∙ e ∙ ap (λ (b : List ℕ). b ++ end) whole' ∙ append_assoc first' behind' end in
    let same = packets-only most m n first first' (behind ++ rest) (behind' ++ end) f g one in
    let on = reads-part most ms ns behind behind' rest end r s p q same.behind in
    (ap (λ (l : List Message). m ∷ l) on.0 ∙ ap (λ (x : Message). x ∷ ns) same.message, on.1)

-- two readings of the same bytes are one, with what is left behind them
pub one_stream : (most : ℕ) (p q : List Message) (bytes rest end : List ℕ) → IsStream most p bytes rest → IsStream most q bytes end → (p ≡ q) × (rest ≡ end)
one_stream most p q bytes rest end s t =
    let same = reads-part most (turned p []) (turned q []) s.came t.came rest end (reads most p s.came s.messages) (reads most q t.came t.messages) s.part t.part (sym s.whole ∙ t.whole) in
    (sym (turned-back p) ∙ ap (λ (l : List Message). turned l []) same.0 ∙ turned-back q, same.1)
