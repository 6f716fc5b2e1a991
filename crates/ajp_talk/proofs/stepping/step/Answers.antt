-- A step of the talk for each message, and for a read that gave none.
use Rattle.std.proofs.Common.{refl, ap, ◌∙◌, inl, inr}
use Rattle.http_front.specs.Unread.{unread}
use Rattle.ajp_wire.specs.Moments.{link_at}
use Rattle.ajp_reply.specs.declared.message.Message.TheVariants.{Headers, Chunk, End, Ask, Pong}
use Rattle.ajp_talk.proofs.SendingLaws.{keeps-same, keeps-then}
use Rattle.ajp_talk.proofs.stepping.step.Goals as goal

pub returns-in-Ok-Headers-clause-turn : goal.returns-in-Ok-Headers-clause-turn
returns-in-Ok-Headers-clause-turn g c =
    let heard = rw c.in-Ok-Headers.field-0-is at c.in-Ok-Headers.ensures.heard in
    inr (record {
      message = Headers c.in-Ok-Headers.parts;
      mid = link_at g.L.Meanings c.receive.new.line;
      count = c.receive.new.count;
      heard = heard;
      acts = (c.take_head.ensures, refl, refl, record { body = refl; unread = refl });
    })

pub returns-in-Ok-Chunk-clause-turn : goal.returns-in-Ok-Chunk-clause-turn
returns-in-Ok-Chunk-clause-turn g c =
    let heard = rw c.in-Ok-Chunk.field-0-is at c.in-Ok-Chunk.ensures.heard in
    let turn = rw c.as_slice.ensures at c.take_chunk-turn.ensures.turn in
    inr (record {
      message = Chunk c.in-Ok-Chunk.bytes;
      mid = link_at g.L.Meanings c.receive.new.line;
      count = c.receive.new.count;
      heard = heard;
      acts = (turn, refl, record { body = refl; unread = ap (unread c.args.upload.now.inbox.now) c.take_chunk-turn.ensures.same.0 }, c.take_chunk-turn.ensures.no_fewer);
    })

pub returns-in-Ok-Ask-clause-turn : goal.returns-in-Ok-Ask-clause-turn
returns-in-Ok-Ask-clause-turn g c =
    let heard = rw c.in-Ok-Ask.field-0-is at c.in-Ok-Ask.ensures.heard in
    let turn = rw c.wanted.ensures at c.answer_ask.ensures.turn in
    inr (record {
      message = Ask c.in-Ok-Ask.n;
      mid = link_at g.L.Meanings c.receive.new.line;
      count = c.receive.new.count;
      heard = heard;
      acts = (turn, refl, c.answer_ask.ensures.written, c.answer_ask.ensures.keeps.1.no_fewer);
    })

pub returns-in-Ok-End-clause-turn : goal.returns-in-Ok-End-clause-turn
returns-in-Ok-End-clause-turn g c =
    let heard = rw c.in-Ok-End.field-0-is at c.in-Ok-End.ensures.heard in
    inr (record {
      message = End c.in-Ok-End.reuse;
      mid = link_at g.L.Meanings c.receive.new.line;
      count = c.receive.new.count;
      heard = heard;
      acts = (c.finish.ensures.turn, refl, record { body = refl; unread = ap (unread c.args.upload.now.inbox.now) c.finish.ensures.same.0 }, c.finish.ensures.no_fewer);
    })

pub returns-in-Ok-Pong-clause-turn : goal.returns-in-Ok-Pong-clause-turn
returns-in-Ok-Pong-clause-turn g c =
    let heard = rw c.in-Ok-Pong.field-0-is at c.in-Ok-Pong.ensures.heard in
    inr (record {
      message = Pong;
      mid = link_at g.L.Meanings c.receive.new.line;
      count = c.receive.new.count;
      heard = heard;
      acts = (refl, refl, refl, refl, record { body = refl; unread = refl });
    })

pub returns-in-Err-clause-turn : goal.returns-in-Err-clause-turn
returns-in-Err-clause-turn g c =
    inl (record { why = c.in-Err.why; turn_is = c.turn_of.ensures; unheard = c.in-Err.ensures.unheard; course = refl; client = refl; body = record { body = refl; unread = refl } })

-- ---- what each exit keeps

pub returns-in-Ok-Headers-clause-same : goal.returns-in-Ok-Headers-clause-same
returns-in-Ok-Headers-clause-same g c = (refl, refl)

pub returns-in-Ok-Pong-clause-same : goal.returns-in-Ok-Pong-clause-same
returns-in-Ok-Pong-clause-same g c = (refl, refl)

pub returns-in-Err-clause-same : goal.returns-in-Err-clause-same
returns-in-Err-clause-same g c = (refl, refl)

pub returns-in-Ok-Chunk-clause-same : goal.returns-in-Ok-Chunk-clause-same
returns-in-Ok-Chunk-clause-same g c = (refl, refl)

pub returns-in-Ok-End-clause-same : goal.returns-in-Ok-End-clause-same
returns-in-Ok-End-clause-same g c = (refl, refl)

pub returns-in-Ok-Ask-clause-same : goal.returns-in-Ok-Ask-clause-same
returns-in-Ok-Ask-clause-same g c = c.answer_ask.ensures.same

-- ---- the client's count of faults

pub returns-in-Ok-Headers-clause-calm : goal.returns-in-Ok-Headers-clause-calm
returns-in-Ok-Headers-clause-calm g c = λ calm. refl

pub returns-in-Ok-Pong-clause-calm : goal.returns-in-Ok-Pong-clause-calm
returns-in-Ok-Pong-clause-calm g c = λ calm. refl

pub returns-in-Err-clause-calm : goal.returns-in-Err-clause-calm
returns-in-Err-clause-calm g c = λ calm. refl

pub returns-in-Ok-Chunk-clause-calm : goal.returns-in-Ok-Chunk-clause-calm
returns-in-Ok-Chunk-clause-calm g c = c.take_chunk-turn.ensures.calm

pub returns-in-Ok-End-clause-calm : goal.returns-in-Ok-End-clause-calm
returns-in-Ok-End-clause-calm g c = c.finish.ensures.calm

pub returns-in-Ok-Ask-clause-calm : goal.returns-in-Ok-Ask-clause-calm
returns-in-Ok-Ask-clause-calm g c = c.answer_ask.ensures.calm

-- ---- what each exit keeps of the two links

pub returns-in-Ok-Headers-clause-keeps : goal.returns-in-Ok-Headers-clause-keeps
returns-in-Ok-Headers-clause-keeps g c = (c.receive.ensures.keeps, keeps-same g.C.Meanings c.args.client.now)

pub returns-in-Ok-Pong-clause-keeps : goal.returns-in-Ok-Pong-clause-keeps
returns-in-Ok-Pong-clause-keeps g c = (c.receive.ensures.keeps, keeps-same g.C.Meanings c.args.client.now)

pub returns-in-Err-clause-keeps : goal.returns-in-Err-clause-keeps
returns-in-Err-clause-keeps g c = (c.receive.ensures.keeps, keeps-same g.C.Meanings c.args.client.now)

pub returns-in-Ok-Chunk-clause-keeps : goal.returns-in-Ok-Chunk-clause-keeps
returns-in-Ok-Chunk-clause-keeps g c = (c.receive.ensures.keeps, record { beside = c.take_chunk-turn.ensures.same.2; no_fewer = c.take_chunk-turn.ensures.no_fewer })

pub returns-in-Ok-End-clause-keeps : goal.returns-in-Ok-End-clause-keeps
returns-in-Ok-End-clause-keeps g c = (c.receive.ensures.keeps, record { beside = c.finish.ensures.same.2; no_fewer = c.finish.ensures.no_fewer })

pub returns-in-Ok-Ask-clause-keeps : goal.returns-in-Ok-Ask-clause-keeps
returns-in-Ok-Ask-clause-keeps g c =
    (keeps-then g.L.Meanings c.args.line.now c.receive.new.line c.answer_ask.new.line c.receive.ensures.keeps c.answer_ask.ensures.keeps.0, c.answer_ask.ensures.keeps.1)
