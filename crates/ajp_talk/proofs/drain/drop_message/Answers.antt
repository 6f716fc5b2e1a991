-- A turn of a reply that is dropped: a chunk, or End Response.
use Rattle.ajp_talk.proofs.drain.drop_message.Goals as goal

pub returns-in-Chunk-clause-dropped : goal.returns-in-Chunk-clause-dropped
returns-in-Chunk-clause-dropped g c =
    rw c.in-Chunk.is (record {}, c.take_chunk-turn.result, c.rest_after.ensures, rw c.as_slice.ensures at c.take_chunk-turn.ensures.turn)

pub returns-in-End-clause-dropped : goal.returns-in-End-clause-dropped
returns-in-End-clause-dropped g c = rw c.in-End.is (record {}, c.finish.result, c.rest_after-in-End.ensures, c.finish.ensures.turn)

pub returns-in-Chunk-clause-keeps : goal.returns-in-Chunk-clause-keeps
returns-in-Chunk-clause-keeps g c = record { beside = c.take_chunk-turn.ensures.same.2; no_fewer = c.take_chunk-turn.ensures.no_fewer }

pub returns-in-End-clause-keeps : goal.returns-in-End-clause-keeps
returns-in-End-clause-keeps g c = record { beside = c.finish.ensures.same.2; no_fewer = c.finish.ensures.no_fewer }
