use Rattle.ajp_reply.proofs.StreamLaws.{no_reply-these, no_reply-none, no_packet-begins, too_long-begins, unread-begins}
use Rattle.ajp_reply.proofs.laws.bytes_of_no_reply.Goals as goal

pub returns-clause-other : goal.returns-clause-other
returns-clause-other c = no_reply-these

pub returns-clause-none : goal.returns-clause-none
returns-clause-none c = no_reply-none

pub returns-clause-no_packet : goal.returns-clause-no_packet
returns-clause-no_packet c = no_packet-begins

pub returns-clause-too_long : goal.returns-clause-too_long
returns-clause-too_long c = too_long-begins

pub returns-clause-unread : goal.returns-clause-unread
returns-clause-unread c = unread-begins
