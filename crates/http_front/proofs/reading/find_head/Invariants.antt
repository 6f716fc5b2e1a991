use Rattle.std.proofs.Common.{◌≡◌, ◌-◌, length}
use Rattle.http_front.specs.Request.{IsDecided}
use Rattle.http_front.specs.Search.{IsSearched}
use Rattle.http_front.specs.Unread.{unread}
use Rattle.http_front.proofs.reading.find_head.Given as goal

-- nothing is used, and what was seen needs no second look
abbrev pub invariant-loop-blank : goal.invariant-loop-blank
invariant-loop-blank g l = record {
  seen : IsSearched l.inbox l.blank l.searched;
  unread : unread l.inbox (g.C.Meanings.incoming l.client) ≡ unread l.initial.inbox (g.C.Meanings.incoming l.initial.client);
  sent : g.C.Meanings.sent l.client ≡ g.C.Meanings.sent l.initial.client;
  beside : g.C.Meanings.beside l.client ≡ g.C.Meanings.beside l.initial.client;
  steady : g.C.Meanings.faults l.client ≡ g.C.Meanings.faults l.initial.client;
  untouched : IsDecided l.initial.inbox → (l.inbox ≡ l.initial.inbox) × (l.client ≡ l.initial.client);
}

abbrev pub decreases-loop-blank : goal.decreases-loop-blank
decreases-loop-blank g l = 16384 - length l.inbox
