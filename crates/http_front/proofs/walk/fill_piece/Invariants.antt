use Rattle.std.proofs.Common.{◌≡◌, ◌≤◌, ◌<◌, Some, false, true, ◌+◌, ◌-◌, ◌*◌, length, take}
use Rattle.http_front.specs.Unread.{unread}
use Rattle.http_front.specs.Body.{Uses}
use Rattle.http_front.specs.Falls.{framing_left, exact_left}
use Rattle.http_front.specs.Places.{is_limited}
use Rattle.http_front.specs.Walks.{counted}
use Rattle.http_front.specs.Wants.{Next, settles}
use Rattle.http_front.proofs.walk.fill_piece.Given as goal

-- The front of the piece is the data of what was used. Where the inbox decides, the client is not touched.
abbrev pub invariant-walk : goal.invariant-walk
invariant-walk g l = record {
  within : l.count ≤ length l.piece;
  under : is_limited l.place ≡ false → is_limited l.fn.start ≡ true → counted l.fn.taken l.count < l.fn.most;
  exact : is_limited l.fn.start ≡ true → exact_left l.place ≡ 0;
  uses : Uses (unread l.initial.inbox (g.C.Meanings.incoming l.initial.client)) (unread l.inbox (g.C.Meanings.incoming l.client)) l.fn.start l.place (take l.count l.piece);
  sent : g.C.Meanings.sent l.client ≡ g.C.Meanings.sent l.initial.client;
  beside : g.C.Meanings.beside l.client ≡ g.C.Meanings.beside l.initial.client;
  steady : g.C.Meanings.faults l.client ≡ g.C.Meanings.faults l.initial.client;
  quiet : settles (Next (length l.initial.piece)) l.fn.start l.fn.most l.fn.taken l.initial.inbox ≡ true
      → (l.client ≡ l.initial.client) × Uses (Some l.initial.inbox) (Some l.inbox) l.fn.start l.place (take l.count l.piece);
}

abbrev pub decreases-walk : goal.decreases-walk
decreases-walk g l = 40000 * (length l.initial.piece - l.count) + framing_left l.place
