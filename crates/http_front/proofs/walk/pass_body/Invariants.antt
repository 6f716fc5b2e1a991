use Rattle.std.proofs.Common.{◌≡◌, ◌<◌, Some, false, true, ◌+◌, ◌-◌, ◌*◌, ℕ, List, length}
use Rattle.http_front.specs.Unread.{unread}
use Rattle.http_front.specs.Body.{Uses}
use Rattle.http_front.specs.Falls.{framing_left, exact_left}
use Rattle.http_front.specs.Places.{is_limited}
use Rattle.http_front.specs.Walks.{counted}
use Rattle.http_front.specs.Wants.{Rest, settles}
use Rattle.http_front.proofs.walk.pass_body.Given as goal

-- The sum counts the data of what was used. Where the inbox decides, the client is not touched.
abbrev pub invariant-walk : goal.invariant-walk
invariant-walk g l = record {
  passed : List ℕ;
  under : is_limited l.place ≡ false → is_limited l.fn.start ≡ true → l.sum < l.fn.most;
  exact : is_limited l.fn.start ≡ true → exact_left l.place ≡ 0;
  uses : Uses (unread l.initial.inbox (g.C.Meanings.incoming l.initial.client)) (unread l.inbox (g.C.Meanings.incoming l.client)) l.fn.start l.place passed;
  counts : l.sum ≡ counted l.fn.taken (length passed);
  sent : g.C.Meanings.sent l.client ≡ g.C.Meanings.sent l.initial.client;
  beside : g.C.Meanings.beside l.client ≡ g.C.Meanings.beside l.initial.client;
  steady : g.C.Meanings.faults l.client ≡ g.C.Meanings.faults l.initial.client;
  quiet : settles Rest l.fn.start l.fn.most l.fn.taken l.initial.inbox ≡ true
      → (l.client ≡ l.initial.client) × Uses (Some l.initial.inbox) (Some l.inbox) l.fn.start l.place passed;
}

abbrev pub decreases-walk : goal.decreases-walk
decreases-walk g l = 40000 * (l.fn.most - l.sum + exact_left l.place) + framing_left l.place
