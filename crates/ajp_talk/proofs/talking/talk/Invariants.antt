use Rattle.std.proofs.Common.{◌≡◌, ◌≤◌, ◌-◌}
use Rattle.ajp_talk.specs.Courses.{At}
use Rattle.ajp_talk.specs.Moments.{talk_at}
use Rattle.ajp_talk.specs.Uploads.{IsSameUpload, talk_over}
use Rattle.ajp_talk.proofs.talking.talk.Given as goal

-- how the talk stands since it began
abbrev pub invariant-loop-room : goal.invariant-loop-room
invariant-loop-room g l = record {
  stands : (let at = talk_over g.L.Meanings g.C.Meanings in
      At l.plan (talk_at g.L.Meanings g.C.Meanings l.fn.line l.fn.client l.fn.body l.fn.inbox) (at l.line l.client l.upload) l.course);
  line_beside : g.L.Meanings.beside l.line ≡ g.L.Meanings.beside l.fn.line;
  client_beside : g.C.Meanings.beside l.client ≡ g.C.Meanings.beside l.fn.client;
  line_faults : g.L.Meanings.faults l.fn.line ≤ g.L.Meanings.faults l.line;
  client_faults : g.C.Meanings.faults l.client ≡ g.C.Meanings.faults l.fn.client;
  same : IsSameUpload l.initial.upload l.upload;
}

abbrev pub decreases-loop-room : goal.decreases-loop-room
decreases-loop-room g l = l.plan.most - l.course.received
