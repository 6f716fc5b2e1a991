use Rattle.std.proofs.Common.{◌≡◌, false, true, List, [], ℕ, Some, refl, ap, sym, ◌++◌, ◌∙◌}
use Rattle.jk_io.specs.Memory.{MemLinkState}
use Rattle.jk_io.specs.MemReaches.{MemReachState}
use Rattle.lb_model.specs.declared.served.Served.{Served}
use Rattle.client_session.specs.Requests.{undated, visit}
use Rattle.client_session.proofs.SurroundingsLaws.{parts_at}
use Rattle.plain_commands.proofs.SessionLemmas.{first_is, run_from, run_listed}
use Rattle.site_reports.proofs.StartLaws.{starts_sizes}
use Rattle.plain_commands.proofs.session.report.serve.Goals as goal

pub serve_session-end-requires : goal.serve_session-end-requires
serve_session-end-requires g c =
    let d = c.requires.desk in
    record {
      ready = record {
        stands = c.args.site.now.stands;
        caller = rw d.is tt;
        desk_sizes = rw d.is (starts_sizes c.args.site.now.workers.config.lbs 0 0 d.books d.started);
        reach_sizes = c.requires.reach.sizes;
        idle = rw c.requires.reach.idle refl;
      };
    }

pub returns : goal.returns
returns g c calm =
    let e = c.serve_session-end.ensures in
    let d = c.requires.desk in
    let k = c.requires.client in
    let over = c.vouch.ensures in
    let same = e.session.kept.same in
    let reach = c.reach-1.given.1 (sym same.2) in
    let client = c.client-1.given.1 (sym same.3) in
    record {
      books = d.books;
      started = d.started;
      run = run_listed _ _ _ _ _ _ e.session.session.gained (e.session.session.added ∙ ap (λ (before : List Served). before ++ e.session.session.gained) c.new-rows.ensures)
          (run_from _ _ _ _ _ _ _ _ _ e.session.session
          (ap (λ (addr : List ℕ). undated (visit c.args.site.now.workers.config c.args.site.now.rules 0 (record { addr = addr }))) c.requires.peer)
          (first_is _ _ c.args.reach.now c.args.client.now d.books d.is (c.new-clock.ensures ∙ c.new.ensures) c.requires.reach.no_talk c.requires.reach.no_fault k.received k.sent k.no_fault)
          (ap (λ (r : MemReachState). Some r.book.talks) (sym reach)) (ap (λ (l : MemLinkState). Some l.sent) (sym client))
          (rw (reach, client) at calm) (parts_at _ _ _ [] e.session.session.inbox _ e.session.parts) (λ idle. absurd (let no : false ≡ true = e.idle_only idle in cc)) e.each);
      over = (over.past, over.before, over.talks, over.over);
    }
