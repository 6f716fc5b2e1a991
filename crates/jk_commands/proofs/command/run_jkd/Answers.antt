use Rattle.std.proofs.Common.{◌≡◌, None, refl}
use Rattle.jk_cli.specs.declared.order.Order.TheVariants as order
use Rattle.jk_commands.proofs.CommandLaws.{contain_done, contain_keeps, drill_wants, same_status, serve_done, serve_lose, serve_wants, served_command}
use Rattle.jk_commands.proofs.command.run_jkd.Goals as goal

-- ---- `serve`

pub returns-in-Ok-Serve-clause-serves : goal.returns-in-Ok-Serve-clause-serves
returns-in-Ok-Serve-clause-serves g c =
    let meant : c.in-Ok-Serve.field-0 ≡ order.Serve c.in-Ok-Serve.order = rw c.in-Ok-Serve.is at c.in-Ok-Serve.field-0-is in
    rw (c.in-Ok-Serve.is, meant) (λ served incoming. record {
      by = c.serve-end.result.end;
      said = c.serve-end.ensures.serves incoming;
      turned = c.from.ensures;
    })

pub returns-in-Ok-Serve-clause-refused : goal.returns-in-Ok-Serve-clause-refused
returns-in-Ok-Serve-clause-refused g c =
    let meant : c.in-Ok-Serve.field-0 ≡ order.Serve c.in-Ok-Serve.order = rw c.in-Ok-Serve.is at c.in-Ok-Serve.field-0-is in
    rw (c.in-Ok-Serve.is, meant, c.from.ensures, same_status c.serve-end.result.end) (λ served. c.serve-end.ensures.refused)

pub returns-in-Ok-Serve-clause-no_command : goal.returns-in-Ok-Serve-clause-no_command
returns-in-Ok-Serve-clause-no_command g c =
    let meant : c.in-Ok-Serve.field-0 ≡ order.Serve c.in-Ok-Serve.order = rw c.in-Ok-Serve.is at c.in-Ok-Serve.field-0-is in (
      λ two. absurd (serve_done _ _ _ _ _ _ _ _ _ c.serve-end.result.end _ (c.serve-end.ensures.serves None) c.from.ensures two),
      λ none. absurd (served_command _ _ _ c.in-Ok-Serve.is meant refl none),
    )

pub returns-in-Ok-Serve-clause-nothing : goal.returns-in-Ok-Serve-clause-nothing
returns-in-Ok-Serve-clause-nothing g c two =
    absurd (serve_done _ _ _ _ _ _ _ _ _ c.serve-end.result.end _ (c.serve-end.ensures.serves None) c.from.ensures two)

pub returns-in-Ok-Serve-clause-output_fault : goal.returns-in-Ok-Serve-clause-output_fault
returns-in-Ok-Serve-clause-output_fault g c lost =
    serve_lose _ _ _ _ _ _ _ _ _ c.serve-end.result.end _ (c.serve-end.ensures.serves None) c.from.ensures lost

pub returns-in-Ok-Serve-clause-wanting : goal.returns-in-Ok-Serve-clause-wanting
returns-in-Ok-Serve-clause-wanting g c = serve_wants _ _ _ _ _ _ _ _ _ c.serve-end.result.end _ (c.serve-end.ensures.serves None) c.from.ensures

-- ---- `container`

pub returns-in-Ok-Container-clause-serves : goal.returns-in-Ok-Container-clause-serves
returns-in-Ok-Container-clause-serves g c =
    let here = c.in-Ok-Container in
    let meant : here.field-0 ≡ order.Container here.route here.address here.threads here.clients = rw here.is at here.field-0-is in
    rw (here.is, meant) (λ served incoming. record {
      by = c.contain.result;
      said = record {
        contained = rw (c.text.ensures.value, c.get.ensures.value, c.of_container.ensures.wanted) at c.contain.ensures.contains;
        output = (refl, refl);
      };
      turned = c.from-in-Ok-Container.ensures;
    })

pub returns-in-Ok-Container-clause-no_command : goal.returns-in-Ok-Container-clause-no_command
returns-in-Ok-Container-clause-no_command g c =
    let here = c.in-Ok-Container in
    let meant : here.field-0 ≡ order.Container here.route here.address here.threads here.clients = rw here.is at here.field-0-is in (
      λ two. absurd (contain_done _ _ _ _ _ _ c.contain.result _ c.contain.ensures.contains c.from-in-Ok-Container.ensures two),
      λ none. absurd (served_command _ _ _ here.is meant refl none),
    )

pub returns-in-Ok-Container-clause-nothing : goal.returns-in-Ok-Container-clause-nothing
returns-in-Ok-Container-clause-nothing g c two =
    absurd (contain_done _ _ _ _ _ _ c.contain.result _ c.contain.ensures.contains c.from-in-Ok-Container.ensures two)

pub returns-in-Ok-Container-clause-output_fault : goal.returns-in-Ok-Container-clause-output_fault
returns-in-Ok-Container-clause-output_fault g c lost =
    absurd (contain_keeps _ _ _ _ _ _ c.contain.result _ c.contain.ensures.contains c.from-in-Ok-Container.ensures lost)

-- ---- `drill`

pub returns-in-Ok-Drill-clause-wanting : goal.returns-in-Ok-Drill-clause-wanting
returns-in-Ok-Drill-clause-wanting g c = drill_wants _ _ _ _ _ _ _ _ _ c.write_drill.result _ c.write_drill.ensures c.from-in-Ok-Drill.ensures
