use Rattle.std.proofs.Common.{◌≡◌, true, Option, sym, ◌∙◌, ap}
use Rattle.site_config.specs.declared.subject.Subject.TheVariants as subject
use Rattle.site_config.specs.declared.value.Value.{Value}
use Rattle.site_config.specs.Meanings.{given_value}
use Rattle.site_config.specs.Names.{is_name}
use Rattle.site_config.specs.Properties.{directive_fault}
use Rattle.site_config.specs.Subjects.{IsSubject}
use Rattle.site_config.proofs.SubjectLemmas.{named_fault}
use Rattle.site_config.proofs.judge.fault_of.Goals as goal

pub returns-then-is_name : goal.returns-then-is_name
returns-then-is_name c =
    let line = c.args.entry.now in
    let name = c.in-Worker.name in
    let d = c.in-Worker.directive in
    let speaks : IsSubject line.key.now (subject.Worker name d) = rw c.in-Worker.is at line.speaks in
    let means : line.meaning ≡ given_value d line.value.now = rw c.in-Worker.is at line.means in
    let named : is_name name.now ≡ true = sym c.is_name.ensures ∙ c.if-is_name.true in
    c.directive_fault.ensures ∙ ap (λ (m : Option Value). directive_fault d m line.value.now) means ∙ named_fault line.key.now line.value.now name d speaks named
