use Rattle.std.proofs.Common.{◌≡◌, true, false, refl, sym, ◌∙◌}
use Rattle.site_config.specs.Directives.{worker_part}
use Rattle.site_config.specs.Meanings.{names_directive}
use Rattle.site_config.proofs.SubjectLemmas.{gives_it, means_it}
use Rattle.site_config.proofs.property_line.PropertyLine.says.Goals as goal

pub returns-then-is_of : goal.returns-then-is_of
returns-then-is_of c =
    let line = c.args.self.now in
    let it = sym c.is_of.ensures ∙ c.if-is_of.true in
    let named : names_directive c.args.directive (worker_part line.key.now) ≡ true = sym (gives_it line.key.now line.subject c.args.directive line.speaks) ∙ it in
    rw named (line.means ∙ means_it line.subject c.args.directive line.value.now it)

pub returns-else-is_of : goal.returns-else-is_of
returns-else-is_of c =
    let line = c.args.self.now in
    let other : names_directive c.args.directive (worker_part line.key.now) ≡ false = sym (gives_it line.key.now line.subject c.args.directive line.speaks) ∙ sym c.is_of.ensures ∙ c.if-is_of.false in
    rw other refl
