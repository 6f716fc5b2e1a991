use Rattle.std.proofs.Common.{◌≡◌, ◌∙◌, sym, ap, length, rules}
use Rattle.site_config.proofs.IgnoredLemmas.{keys_length}
use Rattle.site_config.proofs.ignored.IgnoredList.len.Goals as goal

pub returns : goal.returns
returns c =
    let count : c.len.result ≡ length c.self.inside.ends.items = search rules in
    count ∙ sym (keys_length 0 c.self.inside.keys.items c.self.inside.ends.items) ∙ ap length c.self.view_is
