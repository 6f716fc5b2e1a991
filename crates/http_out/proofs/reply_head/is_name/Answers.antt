use Rattle.std.proofs.Common.{◌∙◌, sym}
use Rattle.std.proofs.lemmas.Bool.{false≢true}
use Rattle.http_out.proofs.NameLaws.{is_field_name-false, is_field_name-token}
use Rattle.http_out.proofs.reply_head.is_name.Goals as goal

pub returns-then-is_token : goal.returns-then-is_token
returns-then-is_token c = sym (is_field_name-token c.args.name.now (c.is_token.ensures.0 c.if-is_token.true))

pub returns-else-is_token : goal.returns-else-is_token
returns-else-is_token c =
    c.if-is_token.false ∙ sym (is_field_name-false c.args.name.now (λ is. false≢true (sym c.if-is_token.false ∙ c.is_token.ensures.1 is.0)))
