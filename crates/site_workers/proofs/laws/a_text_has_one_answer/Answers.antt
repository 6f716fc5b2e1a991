use Rattle.site_workers.proofs.OneConfig.{config_one}
use Rattle.site_workers.proofs.OneRefusal.{refusal_one, config_or_refusal}
use Rattle.site_workers.proofs.laws.a_text_has_one_answer.Goals as goal

pub returns : goal.returns
returns c = record { configuration = config_one; refusal = refusal_one; never_both = config_or_refusal }
