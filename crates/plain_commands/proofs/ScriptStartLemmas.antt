-- From the balancer's start to what its lines print.
use Rattle.std.proofs.Common.{ℕ, ◌≡◌, ◌++◌, false, List, [], Option, Some, None, map, reverse, sym, ap, ◌∙◌, subst, inr}
use Rattle.std.specs.Option.{is_none}
use Rattle.lb_model.specs.declared.config.LbConfig.{LbConfig}
use Rattle.lb_model.specs.declared.journal.Entry.{Entry}
use Rattle.play_script.specs.declared.step.Step.{Step}
use Rattle.play_script.specs.Drafts as draft
use Rattle.play_script.specs.Play.{Runs, Starts}
use Rattle.lb_book.specs.Journal.{Journal, IsStart, past_of}
use Rattle.plain_commands.specs.Turns.{AppendsRun}

-- the Book that was started has the opening of the draft
opening_of : (d : draft.DraftWords) (config : LbConfig) (b : Journal) (at : ℕ) → draft.IsConfigOf d config → IsStart b config at 0 → draft.IsDraftStart d at b.opening
opening_of d config b at is_config start = record {
  config = subst (λ (c : LbConfig). draft.IsConfigOf d c) (sym start.configured) is_config;
  rows = start.rows ∙ ap (λ (c : LbConfig). map draft.start_row c.members) (sym start.configured);
  out = start.none_out;
  next = start.next;
  moment = start.moment;
  maintained = start.maintained;
  chosen = start.chosen;
}

pub started : (said : Option Step) (d : draft.DraftWords) (names : List (List ℕ)) (config : LbConfig) (b : Journal) (lines : List (List ℕ)) (number at : ℕ)
    (before after : List ℕ) (status : ℕ) → is_none said ≡ false → draft.IsConfigOf d config → IsStart b config at 0
    → names ≡ draft.names_in d → before ≡ [] → AppendsRun names b number at lines status before after → Starts said d lines number at after status
started None d names config b lines number at before after status full is_config start is_names empty run = absurd cc
started (Some said) d names config b lines number at before after status full is_config start is_names empty run =
    let text : run.text ≡ after = sym (run.put ∙ ap (λ o. o ++ run.text) empty) in
    let past : past_of b ≡ [] = ap (λ (h : List Entry). reverse h) start.empty in
    inr (
      b.opening,
      opening_of d config b at is_config start,
      subst (λ n. Runs n b.opening lines number at [] after status) is_names
          (subst (λ p. Runs names b.opening lines number at p after status) past
          (subst (λ t. Runs names b.opening lines number at (past_of b) t status) text run.runs)),
    )
