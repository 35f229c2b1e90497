use Rattle.std.proofs.Common.{ℕ, List, refl, ap, ◌∙◌}
use Rattle.std.specs.Borrow.{Bor}
use Rattle.std.proofs.lemmas.Result.{IfOk-weaker}
use Rattle.hm_tree.specs.Cleaned.{cleaned}
use Rattle.serde_json.specs.View.{view}
use Rattle.hm_json_nodes.proofs.OldNodes.{title_of, text_or_empty}
use Rattle.hm_json_nodes.proofs.writing.key_of.Goals as goal

pub returns-clause-key : goal.returns-clause-key
returns-clause-key c = IfOk-weaker c.cleaned.result _ _ (λ key h item is.
    h ∙ ap cleaned (ap (λ (b : Bor (List ℕ)). b.now) c.unwrap_or.ensures ∙ text_or_empty c.text_at.result _ _ refl c.text_at.ensures)
    ∙ title_of (view c.args.node.now) item is) c.cleaned.ensures.value
