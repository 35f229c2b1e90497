use Rattle.std.proofs.Common.{sym, ◌∙◌, eq-eqb}
use Rattle.std.proofs.lemmas.Bool.{eqb-true}
use Rattle.hm_tree_text.proofs.Listed.{shape_none, none_shape, bare_unmarked}
use Rattle.hm_tree_text.proofs.Reached.{not_false}
use Rattle.hm_tree_text.proofs.writer.is_bare.Goals as goal

pub returns-then-is_marked : goal.returns-then-is_marked
returns-then-is_marked g c = (λ e. absurd (not_false e), λ none. absurd (bare_unmarked _ none (sym c.is_marked.ensures ∙ c.if-is_marked.true)))

pub returns : goal.returns
returns g c = (
  λ e. shape_none _ (sym c.is_marked.ensures ∙ c.if-is_marked.false) (sym c.count.ensures ∙ eqb-true _ _ e),
  λ none. eq-eqb _ _ (c.count.ensures ∙ none_shape _ none),
)
