use Rattle.std.proofs.Common.{rules, ◌∙◌}
use Rattle.std.proofs.lemmas.Iterator.{YieldsList-from_slice}
use Rattle.std.proofs.lemmas.Iterator.Search.{any_from_yields_List}
use Rattle.hm_changes_alike.specs.Staying.{seen}
use Rattle.hm_changes_alike.specs.Below.{is_told_at}
use Rattle.hm_changes_alike.proofs.Lent.{any_lent}
use Rattle.hm_changes_alike.proofs.alikes.is_told.Goals as goal

pub returns : goal.returns
returns c =
    any_from_yields_List (λ n. is_told_at (seen c.args.left) (seen c.args.right) n.now) _ _ _ c.any.ensures.ran (YieldsList-from_slice c.args.names.now cc)
    (λ x b q k. search rules)
    ∙ any_lent (is_told_at (seen c.args.left) (seen c.args.right)) c.args.names.now
