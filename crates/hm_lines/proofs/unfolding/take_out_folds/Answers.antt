use Rattle.std.proofs.Common.{◌++◌, drop, sym, ap, ◌∙◌}
use Rattle.std.proofs.lemmas.List.{append_assoc, take_rest}
use Rattle.hm_lines.specs.Unfolding.{unfolded, without_return}
use Rattle.hm_lines.proofs.Folds.{none_found, fold_found}
use Rattle.hm_lines.proofs.unfolding.take_out_folds.Goals as goal

pub loop-at-preserved : goal.loop-at-preserved
loop-at-preserved c =
    let rest = c.loop-at.rest.now in
    let made = c.loop-at.made.items in
    let behind = unfolded (drop 2 (drop c.in-Some.at rest)) in
    (λ i. c.in_ok-extend_from_slice.ensures.items i ++ unfolded (take_rest c.split_at.result.1.now 2 i))
    ∙ append_assoc made c.without_return.result.now (unfolded (drop 2 c.split_at.result.1.now))
    ∙ (λ i. made ++ (c.without_return.ensures i ++ unfolded (drop 2 (c.split_at.ensures.back i))))
    ∙ (λ i. made ++ (without_return (c.split_at.ensures.front i) ++ behind))
    ∙ ap (λ l. made ++ l) (sym (fold_found rest c.in-Some.at c.in-Some.ensures))
    ∙ c.loop-at.invariant

pub returns : goal.returns
returns c =
    c.in_ok-extend_from_slice-2.ensures.items
    ∙ ap (λ l. c.loop-at.made.items ++ l) (sym (none_found c.loop-at.rest.now c.in_default.ensures))
    ∙ c.loop-at.invariant
