use Rattle.std.proofs.Common.{◌≡◌, [], IfSome, sym, subst, ◌∙◌}
use Rattle.std.specs.Option.{MatchOption}
use Rattle.std.proofs.lemmas.Option.{same_Some}
use Rattle.hm_schema.specs.WellFormed.{IsWellFormedNode}
use Rattle.hm_types_nodes.specs.Branching.{shapes_with, shapes_without}
use Rattle.hm_schema.specs.Shapes.{shaped}
use Rattle.hm_types_forms.specs.Forms.{formed}
use Rattle.hm_types_views.specs.Conditions.{CanBranch}
use Rattle.hm_types_table.specs.Tables.{opened, seat}
use Rattle.hm_types_views.proofs.TwoAdded.{shaped_is}
use Rattle.hm_types_views.proofs.PartedNodes.{cannot_branch, with_it_well, without_it_well, branch_source}
use Rattle.hm_types_views.proofs.branching.branched.Goals as goal

pub returns-in_default-clause-branched : goal.returns-in_default-clause-branched
returns-in_default-clause-branched c =
    let k = c.at.result.0.now in
    cannot_branch c.args.table.now c.at.ensures.formed c.args.id k c.at.result.1.now c.at.ensures.node c.at.ensures.count c.args.name.now
    (subst (λ o. MatchOption o (¬ (CanBranch c.args.name.now k)) (λ p. CanBranch c.args.name.now k)) c.in_default.is c.in_ok-with.ensures.can)

pub add_two-requires-clause-first : goal.add_two-requires-clause-first
add_two-requires-clause-first c n e =
    let k = c.at.result.0.now in
    let v = c.at.result.1.now in
    let m = c.args.name.now in
    let can : CanBranch m k = subst (λ o. MatchOption o (¬ (CanBranch m k)) (λ p. CanBranch m k)) c.in-Some.is c.in_ok-with.ensures.can in
    let is : c.in-Some.with.items ≡ shapes_with m k.shapes.items =
    subst (λ o. IfSome o (λ p. p.0.items ≡ shapes_with m k.shapes.items)) c.in-Some.is c.in_ok-with.ensures.with_it in
    subst (IsWellFormedNode _) (sym (shaped_is n (seat k v) c.in-Some.with.items (shapes_with m k.shapes.items) c.new.result.items []
    (same_Some n (seat k v) (sym e ∙ c.at.ensures.node)) is c.new.ensures.items))
    (with_it_well c.args.table.now c.at.ensures.formed c.args.id k v c.at.ensures.node c.at.ensures.count m can)

pub add_two-requires-clause-second : goal.add_two-requires-clause-second
add_two-requires-clause-second c n e =
    let k = c.at.result.0.now in
    let v = c.at.result.1.now in
    let m = c.args.name.now in
    let can : CanBranch m k = subst (λ o. MatchOption o (¬ (CanBranch m k)) (λ p. CanBranch m k)) c.in-Some.is c.in_ok-with.ensures.can in
    let is : c.in-Some.without.items ≡ shapes_without m k.shapes.items =
    subst (λ o. IfSome o (λ p. p.1.items ≡ shapes_without m k.shapes.items)) c.in-Some.is c.in_ok-with.ensures.without_it in
    subst (IsWellFormedNode _) (sym (shaped_is n (seat k v) c.in-Some.without.items (shapes_without m k.shapes.items) c.new-2.result.items []
    (same_Some n (seat k v) (sym e ∙ c.at.ensures.node)) is c.new-2.ensures.items))
    (without_it_well c.args.table.now c.at.ensures.formed c.args.id k v c.at.ensures.node c.at.ensures.count m can)

pub returns-clause-branched : goal.returns-clause-branched
returns-clause-branched c =
    let k = c.at.result.0.now in
    let v = c.at.result.1.now in
    let m = c.args.name.now in
    let n = seat k v in
    let can : CanBranch m k = subst (λ o. MatchOption o (¬ (CanBranch m k)) (λ p. CanBranch m k)) c.in-Some.is c.in_ok-with.ensures.can in
    let is : c.in-Some.with.items ≡ shapes_with m k.shapes.items =
    subst (λ o. IfSome o (λ p. p.0.items ≡ shapes_with m k.shapes.items)) c.in-Some.is c.in_ok-with.ensures.with_it in
    let is2 : c.in-Some.without.items ≡ shapes_without m k.shapes.items =
    subst (λ o. IfSome o (λ p. p.1.items ≡ shapes_without m k.shapes.items)) c.in-Some.is c.in_ok-with.ensures.without_it in
    let old = c.args.table.now in
    branch_source old c.at.ensures.formed c.args.id k v c.at.ensures.node c.at.ensures.count m can c.add_two.new.table c.in_ok-add_two.field-0.0
    c.in_ok-add_two.field-0.1
    (c.in_ok-add_two.ensures.first n c.at.ensures.node ∙ (λ i. formed (opened old (shaped n (is i) (c.new.ensures.items i)))))
    (c.in_ok-add_two.ensures.second n c.at.ensures.node ∙ (λ i. formed (opened old (shaped n (is2 i) (c.new-2.ensures.items i)))))
