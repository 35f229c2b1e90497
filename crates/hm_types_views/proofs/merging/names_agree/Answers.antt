use Rattle.std.proofs.Common.{rules, ◌≡◌, true, All, refl, sym, subst, ◌∙◌}
use mathlib.Core.Bool.{true≢false}
use Rattle.std.specs.FinMap.{find}
use Rattle.std.proofs.lemmas.Option.{same_Some}
use Rattle.hm_tree.specs.Names.{Name, name_cmp}
use Rattle.hm_schema.proofs.Lists.{all_next, all_done}
use Rattle.hm_types_views.specs.Hiding.{LeadToSame}
use Rattle.hm_types_table.specs.Tables.{seat}
use Rattle.hm_types_views.proofs.OneName.{child_in_range}
use Rattle.hm_types_views.proofs.MergedNode.{all_lead}
use Rattle.hm_types_views.proofs.merging.names_agree.Goals as goal

pub are_alike-requires-clause-one : goal.are_alike-requires-clause-one
are_alike-requires-clause-one c =
    let n = seat c.at.result.0.now c.at.result.1.now in
    child_in_range c.args.table.now c.at.ensures.formed c.args.one n c.at.ensures.node c.name-item.result c.child.result
    (c.child.ensures n c.at.ensures.node)

pub are_alike-requires-clause-two : goal.are_alike-requires-clause-two
are_alike-requires-clause-two c =
    let n = seat c.at-2.result.0.now c.at-2.result.1.now in
    child_in_range c.args.table.now c.at-2.ensures.formed c.args.two n c.at-2.ensures.node c.name-item.result c.child-in-loop-name.result
    (c.child-in-loop-name.ensures n c.at-2.ensures.node)

pub returns-then-not-are_alike : goal.returns-then-not-are_alike
returns-then-not-are_alike c n m e f = (
  λ t. absurd (true≢false (sym t)),
  λ all.
      let nodes = c.args.table.now in
      let here = subst (λ x. LeadToSame nodes x (find name_cmp c.name-item.result m.children)) (sym (c.child.ensures n e)) (all c.name-item.result) in
      let alike : c.are_alike.result ≡ true = c.are_alike.ensures.1 (subst (LeadToSame nodes c.child.result) (sym (c.child-in-loop-name.ensures m f)) here) in
      absurd (true≢false (sym alike ∙ c.if-not-are_alike.true)),
)

pub loop-name-preserved : goal.loop-name-preserved
loop-name-preserved c n m e f =
    let nodes = c.args.table.now in
    let here = subst (LeadToSame nodes c.child.result) (c.child-in-loop-name.ensures m f) (c.are_alike.ensures.0 c.if-not-are_alike.false) in
    all_next (λ (k : Name). LeadToSame nodes (find name_cmp k n.children) (find name_cmp k m.children)) c.deref-name-items.result.now _ _ (search rules)
    c.name-item.is (c.loop-name.invariant n m e f)
    (subst (λ x. LeadToSame nodes x (find name_cmp c.name-item.result m.children)) (c.child.ensures n e) here)

pub returns : goal.returns
returns c n m e f = (
  λ _.
      let nodes = c.args.table.now in
      let k = c.at.result.0.now in
      let v = c.at.result.1.now in
      let all = all_done (λ (k : Name). LeadToSame nodes (find name_cmp k n.children) (find name_cmp k m.children)) c.deref-name-items.result.now
      c.loop-name.name-index (search rules) (c.loop-name.invariant n m e f) in
      all_lead nodes n m k v (same_Some n (seat k v) (sym e ∙ c.at.ensures.node)) c.at.ensures.count
      (subst (All (λ (k : Name). LeadToSame nodes (find name_cmp k n.children) (find name_cmp k m.children))) c.deref-name-items.ensures.value all),
  λ _. refl,
)
