use Rattle.std.proofs.Common.{All, Vec, ap, sym, subst, ◌∙◌, rules}
use Rattle.std.proofs.lemmas.List.Elements.{All-push}
use Rattle.std.specs.declared.alloc.Global.{Global}
use Rattle.hm_tree.specs.Nodes.{Tree}
use Rattle.hm_schema.specs.Membership.{IsMemberTree}
use Rattle.lens_trials.proofs.members.members.Goals.{then-member+in_ok-push, else-member}
use Rattle.lens_trials.proofs.members.members.Goals as goal

pub loop-name-preserved : goal.loop-name-preserved
loop-name-preserved g c =
    elim c.if-member.branch [
      | then-member+in_ok-push w ↦
          subst (All (IsMemberTree c.args.schema.now)) (sym w.in_ok-push.ensures.items ∙ ap (λ (v : Vec Tree Global). v.items) (sym w.trees-is))
          (All-push (IsMemberTree c.args.schema.now) c.loop-name.trees.items c.in_ok-tree.tree c.loop-name.invariant (c.member.ensures.0 (search rules)))
      | else-member w ↦ subst (λ (v : Vec Tree Global). All (IsMemberTree c.args.schema.now) v.items) (sym w.trees-is) c.loop-name.invariant
    ]
