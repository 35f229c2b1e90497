use Rattle.std.proofs.Common.{rules, ◌≡◌, refl, sym, subst, ◌∙◌}
use mathlib.Core.Bool.{true≢false}
use Rattle.std.proofs.lemmas.Option.{same_Some, none-some}
use Rattle.hm_tree.specs.Names.{Name}
use Rattle.hm_tree.specs.Nodes.{Tree, edges}
use Rattle.hm_tree.proofs.Depths.{depth_edge}
use Rattle.hm_schema.proofs.Lists.{all_next_read, all_done}
use Rattle.hm_types_forms.specs.Forms.{form}
use Rattle.hm_types_forms.specs.Members.{Member}
use Rattle.hm_types_table.specs.Tables.{seat}
use Rattle.hm_types_table.proofs.MemberNode.{IsMemberBelow, member_whole, member_root, member_below}
use Rattle.hm_types_table.proofs.membership.+member.Goals as goal

pub returns-then-not-allows : goal.returns-then-not-allows
returns-then-not-allows t c =
    let n = seat c.at.result.0.now c.at.result.1.now in (
      λ f. absurd (true≢false (sym f)),
      λ m.
          let a = member_root c.args.table.now c.at.ensures.formed c.args.id n c.at.ensures.node c.args.tree.now m in
          absurd (true≢false (sym ((c.allows.ensures n c.at.ensures.node).1 a) ∙ c.if-not-allows.true)),
    )

pub returns-in_default : goal.returns-in_default
returns-in_default t c =
    let n = seat c.at.result.0.now c.at.result.1.now in (
      λ f. absurd (true≢false (sym f)),
      λ m.
          let b = member_below c.args.table.now c.at.ensures.formed c.args.id n c.at.ensures.node c.args.tree.now m _ _ _ c.edge.ensures in
          absurd (none-some b.place (sym c.in_default.is ∙ c.led.ensures.child n c.at.ensures.node ∙ b.is)),
    )

pub member-requires : goal.member-requires
member-requires t c =
    let lower = depth_edge _ _ _ _ c.edge.ensures in
    search rules

pub returns-then-not-member : goal.returns-then-not-member
returns-then-not-member t c =
    let n = seat c.at.result.0.now c.at.result.1.now in
    let nodes = c.args.table.now in (
      λ f. absurd (true≢false (sym f)),
      λ m.
          let b = member_below nodes c.at.ensures.formed c.args.id n c.at.ensures.node c.args.tree.now m _ _ _ c.edge.ensures in
          let place : b.place ≡ c.in-Some.next = same_Some b.place c.in-Some.next (sym b.is ∙ sym (c.led.ensures.child n c.at.ensures.node) ∙ c.in-Some.is) in
          let a = c.member.ensures.1 (subst (λ i. Member (form nodes i) c.edge.result.1.now) place b.inside) in
          absurd (true≢false (sym a ∙ c.if-not-member.true)),
    )

pub loop-place-preserved : goal.loop-place-preserved
loop-place-preserved t c n e =
    let nodes = c.args.table.now in
    all_next_read (λ (e : Name × Tree). IsMemberBelow nodes n e.0 e.1) (edges c.args.tree.now) _ _ c.edge.ensures (c.loop-place.invariant n e)
    (record {
      place = c.in-Some.next;
      is = sym (c.led.ensures.child n e) ∙ c.in-Some.is;
      inside = c.member.ensures.0 c.if-not-member.false;
    })

pub returns : goal.returns
returns t c =
    let n = seat c.at.result.0.now c.at.result.1.now in
    let nodes = c.args.table.now in (
      λ _. member_whole nodes c.at.ensures.formed c.args.id n c.at.ensures.node c.args.tree.now
          ((c.allows.ensures n c.at.ensures.node).0 c.if-not-allows.false)
          (all_done (λ (e : Name × Tree). IsMemberBelow nodes n e.0 e.1) (edges c.args.tree.now) c.loop-place.place (search rules)
          (c.loop-place.invariant n c.at.ensures.node)),
      λ _. refl,
    )
