use Rattle.std.proofs.Common.{sym, ap, ◌∙◌, arith}
use Rattle.std.specs.Option.{option_copied}
use Rattle.std.proofs.lemmas.List.{nil_from_length}
use Rattle.hm_tree.specs.Nodes.{edges}
use Rattle.hm_marks_schema.proofs.Walks.{list_below}
use Rattle.hm_marks_schema.proofs.OneItem.{none_among, one_among}
use Rattle.hm_marks_schema.proofs.sought.items_at.Goals as goal

pub next_item-requires : goal.next_item-requires
next_item-requires c =
    list_below c.args.tree.now c.args.key.now c.in-Some.list.now c.requires (sym c.child.ensures ∙ ap option_copied c.in-Some.is)

pub returns-in-None : goal.returns-in-None
returns-in-None c =
    none_among c.args.key.now c.args.tree.now c.in-Some.list.now (sym c.child.ensures ∙ ap option_copied c.in-Some.is) c.in-None.ensures

pub returns-then-count-eq0 : goal.returns-then-count-eq0
returns-then-count-eq0 c =
    let next = c.in-Some-next_item.ensures in (
      next.item_at,
      one_among c.args.key.now c.args.tree.now c.in-Some.list.now (sym c.child.ensures ∙ ap option_copied c.in-Some.is) c.in-Some-next_item.item.now
          c.in-Some-next_item.others.now next.is (nil_from_length (edges c.in-Some-next_item.others.now) (omega (arith, c.count.ensures, c.if-count-eq0.true))),
    )
