use Rattle.std.proofs.Common.{rules, ◌≡◌, ◌<◌, ◌≤◌, ◌++◌, ◌∷◌, [], ◌||◌, true, false, List, Vec, length, refl, sym, ap, subst, ◌∙◌, arith}
use Rattle.std.specs.declared.alloc.Global.{Global}
use Rattle.std.proofs.lemmas.Option.{same_Some, slice_get_read}
use Rattle.hm_tree.specs.Names.{Name}
use Rattle.hm_schema.specs.declared.node.NodeId.{NodeId}
use Rattle.hm_schema.specs.Tidied.{stands}
use Rattle.hm_types_table.proofs.Grown.{formed_at}
use Rattle.hm_types_schemas.specs.Marks.{number_of}
use Rattle.hm_types_schemas.proofs.Places.{there, all_read}
use Rattle.hm_types_schemas.proofs.Left.{seat_size, seat_name, child_written, child_left_out, all_written}
use Rattle.hm_types_schemas.proofs.written.children.Goals.{then-is_left+in_ok-copy+in_ok-push, else-is_left}
use Rattle.hm_types_schemas.proofs.written.children.Goals as goal

pub listed-stands-requires-clause-place : goal.listed-stands-requires-clause-place
listed-stands-requires-clause-place c n e =
    let size = seat_size c.args.table.now c.args.id n c.at.result.0.now c.at.result.1.now e c.at.ensures.node c.at.ensures.count in
    let lt : c.loop-i.i < length c.at.result.0.now.names.items = search rules in
    omega (arith, size, lt)

pub number_of-requires : goal.number_of-requires
number_of-requires c =
    let nodes = c.args.table.now in
    let n = there nodes c.args.id.place c.requires.in_range in
    let w = c.listed-stands.ensures n.0 n.1 in
    let lt : c.listed-stands.result.0.place < length nodes =
    all_read (λ (c : Name × NodeId). c.1.place < length nodes) n.0.children c.loop-i.i (w.0, c.listed-stands.result.0) w.1.0
    (formed_at nodes c.args.id n.0 c.requires.formed n.1).children in
    subst (λ k. c.listed-stands.result.0.place < k) (sym c.requires.size) lt

abbrev items : Vec (Name × NodeId) Global → List (Name × NodeId)
items v = v.items

pub loop-i-preserved : goal.loop-i-preserved
loop-i-preserved c n e =
    let all = c.lets_some_in-all.result in
    let i = c.loop-i.i in
    let number = number_of c.args.classes.now c.args.marks.now in
    let w = c.listed-stands.ensures n e in
    let next = c.listed-stands.result.0 in
    let names = c.at.result.0.now.names.items in
    let lt : i < length names = search rules in
    elim c.if-is_left.branch [
      | then-is_left+in_ok-copy+in_ok-push b ↦
          let kept : (all || stands n w.0) ≡ true = ap (λ b. all || b) (sym w.1.1) ∙ sym c.is_left.ensures ∙ b.if-is_left.true in
          let at = slice_get_read names _ i b.index.result.now refl lt b.index.ensures in
          let name : b.in_ok-copy.field-0 ≡ w.0 = b.in_ok-copy.ensures.value ∙ same_Some b.index.result.now w.0 (sym at
          ∙ seat_name c.args.table.now c.args.id n c.at.result.0.now c.at.result.1.now e c.at.ensures.node c.at.ensures.count i w.0 next w.1.0) in
          let pair : (b.in_ok-copy.field-0, b.number_of.result) ≡ (w.0, number next) = λ t. (name t, b.number_of.ensures t) in
          child_written n all number c.loop-i.children.items i w.0 next w.1.0 (c.loop-i.invariant n e) c.if-is_left.children.items kept
          (ap items b.children-is ∙ b.in_ok-push.ensures.items ∙ ap (λ (p : Name × NodeId). c.loop-i.children.items ++ p ∷ []) pair)
      | else-is_left b ↦
          let off : (all || stands n w.0) ≡ false = ap (λ b. all || b) (sym w.1.1) ∙ sym c.is_left.ensures ∙ b.if-is_left.false in
          ap items b.children-is ∙ child_left_out n all number c.loop-i.children.items i w.0 next w.1.0 (c.loop-i.invariant n e) off
    ]

pub returns : goal.returns
returns c n e =
    let size = seat_size c.args.table.now c.args.id n c.at.result.0.now c.at.result.1.now e c.at.ensures.node c.at.ensures.count in
    let done : length c.at.result.0.now.names.items ≤ c.loop-i.i = search rules in
    all_written n c.lets_some_in-all.result (number_of c.args.classes.now c.args.marks.now) c.loop-i.children.items c.loop-i.i
    (c.lets_some_in-all.ensures n e) (omega (arith, size, done)) (c.loop-i.invariant n e)
