use Rattle.std.proofs.Common.{rules, ◌≡◌, ◌+◌, ◌<◌, ◌++◌, ◌∷◌, [], ℕ, cond, ◌==◌, ◌≤◌, List, reverse, length, slice_get, Option, Some, None, is_some, true, false, refl, sym, ap, subst, ◌∙◌, arith, length-append}
use mathlib.Core.Bool.{true≢false}
use Rattle.std.proofs.lemmas.Option.{slice_get-get_or}
use Rattle.std.proofs.lemmas.List.{length-reverse}
use Rattle.hm_schema.specs.declared.node.NodeId.{NodeId}
use Rattle.hm_schema.specs.Tidied.{tidied}
use Rattle.hm_types_schemas.specs.Ends.{ends}
use Rattle.hm_types_schemas.specs.Marks.{Marks, mark_at, class_of}
use Rattle.hm_types_schemas.specs.Visiting.{IsVisit, owed}
use Rattle.hm_types_schemas.proofs.Places.{there}
use Rattle.hm_types_schemas.proofs.Owed.{owes_less}
use Rattle.hm_types_schemas.proofs.Steps.{visit_begins, visit_again, visit_first, id_inside}
use Rattle.hm_types_schemas.proofs.visited.visited.Goals as goal
use Rattle.hm_facts.proofs.Lists.{no_items}

a_mark : (x : Option ℕ) → true ≡ is_some x → (k : ℕ) × (x ≡ Some k)
a_mark None e = absurd (true≢false e)
a_mark (Some k) e = (k, refl)

no_mark : (x : Option ℕ) → false ≡ is_some x → x ≡ None
no_mark None e = refl
no_mark (Some k) e = absurd (true≢false (sym e))

-- a node was popped, and its ends were put on the stack
fewer : (todo rest more : List NodeId) (id : NodeId) (ends : List NodeId) (was is : ℕ) → todo ≡ rest ++ id ∷ [] → reverse more ≡ ends ++ reverse rest
    → is + length ends ≤ was → length more + is < length todo + was
fewer todo rest more id ends was is pop push less =
    let one = ap length pop in
    let two = ap length push in
    omega (arith, one, two, less, length-append rest (id ∷ []), length-append ends (reverse rest), length-reverse more, length-reverse rest)

pub loop-id-init : goal.loop-id-init
loop-id-init c =
    visit_begins c.args.table.now c.requires.formed c.args.classes.now c.requires.classes c.args.root c.requires.root c.new-order.result.items
    c.new-marks.result.items c.in_ok-todo.todo.items c.new-order.ensures.items c.new-marks.ensures.items c.in_ok-todo.ensures.items

pub loop-id-preserved-then-is_some : goal.loop-id-preserved-then-is_some
loop-id-preserved-then-is_some c =
    let marks = c.loop-id.marks.items in
    let w = a_mark c.mark_at.result (sym c.if-is_some.true ∙ c.is_some.ensures) in
    let at : mark_at marks (class_of c.args.classes.now c.in-Some.id) ≡ Some w.0 =
    ap (λ (l : Marks). mark_at l (class_of c.args.classes.now c.in-Some.id)) (sym c.deref.ensures.value) ∙ sym c.mark_at.ensures ∙ w.1 in
    visit_again c.args.table.now c.requires.formed c.args.classes.now c.requires.classes c.args.root c.loop-id.order.items marks
    c.loop-id.todo.items c.pop.new.self.items c.in-Some.id c.loop-id.invariant c.in-Some.ensures.items w.0 at

pub push_ends-requires : goal.push_ends-requires
push_ends-requires c =
    id_inside c.args.table.now c.requires.formed c.args.classes.now c.requires.classes c.args.root c.loop-id.order.items c.loop-id.marks.items
    c.loop-id.todo.items c.pop.new.self.items c.in-Some.id c.loop-id.invariant c.in-Some.ensures.items

pub loop-id-smaller : goal.loop-id-smaller
loop-id-smaller c =
    let nodes = c.args.table.now in
    let classes = c.args.classes.now in
    let marks = c.loop-id.marks.items in
    let order = c.loop-id.order.items in
    let id = c.in-Some.id in
    let class = class_of classes id in
    let inside = id_inside nodes c.requires.formed classes c.requires.classes c.args.root order marks c.loop-id.todo.items
    c.pop.new.self.items id c.loop-id.invariant c.in-Some.ensures.items in
    let n = there nodes id.place inside in
    let none : mark_at marks class ≡ None =
    ap (λ (l : Marks). mark_at l class) (sym c.deref.ensures.value) ∙ sym c.mark_at.ensures ∙ no_mark c.mark_at.result (sym c.if-is_some.false ∙ c.is_some.ensures) in
    let at : slice_get classes id.place ≡ Some class = slice_get-get_or classes id.place 0 (omega (arith, inside, c.requires.classes.size)) in
    let less = owes_less marks c.mark.new.marks.items class c.len.result c.in_ok-mark.ensures nodes classes id.place n.0 n.1 at none in
    fewer c.loop-id.todo.items c.pop.new.self.items c.push_ends.new.todo.items id (ends (tidied n.0)) (owed nodes classes marks)
    (owed nodes classes c.mark.new.marks.items) c.in-Some.ensures.items (c.in_ok-push_ends.ensures n.0 n.1) less

pub loop-id-preserved : goal.loop-id-preserved
loop-id-preserved c =
    let nodes = c.args.table.now in
    let marks = c.loop-id.marks.items in
    let order = c.loop-id.order.items in
    let id = c.in-Some.id in
    let class = class_of c.args.classes.now id in
    let inside = id_inside nodes c.requires.formed c.args.classes.now c.requires.classes c.args.root order marks c.loop-id.todo.items
    c.pop.new.self.items id c.loop-id.invariant c.in-Some.ensures.items in
    let n = there nodes id.place inside in
    let none : mark_at marks class ≡ None =
    ap (λ (l : Marks). mark_at l class) (sym c.deref.ensures.value) ∙ sym c.mark_at.ensures ∙ no_mark c.mark_at.result (sym c.if-is_some.false ∙ c.is_some.ensures) in
    let size : c.len.result ≡ length order = search rules in
    let put : (x : ℕ) → mark_at c.mark.new.marks.items x ≡ cond (x == class) (Some (length order)) (mark_at marks x) =
    λ x. c.in_ok-mark.ensures x ∙ ap (λ k. cond (x == class) (Some k) (mark_at marks x)) size in
    subst (λ order. IsVisit nodes c.args.classes.now c.args.root order c.mark.new.marks.items c.push_ends.new.todo.items) (sym c.in_ok-push.ensures.items)
    (visit_first nodes c.requires.formed c.args.classes.now c.requires.classes c.args.root order marks c.loop-id.todo.items c.pop.new.self.items id
    c.loop-id.invariant c.in-Some.ensures.items n.0 n.1 none c.mark.new.marks.items put c.push_ends.new.todo.items (c.in_ok-push_ends.ensures n.0 n.1))

pub returns : goal.returns
returns c =
    let none = c.in_default.ensures.cases.0 in
    let empty : c.loop-id.todo.items ≡ [] = no_items c.loop-id.todo.items (omega arith) in
    subst (IsVisit c.args.table.now c.args.classes.now c.args.root c.loop-id.order.items c.loop-id.marks.items) empty c.loop-id.invariant
