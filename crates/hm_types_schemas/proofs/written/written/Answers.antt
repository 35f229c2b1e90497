use Rattle.std.proofs.Common.{◌≡◌, ◌++◌, ◌∷◌, [], List, take, get_or, slice_get, Some, sym, subst}
use Rattle.std.specs.List.{AllZip}
use Rattle.std.proofs.lemmas.List.{take_more}
use Rattle.hm_schema.specs.declared.node.Node.{Node}
use Rattle.hm_schema.specs.declared.node.NodeId.{NodeId}
use Rattle.hm_schema.specs.Values.{NodeValue, node_value}
use Rattle.hm_types_schemas.specs.Marks.{number_of}
use Rattle.hm_types_schemas.specs.Writing.{IsWritten}
use Rattle.hm_types_schemas.proofs.written.written.Goals as goal

zip_push : {A B : Type 0} (R : A → B → Type 0) (xs : List A) (ys : List B) (x : A) (y : B) → AllZip R xs ys → R x y → AllZip R (xs ++ x ∷ []) (ys ++ y ∷ [])
zip_push R [] [] x y h s = (s, tt)
zip_push R [] (b ∷ ys) x y h s = absurd h
zip_push R (a ∷ xs) [] x y h s = absurd h
zip_push R (a ∷ xs) (b ∷ ys) x y h s = (h.0, zip_push R xs ys x y h.1 s)

pub loop-id-preserved : goal.loop-id-preserved
loop-id-preserved c =
    let order = c.args.order.now in
    let i = c.loop-id.id-index in
    let R : Node → NodeId → Type 0 =
    λ v j. (n : NodeValue) → slice_get c.args.table.now j.place ≡ Some n → IsWritten (number_of c.args.classes.now c.args.marks.now) n (node_value v) in
    let id : NodeId = get_or order i (record { place = 0 }) in
    subst (AllZip R c.push.new.self.items) (sym (take_more order i (record { place = 0 }) c.loop-id-test.true))
    (subst (λ vs. AllZip R vs (take i order ++ id ∷ [])) (sym c.in_ok-push.ensures.items)
    (zip_push R c.loop-id.nodes.items (take i order) c.in_ok-node.field-0 id c.loop-id.invariant c.in_ok-node.ensures))
