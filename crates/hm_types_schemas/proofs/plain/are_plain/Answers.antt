use Rattle.std.proofs.Common.{◌≡◌, ◌+◌, ◌++◌, ◌∷◌, [], true, List, length, map, take, slice_get, Some, All, refl, sym, ap, subst, ◌∙◌, arith, add-one}
use mathlib.Core.Bool.{true≢false, false≢true}
use Rattle.std.proofs.lemmas.Option.{slice_get_read, slice_get-map}
use Rattle.std.specs.Option.{option_map}
use Rattle.hm_tree.proofs.Kept.{take_more}
use Rattle.hm_schema.specs.declared.node.Node.{Node}
use Rattle.hm_schema.specs.Values.{NodeValue, node_value}
use Rattle.std.proofs.lemmas.List.{take_all, map-append}
use Rattle.std.proofs.lemmas.List.Elements.{All-append, All-cons, All-nil}
use Rattle.hm_types_schemas.proofs.Places.{all_read}
use Rattle.hm_types_schemas.proofs.plain.are_plain.Goals as goal

none : {X : Type 0} (xs : List X) → length xs ≡ 0 → xs ≡ []
none [] e = refl
none (x ∷ xs) e = absurd (omega arith)

pub returns-then-not-is_empty : goal.returns-then-not-is_empty
returns-then-not-is_empty c = (
  λ f. absurd (false≢true f),
  λ all.
      let nodes = c.args.nodes.now in
      let n = c.node-item.result in
      let at : slice_get nodes c.loop-node.node-index ≡ Some n = slice_get_read nodes _ c.loop-node.node-index n refl c.loop-node-test.true c.node-item.is in
      let plain : n.twins.items ≡ [] = all_read (λ (n : NodeValue). n.twins ≡ []) (map node_value nodes) c.loop-node.node-index (node_value n)
      (slice_get-map node_value nodes c.loop-node.node-index ∙ ap (option_map node_value) at) all in
      let size : length n.twins.items ≡ 0 = ap length plain in
      let empty : c.is_empty.result ≡ true = grind arith in
      absurd (true≢false (sym empty ∙ c.if-not-is_empty.true)),
)

pub loop-node-preserved : goal.loop-node-preserved
loop-node-preserved c =
    let nodes = c.args.nodes.now in
    let i = c.loop-node.node-index in
    let n = c.node-item.result in
    let at : slice_get nodes i ≡ Some n = slice_get_read nodes _ i n refl c.loop-node-test.true c.node-item.is in
    let more : take (i + 1) nodes ≡ take i nodes ++ n ∷ [] = rw add-one (take_more nodes i n at) in
    let size : length n.twins.items ≡ 0 = grind arith in
    subst (All (λ (n : NodeValue). n.twins ≡ [])) (sym (ap (map node_value) more ∙ map-append node_value (take i nodes) (n ∷ [])))
    (All-append (λ (n : NodeValue). n.twins ≡ []) (map node_value (take i nodes)) (node_value n ∷ []) c.loop-node.invariant
    (All-cons (λ (n : NodeValue). n.twins ≡ []) (node_value n) [] (none n.twins.items size) (All-nil (λ (n : NodeValue). n.twins ≡ []))))

pub returns : goal.returns
returns c = (
  λ t. subst (λ (nodes : List Node). All (λ (n : NodeValue). n.twins ≡ []) (map node_value nodes))
      (take_all c.loop-node.node-index c.args.nodes.now c.loop-node-test.false) c.loop-node.invariant,
  λ all. refl,
)
