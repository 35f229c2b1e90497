-- The edges of the class of a node, as they are found.
use Rattle.std.proofs.Common.{◌≡◌, ℕ, ◌<◌, Bool, true, false, cond, List, [], ◌∷◌, ◌++◌, map, length, Option, None, All, IfSome, refl, sym, ap, ◌∙◌}
use Rattle.std.proofs.lemmas.List.Elements.{All-map, All-weaker}
use Rattle.hm_tree.specs.declared.class.Class.{Class}
use Rattle.hm_graph_classes.specs.Reduced.{class_at}
use Rattle.hm_schema.specs.declared.node.NodeId.{NodeId}
use Rattle.hm_types_table.specs.declared.outline.Outline.{Outline}
use Rattle.hm_types_table.specs.Classes.{other_ends, left, ends_left, classes_of}
use Rattle.hm_types_table.proofs.Classed.{left_inside, class_front, class_last, classes_front}

-- ---- of nodes that are there

module _ (classes : List ℕ) where
  pub classes_places : (js : List NodeId) → map (class_at classes) (map (λ j. j.place) js) ≡ classes_of classes js
  classes_places [] = refl
  classes_places (j ∷ js) = ap (λ l. class_at classes j.place ∷ l) (classes_places js)

  -- their classes are below a bound
  pub classes_below : (bound : ℕ) (ks : List ℕ) → All (λ c. c < bound) classes → All (λ k. k < length classes) ks
      → All (λ c. c < bound) (map (class_at classes) ks)
  classes_below bound ks h inside = All-map (λ (c : ℕ). c < bound) (class_at classes) ks
      (All-weaker (λ (k : ℕ). k < length classes) (λ k. class_at classes k < bound) (λ k lt. h k 0 lt) ks inside)

  module _ (o : Outline) (next : List NodeId) (other : Option (Class × NodeId)) (h : All (λ j. j.place < length classes) next)
      (g : IfSome other (λ o. o.1.place < length classes)) where
    pub places_inside : All (λ k. k < length classes) (map (λ j. j.place) (ends_left o next other))
    places_inside = All-map (λ (k : ℕ). k < length classes) (λ (j : NodeId). j.place) (ends_left o next other)
        (left_inside (length classes) o next other h g)

    pub found_edges : (class : ℕ) → map (class_at classes) (map (λ j. j.place) (ends_left o next other))
        ≡ classes_of (classes ++ class ∷ []) (ends_left o next other)
    found_edges class = classes_places (ends_left o next other)
        ∙ sym (classes_front classes (class ∷ []) (ends_left o next other) (left_inside (length classes) o next other h g))

-- ---- of two names that stand, of which the second leads to the node itself

left_two : (all : Bool) (first j : NodeId) → left all (true ∷ true ∷ []) (first ∷ j ∷ []) ++ other_ends {I = NodeId} (cond all None None) ≡ first ∷ j ∷ []
left_two true first j = refl
left_two false first j = refl

pub loop_edges : (classes : List ℕ) (class : ℕ) (o : Outline) (first j : NodeId) → first.place < length classes → j.place ≡ length classes
    → o.standing.items ≡ true ∷ true ∷ []
    → class_at classes first.place ∷ class ∷ [] ≡ classes_of (classes ++ class ∷ []) (ends_left o (first ∷ j ∷ []) None)
loop_edges classes class o first j lt at stand =
    let one = class_front classes (class ∷ []) first.place lt in
    let two = ap (class_at (classes ++ class ∷ [])) at ∙ class_last classes class in
    let edges = (λ t. left o.lets_in (stand t) (first ∷ j ∷ []) ++ other_ends {I = NodeId} (cond o.lets_in None None)) ∙ left_two o.lets_in first j in
    (λ t. sym one t ∷ sym two t ∷ []) ∙ sym (ap (classes_of (classes ++ class ∷ [])) edges)
