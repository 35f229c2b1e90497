-- The place of a name among the node lines.
use Rattle.std.proofs.Common.{◌≡◌, inl, inr, ℕ, suc, List, ◌∷◌, ◌++◌, length, drop, Option, Some, None, refl, sym, ap, subst, ◌∙◌, arith, slice_get, take, count_by}
use Rattle.std.proofs.lemmas.Grind.{common_steps}
use Rattle.std.proofs.lemmas.Option.{gets, slice_get_within}
use Rattle.std.specs.Prelude.{unwrap_or}
use Rattle.hm_tree.specs.Names.{Name}
use Rattle.hm_schema.specs.declared.node.NodeId.{NodeId}
use Rattle.hm_schema_lines.specs.NodeLines.{NodeLineValue, node}
use Rattle.hm_schema_lines.specs.Entries.{EntryValue, says}
use Rattle.hm_schema_lines.specs.Firsts.{place_in, begun_name, node_names, AreFirsts, FirstPlaces}
use Rattle.hm_schema_lines.specs.BadLines.{IsBadNodeLine, Says, IsNode, named, begins_node, nodes_before, names_no_node}
use Rattle.hm_schema_lines.specs.Nodes.{IsPlaceOf, declared, empty}
use Rattle.hm_schema_lines.specs.Building.{id_in}
use Rattle.hm_schema_lines.proofs.Declared.{counted, node_line}
use Rattle.hm_schema_lines.proofs.Judging.{is_node, length_names, all_names}
use Rattle.hm_schema_lines.proofs.Made.{at_place, made_at}
use Rattle.hm_schema_lines.proofs.Places.{name_at, name_nowhere}
use Rattle.hm_schema_lines.specs.FirstBad.{HasNoBad}

-- ---- the first line of a name

record IsFirstLine (es : List EntryValue) (w : Name) (p : ℕ) : Type 0 where
  line : ℕ
  is : Says es line (node w)
  before : nodes_before es line ≡ p

middle : (q : Name) (xs ys : List Name) (n : ℕ) → n ≡ length xs → slice_get (xs ++ q ∷ ys) n ≡ Some q
middle q xs ys n is = grind (arith, common_steps, gets)

first_line : (w : Name) (es : List EntryValue) (p : ℕ) → place_in w (node_names es) ≡ Some p → IsFirstLine es w p
first_line w es p h =
    let at = name_at w (node_names es) p h in
    let c = counted begins_node es p (omega (arith, slice_get_within (node_names es) p w at, length_names es)) in
    let l = node_line es c.place c.entry c.is c.counted in
    let there = middle l.0 (node_names (take c.place es)) (node_names (drop (suc c.place) es)) p
    (sym c.before ∙ sym (length_names (take c.place es))) in
    let both : Some l.0 ≡ Some w = sym there ∙ ap (λ z. slice_get z p) (sym (all_names es c.place l.0 l.1)) ∙ at in
    let same : l.0 ≡ w = cc in
    record { line = c.place; is = subst (λ (v : Name). Says es c.place (node v)) same l.1; before = c.before }

no_line : (w : Name) (es : List EntryValue) → place_in w (node_names es) ≡ None → (i : ℕ) → ¬ (Says es i (node w))
no_line w es none i is = let a = made_at begun_name es w i (says (node w)) is refl in name_nowhere w (node_names es) none a.0 a.1

-- ---- the place of a name that is named

module _ (es : List EntryValue) (table : FirstPlaces) (firsts : AreFirsts table (node_names es)) where
  place_of : (w : Name) → IsNode es w → IsPlaceOf es w (id_in table (count_by begins_node es) w).place
  place_of w is_node = subst (IsPlaceOf es w) (ap (λ o. unwrap_or o (count_by begins_node es)) (sym (firsts w)))
      (go (place_in w (node_names es)) refl is_node)
    where
      go : (o : Option ℕ) → place_in w (node_names es) ≡ o → IsNode es w → IsPlaceOf es w (unwrap_or o (count_by begins_node es))
      go (Some p) e n = let f = first_line w es p e in subst (IsPlaceOf es w) f.before (declared f.line f.is)
      go None e (inl d) = let a = at_place es (says (node w)) d in absurd (no_line w es e a.0 a.1)
      go None e (inr same) = subst (λ (v : Name). IsPlaceOf es v (count_by begins_node es)) (sym same) empty

  pub placed : HasNoBad (IsBadNodeLine es) → (i : ℕ) (x : NodeLineValue) (w : Name) → Says es i x → named x ≡ Some w
      → IsPlaceOf es w (id_in table (count_by begins_node es) w).place
  placed none i x w is name = place_of w (is_node es w (λ no_node. none i (names_no_node is name no_node)))

  -- a node that may be named, by the number of node lines and what is made of it
  pub own_place : (count : ℕ) (w : Name) (n : NodeId) → count ≡ count_by begins_node es → n ≡ id_in table count w → IsNode es w
      → IsPlaceOf es w n.place
  own_place count w n told is some = subst (λ (z : NodeId). IsPlaceOf es w z.place) (ap (λ m. id_in table m w) (sym told) ∙ sym is) (place_of w some)
