-- Two names that lead to the same, of which the second is hidden: how the trees of the source and of the view go over into one
-- another.
use Rattle.std.proofs.Common.{◌≡◌, ℕ, ◌<◌, false, IsTrue, IfSome, map, length, get_or, Option, Some, None, All, refl, sym, ap, subst, ◌∙◌, inr}
use Rattle.std.proofs.lemmas.Bool.{true≢false, or_from}
use Rattle.std.proofs.lemmas.Option.{same_Some}
use Rattle.std.proofs.lemmas.List.Elements.{All-map}
use Rattle.std.specs.Option.{option_or, option_map}
use Rattle.std.specs.FinMap.{find}
use Rattle.std.specs.FinSet.{contains, remove}
use Rattle.std.specs.Str.{IsUtf8}
use Rattle.hm_tree.specs.declared.class.Class.{Class}
use Rattle.hm_tree.specs.Names.{Name, name_cmp}
use Rattle.hm_tree.specs.Nodes.{Tree, below, with_edge, without_edge}
use Rattle.hm_schema.specs.Values.{NodeOver, is_listed, child_of}
use Rattle.hm_schema.specs.Tidied.{has_name}
use Rattle.hm_schema.specs.WellFormed.{IsWellFormedShape}
use Rattle.hm_tree_parts.specs.Twins.{MergedFrom, of_none, of_same, of_other}
use Rattle.hm_facts.proofs.Options.{is_there}
use Rattle.hm_schema.specs.Standing.{IsBelow, HasTwin, Stands, Alike}
use Rattle.hm_schema.specs.Shapes.{Requires}
use Rattle.hm_types_nodes.specs.Merging.{unrequired}
use Rattle.hm_types_nodes.specs.Copying.{CanHide, hidden_node}
use Rattle.hm_schema.proofs.Drawn.{mapped_some, mapped_to, mapped_from}
use Rattle.hm_schema.proofs.NameSets.{remove_from}
use Rattle.hm_types_nodes.proofs.Refitted.{remove_gone, but_unrequired, well_but}
use Rattle.hm_schema.proofs.Reshaped.{required_listed, required_there, absent_there}
use Rattle.hm_types_nodes.proofs.OneMore.{more_with, more_without, AddsName, AddsTo, stands_less, stands_more}

module _ {I : Type 0} (R : I → I → Type 0) (m n : Name) (w : NodeOver I) (can : CanHide R m n w) (well : All (IsWellFormedShape w) w.shapes)
    (some : 0 < length w.shapes) where
  abbrev v : NodeOver I
  v = hidden_node n w

  listed_first : IsTrue (is_listed w m)
  listed_first = required_listed w m well some can.first

  listed_second : IsTrue (is_listed w n)
  listed_second = required_listed w n well some can.second

  -- the source's shapes add the name to the view's
  adds : All (λ a. AddsName n a (unrequired n a)) w.shapes
  adds i d lt =
      let a = get_or w.shapes i d in
      record {
        but = but_unrequired n a;
        requires = can.second i d lt;
        lacks = or_from (contains (remove a.required n) n) (contains a.optional n) (remove_gone n a.required) ((well i d lt).apart n (can.second i d lt));
      }

  adds_to : AddsTo n w v
  adds_to = record {
    listed = listed_second;
    children = λ k f. refl;
    other = refl;
    less = mapped_to (AddsName n) (unrequired n) w.shapes adds;
    more = mapped_from (AddsName n) (unrequired n) w.shapes adds;
    plain = refl;
  }

  all_first : All (Requires m) v.shapes
  all_first = All-map (Requires m) (unrequired n) w.shapes (λ i d lt. remove_from n (get_or w.shapes i d).required m can.apart (can.first i d lt))

  none_second : All (λ b. has_name b n ≡ false) v.shapes
  none_second = All-map (λ b. has_name b n ≡ false) (unrequired n) w.shapes (λ i d lt. (adds i d lt).lacks)

  module _ (In : I → Tree → Type 0) (same : (i j : I) → R i j → Alike (In i) (In j)) where
    pub down : (t : Tree) → Stands In w t → (x : Tree) × (y : Tree) × (below m t ≡ Some x) × (below n t ≡ Some y) × Stands In v (without_edge n t)
    down t h =
        let x = required_there In w m t h can.first in
        let y = required_there In w n t h can.second in
        (x.0, y.0, x.1, y.1, stands_less In n w v adds_to y.0 t (without_edge n t) (more_without n y.0 t y.1) h)

    pub shown : (t : Tree) → Stands In v t → (x : Tree) × (below m t ≡ Some x) × (below n t ≡ None)
    shown t h = let x = required_there In v m t h all_first in (x.0, x.1, absent_there In v n t h none_second (λ i d lt. inr listed_second))

    -- what may stand under the first name may stand under the second
    below_second : (x : Tree) → IsBelow In w m x → IsBelow In w n x
    below_second x b =
        let p = is_there (find name_cmp m w.children) listed_first in
        let q = is_there (find name_cmp n w.children) listed_second in
        let first : p.0 ≡ b.child = same_Some p.0 b.child (sym (leads m p.0 p.1) ∙ b.is) in
        record {
          child = q.0;
          is = leads n q.0 q.1;
          inside = (same p.0 q.0 (can.alike p.0 q.0 p.1 q.1)).into x (subst (λ i. In i x) (sym first) b.inside);
        }
      where
        leads : (k : Name) (i : I) → find name_cmp k w.children ≡ Some i → child_of w k ≡ Some i
        leads k i e = ap (λ o. option_or o (option_map (λ (o : Class × I). o.1) w.other)) e

    -- so what is merged may stand there, and where the source has the twin it is what stands under the first name
    merged_below : {x y : Tree} {b : Option Tree} → IsBelow In w m x → IfSome b (Stands In w) → MergedFrom m n x b y → IsBelow In w n y
    merged_below {x = x} first g of_none = below_second x first
    merged_below {x = x} first g (of_same e f) = below_second x first
    merged_below first g (of_other {w = y} e f d) = g.children n y f

    merged_same : {x y : Tree} {b : Option Tree} → IfSome b (λ b. HasTwin b (m, n)) → MergedFrom m n x b y → x ≡ y
    merged_same g of_none = refl
    merged_same g (of_same e f) = refl
    merged_same g (of_other {z = z} {w = y} e f d) = absurd (d (same_Some z g.tree (sym e ∙ g.one) ∙ sym (same_Some y g.tree (sym f ∙ g.two))))

    twin_before : (i : ℕ) (d : Name × Name) → i < length w.twins → (b : Option Tree) → IfSome b (Stands In w) → IfSome b (λ b. HasTwin b (m, n))
    twin_before i d lt None g = tt
    twin_before i d lt (Some b) g = subst (HasTwin b) (can.twins i d lt) (g.twins i d lt)

    pub up : IsUtf8 n → (t x y : Tree) (b : Option Tree) → Stands In v t → IfSome b (Stands In w) → below m t ≡ Some x → MergedFrom m n x b y
        → Stands In w (with_edge n y t)
    up text t x y b h g at from =
        let first = h.children m x at in
        let more = more_with n y t text (shown t h).2 in
        stands_more In n w v adds_to y (with_edge n y t) t more h
        (merged_below (record { child = first.child; is = first.is; inside = first.inside }) g from)
        (λ i d lt. subst (HasTwin (with_edge n y t)) (sym (can.twins i d lt)) (record {
          tree = y;
          one = more.rest m can.apart ∙ at ∙ ap Some (merged_same (twin_before i d lt b g) from);
          two = more.new;
        }))

  -- ---- the view is well formed

  pub hidden_well : All (IsWellFormedShape (hidden_node n w)) (map (unrequired n) w.shapes)
  hidden_well = All-map (IsWellFormedShape v) (unrequired n) w.shapes each
    where
      each : All (λ a. IsWellFormedShape v (unrequired n a)) w.shapes
      each i d lt =
          let a = get_or w.shapes i d in
          well_but n w v a (unrequired n a) (but_unrequired n a) (λ k f l. l) (λ e. e) (λ h. listed_second)
          (λ r. absurd (true≢false (sym r ∙ remove_gone n a.required))) (well i d lt)

  pub hidden_some : 0 < length (map (unrequired n) w.shapes)
  hidden_some = mapped_some (unrequired n) w.shapes some
