-- Members of the form of a node of a table: what the node asks of the root of a tree, and the members below its names.
use Rattle.std.proofs.Common.{◌≡◌, ℕ, is_some, slice_get, Option, Some, None, All, IsSome, refl, sym, ap, subst, ◌∙◌}
use mathlib.Core.Bool.{true≢false}
use Rattle.std.specs.Option.{option_map}
use Rattle.std.proofs.lemmas.Option.{same_Some}
use Rattle.hm_tree.specs.Names.{Name}
use Rattle.hm_tree.specs.Nodes.{Tree, edges, below}
use Rattle.hm_tree.proofs.Sorted.{below_edge}
use Rattle.hm_schema.specs.declared.node.NodeId.{NodeId}
use Rattle.hm_schema.specs.Values.{NodeOver, NodeValue, child_of}
use Rattle.hm_schema.specs.Permitted.{Fits, Permits, names_of}
use Rattle.hm_schema.proofs.NamesOf.{found_value}
use Rattle.hm_schema.specs.Standing.{HasTwin}
use Rattle.hm_schema.proofs.Elements.{any_weaker}
use Rattle.hm_schema.proofs.Shapes.{fits_across, sits_back}
use Rattle.hm_types_forms.specs.Forms.{Form, form}
use Rattle.hm_types_forms.specs.Members.{Member, member}
use Rattle.hm_types_forms.proofs.Nodes.{sits_over, child_over}
use Rattle.hm_types_table.specs.Members.{Allows}
use Rattle.hm_types_table.specs.Tables.{Nodes, AreFormed, opened}
use Rattle.hm_types_table.proofs.Forms.{node_is}

-- what stands below a name is a member of what this leads to
pub record IsMemberBelow (nodes : Nodes) (n : NodeValue) (k : Name) (x : Tree) : Type 0 where
  pub place : NodeId
  pub is : child_of n k ≡ Some place
  pub inside : Member (form nodes place) x

module _ (nodes : Nodes) (h : AreFormed nodes) (i : NodeId) (n : NodeValue) (e : slice_get nodes i.place ≡ Some n) (t : Tree) where
  permits_opened : Permits n (names_of t) → Permits (opened nodes n) (names_of t)
  permits_opened = any_weaker (λ a. Fits n a (names_of t)) (λ a. Fits (opened nodes n) a (names_of t))
      (λ a f. fits_across n (opened nodes n) a (names_of t) (sits_back (opened nodes n) n a (sits_over (λ s. form nodes) n a)) f) n.shapes

  opened_permits : Permits (opened nodes n) (names_of t) → Permits n (names_of t)
  opened_permits = any_weaker (λ a. Fits (opened nodes n) a (names_of t)) (λ a. Fits n a (names_of t))
      (λ a f. fits_across (opened nodes n) n a (names_of t) (sits_over (λ s. form nodes) n a) f) n.shapes

  opened_child : (k : Name) → child_of (opened nodes n) k ≡ option_map (form nodes) (child_of n k)
  opened_child k = child_over (λ s. form nodes) n k

  pub member_whole : Allows n t → All (λ e. IsMemberBelow nodes n e.0 e.1) (edges t) → Member (form nodes i) t
  member_whole a all = member (node_is nodes i n e h) (permits_opened a.permitted) a.twins
      (λ k x at. let b = below_it k x at in ap is_some (led k x b))
      (λ k x v at is. let b = below_it k x at in subst (λ v. Member v x) (same_Some (form nodes b.place) v (sym (led k x b) ∙ is)) b.inside)
    where
      below_it : (k : Name) (x : Tree) → below k t ≡ Some x → IsMemberBelow nodes n k x
      below_it k x at = found_value (λ k x. IsMemberBelow nodes n k x) (edges t) all k x at

      led : (k : Name) (x : Tree) (b : IsMemberBelow nodes n k x) → child_of (opened nodes n) k ≡ Some (form nodes b.place)
      led k x b = opened_child k ∙ ap (option_map (form nodes)) b.is

  pub member_root : Member (form nodes i) t → Allows n t
  member_root (member {n = m} is p w there f) =
      let same = same_Some m (opened nodes n) (sym is ∙ node_is nodes i n e h) in
      record {
        permitted = opened_permits (subst (λ (m : NodeOver Form). Permits m (names_of t)) same p);
        twins = subst (λ (m : NodeOver Form). All (HasTwin t) m.twins) same w;
      }

  pub member_below : Member (form nodes i) t → (place : ℕ) (k : Name) (x : Tree) → slice_get (edges t) place ≡ Some (k, x) → IsMemberBelow nodes n k x
  member_below (member {n = m} is p w there f) place k x at =
      let same = same_Some m (opened nodes n) (sym is ∙ node_is nodes i n e h) in
      let below = below_edge t place k x at in
      go (child_of n k) refl (subst (λ (m : NodeOver Form). IsSome (child_of m k)) same (there k x below))
      (λ v c. f k x v below (ap (λ (m : NodeOver Form). child_of m k) same ∙ c))
    where
      go : (y : Option NodeId) → child_of n k ≡ y → IsSome (child_of (opened nodes n) k)
          → ((v : Form) → child_of (opened nodes n) k ≡ Some v → Member v x) → IsMemberBelow nodes n k x
      go None c some inside = absurd (true≢false (sym some ∙ ap is_some (opened_child k ∙ ap (option_map (form nodes)) c)))
      go (Some j) c some inside = record { place = j; is = c; inside = inside (form nodes j) (opened_child k ∙ ap (option_map (form nodes)) c) }
