-- The form of nodes that have exactly a tree is sound, and has that tree alone.
use Rattle.std.proofs.Common.{◌≡◌, ℕ, zero, suc, ◌+◌, ◌<◌, IsTrue, is_some, [], ◌∷◌, map, Option, Some, None, option_and_then, refl, sym, ap, subst, ◌∙◌, arith}
use Rattle.std.specs.Option.{option_map, option_or}
use Rattle.std.specs.FinSet.{contains}
use Rattle.std.proofs.lemmas.Option.{same_Some, none-some}
use Rattle.hm_tree.specs.Names.{Name}
use Rattle.hm_tree.specs.Nodes.{Tree, edges, below, depth}
use Rattle.hm_tree.specs.NodeLaws.{edges_sorted}
use Rattle.hm_tree.proofs.Depths.{depth_below}
use Rattle.hm_schema.specs.Values.{NodeOver, is_listed, child_of}
use Rattle.hm_schema.specs.Permitted.{names_of}
use Rattle.hm_schema.proofs.NamesOf.{names_of-below}
use Rattle.hm_schema_lists.specs.Plain.{exact_shape, IsOf}
use Rattle.hm_schema.specs.Standing.{Alike}
use Rattle.hm_schema_lists.proofs.Plain.{exact_of, only_below, only_alike}
use Rattle.hm_schema.proofs.Reshaped.{plain_requires}
use Rattle.hm_schema.proofs.StandingTrees.{alike_then}
use Rattle.hm_types_forms.specs.Forms.{Form, Label, Step, Way, named, others, over, under}
use Rattle.hm_types_forms.specs.Members.{Member}
use Rattle.hm_types_rules.specs.Typing.{exactly}
use Rattle.hm_types_forms.specs.Sound.{IsSoundNode, IsSound}
use Rattle.hm_types_forms.proofs.Nodes.{find_over, sorted_over, listed_over}
use Rattle.hm_types_forms.proofs.MemberNodes.{members_alike}

-- a label says of each edge nothing but its name
abbrev blank : Step → Tree → Unit {0}
blank s x = tt

module _ (t : Tree) where
  abbrev tree_label : Label
  tree_label = record { shapes = exact_shape (names_of t) ∷ []; children = map (λ e. (e.0, tt)) (edges t); other = None; twins = [] }

  lists : (k : Name) → IsTrue (contains (names_of t) k) → IsTrue (is_listed tree_label k)
  lists k h = ap is_some (find_over blank k (edges t)) ∙ go (below k t) (sym (names_of-below t k) ∙ h)
    where
      go : (x : Option Tree) → IsTrue (is_some x) → IsTrue (is_some (option_map (blank (named k)) x))
      go None h = h
      go (Some x) h = refl

  label_sound : IsSoundNode tree_label
  label_sound =
      let o = exact_of tree_label (names_of t) refl refl lists in
      record { ascending = sorted_over blank (edges t) (edges_sorted t); some = omega arith; well = o.well; own = plain_requires tree_label refl }

  -- the node at which the form begins
  abbrev tree_node : NodeOver Form
  tree_node = over (λ s i. under s (exactly t)) tree_label

  node_is : IsOf (names_of t) tree_node
  node_is = exact_of tree_node (names_of t) refl refl (λ k h. listed_over (λ s i. under s (exactly t)) tree_label k ∙ lists k h)

  leads : (k : Name) (x : Tree) → below k t ≡ Some x → child_of tree_node k ≡ Some (exactly x)
  leads k x at =
      ap (λ y. option_or y None) (find_over (λ s i. under s (exactly t)) k tree_label.children
      ∙ ap (option_map (λ i. under (named k) (exactly t))) (find_over blank k (edges t) ∙ ap (option_map (blank (named k))) at))
      ∙ ap Some (λ i w. option_and_then (λ x. exactly x w) (at i))

exactly_label : (w : Way) (t : Tree) (l : Label) → exactly t w ≡ Some l → IsSoundNode l
exactly_label [] t l e = subst IsSoundNode (same_Some (tree_label t) l e) (label_sound t)
exactly_label (named k ∷ w) t l e = go (below k t) e (λ x. exactly_label w x l)
  where
    go : (o : Option Tree) → option_and_then (λ x. exactly x w) o ≡ Some l → ((x : Tree) → exactly x w ≡ Some l → IsSoundNode l) → IsSoundNode l
    go None e rest = absurd (none-some l e)
    go (Some x) e rest = rest x e
exactly_label (others ∷ w) t l e = absurd (none-some l e)

pub exactly_sound : (t : Tree) → IsSound (exactly t)
exactly_sound t = record { on_each = λ w l e. exactly_label w t l e }

exactly_to : (d : ℕ) (t : Tree) → depth t < d → Alike (Member (exactly t)) (λ u. u ≡ t)
exactly_to zero t lt = absurd (omega arith)
exactly_to (suc d) t lt = alike_then (members_alike (exactly t) (tree_node t) refl) (only_alike Member (tree_node t) t (record {
  names = node_is t;
  children = λ k x at. only_below Member (tree_node t) k (exactly x) x (leads t k x at)
      (exactly_to d x (let less = depth_below k t x at in omega arith));
}))

pub exactly_member : (t : Tree) → Alike (Member (exactly t)) (λ u. u ≡ t)
exactly_member t = exactly_to (depth t + 1) t (omega arith)
