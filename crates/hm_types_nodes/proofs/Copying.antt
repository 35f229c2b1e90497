-- A child copied under another name: how the trees of the source and of the view go over into one another.
use Rattle.std.proofs.Common.{◌≡◌, ◌<◌, false, cond, is_some, IsTrue, [], ◌∷◌, length, get_or, Some, None, All, Any, refl, sym, ap, subst, ◌∙◌}
use Rattle.std.proofs.lemmas.Bool.{true≢false, or_parts, cond_both}
use Rattle.std.proofs.lemmas.List.Elements.{All-head, All-map}
use Rattle.std.specs.Option.{option_or, option_map}
use Rattle.std.specs.Ordering.{eq_by_cmp}
use Rattle.std.specs.FinMap.{find}
use Rattle.std.specs.FinSet.{contains}
use Rattle.std.specs.Str.{IsUtf8}
use Rattle.hm_tree.specs.declared.class.Class.{Class}
use Rattle.hm_tree.specs.Names.{Name, name_cmp}
use Rattle.hm_tree.specs.Nodes.{Tree, below, with_edge, without_edge}
use Rattle.hm_tree.proofs.NameSets.{tied_one, tied_self}
use Rattle.hm_schema.specs.Values.{NodeOver, is_listed}
use Rattle.hm_schema.specs.Tidied.{has_name}
use Rattle.hm_schema.specs.WellFormed.{IsWellFormedShape}
use Rattle.hm_schema.specs.Standing.{IsBelow, HasTwin, Stands}
use Rattle.hm_schema.specs.Shapes.{Requires, RequiresTwin, RequiresTwins}
use Rattle.hm_types_nodes.specs.Copying.{with_required, CanCopy, IsCopied}
use Rattle.hm_schema.proofs.Shapes.{required_has}
use Rattle.hm_schema.proofs.Elements.{all_one}
use Rattle.hm_schema.proofs.Drawn.{all_some, mapped_some, mapped_to, mapped_from}
use Rattle.hm_schema.proofs.NameSets.{insert_old, insert_new}
use Rattle.hm_types_nodes.proofs.Refitted.{same_but_back, but_with_required, well_but}
use Rattle.hm_schema.proofs.Reshaped.{required_listed, required_there, absent_there}
use Rattle.hm_types_nodes.proofs.OneMore.{more_with, more_without, AddsName, AddsTo, stands_less, stands_more}

module _ {I : Type 0} (m n : Name) (w v : NodeOver I) (can : CanCopy m n w) (is : IsCopied m n w v) (well : All (IsWellFormedShape w) w.shapes)
    (some : 0 < length w.shapes) where
  listed_first : IsTrue (is_listed w m)
  listed_first = required_listed w m well some can.required

  apart : m ≡ n → ⊥
  apart e =
      let a = all_some (λ a. Requires m a × (has_name a n ≡ false)) w.shapes some (λ i d lt. (can.required i d lt, can.absent i d lt)) in
      true≢false (sym (required_has a.0 n (subst (λ k. Requires k a.0) e a.1.0)) ∙ a.1.1)

  found_new : find name_cmp n v.children ≡ find name_cmp m w.children
  found_new = is.children n ∙ ap (λ b. cond b (find name_cmp m w.children) (find name_cmp n w.children)) (tied_self n)

  found_other : (k : Name) → (k ≡ n → ⊥) → find name_cmp k v.children ≡ find name_cmp k w.children
  found_other k f = is.children k ∙ cond_both (eq_by_cmp name_cmp k n) (find name_cmp m w.children) (find name_cmp k w.children)
      (λ x. x ≡ find name_cmp k w.children) (λ e. absurd (f (tied_one k n e))) (λ e. refl)

  listed_new : IsTrue (is_listed v n)
  listed_new = ap is_some found_new ∙ listed_first

  -- the view's shapes add the name to the source's
  adds : All (λ a. AddsName n (with_required n a) a) w.shapes
  adds i d lt =
      let a = get_or w.shapes i d in
      record { but = same_but_back n a (with_required n a) (but_with_required n a); requires = insert_new n a.required n refl; lacks = can.absent i d lt }

  adds_to : AddsTo n v w
  adds_to = record {
    listed = listed_new;
    children = found_other;
    other = is.other;
    less = subst (All (λ a. Any (AddsName n a) w.shapes)) (sym is.shapes) (mapped_from (λ b a. AddsName n a b) (with_required n) w.shapes adds);
    more = subst (λ xs. All (λ b. Any (λ a. AddsName n a b) xs) w.shapes) (sym is.shapes)
        (mapped_to (λ b a. AddsName n a b) (with_required n) w.shapes adds);
    plain = can.plain;
  }

  all_require : All (Requires n) v.shapes
  all_require = subst (All (Requires n)) (sym is.shapes)
      (All-map (Requires n) (with_required n) w.shapes (λ i d lt. insert_new n (get_or w.shapes i d).required n refl))

  module _ (In : I → Tree → Type 0) where
    pub down : (t : Tree) → Stands In w t → (x : Tree) × (below m t ≡ Some x) × (below n t ≡ None)
    down t h = let x = required_there In w m t h can.required in (x.0, x.1, absent_there In w n t h can.absent can.lists)

    -- what may stand under the first name may stand under the second
    below_new : (x : Tree) → IsBelow In w m x → IsBelow In v n x
    below_new x b = record {
      child = b.child;
      is = (λ i. option_or (found_new i) (option_map (λ (o : Class × I). o.1) (is.other i))) ∙ b.is;
      inside = b.inside;
    }

    pub up : IsUtf8 n → (t x : Tree) → Stands In w t → below m t ≡ Some x → Stands In v (with_edge n x t)
    up text t x h at =
        let more = more_with n x t text (down t h).2 in
        stands_more In n v w adds_to x (with_edge n x t) t more h (below_new x (h.children m x at))
        (subst (All (HasTwin (with_edge n x t))) (sym is.twins)
        (all_one (HasTwin (with_edge n x t)) (m, n) (record { tree = x; one = more.rest m apart ∙ at; two = more.new })))

    pub back : (t : Tree) → Stands In v t → Stands In w (without_edge n t)
    back t h =
        let y = required_there In v n t h all_require in
        stands_less In n v w adds_to y.0 t (without_edge n t) (more_without n y.0 t y.1) h

    pub twin : (t : Tree) → Stands In v t → (x : Tree) × (below m t ≡ Some x) × (below n t ≡ Some x)
    twin t h = let x = All-head (HasTwin t) (m, n) [] (subst (All (HasTwin t)) is.twins h.twins) in (x.tree, x.one, x.two)

  -- ---- the view is well formed, and requires its twin

  pub copied_well : All (IsWellFormedShape v) v.shapes
  copied_well = subst (All (IsWellFormedShape v)) (sym is.shapes) (All-map (IsWellFormedShape v) (with_required n) w.shapes each)
    where
      each : All (λ a. IsWellFormedShape v (with_required n a)) w.shapes
      each i d lt =
          let a = get_or w.shapes i d in
          well_but n w v a (with_required n a) (but_with_required n a) (λ k f l. ap is_some (found_other k f) ∙ l) (λ e. sym is.other ∙ e)
          (λ h. listed_new) (λ r. (or_parts (contains a.required n) (contains a.optional n) (can.absent i d lt)).1) (well i d lt)

  pub copied_requires : RequiresTwins v
  copied_requires = subst (λ twins. All (λ a. All (RequiresTwin a) twins) v.shapes) (sym is.twins)
      (subst (All (λ a. All (RequiresTwin a) ((m, n) ∷ []))) (sym is.shapes)
      (All-map (λ a. All (RequiresTwin a) ((m, n) ∷ [])) (with_required n) w.shapes each))
    where
      each : All (λ a. All (RequiresTwin (with_required n a)) ((m, n) ∷ [])) w.shapes
      each i d lt =
          let a = get_or w.shapes i d in
          all_one (RequiresTwin (with_required n a)) (m, n)
          (record { one = insert_old n a.required m (can.required i d lt); two = insert_new n a.required n refl })

  pub copied_some : 0 < length v.shapes
  copied_some = subst (λ xs. 0 < length xs) (sym is.shapes) (mapped_some (with_required n) w.shapes some)
