-- The same trees stand at a node and at the node tidied.
use Rattle.std.proofs.Common.{◌≡◌, ℕ, zero, suc, Bool, true, false, cond, IsTrue, is_some, List, get_or, Option, Some, None, All, Contains, refl, sym, ap, subst, ◌∙◌}
use Rattle.std.proofs.lemmas.Bool.{true≢false, false_from_ne_true}
use Rattle.std.proofs.lemmas.List.Elements.{All-contains, Contains-get_or}
use Rattle.std.specs.Option.{option_or, option_map}
use Rattle.std.specs.List.{filter, list_any}
use Rattle.std.specs.FinMap.{find}
use Rattle.std.specs.FinMap.Entries.{find-where_key}
use Rattle.hm_tree.specs.declared.class.Class.{Class}
use Rattle.hm_tree.specs.Names.{Name, name_cmp}
use Rattle.hm_tree.specs.Nodes.{Tree}
use Rattle.hm_tree.proofs.Sorted.{name_one}
use Rattle.hm_schema.specs.declared.node.Shape.{Shape}
use Rattle.hm_schema.specs.Values.{NodeOver, is_listed, child_of}
use Rattle.hm_schema.specs.WellFormed.{IsWellFormedShape}
use Rattle.hm_schema.specs.Tidied.{has_name, is_positive, lets_in, lets_some_in, tidied, stands}
use Rattle.hm_schema.specs.Standing.{Stands, Alike}
use Rattle.hm_schema.proofs.Elements.{any_of}
use Rattle.hm_schema.proofs.Shapes.{Sits, IsAtBoth, listed_both, other_both, sits_back, at_both_back, shut}
use Rattle.std.proofs.lemmas.List.Folds.{list_any-from_Any}
use Rattle.hm_schema.proofs.Across.{related_same, stands_across}

-- a test that no element of a list passes
none_passes : {X : Type 0} (p : X → Bool) (xs : List X) → list_any p xs ≡ false → All (λ x. p x ≡ false) xs
none_passes {X = X} p xs e i d lt =
    false_from_ne_true (p (get_or xs i d)) (λ h. true≢false (sym (some_passes (get_or xs i d) (Contains-get_or xs i d lt) h) ∙ e))
  where
    some_passes : (x : X) → Contains xs x → p x ≡ true → list_any p xs ≡ true
    some_passes x at h = list_any-from_Any p xs (any_of (λ x. p x ≡ true) xs x at h)

pub not_positive : (m : Option ℕ) → is_positive m ≡ false → m ≡ Some 0
not_positive None e = absurd (true≢false e)
not_positive (Some zero) e = refl
not_positive (Some (suc u)) e = absurd (true≢false e)

module _ {I : Type 0} (n : NodeOver I) (well : All (IsWellFormedShape n) n.shapes) (shuts : lets_some_in n ≡ false) where
  -- the node tidied, where no unlisted name is let in
  abbrev pruned : NodeOver I
  pruned = record { shapes = n.shapes; children = filter (λ c. stands n c.0) n.children; other = None; twins = n.twins }

  found : (k : Name) → find name_cmp k pruned.children ≡ cond (stands n k) (find name_cmp k n.children) None
  found k = find-where_key name_cmp (stands n) k (λ x tied. sym (ap (stands n) (name_one k x tied))) n.children

  same_found : (k : Name) → IsTrue (stands n k) → find name_cmp k pruned.children ≡ find name_cmp k n.children
  same_found k s = found k ∙ ap (λ b. cond b (find name_cmp k n.children) None) s

  stands_listed : (k : Name) → IsTrue (is_listed pruned k) → IsTrue (stands n k)
  stands_listed k h = go (stands n k) refl (sym (ap is_some (found k)) ∙ h)
    where
      go : (b : Bool) → stands n k ≡ b → is_some (cond b (find name_cmp k n.children) None) ≡ true → stands n k ≡ true
      go true e h = e
      go false e h = absurd (true≢false (sym h))

  sits : (a : Shape) → Contains n.shapes a → Sits n pruned a
  sits a at = shut (not_positive a.most (All-contains (λ a. lets_in a ≡ false) n.shapes a (none_passes lets_in n.shapes shuts) at))
      (λ k h.
      let l = (All-contains (IsWellFormedShape n) n.shapes a well at).listed k h in
      let s : stands n k ≡ true = list_any-from_Any (λ a. has_name a k) n.shapes (any_of (λ a. has_name a k ≡ true) n.shapes a at h) in
      (l, ap is_some (same_found k s) ∙ l))

  lead : (k : Name) → IsAtBoth n pruned k → child_of n k ≡ child_of pruned k
  lead k (listed_both l p) = go (find name_cmp k n.children) l ∙ sym (ap (λ x. option_or x None) (same_found k (stands_listed k p)))
    where
      go : (x : Option I) → is_some x ≡ true → option_or x (option_map (λ (o : Class × I). o.1) n.other) ≡ option_or x None
      go None h = absurd (true≢false (sym h))
      go (Some x) h = refl
  lead k (other_both l p h g) = absurd g

  pruned_alike : (In : I → Tree → Type 0) → Alike (Stands In n) (Stands In pruned)
  pruned_alike In = record {
    into = λ t h. stands_across (λ i j. i ≡ j) In In n pruned t (λ a at. (at, sits a at)) (λ w at. at)
        (λ k here. related_same (child_of n k) (child_of pruned k) (lead k here)) (λ k x at i j e h. subst (λ i. In i x) e h) h;
    from = λ t h. stands_across (λ i j. i ≡ j) In In pruned n t (λ a at. (at, sits_back n pruned a (sits a at))) (λ w at. at)
        (λ k here. related_same (child_of pruned k) (child_of n k) (sym (lead k (at_both_back here)))) (λ k x at i j e h. subst (λ i. In i x) e h) h;
  }

-- the node tidied, by whether it lets an unlisted name in
abbrev tidied_by : {I : Type 0} → Bool → NodeOver I → NodeOver I
tidied_by b n = record {
  shapes = n.shapes;
  children = cond b n.children (filter (λ c. stands n c.0) n.children);
  other = cond b n.other None;
  twins = n.twins;
}

pub tidied_alike : {I : Type 0} (In : I → Tree → Type 0) (n : NodeOver I) → All (IsWellFormedShape n) n.shapes → Alike (Stands In n) (Stands In (tidied n))
tidied_alike In n well = go (lets_some_in n) refl
  where
    go : (b : Bool) → lets_some_in n ≡ b → Alike (Stands In n) (Stands In (tidied_by b n))
    go true e = record { into = λ t h. h; from = λ t h. h }
    go false e = pruned_alike n well e In
