-- A node that is built from the lines of a node is theirs.
use Rattle.std.proofs.Common.{◌≡◌, ◌≢◌, ◌⊎◌, inl, inr, ℕ, zero, suc, ◌+◌, ◌<◌, ◌≤◌, Bool, true, false, cond, T, List, [], ◌∷◌, length, get_or, Option, Some, None, refl, sym, ap, subst, ◌∙◌, arith, slice_get, take, map, filter_map}
use Rattle.std.specs.Prelude.{IsSortedByKey}
use Rattle.std.specs.Ordering.{is_lt, is_eq}
use Rattle.std.specs.declared.cmp.Ordering.{Ordering}
use Rattle.std.specs.declared.cmp.Ordering.TheVariants.{Less, Equal, Greater}
use Rattle.std.specs.List.{Contains, cons_option, AllByRecursion, IsDistinct}
use Rattle.std.specs.FinMap.{is_sorted, find}
use Rattle.std.proofs.lemmas.Bool.{true≢false, false_from_ne_true}
use Rattle.std.proofs.lemmas.Cmp.{tied_itself, eq_by_cmp_equiv}
use Rattle.std.proofs.lemmas.Option.{same_Some, some_pair_parts, slice_get_within, get_or_from_slice_get}
use Rattle.std.proofs.lemmas.List.{take_all, length-map, get_or-map}
use Rattle.std.proofs.lemmas.List.Elements.{Contains-append_cases}
use Rattle.std.proofs.lemmas.List.Sorted.{ranks_by, sorted_far}
use Rattle.std.proofs.lemmas.Map.Keys.{IsDistinct-head, IsDistinct-tail, IsDistinct-cons, apart_from_distinct}
use Rattle.hm_tree.specs.Names.{Name, name_cmp}
use Rattle.hm_tree.specs.Nodes.{both, below_all}
use Rattle.hm_tree.proofs.Sorted.{name_total, back_greater}
use Rattle.hm_tree.proofs.NameSets.{tied, tied_one}
use Rattle.hm_schema.specs.declared.node.NodeId.{NodeId}
use Rattle.hm_schema_lines.specs.declared.entry.Entry.{Entry}
use Rattle.hm_schema_lines.specs.NodeLines.{edge, shape}
use Rattle.hm_schema_lines.specs.Entries.{EntryValue, says, entry_value, entry_values}
use Rattle.hm_schema_lines.specs.BadLines.{Says}
use Rattle.hm_schema_lines.specs.Nodes.{shapes_in, as_shape}
use Rattle.hm_schema_lines.specs.Building.{shape_of, child_of}
use Rattle.hm_schema_lines.proofs.Made.{At, at_place}
use Rattle.hm_schema_lines.proofs.Places.{one_more}

-- ---- what a line says, by what it adds

pub is_child : (id : Name → NodeId) (e : EntryValue) (k : Name) (i : NodeId) → child_of id e ≡ Some (k, i)
    → (w : Name) × (e ≡ says (edge k w)) × (i ≡ id w)
is_child id (says (edge l v)) k i h = let p = some_pair_parts l k (id v) i h in (v, ap (λ z. says (edge z v)) p.0, sym p.1)
is_child id e k i h = let no : ⊥ = cc in absurd no

pub shapes_are : (es : List EntryValue) → filter_map shape_of es ≡ map as_shape (shapes_in es)
shapes_are [] = refl
shapes_are (says (shape s) ∷ es) = ap (λ z. as_shape s ∷ z) (shapes_are es)
shapes_are (e ∷ es) = shapes_are es

-- ---- entries under names of which none stands twice

abbrev pub keys : {X : Type 0} → List (Name × X) → List Name
keys es = map (λ e. e.0) es

module _ {X : Type 0} where
  above : (x : Name) (es : List (Name × X)) → ((j : ℕ) (d : Name × X) → j < length es → is_lt (name_cmp (get_or es j d).0 x) ≡ false)
      → AllByRecursion (λ y. tied x y ≡ false) (keys es) → T (below_all x es)
  above x [] low apart = tt
  above x (e ∷ es) low apart = both _ _ (go (name_cmp x e.0) refl) (above x es (λ j d h. low (suc j) d (omega arith)) apart.1)
    where
      go : (o : Ordering) → name_cmp x e.0 ≡ o → T (is_lt (name_cmp x e.0))
      go Less is = subst (λ o. T (is_lt o)) (sym is) tt
      go Equal is = absurd (true≢false (ap is_eq (sym is) ∙ apart.0))
      go Greater is = absurd (true≢false (ap is_lt (sym (back_greater e.0 x is)) ∙ low 0 e (omega arith)))

  pub rising : (es : List (Name × X)) → IsSortedByKey (λ (e : Name × X). e.0) name_cmp es → IsDistinct tied (keys es) → T (is_sorted name_cmp es)
  rising [] up once = tt
  rising (e ∷ es) up once = both _ _
      (above e.0 es (λ j d h. sorted_far (λ x y. is_lt (name_cmp x.0 y.0)) (ranks_by name_total (λ e. e.0)) (e ∷ es) up 0 (suc j) d
      (omega arith) (omega arith)) (IsDistinct-head tied e.0 (keys es) once))
      (rising es (λ k d low high. let next : suc k + 1 ≡ suc (k + 1) = omega arith in
      subst (λ n. is_lt (name_cmp (get_or (e ∷ es) n d).0 (get_or es k d).0) ≡ false) next (up (suc k) d (omega arith) (omega arith)))
      (IsDistinct-tail tied e.0 (keys es) once))

  pub found : (k : Name) (v : X) (es : List (Name × X)) → IsDistinct tied (keys es) → (m : ℕ) → slice_get es m ≡ Some (k, v)
      → find name_cmp k es ≡ Some v
  found k v [] once m is = let no : ⊥ = cc in absurd no
  found k v (e ∷ es) once zero is =
      ap (λ (z : Name × X). cond (tied k z.0) (Some z.1) (find name_cmp k es)) (same_Some e (k, v) is)
      ∙ ap (λ o. cond (is_eq o) (Some v) (find name_cmp k es)) (tied_itself name_total k)
  found k v (e ∷ es) once (suc m) is =
      let within = slice_get_within es m (k, v) is in
      let key : get_or (keys es) m k ≡ k = get_or-map (λ e. e.0) es m (k, v) k within ∙ ap (λ z. z.0) (get_or_from_slice_get es m (k, v) (k, v) is) in
      let apart : tied e.0 (get_or (keys es) m k) ≡ false =
      apart_from_distinct tied (keys (e ∷ es)) 0 (suc m) k once (omega arith) (omega (arith, length-map es (λ (e : Name × X). e.0))) in
      let differs : tied k e.0 ≡ false = (eq_by_cmp_equiv name_total).symm k e.0 ∙ ap (tied e.0) (sym key) ∙ apart in
      ap (λ b. cond b (Some e.1) (find name_cmp k es)) differs ∙ found k v es (IsDistinct-tail tied e.0 (keys es) once) m is

  pub found_from : (k : Name) (v : X) (es : List (Name × X)) → find name_cmp k es ≡ Some v → At es (k, v)
  found_from k v [] is = let no : ⊥ = cc in absurd no
  found_from k v (e ∷ es) is = go (tied k e.0) refl is (found_from k v es)
    where
      go : (b : Bool) → tied k e.0 ≡ b → cond b (Some e.1) (find name_cmp k es) ≡ Some v → (find name_cmp k es ≡ Some v → At es (k, v))
          → At (e ∷ es) (k, v)
      go true one is rest = (0, λ i. Some (sym (tied_one k e.0 one) i, same_Some e.1 v is i))
      go false one is rest = let a = rest is in (suc a.0, a.1)

-- ---- the children that lines list

module _ (id : Name → NodeId) where
  apart : (k : Name) (es : List EntryValue) → ((m : ℕ) (v : Name) → ¬ (Says es m (edge k v)))
      → AllByRecursion (λ y. tied k y ≡ false) (keys (filter_map (child_of id) es))
  apart k [] none = tt
  apart k (e ∷ es) none = go (child_of id e) refl (apart k es (λ m v. none (suc m) v))
    where
      go : (o : Option (Name × NodeId)) → child_of id e ≡ o → AllByRecursion (λ y. tied k y ≡ false) (keys (filter_map (child_of id) es))
          → AllByRecursion (λ y. tied k y ≡ false) (keys (cons_option o (filter_map (child_of id) es)))
      go None is rest = rest
      go (Some c) is rest =
          let l = is_child id e c.0 c.1 is in
          (false_from_ne_true (tied k c.0) (λ one. none 0 l.0 (ap Some (l.1 ∙ ap (λ z. says (edge z l.0)) (sym (tied_one k c.0 one))))), rest)

  pub distinct : (es : List EntryValue) → ((k v w : Name) (m n : ℕ) → Says es m (edge k v) → Says es n (edge k w) → ¬ (m < n))
      → IsDistinct tied (keys (filter_map (child_of id) es))
  unfolding IsDistinct
  distinct [] once = tt
  distinct (e ∷ es) once = go (child_of id e) refl (distinct es (λ k v w m n h i below. once k v w (suc m) (suc n) h i (omega arith)))
    where
      go : (o : Option (Name × NodeId)) → child_of id e ≡ o → IsDistinct tied (keys (filter_map (child_of id) es))
          → IsDistinct tied (keys (cons_option o (filter_map (child_of id) es)))
      go None is rest = rest
      go (Some c) is rest =
          let l = is_child id e c.0 c.1 is in
          IsDistinct-cons tied c.0 (keys (filter_map (child_of id) es))
          (apart c.0 es (λ m v h. once c.0 l.0 v 0 (suc m) (ap Some l.1) h (omega arith))) rest

-- ---- what is looked for, one line after another

alone : (e x : EntryValue) (m : ℕ) → slice_get (e ∷ []) m ≡ Some x → e ≡ x
alone e x zero is = same_Some e x is
alone e x (suc m) is = let no : ⊥ = cc in absurd no

pub none_next : (xs : List Entry) (i : ℕ) (e : Entry) → i < length xs → e ≡ get_or xs i e → (x : EntryValue)
    → ¬ (Contains (entry_values (take i xs)) x) → entry_value e ≢ x → ¬ (Contains (entry_values (take (i + 1) xs)) x)
none_next xs i e below is x none not_it c =
    go (Contains-append_cases (entry_values (take i xs)) (entry_value e ∷ []) x (subst (λ z. Contains z x) (one_more xs i e below is) c))
  where
    go : Contains (entry_values (take i xs)) x ⊎ Contains (entry_value e ∷ []) x → ⊥
    go (inl h) = none h
    go (inr h) = let a = at_place (entry_value e ∷ []) x h in not_it (alone (entry_value e) x a.0 a.1)

pub none_left : (xs : List Entry) (i : ℕ) → length xs ≤ i → (x : EntryValue) → ¬ (Contains (entry_values (take i xs)) x)
    → ¬ (Contains (entry_values xs) x)
none_left xs i past x none c = none (subst (λ z. Contains (entry_values z) x) (sym (take_all i xs past)) c)
