-- The same trees stand at two nodes that match, as far as they do at what the nodes lead to.
use Rattle.std.proofs.Common.{◌≡◌, ◌↔◌, ◌+◌, ◌<◌, ℕ, zero, suc, Bool, true, false, cond, IsSomeAnd, List, [], ◌∷◌, Option, Some, All, subst, arith}
use Rattle.std.specs.Option.{option_map}
use Rattle.std.specs.List.{AllZip}
use Rattle.std.specs.Ordering.{eq_by_cmp}
use Rattle.std.specs.FinMap.{find}
use Rattle.hm_tree.specs.declared.class.Class.{Class}
use Rattle.hm_tree.specs.Classes.{IsInClass}
use Rattle.hm_tree.specs.Names.{Name, name_cmp}
use Rattle.hm_tree.specs.Nodes.{Tree, below, depth}
use Rattle.hm_schema.specs.declared.node.Shape.{Shape}
use Rattle.hm_schema.specs.Values.{NodeOver, is_listed, child_of}
use Rattle.hm_schema.specs.WellFormed.{IsWellFormedShape}
use Rattle.hm_schema.specs.Tidied.{tidied}
use Rattle.hm_schema.specs.Sameness.{AreOthers, Match, no_others, others}
use Rattle.hm_schema.specs.Standing.{Stands, Alike}
use Rattle.hm_schema.proofs.Shapes.{Sits, sits_back, alike}
use Rattle.hm_schema.proofs.Across.{AreRelated, none_related, some_related, related_back, related_some, related_or, CarriesBelow, stands_across}
use Rattle.hm_schema.proofs.Tidied.{tidied_alike}
use Rattle.hm_tree.proofs.Depths.{depth_below}

-- ---- what two matching nodes list and take

module _ {I J : Type 0} (R : I → J → Type 0) where
  zip_related : (xs : List (Name × I)) (ys : List (Name × J)) → AllZip (λ c d. (c.0 ≡ d.0) × R c.1 d.1) xs ys → (k : Name)
      → AreRelated R (find name_cmp k xs) (find name_cmp k ys)
  zip_related [] [] h k = none_related
  zip_related [] (d ∷ ys) h k = absurd h
  zip_related (c ∷ xs) [] h k = absurd h
  zip_related (c ∷ xs) (d ∷ ys) h k =
      subst (λ m. AreRelated R (find name_cmp k (c ∷ xs)) (cond (eq_by_cmp name_cmp k m) (Some d.1) (find name_cmp k ys))) h.0.0
      (go (eq_by_cmp name_cmp k c.0) (zip_related xs ys h.1 k))
    where
      go : (b : Bool) → AreRelated R (find name_cmp k xs) (find name_cmp k ys)
          → AreRelated R (cond b (Some c.1) (find name_cmp k xs)) (cond b (Some d.1) (find name_cmp k ys))
      go true rest = some_related h.0.1
      go false rest = rest

  others_related : {x : Option (Class × I)} {y : Option (Class × J)} → AreOthers R x y
      → AreRelated R (option_map (λ (o : Class × I). o.1) x) (option_map (λ (o : Class × J). o.1) y)
  others_related no_others = none_related
  others_related (others r) = some_related r

  others_take : {x : Option (Class × I)} {y : Option (Class × J)} → AreOthers R x y → (k : Name)
      → IsSomeAnd x (λ o. IsInClass o.0 k) ↔ IsSomeAnd y (λ o. IsInClass o.0 k)
  others_take no_others k = (λ h. h, λ h. h)
  others_take (others r) k = (λ h. h, λ h. h)

  module _ (n : NodeOver I) (m : NodeOver J) (match : Match R n m) where
    found_related : (k : Name) → AreRelated R (find name_cmp k n.children) (find name_cmp k m.children)
    found_related k = zip_related n.children m.children match.children k

    pub match_listed : (k : Name) → is_listed n k ≡ is_listed m k
    match_listed k = related_some (found_related k)

    pub match_child : (k : Name) → AreRelated R (child_of n k) (child_of m k)
    match_child k = related_or (found_related k) (others_related match.other)

    match_sits : (a : Shape) → Sits n m a
    match_sits a = alike match_listed (λ k. others_take match.other k)

    module _ (In : I → Tree → Type 0) (Jn : J → Tree → Type 0) (t : Tree) where
      match_into : CarriesBelow R In Jn n m t → Stands In n t → Stands Jn m t
      match_into carries = stands_across R In Jn n m t (λ a at. ((match.shapes a).0 at, match_sits a)) (λ w at. (match.twins w).1 at)
          (λ k here. match_child k) carries

      match_from : CarriesBelow (λ j i. R i j) Jn In m n t → Stands Jn m t → Stands In n t
      match_from carries = stands_across (λ j i. R i j) Jn In m n t (λ a at. ((match.shapes a).1 at, sits_back n m a (match_sits a)))
          (λ w at. (match.twins w).0 at) (λ k here. related_back (match_child k)) carries

-- ---- the trees

module _ {I J : Type 0} (R : I → J → Type 0) (In : I → Tree → Type 0) (Jn : J → Tree → Type 0) (n : NodeOver I) (m : NodeOver J)
    (well_n : All (IsWellFormedShape n) n.shapes) (well_m : All (IsWellFormedShape m) m.shapes) (match : Match R (tidied n) (tidied m)) where
  -- where what is right below a tree stands at both of what is related, or at neither, the tree stands at both nodes or at neither
  pub same_stands : (t : Tree) → ((k : Name) (x : Tree) → below k t ≡ Some x → (i : I) (j : J) → R i j → In i x ↔ Jn j x)
      → Stands In n t ↔ Stands Jn m t
  same_stands t same =
      let one = tidied_alike In n well_n in
      let two = tidied_alike Jn m well_m in (
        λ h. two.from t (match_into R (tidied n) (tidied m) match In Jn t (λ k x at i j r. (same k x at i j r).0) (one.into t h)),
        λ h. one.from t (match_from R (tidied n) (tidied m) match In Jn t (λ k x at j i r. (same k x at i j r).1) (two.into t h)),
      )

  pub same_alike : ((i : I) (j : J) → R i j → Alike (In i) (Jn j)) → Alike (Stands In n) (Stands Jn m)
  same_alike same = record {
    into = λ t h. (same_stands t (λ k x at i j r. let a = same i j r in (a.into x, a.from x))).0 h;
    from = λ t h. (same_stands t (λ k x at i j r. let a = same i j r in (a.into x, a.from x))).1 h;
  }

-- ---- nodes that match all the way down

module _ {I J : Type 0} (R : I → J → Type 0) (In : I → Tree → Type 0) (Jn : J → Tree → Type 0) where
  -- what stands at two things is what stands at two nodes that match
  pub record IsMatched (i : I) (j : J) : Type 0 where
    pub first : NodeOver I
    pub second : NodeOver J
    pub stands_first : Alike (In i) (Stands In first)
    pub stands_second : Alike (Jn j) (Stands Jn second)
    pub well_first : All (IsWellFormedShape first) first.shapes
    pub well_second : All (IsWellFormedShape second) second.shapes
    pub match : Match R (tidied first) (tidied second)

  -- if all that is related matches so, the same trees stand at what is related
  module _ (matched : (i : I) (j : J) → R i j → IsMatched i j) where
    alike_to : (d : ℕ) (i : I) (j : J) → R i j → (t : Tree) → depth t < d → In i t ↔ Jn j t
    alike_to zero i j r t lt = absurd (omega arith)
    alike_to (suc d) i j r t lt =
        let m = matched i j r in
        let same = same_stands R In Jn m.first m.second m.well_first m.well_second m.match t
        (λ k x at i j r. alike_to d i j r x (let less = depth_below k t x at in omega arith)) in
        (λ h. m.stands_second.from t (same.0 (m.stands_first.into t h)), λ h. m.stands_first.from t (same.1 (m.stands_second.into t h)))

    pub matched_alike : (i : I) (j : J) → R i j → Alike (In i) (Jn j)
    matched_alike i j r = record {
      into = λ t h. (alike_to (depth t + 1) i j r t (omega arith)).0 h;
      from = λ t h. (alike_to (depth t + 1) i j r t (omega arith)).1 h;
    }
