-- The parts of a tree.
use Rattle.std.proofs.Common.{◌≡◌, ℕ, ◌⊎◌, None, inl, inr, Bool, true, false, not, cond, T, List, [], ◌∷◌, ◌++◌, refl, sym, ap, subst, ◌∙◌, arith}
use Rattle.std.specs.FinSet.{FinSet, contains}
use Rattle.std.specs.FinMap.Entries.{is_sorted-where_key, find-where_key}
use Rattle.std.specs.FinMap.{find}
use Rattle.std.specs.Str.{is_utf8}
use Rattle.std.specs.List.{filter}
use Rattle.hm_tree.specs.Names.{Name, name_cmp}
use Rattle.hm_tree.specs.NameLaws.{name_total, name_one}
use Rattle.hm_tree.specs.Nodes.{Tree, edges, below, are_edges, are_texts, edges_rise, edges_texts, edges_from, edges_below, first, second, both}
use Rattle.hm_tree.specs.NodeLaws.{edges-node, edges_are}
use Rattle.hm_tree.specs.Sets.{ArePassed}
use Rattle.hm_tree.specs.Parts.{part, IsSplit, AreApart, ArePartedSoFar}
use Rattle.hm_tree.proofs.Sorted.{is_less}
use Rattle.hm_tree.proofs.Merged.{edges_behind}

-- ---- the edges of a part

texts_kept : {X : Type 0} (p : Name × X → Bool) (es : List (Name × X)) → T (are_texts es) → T (are_texts (filter p es))
texts_kept p [] h = h
texts_kept p (e ∷ es) h =
    let rest = texts_kept p es (second (is_utf8 e.0) _ h) in
    elim (p e) as (λ b. T (are_texts (cond b (e ∷ filter p es) (filter p es)))) [ true ↦ both _ _ (first _ _ h) rest | false ↦ rest ]

pub part_edges : (p : Name → Bool) (t : Tree) → T (are_edges (filter (λ (e : Name × Tree). p e.0) (edges t)))
part_edges p t = edges_from _ (is_sorted-where_key name_cmp p (edges t) (edges_rise _ (edges_are t)))
    (texts_kept (λ (e : Name × Tree). p e.0) (edges t) (edges_texts _ (edges_are t)))

pub edges-part : (p : Name → Bool) (t : Tree) → edges (part p t) ≡ filter (λ (e : Name × Tree). p e.0) (edges t)
edges-part p t = edges-node _ (part_edges p t)

-- what stands under the names of a part
pub below-part : (p : Name → Bool) (t : Tree) (k : Name) → below k (part p t) ≡ cond (p k) (below k t) None
below-part p t k = ap (find name_cmp k) (edges-part p t)
    ∙ find-where_key name_cmp p k (λ x tied. sym (ap p (name_one k x tied))) (edges t)

pub parts_apart : (names : FinSet name_cmp) (t one two : Tree) → IsSplit names t (one, two) → AreApart one two
parts_apart names t one two h k = go (contains names k) refl
  where
    go : (b : Bool) → contains names k ≡ b → (below k one ≡ None) ⊎ (below k two ≡ None)
    go true e = inr (ap (below k) h.outside ∙ below-part (λ n. not (contains names n)) t k ∙ ap (λ b. cond (not b) (below k t) None) e)
    go false e = inl (ap (below k) h.inside ∙ below-part (contains names) t k ∙ ap (λ b. cond b (below k t) None) e)

-- ---- one edge more

kept : (p : Name → Bool) (es : List (Name × Tree)) (e : Name × Tree) → p e.0 ≡ true
    → filter (λ (e : Name × Tree). p e.0) (es ++ e ∷ []) ≡ filter (λ (e : Name × Tree). p e.0) es ++ e ∷ []
kept p [] e h = ap (λ b. cond b (e ∷ []) []) h
kept p (d ∷ es) e h = go (p d.0) (kept p es e h)
  where
    F : List (Name × Tree) → List (Name × Tree)
    F = filter (λ (e : Name × Tree). p e.0)

    go : (b : Bool) → F (es ++ e ∷ []) ≡ F es ++ e ∷ []
        → cond b (d ∷ F (es ++ e ∷ [])) (F (es ++ e ∷ [])) ≡ cond b (d ∷ F es) (F es) ++ e ∷ []
    go true rest = ap (λ l. d ∷ l) rest
    go false rest = rest

left_out : (p : Name → Bool) (es : List (Name × Tree)) (e : Name × Tree) → p e.0 ≡ false
    → filter (λ (e : Name × Tree). p e.0) (es ++ e ∷ []) ≡ filter (λ (e : Name × Tree). p e.0) es
left_out p [] e h = ap (λ b. cond b (e ∷ []) []) h
left_out p (d ∷ es) e h = go (p d.0) (left_out p es e h)
  where
    F : List (Name × Tree) → List (Name × Tree)
    F = filter (λ (e : Name × Tree). p e.0)

    go : (b : Bool) → F (es ++ e ∷ []) ≡ F es → cond b (d ∷ F (es ++ e ∷ [])) (F (es ++ e ∷ [])) ≡ cond b (d ∷ F es) (F es)
    go true rest = ap (λ l. d ∷ l) rest
    go false rest = rest

moved : (es rest : List (Name × Tree)) (e : Name × Tree) → es ++ e ∷ rest ≡ (es ++ e ∷ []) ++ rest
moved [] rest e = refl
moved (d ∷ es) rest e = ap (λ l. d ∷ l) (moved es rest e)

-- the next name is greater
passed_on : (walk : List Name) (at : ℕ) (t : Tree) (es : List (Name × Tree)) (e d : Name × Tree) (left : List (Name × Tree))
    → edges t ≡ es ++ e ∷ d ∷ left → ArePassed walk at e.0 → ArePassed walk at d.0
passed_on walk at t es e d left whole h =
    let rest = edges_behind es (e ∷ d ∷ left) (subst (λ l. T (are_edges l)) whole (edges_are t)) in
    record { within = h.within; less = λ j n lt. name_total.trans _ e.0 d.0 (h.less j n lt) (is_less _ (first _ _ (edges_below e (d ∷ left) rest))) }

module _ (names : FinSet name_cmp) (walk : List Name) (t : Tree) where
  pub parted_none : (at : ℕ) → at ≡ 0 → (rest inside outside : List (Name × Tree)) → rest ≡ edges t → inside ≡ [] → outside ≡ []
      → ArePartedSoFar names walk t rest inside outside at
  parted_none at zero rest inside outside all one two = record {
    parted = [];
    whole = sym all;
    is_inside = one;
    is_outside = two;
    passed = λ e left is. record { within = omega (arith, zero); less = λ j d lt. absurd (omega (arith, zero, lt)) };
  }

  module _ (rest left inside outside : List (Name × Tree)) (at next : ℕ) (e : Name × Tree) (h : ArePartedSoFar names walk t rest inside outside at)
      (is : rest ≡ e ∷ left) (passed : ArePassed walk next e.0) where
    whole : edges t ≡ h.parted ++ e ∷ left
    whole = h.whole ∙ ap (λ l. h.parted ++ l) is

    later : (d : Name × Tree) (more : List (Name × Tree)) → left ≡ d ∷ more → ArePassed walk next d.0
    later d more more_is = passed_on walk next t h.parted e d more (whole ∙ ap (λ l. h.parted ++ e ∷ l) more_is) passed

    pub parted_inside : contains names e.0 ≡ true → (to : List (Name × Tree)) → to ≡ inside ++ e ∷ [] → ArePartedSoFar names walk t left to outside next
    parted_inside found to put = record {
      parted = h.parted ++ e ∷ [];
      whole = whole ∙ moved h.parted left e;
      is_inside = put ∙ ap (λ l. l ++ e ∷ []) h.is_inside ∙ sym (kept (contains names) h.parted e found);
      is_outside = h.is_outside ∙ sym (left_out (λ n. not (contains names n)) h.parted e (ap not found));
      passed = later;
    }

    pub parted_outside : contains names e.0 ≡ false → (to : List (Name × Tree)) → to ≡ outside ++ e ∷ [] → ArePartedSoFar names walk t left inside to next
    parted_outside absent to put = record {
      parted = h.parted ++ e ∷ [];
      whole = whole ∙ moved h.parted left e;
      is_inside = h.is_inside ∙ sym (left_out (contains names) h.parted e absent);
      is_outside = put ∙ ap (λ l. l ++ e ∷ []) h.is_outside ∙ sym (kept (λ n. not (contains names n)) h.parted e (ap not absent));
      passed = later;
    }

  module _ (rest inside outside : List (Name × Tree)) (at : ℕ) (h : ArePartedSoFar names walk t rest inside outside at) (over : rest ≡ []) where
    all : h.parted ≡ edges t
    all = sym (nil h.parted) ∙ ap (λ l. h.parted ++ l) (sym over) ∙ sym h.whole
      where
        nil : (es : List (Name × Tree)) → es ++ [] ≡ es
        nil [] = refl
        nil (e ∷ es) = ap (λ l. e ∷ l) (nil es)

    pub inside_is : inside ≡ filter (λ (e : Name × Tree). contains names e.0) (edges t)
    inside_is = h.is_inside ∙ ap (filter (λ (e : Name × Tree). contains names e.0)) all

    pub outside_is : outside ≡ filter (λ (e : Name × Tree). not (contains names e.0)) (edges t)
    outside_is = h.is_outside ∙ ap (filter (λ (e : Name × Tree). not (contains names e.0))) all
