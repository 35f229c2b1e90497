-- Beginnings that leave many braces open: a value that goes on so is as deep.
use Rattle.std.proofs.Common.{◌≡◌, ℕ, zero, suc, ◌+◌, ◌<◌, ◌≤◌, ◌⊎◌, inl, inr, Bool, true, T, List, [], ◌∷◌, ◌++◌, length, refl, sym, ap, subst, ◌∙◌, append_assoc, arith}
use Rattle.std.specs.List.{AllByRecursion}
use Rattle.std.specs.Str.{IsUtf8}
use Rattle.hm_tree.specs.Names.{Name}
use Rattle.hm_tree.specs.Nodes.{bare, Node, are_edges, edges_rise, edges, depth, deepest}
use Rattle.hm_tree.specs.NodeLaws.{edges_are, depth-edges}
use Rattle.hm_tree_spelling.specs.Spelling.{spelled}
use Rattle.hm_tree_spelling.specs.SpellingLaws.{spelled_one, spelled-append}
use Rattle.hm_tree_text.specs.Text.{whole, below, text, HasAllowedMarks, edge_text, separator, is_more, inside, commas}
use Rattle.hm_tree_text.specs.Opening.{Opens, opens_one, opens_more}
use Rattle.hm_tree_text.specs.Reading.{is_behind, IsAfter, IsName, IsEdge, BeginsWith}
use Rattle.hm_tree_text.specs.Failing.{OpensInside, OpensBelow, OpensEdge}
use Rattle.hm_tree_text.proofs.Spelling.{heads, tails, over_separator, no_colon, edge_apart, brace_quote}
use Rattle.hm_tree_text.proofs.Parts.{IsNot}
use Rattle.hm_tree_text.proofs.Behind.{behind_sorted, text_among}
use Rattle.hm_tree_text.proofs.Listed.{Edges, whole_some, below_full, has_edges, IsAllowedEdge, edges_from_marks, all_among}

-- what stands behind a colon
child_behind : (c : Node true) (more : Bool) (z w : List ℕ) → text below c.shape ++ separator more ∷ z ≡ 58 ∷ w
    → (c.shape ≡ bare → ⊥) × (text whole c.shape ++ separator more ∷ z ≡ w)
child_behind c more z w e =
    let some : c.shape ≡ bare → ⊥ = λ n. no_colon (separator more ∷ z) w (over_separator more z)
    (ap (λ s. text below s ++ separator more ∷ z) (sym n) ∙ e) in
    (some, tails 58 58 _ _ (sym (ap (λ l. l ++ separator more ∷ z) (below_full c.shape some)) ∙ e))

edge_regroup : (n : Name) (c : Node true) (more : Bool) (x y : List ℕ)
    → (edge_text n c.shape ++ separator more ∷ x) ++ y ≡ spelled n ++ (text below c.shape ++ separator more ∷ (x ++ y))
edge_regroup n c more x y = append_assoc (edge_text n c.shape) (separator more ∷ x) y
    ∙ append_assoc (spelled n) (text below c.shape) (separator more ∷ (x ++ y))

comma_regroup : (n : Name) (c : Node true) (x y : List ℕ)
    → (edge_text n c.shape ++ 44 ∷ x) ++ y ≡ spelled n ++ (text below c.shape ++ separator true ∷ (x ++ y))
comma_regroup n c x y = append_assoc (edge_text n c.shape) (44 ∷ x) y ∙ append_assoc (spelled n) (text below c.shape) (44 ∷ (x ++ y))

some_more : (gs : Edges) → is_more gs ≡ true → 0 < length gs
some_more [] e = let no : ⊥ = cc in absurd no
some_more (g ∷ gs) e = omega arith

-- what stands behind some edges, a name and a colon, and how deep a node must be that has it there
module _ (inner rest : List ℕ) (name : Name) (j : ℕ)
    (deep : (c : Node true) → (c.shape ≡ bare → ⊥) → (z : List ℕ) → text whole c.shape ++ z ≡ inner ++ rest → j ≤ depth c) where
  deepest_inside : (gs fs : Edges) (y : List ℕ) → 0 < length gs → inside gs ++ y ≡ commas fs ++ (spelled name ++ 58 ∷ (inner ++ rest))
      → j + 1 ≤ deepest gs
  deepest_inside [] fs y some e = absurd (omega arith)
  deepest_inside (g ∷ gs) [] y some e =
      let s = spelled_one g.0 name _ _ (sym (edge_regroup g.0 g.1 (is_more gs) (inside gs) y) ∙ e) in
      let c = child_behind g.1 (is_more gs) (inside gs ++ y) (inner ++ rest) s.1 in
      let d = deep g.1 c.0 _ c.1 in
      omega arith
  deepest_inside (g ∷ gs) (f ∷ fs) y some e =
      let one = edge_apart g.0 f.0 g.1 f.1 (is_more gs) true (inside gs ++ y) _
      (sym (append_assoc (edge_text g.0 g.1.shape) (separator (is_more gs) ∷ inside gs) y) ∙ e
      ∙ append_assoc (edge_text f.0 f.1.shape) (44 ∷ commas fs) _) in
      let d = deepest_inside gs fs y (some_more gs one.2) one.3 in
      omega arith

  -- edges that were read, which aren't so deep, are the first of these; then the name follows, or another edge
  deep_behind : (es fs : Edges) (x : List ℕ) → deepest es ≤ j → commas es ++ x ≡ commas fs ++ (spelled name ++ 58 ∷ (inner ++ rest))
      → ((fs ≡ es) × (x ≡ spelled name ++ 58 ∷ (inner ++ rest)))
      ⊎ ((next : Name × Node true) × (more : Edges) × (z : List ℕ) × (fs ≡ es ++ next ∷ more) × (x ≡ edge_text next.0 next.1.shape ++ 44 ∷ z))
  deep_behind [] [] x le e = inl (refl, e)
  deep_behind [] (f ∷ fs) x le e = inr (f, fs, _, refl, e ∙ append_assoc (edge_text f.0 f.1.shape) (44 ∷ commas fs) _)
  deep_behind (d ∷ es) [] x le e =
      let s = spelled_one d.0 name _ _ (sym (comma_regroup d.0 d.1 (commas es) x) ∙ e) in
      let c = child_behind d.1 true (commas es ++ x) (inner ++ rest) s.1 in
      let no = deep d.1 c.0 _ c.1 in
      absurd (omega arith)
  deep_behind (d ∷ es) (f ∷ fs) x le e =
      let one = edge_apart d.0 f.0 d.1 f.1 true true (commas es ++ x) _
      (sym (append_assoc (edge_text d.0 d.1.shape) (44 ∷ commas es) x) ∙ e ∙ append_assoc (edge_text f.0 f.1.shape) (44 ∷ commas fs) _) in
      elim (deep_behind es fs x (omega arith) one.3) [
        | inl s ↦ inl ((λ i. (sym one.0 i, sym one.1 i) ∷ s.0 i), s.1)
        | inr s ↦ inr (s.0, s.1, s.2, (λ i. (sym one.0 i, sym one.1 i) ∷ s.3 i), s.4)
      ]

first_quote : (es : Edges) (n : Name) (z : List ℕ) → (r : List ℕ) × (commas es ++ (spelled n ++ z) ≡ 34 ∷ r)
first_quote [] n z = (_, spelled-append n z)
first_quote (e ∷ es) n z = (_, comma_regroup e.0 e.1 (commas es) (spelled n ++ z) ∙ spelled-append e.0 _)

module _ (m : Bool) where
  pub opens_brace : (k : ℕ) (s : List ℕ) → Opens m k s → (r : List ℕ) × (s ≡ 123 ∷ r)
  opens_brace _ _ (opens_one k s one is) = ([], is)
  opens_brace _ _ (opens_more k j s inner t name nt un b o kj is) = (_, is)

  pub opens_quote : (k : ℕ) (s : List ℕ) → Opens m k s → 1 < k → (r : List ℕ) × (s ≡ 123 ∷ 34 ∷ r)
  opens_quote _ _ (opens_one k s one is) lt = absurd (omega arith)
  opens_quote _ _ (opens_more k j s inner t name nt un b o kj is) lt = let q = first_quote (edges t) name (58 ∷ inner) in
      (q.0, is ∙ ap (λ l. 123 ∷ l) q.1)

  more_regroup : (t : Node true) (name : Name) (inner rest : List ℕ)
      → (123 ∷ (commas (edges t) ++ (spelled name ++ 58 ∷ inner))) ++ rest ≡ 123 ∷ (commas (edges t) ++ (spelled name ++ 58 ∷ (inner ++ rest)))
  more_regroup t name inner rest = ap (λ l. 123 ∷ l) (append_assoc (commas (edges t)) (spelled name ++ 58 ∷ inner) rest
      ∙ ap (λ l. commas (edges t) ++ l) (append_assoc (spelled name) (58 ∷ inner) rest))

  -- a node that begins so is as deep as braces are left open
  pub opens_depth : (k : ℕ) (s : List ℕ) → Opens m k s → (t : Node true) → (t.shape ≡ bare → ⊥) → (y rest : List ℕ)
      → text whole t.shape ++ y ≡ s ++ rest → k ≤ depth t
  opens_depth _ _ (opens_one k s one is) t some y rest e =
      let none = has_edges t rest y some (e ∙ ap (λ l. l ++ rest) is) in
      let d = depth-edges t in
      let l = by (edges t) none in
      omega arith
    where
      by : (es : Edges) → (length es ≡ 0 → ⊥) → 1 ≤ deepest es
      by [] h = absurd (h refl)
      by (e ∷ es) h = omega arith
  opens_depth _ _ (opens_more k j s inner u name nu un b o kj is) t some y rest e =
      let f = e ∙ ap (λ l. l ++ rest) is ∙ more_regroup u name inner rest in
      let none = has_edges t _ y some f in
      let d = depth-edges t in
      let l = deepest_inside inner rest name j (λ c s z g. opens_depth j inner o c s z rest g) (edges t) (edges u) y
      (positive (length (edges t)) none) (tails 123 123 _ _ (sym (ap (λ l. l ++ y) (whole_some t none)) ∙ f)) in
      omega arith
    where
      positive : (n : ℕ) → (n ≡ 0 → ⊥) → 0 < n
      positive zero h = absurd (h refl)
      positive (suc n) h = omega arith

  module _ (room : ℕ) where
    -- behind the edges that were read, a further one opens so many braces, or is whole
    pub deep_edge : (es : Edges) (x : List ℕ) → deepest es ≤ room + 1 → BeginsWith (OpensInside m room) (commas es ++ x)
        → BeginsWith (OpensEdge m room es) x ⊎ BeginsWith (IsEdge m es) x
    deep_edge es x le h = by (room + 2) (123 ∷ h.part) h.is_form refl refl
      where
        by : (k : ℕ) (s : List ℕ) → Opens m k s → k ≡ room + 2 → s ≡ 123 ∷ h.part → BeginsWith (OpensEdge m room es) x ⊎ BeginsWith (IsEdge m es) x
        by _ _ (opens_one k s one is) ke se = absurd (omega arith)
        by _ _ (opens_more k j s inner u name nu un b o kj is) ke se =
            let je : j ≡ room + 1 = omega arith in
            let e = ap (λ l. 123 ∷ l) h.is ∙ ap (λ l. l ++ h.rest) (sym se ∙ is) ∙ more_regroup u name inner h.rest in
            elim (deep_behind inner h.rest name j (λ c some z g. opens_depth j inner o c some z h.rest g) es (edges u) x (omega arith)
            (tails 123 123 _ _ e)) [
              | inl q ↦ inl (record {
                part = spelled name ++ 58 ∷ inner;
                rest = h.rest;
                is_form = record {
                  name = name;
                  inner = inner;
                  is_text = un;
                  after = subst (λ l. T (is_behind name l)) q.0 b;
                  opens = subst (λ k. Opens m k inner) je o;
                  is = refl;
                };
                is = q.1 ∙ sym (append_assoc (spelled name) (58 ∷ inner) h.rest);
              })
              | inr q ↦
                  let are = subst (λ (l : Edges). T (are_edges l)) q.3 (edges_are u) in
                  let allowed = all_among m es q.0 q.1 (subst (AllByRecursion (IsAllowedEdge m)) q.3 (edges_from_marks m u nu)) in
                  inr (record {
                    part = edge_text q.0.0 q.0.1.shape ++ 44 ∷ [];
                    rest = q.2;
                    is_form = record {
                      name = q.0.0;
                      child = q.0.1;
                      more = true;
                      is_text = text_among q.0 es q.1 are;
                      after = behind_sorted q.0.0 q.0.1 es q.1 (edges_rise _ are);
                      marks = allowed;
                      is = refl;
                    };
                    is = q.4 ∙ sym (append_assoc (edge_text q.0.0 q.0.1.shape) (44 ∷ []) q.2);
                  })
            ]

    -- and so behind the edges of a node that is whole
    pub edge_deep : (t : Node true) → HasAllowedMarks m t.shape → (x : List ℕ) → BeginsWith (OpensEdge m room (edges t)) x
        → BeginsWith (OpensInside m room) (commas (edges t) ++ x)
    edge_deep t nt x h =
        let f = h.is_form in
        record {
          part = commas (edges t) ++ (spelled f.name ++ 58 ∷ f.inner);
          rest = h.rest;
          is_form = opens_more (room + 2) (room + 1) _ f.inner t f.name nt f.is_text f.after f.opens (omega arith) refl;
          is = ap (λ l. commas (edges t) ++ l) (h.is ∙ ap (λ l. l ++ h.rest) f.is)
              ∙ sym (append_assoc (commas (edges t)) (spelled f.name ++ 58 ∷ f.inner) h.rest);
        }

    module _ (es : Edges) (n : Name) where
      pub below_deep : IsUtf8 n → T (is_behind n es) → (s : List ℕ) → OpensBelow m room s → OpensEdge m room es (spelled n ++ s)
      below_deep u b s h = record { name = n; inner = h.inner; is_text = u; after = b; opens = h.opens; is = ap (λ l. spelled n ++ l) h.is }

      pub deep_below : (y : List ℕ) → BeginsWith (OpensEdge m room es) (spelled n ++ y) → BeginsWith (OpensBelow m room) y
      deep_below y h =
          let f = h.is_form in
          record {
            part = 58 ∷ f.inner;
            rest = h.rest;
            is_form = record { inner = f.inner; opens = f.opens; is = refl };
            is = (spelled_one n f.name y (58 ∷ (f.inner ++ h.rest)) (h.is ∙ ap (λ l. l ++ h.rest) f.is
                ∙ append_assoc (spelled f.name) (58 ∷ f.inner) h.rest)).1;
          }

    -- without a name nothing is opened
    pub deep_name : (es : Edges) (last : _) → ((n : Name) → T (is_behind n es) → IsAfter last n) → (y : List ℕ)
        → BeginsWith (OpensEdge m room es) y → BeginsWith (IsName last) y
    deep_name es last same y h =
        let f = h.is_form in
        record {
          part = spelled f.name;
          rest = 58 ∷ (f.inner ++ h.rest);
          is_form = record { name = f.name; is_text = f.is_text; after = same f.name f.after; is = refl };
          is = h.is ∙ ap (λ l. l ++ h.rest) f.is ∙ append_assoc (spelled f.name) (58 ∷ f.inner) h.rest;
        }

    -- without a colon and a brace nothing is opened
    pub deep_colon : (y : List ℕ) → BeginsWith (OpensBelow m room) y → (r : List ℕ) × (y ≡ 58 ∷ 123 ∷ r)
    deep_colon y h =
        let b = opens_brace (room + 1) h.is_form.inner h.is_form.opens in
        (b.0 ++ h.rest, h.is ∙ ap (λ l. l ++ h.rest) (h.is_form.is ∙ ap (λ l. 58 ∷ l) b.1))

    -- what was read behind a name opens less
    pub shallow_below : (c : Node true) → depth c ≤ room → (y : List ℕ) → (c.shape ≡ bare → IsNot 58 y)
        → BeginsWith (OpensBelow m room) (text below c.shape ++ y) → ⊥
    shallow_below c le y alone h =
        let f = h.is_form in
        let e = h.is ∙ ap (λ l. l ++ h.rest) f.is in
        let some : c.shape ≡ bare → ⊥ = λ n. alone n _ (ap (λ s. text below s ++ y) (sym n) ∙ e) in
        let d = opens_depth (room + 1) f.inner f.opens c some y h.rest (tails 58 58 _ _ (ap (λ l. l ++ y) (sym (below_full c.shape some)) ∙ e)) in
        omega arith

  -- a node behind a colon and a brace
  pub inside_deep : (room r : ℕ) → room ≡ r + 1 → (s : List ℕ) → OpensInside m r s → OpensBelow m room ((58 ∷ 123 ∷ []) ++ s)
  inside_deep room r e s h = record {
    inner = 123 ∷ s;
    opens = subst (λ k. Opens m k (123 ∷ s)) (let f : r + 2 ≡ room + 1 = omega arith in f) h;
    is = refl;
  }

  deep_tail : (k : ℕ) (inner rest y : List ℕ) → Opens m k inner → inner ++ rest ≡ 123 ∷ y → BeginsWith (λ s. Opens m k (123 ∷ s)) y
  deep_tail k inner rest y o e =
      let b = opens_brace k inner o in
      record { part = b.0; rest = rest; is_form = subst (Opens m k) b.1 o; is = tails 123 123 _ _ (sym e ∙ ap (λ l. l ++ rest) b.1) }

  pub deep_inside : (room r : ℕ) → room ≡ r + 1 → (y : List ℕ) → BeginsWith (OpensBelow m room) ((58 ∷ 123 ∷ []) ++ y)
      → BeginsWith (OpensInside m r) y
  deep_inside room r e y h =
      let f = h.is_form in
      deep_tail (r + 2) f.inner h.rest y (subst (λ k. Opens m k f.inner) (let g : room + 1 ≡ r + 2 = omega arith in g) f.opens)
      (tails 58 58 _ _ (sym (h.is ∙ ap (λ l. l ++ h.rest) f.is)))

  -- the root
  pub root_deep : (k : ℕ) (y : List ℕ) → BeginsWith (Opens m k) (123 ∷ y) → BeginsWith (λ s. Opens m k (123 ∷ s)) y
  root_deep k y h = deep_tail k h.part h.rest y h.is_form (sym h.is)

  -- a node that was read, with what stands behind it, isn't so deep
  pub shallow_whole : (k : ℕ) → 1 < k → (t : Node true) → depth t < k → (y : List ℕ) → BeginsWith (Opens m k) (text whole t.shape ++ y) → ⊥
  shallow_whole k lt t shallow y h =
      let q = opens_quote k h.part h.is_form lt in
      let some : t.shape ≡ bare
      → ⊥ = λ n. heads 125 34 _ _ (tails 123 123 _ _ (ap (λ s. text whole s ++ y) (sym n) ∙ h.is ∙ ap (λ l. l ++ h.rest) q.1)) brace_quote in
      let d = opens_depth k h.part h.is_form t some y h.rest h.is in
      omega arith
