-- The maps of a graph as one more vertex stands behind it.
use Rattle.std.proofs.Common.{◌≡◌, ℕ, ◌+◌, ◌<◌, List, [], ◌∷◌, ◌++◌, length, slice_get, Some, None, All, refl, sym, ap, subst, ◌∙◌, arith, length-append}
use Rattle.std.specs.BTreeMap.{BTreeMap, get, Updates, IsUnchanged}
use Rattle.std.proofs.lemmas.Option.{same_Some, none-some}
use Rattle.std.proofs.lemmas.List.Elements.{All-head, All-tail, All-cons, All-nil, All-weaker}
use Rattle.hm_graph.specs.declared.sameness.Vertex.{Vertex}
use Rattle.hm_graph.specs.Same.{Graph}
use Rattle.hm_graph_classes.specs.Reduced.{IsReduced, HasVertex}
use Rattle.hm_graph_classes.specs.Indexed.{Key, key_cmp, Loop, loop_cmp, IsUnder, IsLoop, AreKnown, AreLoops, IsIndexed}
use Rattle.hm_graph_classes.proofs.Places.{at_last}
use Rattle.hm_graph_classes.proofs.Ties.{key_equal, key_ties, loop_equal, loop_ties}
use Rattle.hm_graph_classes.proofs.Found.{finds_as, finds_none, finds_one, finds_kept, gets_unchanged}
use Rattle.hm_graph_classes.proofs.Grown.{has_front}
use Rattle.hm_graph_classes.proofs.Fresh.{has_once, loop_once, reduced_more, alike_has, alike_loop}

-- ---- the next vertex of a reduced graph is put into the maps

module _ (g : Graph) (r : IsReduced g) (i : ℕ) (v : Vertex) (at : slice_get g i ≡ Some v) where
  vertex_is : (label : ℕ) (next : List ℕ) → HasVertex g i label next → (v.label ≡ label) × (v.next.items ≡ next)
  vertex_is label next h =
      let same : h.vertex ≡ v = same_Some h.vertex v (sym h.is ∙ at) in
      (sym (ap (λ (v : Vertex). v.label) same) ∙ h.label_is, sym (ap (λ (v : Vertex). v.next.items) same) ∙ h.next_is)

  pub known_next : (old new : BTreeMap Key ℕ) (key : Key) → v.label ≡ key.0 → v.next.items ≡ key.1.items → AreKnown g i old
      → Updates key_cmp old new key (Some i) → AreKnown g (i + 1) new
  known_next old new key label next h put = finds_one key_cmp (IsUnder g) i old h new key put
      (λ q e. let same = key_equal key q e in record { vertex = v; is = at; label_is = label ∙ same.label; next_is = next ∙ same.items })
      (λ q w. let is = vertex_is q.0 q.1.items w in key_ties key q (sym label ∙ is.0) (sym next ∙ is.1))
      (λ q c lt w u. let e : c ≡ i = has_once g r c i q.0 q.1.items w u in absurd (omega (arith, lt, e)))

  pub loops_next : (old new : BTreeMap Loop ℕ) (key : Loop) → v.label ≡ key.0 → v.next.items ≡ key.1 ∷ i ∷ [] → AreLoops g i old
      → Updates loop_cmp old new key (Some i) → AreLoops g (i + 1) new
  loops_next old new key label next h put = finds_one loop_cmp (IsLoop g) i old h new key put
      (λ q e. subst (λ q. IsLoop g q i) (loop_equal key q e) (record { vertex = v; is = at; label_is = label; next_is = next }))
      (λ q w.
      let is = vertex_is q.0 (q.1 ∷ i ∷ []) w in
      let first : key.1 ≡ q.1 = let e : key.1 ∷ i ∷ [] ≡ q.1 ∷ i ∷ [] = sym next ∙ is.1 in cc in
      loop_ties key q (sym label ∙ is.0) first)
      (λ q c lt w u. let e : c ≡ i = loop_once g r c i q.0 q.1 w u in absurd (omega (arith, lt, e)))

  pub loops_same : (old : BTreeMap Loop ℕ) → ((first : ℕ) → ¬ (v.next.items ≡ first ∷ i ∷ [])) → AreLoops g i old → AreLoops g (i + 1) old
  loops_same old off h = finds_none loop_cmp (IsLoop g) i old h (λ q w. off q.1 (vertex_is q.0 (q.1 ∷ i ∷ []) w).1)

-- ---- a vertex behind a reduced graph

module _ (g : Graph) (v : Vertex) (r : IsReduced g) (s : IsReduced (g ++ v ∷ [])) where
  size : length (g ++ v ∷ []) ≡ length g + 1
  size = length-append g (v ∷ [])

  pub known_more : (old new : BTreeMap Key ℕ) (key : Key) → v.label ≡ key.0 → v.next.items ≡ key.1.items → AreKnown g (length g) old
      → Updates key_cmp old new key (Some (length g)) → AreKnown (g ++ v ∷ []) (length (g ++ v ∷ [])) new
  known_more old new key label next h put =
      subst (λ n. AreKnown (g ++ v ∷ []) n new) (sym size)
      (known_next (g ++ v ∷ []) s (length g) v (at_last g v) old new key label next
      (finds_as key_cmp (IsUnder g) (IsUnder (g ++ v ∷ [])) (length g) old (λ q c lt. has_front g (v ∷ []) r.closed c q.0 q.1.items lt) h) put)

  loops_there : (old : BTreeMap Loop ℕ) → AreLoops g (length g) old → AreLoops (g ++ v ∷ []) (length g) old
  loops_there old h =
      finds_as loop_cmp (IsLoop g) (IsLoop (g ++ v ∷ [])) (length g) old (λ q c lt. has_front g (v ∷ []) r.closed c q.0 (q.1 ∷ c ∷ []) lt) h

  pub loops_more : (old new : BTreeMap Loop ℕ) (key : Loop) → v.label ≡ key.0 → v.next.items ≡ key.1 ∷ length g ∷ [] → AreLoops g (length g) old
      → Updates loop_cmp old new key (Some (length g)) → AreLoops (g ++ v ∷ []) (length (g ++ v ∷ [])) new
  loops_more old new key label next h put =
      subst (λ n. AreLoops (g ++ v ∷ []) n new) (sym size)
      (loops_next (g ++ v ∷ []) s (length g) v (at_last g v) old new key label next (loops_there old h) put)

  pub loops_kept : (old : BTreeMap Loop ℕ) → All (λ k. k < length g) v.next.items → AreLoops g (length g) old
      → AreLoops (g ++ v ∷ []) (length (g ++ v ∷ [])) old
  loops_kept old edges h =
      subst (λ n. AreLoops (g ++ v ∷ []) n old) (sym size)
      (loops_same (g ++ v ∷ []) s (length g) v (at_last g v) old (λ first e.
      let In : ℕ → Type 0 = λ k. k < length g in
      let all : All In (first ∷ length g ∷ []) = subst (All In) e edges in
      let lt : length g < length g = All-head In (length g) [] (All-tail In first (length g ∷ []) all) in
      absurd (omega (arith, lt))) (loops_there old h))

module _ (g : Graph) (known new : BTreeMap Key ℕ) (loops : BTreeMap Loop ℕ) (h : IsIndexed g known loops) (v : Vertex) (key : Key)
    (label : v.label ≡ key.0) (next : v.next.items ≡ key.1.items) (put : Updates key_cmp known new key (Some (length g))) where
  -- one that isn't there, with edges to those that are
  module _ (edges : All (λ k. k < length g) key.1.items) (absent : get key_cmp known key ≡ None) where
    inside : All (λ k. k < length g) v.next.items
    inside = subst (All (λ k. k < length g)) (sym next) edges

    added_reduced : IsReduced (g ++ v ∷ [])
    added_reduced = reduced_more g v h.reduced (All-weaker (λ k. k < length g) (λ k. k < length g + 1) (λ k lt. omega (arith, lt)) v.next.items inside)
        (λ j lt a.
        let w = alike_has g v h.reduced inside j lt a in
        let has : HasVertex g j key.0 key.1.items = record { vertex = w.vertex; is = w.is; label_is = w.label_is ∙ label; next_is = w.next_is ∙ next } in
        none-some j (sym absent ∙ (h.vertices.each key j).1 (lt, has)))

    pub index_added : IsIndexed (g ++ v ∷ []) new loops
    index_added = record {
      reduced = added_reduced;
      vertices = known_more g v h.reduced added_reduced known new key label next h.vertices put;
      to_itself = loops_kept g v h.reduced added_reduced loops inside h.to_itself;
    }

  -- a loop that isn't there, whose first edge leads to one that is
  module _ (after : BTreeMap Loop ℕ) (loop : Loop) (of : key.0 ≡ loop.0) (edges : key.1.items ≡ loop.1 ∷ length g ∷ []) (low : loop.1 < length g)
      (absent : get loop_cmp loops loop ≡ None) (add : Updates loop_cmp loops after loop (Some (length g))) where
    looped_reduced : IsReduced (g ++ v ∷ [])
    looped_reduced = reduced_more g v h.reduced
        (subst (All (λ k. k < length g + 1)) (sym (next ∙ edges))
        (All-cons (λ k. k < length g + 1) loop.1 (length g ∷ []) (omega (arith, low))
        (All-cons (λ k. k < length g + 1) (length g) [] (omega arith) (All-nil (λ k. k < length g + 1)))))
        (λ j lt a.
        let w = alike_loop g v h.reduced loop.1 low (next ∙ edges) j lt a in
        let has : IsLoop g loop j = record { vertex = w.vertex; is = w.is; label_is = w.label_is ∙ label ∙ of; next_is = w.next_is } in
        none-some j (sym absent ∙ (h.to_itself.each loop j).1 (lt, has)))

    pub index_looped : IsIndexed (g ++ v ∷ []) new after
    index_looped = record {
      reduced = looped_reduced;
      vertices = known_more g v h.reduced looped_reduced known new key label next h.vertices put;
      to_itself = loops_more g v h.reduced looped_reduced loops after loop (label ∙ of) (next ∙ edges) h.to_itself add;
    }

-- what the vertex behind a graph has
pub has_last : (g : Graph) (v : Vertex) → HasVertex (g ++ v ∷ []) (length g) v.label v.next.items
has_last g v = record { vertex = v; is = at_last g v; label_is = refl; next_is = refl }

-- maps that find the same serve the same graph
pub index_kept : (g new : Graph) (known after : BTreeMap Key ℕ) (loops others : BTreeMap Loop ℕ) → IsIndexed g known loops → new ≡ g → IsUnchanged known after
    → ((q : Loop) → get loop_cmp others q ≡ get loop_cmp loops q) → IsIndexed new after others
index_kept g new known after loops others h same kept found =
    subst (λ g. IsIndexed g after others) (sym same) (record {
      reduced = h.reduced;
      vertices = finds_kept key_cmp (IsUnder g) (length g) known after (gets_unchanged key_cmp known after kept) h.vertices;
      to_itself = finds_kept loop_cmp (IsLoop g) (length g) loops others found h.to_itself;
    })
