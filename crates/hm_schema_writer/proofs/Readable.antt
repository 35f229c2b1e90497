-- Nodes that were read can be written.
use Rattle.std.proofs.Common.{◌≡◌, ◌≢◌, ◌⊎◌, inl, inr, ℕ, suc, ◌+◌, ◌<◌, ◌≤◌, ◌^◌, true, List, [], ◌∷◌, length, get_or, All, Option, Some, None, refl, sym, ap, subst, ◌∙◌, arith, slice_get, count_by}
use Rattle.std.specs.Prelude.{codes, IsUtf8}
use Rattle.std.proofs.lemmas.List.{length-map, length_push}
use Rattle.std.proofs.lemmas.List.Elements.{All-nil, All-cons, All-map}
use Rattle.std.proofs.lemmas.Option.{same_Some, slice_get_within, slice_get-get_or}
use Rattle.hm_tree.specs.Names.{Name}
use Rattle.hm_schema.specs.declared.node.NodeId.{NodeId}
use Rattle.hm_schema.specs.Values.{NodeValue}
use Rattle.hm_schema.specs.WellFormed.{IsWellFormedNode}
use Rattle.hm_schema_lines.specs.declared.token.Token.{Token}
use Rattle.hm_schema_lines.specs.declared.token.Token.TheVariants.{Word, Quoted, Question, Plus}
use Rattle.hm_schema_lines.specs.declared.count.Count.{Count}
use Rattle.hm_schema_lines.specs.Tokens.{IsToken, Spaced, alone, before}
use Rattle.hm_schema_lines.specs.Counts.{IsMost}
use Rattle.hm_schema_lines.specs.NodeLines.{NodeLineValue, ShapeValue, node, edge, shape, edge_name, IsTail, IsNodeLine}
use Rattle.hm_schema_lines.specs.Entries.{EntryValue, says}
use Rattle.hm_schema_lines.specs.BadLines.{IsBadNodeLine, Says, begins_node, is_shape, nodes_before, behind, declares_empty, too_many_nodes, too_many_shapes}
use Rattle.hm_schema_lines.specs.FirstBad.{HasNoBad}
use Rattle.hm_schema_lines.specs.Firsts.{node_names}
use Rattle.hm_schema_lines.specs.Nodes.{IsPlaceOf, declared, empty, shapes_in, as_shape, IsNodeOf, AreNodesOf, NamesEmpty, AreTypeNames, empty_node}
use Rattle.hm_schema_writer.specs.WrittenNodes.{IsWritableShape, IsWritableNode, IsWritable}
use Rattle.hm_schema_lines.proofs.Laws.{IsOneOf, all_shapes, at_place, counted, in_file, last, length_names, names_empty_or, nat_cases, no_twins, nodes_formed, of_line, one_of, type_count, type_names_once, type_place, word_utf8}
use Rattle.hm_schema_writer.proofs.Written.{AreSound}
use Rattle.hm_schema_writer.proofs.SortedEntries.{find_in}
use Rattle.hm_schema_writer.proofs.WrittenShapes.{shape_count}
use Rattle.hm_facts.proofs.Booleans.{is_true}

-- ---- what a line that was read holds

tokens_sound : {ts : List Token} {text : List ℕ} → Spaced ts text → AreSound ts
tokens_sound (alone h) = (h, tt)
tokens_sound (before h gap rest) = (h, tokens_sound rest)

node_word : (line : List ℕ) (w : Name) → IsNodeLine line (node w) → IsToken (Word w)
node_word line w l = (subst AreSound l.says (tokens_sound l.spaced)).1.0

name_text : (t : Token) (k : Name) → edge_name t ≡ Some k → IsToken t → IsUtf8 k
name_text (Word w) k is h = subst IsUtf8 (same_Some w k is) (word_utf8 w (is_true _ h.1))
name_text (Quoted q) k is h = subst IsUtf8 (same_Some q k is) h
name_text Question k is h = let f : ⊥ = cc in absurd f
name_text Plus k is h = let f : ⊥ = cc in absurd f

edge_text : (line : List ℕ) (k w : Name) → IsNodeLine line (edge k w) → IsUtf8 k
edge_text line k w l = name_text l.says.0 k l.says.1 (subst AreSound l.says.2 (tokens_sound l.spaced)).1.0

most_fits : (bytes : List ℕ) (m : Option ℕ) → IsMost bytes m → (n : ℕ) → m ≡ Some n → n < 2 ^ 64
most_fits bytes None h n is = let f : ⊥ = cc in absurd f
most_fits bytes (Some m) h n is = subst (λ z. z < 2 ^ 64) (same_Some m n is) h.fits

none_fits : (n : ℕ) → n ≡ 0 → n < 2 ^ 64
none_fits n is = omega (arith, is)

tail_least : (ts : List Token) (c : Count) → IsTail ts c → c.least < 2 ^ 64
tail_least [] c h = none_fits c.least h.0
tail_least (t ∷ ts) c h = h.2.least.fits

tail_most : (ts : List Token) (c : Count) → IsTail ts c → (n : ℕ) → c.most ≡ Some n → n < 2 ^ 64
tail_most [] c h n is = none_fits n (same_Some n 0 (sym is ∙ h.1))
tail_most (t ∷ ts) c h n is = most_fits h.2.rest c.most h.2.most n is

shape_fits : (line : List ℕ) (s : ShapeValue) → IsNodeLine line (shape s) → IsWritableShape (as_shape s)
shape_fits line s l = record { least = tail_least l.says.2.tail s.count l.says.2.count; most = tail_most l.says.2.tail s.count l.says.2.count }

shape_entry : (e : EntryValue) → is_shape e ≡ true → (s : ShapeValue) × (e ≡ says (shape s))
shape_entry (says (shape s)) told = (s, refl)
shape_entry e told = let f : ⊥ = cc in absurd f

abbrev pub AreRead : List EntryValue → Type 0
AreRead es = (i : ℕ) (x : NodeLineValue) → Says es i x → (line : List ℕ) × IsNodeLine line x

empty_writable : (count : ℕ) (n : NodeValue) → n ≡ empty_node → (All (λ (child : Name × NodeId). IsUtf8 child.0) n.children)
    × All IsWritableShape n.shapes × (length n.shapes ≤ 256)
empty_writable count n same = subst (λ (m : NodeValue). (All (λ (child : Name × NodeId). IsUtf8 child.0) m.children)
    × All IsWritableShape m.shapes × (length m.shapes ≤ 256)) (sym same)
    (All-nil _, All-cons IsWritableShape _ [] (record { least = none_fits 0 refl; most = λ n is. none_fits n (sym (same_Some 0 n is)) }) (All-nil _), omega arith)

module _ (es : List EntryValue) (sound : HasNoBad (IsBadNodeLine es)) (read : AreRead es) where
  -- ---- the node of a line

  module _ (i : ℕ) (w : Name) (is : Says es i (node w)) (n : NodeValue) (one : IsNodeOf es (behind es i) n) where
    texts : All (λ (child : Name × NodeId). IsUtf8 child.0) n.children
    texts j d lt =
        let child = get_or n.children j d in
        let found = find_in n.children one.ascending j child.0 child.1 (slice_get-get_or n.children j d lt) in
        let l = (one.children child.0 child.1).0 found in
        let m = at_place (behind es i) (says (edge child.0 l.0)) l.1 in
        let f = in_file es i w is m.0 (says (edge child.0 l.0)) m.1 in
        let r = read (suc i + m.0) (edge child.0 l.0) f.at in
        edge_text r.0 child.0 l.0 r.1

    fit : All IsWritableShape n.shapes
    fit =
        let all = all_shapes (λ s. IsWritableShape (as_shape s)) (behind es i) (λ s c.
        let m = at_place (behind es i) (says (shape s)) c in
        let f = in_file es i w is m.0 (says (shape s)) m.1 in
        let r = read (suc i + m.0) (shape s) f.at in
        shape_fits r.0 s r.1) in
        subst (All IsWritableShape) (sym one.shapes) (All-map IsWritableShape as_shape (shapes_in (behind es i)) all)

    few_shapes : length n.shapes ≤ 256
    few_shapes = go (nat_cases 256 (length n.shapes))
      where
        long : length n.shapes ≡ count_by is_shape (behind es i)
        long = ap length one.shapes ∙ length-map (shapes_in (behind es i)) as_shape ∙ sym (shape_count (behind es i))

        go : (256 < length n.shapes) ⊎ (length n.shapes ≤ 256) → length n.shapes ≤ 256
        go (inr few) = few
        go (inl many) =
            let c = counted is_shape (behind es i) 256 (omega (arith, many, long)) in
            let s = shape_entry c.entry c.counted in
            let f = in_file es i w is c.place c.entry c.is in
            absurd (sound (suc i + c.place) (too_many_shapes {s = s.0} (f.at ∙ ap Some s.1)
            (omega (arith, ap (count_by is_shape) f.earlier_are, c.before))))

  -- ---- all nodes

  module _ (own names : List Name) (nodes : List NodeValue) (t : AreNodesOf es own nodes) (n : AreTypeNames es own names) where
    place : (i : ℕ) (w : Name) → slice_get names i ≡ Some w → IsPlaceOf es w i
    place = type_place es sound own names nodes n t

    word_at : (w : Name) (i : ℕ) → IsPlaceOf es w i → IsToken (Word w)
    word_at w _ (declared j is) = let r = read j (node w) is in node_word r.0 w r.1
    word_at _ _ empty = (omega arith, tt)

    below : (w : Name) (i : ℕ) → IsPlaceOf es w i → w ≢ codes "Empty" → i < 1000
    below w _ (declared j is) differs = go (nat_cases (nodes_before es j) 1000)
      where
        go : (nodes_before es j < 1000) ⊎ (1000 ≤ nodes_before es j) → nodes_before es j < 1000
        go (inl few) = few
        go (inr many) = absurd (sound j (too_many_nodes is many))
    below _ _ empty differs = absurd (differs refl)

    empty_place : (w : Name) (i : ℕ) → IsPlaceOf es w i → w ≡ codes "Empty" → i ≡ count_by begins_node es
    empty_place w _ (declared j is) same = absurd (sound j (declares_empty (subst (λ (v : Name). Says es j (node v)) same is)))
    empty_place _ _ empty same = refl

    -- where `Empty` isn't named, no name is `Empty`
    pub no_declared_empty : ¬ (NamesEmpty es own) → (i : ℕ) → ¬ (slice_get names i ≡ Some (codes "Empty"))
    no_declared_empty not_it i is =
        let at = empty_place (codes "Empty") i (place i (codes "Empty") is) refl in
        omega (arith, at, ap length (n.short not_it), length_names es, slice_get_within names i (codes "Empty") is)

    last_one : (i : ℕ) → slice_get names i ≡ Some (codes "Empty") → (suc i ≡ length names) × (slice_get nodes i ≡ Some empty_node)
    last_one i is = go (names_empty_or es own)
      where
        at : i ≡ count_by begins_node es
        at = empty_place (codes "Empty") i (place i (codes "Empty") is) refl

        go : NamesEmpty es own ⊎ (NamesEmpty es own → ⊥) → (suc i ≡ length names) × (slice_get nodes i ≡ Some empty_node)
        go (inl it) = (
          omega (arith, at, ap length (n.long it), length_push (node_names es) (codes "Empty"), length_names es),
          ap (slice_get nodes) at ∙ t.empty it,
        )
        go (inr not_it) = absurd (no_declared_empty not_it i is)

    writable_node : (k : ℕ) (m : NodeValue) → slice_get nodes k ≡ Some m → IsWellFormedNode (length nodes) m → IsWritableNode (length nodes) m
    writable_node k m is formed = go (one_of es own nodes t k m is)
      where
        go : IsOneOf es own k m → IsWritableNode (length nodes) m
        go (of_line i w begun order one) = record {
          formed = formed;
          twins = no_twins es own nodes t k m is;
          texts = texts i w begun m one;
          shapes = fit i w begun m one;
          few_shapes = few_shapes i w begun m one;
        }
        go (last it at same) =
            let e = empty_writable (length nodes) m same in
            record { formed = formed; twins = no_twins es own nodes t k m is; texts = e.0; shapes = e.1; few_shapes = e.2 }

    pub readable_nodes : IsWritable names nodes
    readable_nodes = record {
      named = type_count es sound own names nodes n t;
      once = type_names_once es sound own names nodes n t;
      words = λ i w is. word_at w i (place i w is);
      each = λ k d lt. writable_node k (get_or nodes k d) (slice_get-get_or nodes k d lt) (nodes_formed es own nodes sound t k d lt);
      few = λ i w is differs. below w i (place i w is) differs;
      last = last_one;
    }
