-- The names of the nodes of a file stand at the places of these.
use Rattle.std.proofs.Common.{◌≡◌, ◌⊎◌, inl, inr, ℕ, zero, suc, ◌+◌, ◌<◌, ◌≤◌, List, [], ◌∷◌, ◌++◌, length, get_or, take, drop, slice_get, Some, refl, sym, ap, ◌∙◌, subst, arith}
use Rattle.std.specs.Prelude.{codes, All}
use Rattle.std.proofs.lemmas.Bool.{cases_lt}
use Rattle.std.proofs.lemmas.List.{length_push}
use Rattle.std.proofs.lemmas.Option.{same_Some, slice_get_within, slice_get-get_or}
use Rattle.hm_tree.specs.Names.{Name}
use Rattle.hm_schema.specs.Values.{NodeValue}
use Rattle.hm_schema.specs.WellFormed.{IsWellFormedNode}
use Rattle.hm_schema_lines.specs.Entries.{EntryValue}
use Rattle.hm_schema_lines.specs.BadLines.{IsBadNodeLine, begins_node}
use Rattle.hm_schema_lines.specs.Firsts.{node_names}
use Rattle.hm_schema_lines.specs.FirstBad.{HasNoBad}
use Rattle.hm_schema_lines.specs.Nodes.{IsPlaceOf, declared, empty, NamesEmpty, AreNodesOf, AreTypeNames}
use Rattle.hm_schema_lines.proofs.Declared.{counted, node_line, names_empty_or, place_once, no_twins}
use Rattle.hm_schema_lines.proofs.Judging.{all_names, length_names}
use Rattle.hm_schema_lines.proofs.WellFormed.{nodes_formed}

pub get_middle : {X : Type 0} (xs ys : List X) (x : X) → slice_get (xs ++ x ∷ ys) (length xs) ≡ Some x
get_middle [] ys x = refl
get_middle (y ∷ xs) ys x = get_middle xs ys x

get_before : {X : Type 0} (xs ys : List X) (i : ℕ) → i < length xs → slice_get (xs ++ ys) i ≡ slice_get xs i
get_before [] ys i below = absurd (omega (arith, below))
get_before (x ∷ xs) ys zero below = refl
get_before (x ∷ xs) ys (suc i) below = get_before xs ys i (omega (arith, below))

module _ (es : List EntryValue) where
  -- the name of a node stands at its place
  named_place : (a : ℕ) (w : Name) → slice_get (node_names es) a ≡ Some w → IsPlaceOf es w a
  named_place a w is =
      let below = slice_get_within (node_names es) a w is in
      let c = counted begins_node es a (omega (arith, below, length_names es)) in
      let l = node_line es c.place c.entry c.is c.counted in
      let here : slice_get (node_names es) a ≡ Some l.0 =
      ap (λ z. slice_get z a) (all_names es c.place l.0 l.1)
      ∙ ap (slice_get (node_names (take c.place es) ++ l.0 ∷ node_names (drop (suc c.place) es))) (sym (length_names (take c.place es) ∙ c.before))
      ∙ get_middle (node_names (take c.place es)) (node_names (drop (suc c.place) es)) l.0 in
      let name : l.0 ≡ w = same_Some l.0 w (sym here ∙ is) in
      subst (λ (v : Name). IsPlaceOf es v a) name (subst (IsPlaceOf es l.0) c.before (declared c.place l.1))

  -- nodes are named in one way alone
  pub names_are_one : (own xs ys : List Name) → AreTypeNames es own xs → AreTypeNames es own ys → xs ≡ ys
  names_are_one own xs ys h k = go (names_empty_or es own)
    where
      go : NamesEmpty es own ⊎ (NamesEmpty es own → ⊥) → xs ≡ ys
      go (inl it) = h.long it ∙ sym (k.long it)
      go (inr not_it) = h.short not_it ∙ sym (k.short not_it)

  module _ (sound : HasNoBad (IsBadNodeLine es)) (own names : List Name) (types : List NodeValue) (n : AreTypeNames es own names)
      (t : AreNodesOf es own types) where
    pub type_count : length names ≡ length types
    type_count = go (names_empty_or es own)
      where
        go : NamesEmpty es own ⊎ (NamesEmpty es own → ⊥) → length names ≡ length types
        go (inl it) = ap length (n.long it) ∙ length_push (node_names es) (codes "Empty") ∙ ap (λ z. z + 1) (length_names es) ∙ sym (t.long it)
        go (inr not_it) = ap length (n.short not_it) ∙ length_names es ∙ sym (t.short not_it)

    pub type_place : (a : ℕ) (w : Name) → slice_get names a ≡ Some w → IsPlaceOf es w a
    type_place a w is = go (names_empty_or es own)
      where
        last : NamesEmpty es own → (length (node_names es) ≤ a) → IsPlaceOf es w a
        last it above =
            let at = sym (ap (λ z. slice_get z a) (n.long it)) ∙ is in
            let within = slice_get_within (node_names es ++ codes "Empty" ∷ []) a w at in
            let place : a ≡ length (node_names es) = omega (arith, above, length_push (node_names es) (codes "Empty")) in
            let name : w ≡ codes "Empty" = same_Some w (codes "Empty") (sym at ∙ ap (slice_get (node_names es ++ codes "Empty" ∷ [])) place
            ∙ get_middle (node_names es) [] (codes "Empty")) in
            subst (λ (z : Name × ℕ). IsPlaceOf es z.0 z.1) (λ i. (sym name i, sym (place ∙ length_names es) i)) empty

        go : NamesEmpty es own ⊎ (NamesEmpty es own → ⊥) → IsPlaceOf es w a
        go (inl it) = elim (cases_lt a (length (node_names es))) [
          | inl below ↦ named_place a w (sym (get_before (node_names es) (codes "Empty" ∷ []) a below) ∙ sym (ap (λ z. slice_get z a) (n.long it)) ∙ is)
          | inr above ↦ last it above
        ]
        go (inr not_it) = named_place a w (sym (ap (λ z. slice_get z a) (n.short not_it)) ∙ is)

    pub type_names_once : (i j : ℕ) (w : Name) → slice_get names i ≡ Some w → slice_get names j ≡ Some w → i ≡ j
    type_names_once i j k h g = place_once es sound k i j (type_place i k h) (type_place j k g)

    pub types_formed : All (λ (m : NodeValue). IsWellFormedNode (length types) m × (m.twins ≡ [])) types
    types_formed = λ k d lt.
        (nodes_formed es own types sound t k d lt, no_twins es own types t k (get_or types k d) (slice_get-get_or types k d lt))
