-- A round of refining: each vertex gets the first one with its key.
use Rattle.std.proofs.Common.{◌≡◌, ℕ, ◌+◌, ◌<◌, cond, List, [], ◌∷◌, ◌++◌, length, Option, Some, None, inl, inr, refl, sym, ap, subst, ◌∙◌, arith, length-append}
use Rattle.std.specs.declared.cmp.Ordering.{Ordering}
use Rattle.std.specs.declared.cmp.Ordering.TheVariants.{Less, Equal, Greater}
use Rattle.std.specs.Ordering.{is_eq}
use Rattle.std.specs.Option.{unwrap_or}
use Rattle.std.specs.BTreeMap.{BTreeMap, get}
use Rattle.std.specs.Map.{lookup}
use Rattle.std.proofs.lemmas.Bool.{cases_lt}
use Rattle.std.proofs.lemmas.List.{get_or_append_left, get_or_push}
use Rattle.std.proofs.lemmas.Option.{same_Some, none-some}
use Rattle.hm_graph.specs.Same.{Graph}
use Rattle.hm_graph_classes.specs.Reduced.{class_at}
use Rattle.hm_graph_classes.specs.Indexed.{Key, key_cmp}
use Rattle.hm_graph_classes.specs.Partitions.{classes_below, IsKey, HaveOneKey, IsFirst, IsRefined, IsRefining}
use Rattle.hm_graph_classes.proofs.Ties.{AreEqual, key_total, key_equal, key_ties}
use Rattle.hm_graph_classes.proofs.Partitions.{key_refl, key_sym}

pub round_begins : (g : Graph) (old new : List ℕ) (m : BTreeMap Key ℕ) → new ≡ [] → m.entries ≡ [] → IsRefining g old new 0 m
round_begins g old new m none empty = record {
  size = ap length none;
  first = λ i lt. absurd (omega (arith, lt));
  there = λ q r e. absurd (none-some r (sym (ap (lookup (λ k. is_eq (key_cmp q k))) empty) ∙ e));
  has = λ q i lt k. absurd (omega (arith, lt));
}

-- keys that tie have one value
pub tied_gets : (m : BTreeMap Key ℕ) (q p : Key) → key_cmp q p ≡ Equal → get key_cmp m q ≡ get key_cmp m p
tied_gets m q p e = λ t. lookup (λ k. is_eq (key_total.congr q p k e t)) m.entries

module _ (g : Graph) (cs : List ℕ) where
  key_moves : (i : ℕ) (q p : Key) → AreEqual q p → IsKey g cs i q → IsKey g cs i p
  key_moves i q p e k = record { label = k.label ∙ ap Some e.label; numbers = sym e.items ∙ k.numbers }

  parts : (a b : ℕ) (xs ys : List ℕ) → a ∷ xs ≡ b ∷ ys → (a ≡ b) × (xs ≡ ys)
  parts a b xs ys e = (cc, cc)

  keys_same : (i j : ℕ) (q : Key) → IsKey g cs i q → IsKey g cs j q → HaveOneKey g cs i j
  keys_same i j q h k =
      let same = parts (class_at cs i) (class_at cs j) (classes_below g cs i) (classes_below g cs j) (sym h.numbers ∙ k.numbers) in
      record { class = same.0; label = h.label ∙ sym k.label; below = same.1 }

  pub key_shared : (i j : ℕ) (q : Key) → IsKey g cs i q → HaveOneKey g cs i j → IsKey g cs j q
  key_shared i j q h e = record { label = sym e.label ∙ h.label; numbers = h.numbers ∙ (λ t. e.class t ∷ e.below t) }

  pub keys_tie : (i : ℕ) (q p : Key) → IsKey g cs i q → IsKey g cs i p → key_cmp q p ≡ Equal
  keys_tie i q p h k = key_ties q p (same_Some q.0 p.0 (sym h.label ∙ k.label)) (h.numbers ∙ sym k.numbers)

module _ (g : Graph) (old new : List ℕ) (i : ℕ) (known after : BTreeMap Key ℕ) (h : IsRefining g old new i known) (q : Key) (k : IsKey g old i q)
    (r : ℕ) (is : r ≡ unwrap_or (get key_cmp known q) i)
    (put : (p : Key) → get key_cmp after p ≡ cond (is_eq (key_cmp q p)) (Some r) (get key_cmp known p)) where
  first_is : IsFirst g old i r × IsKey g old r q
  first_is = go (get key_cmp known q) refl
    where
      go : (x : Option ℕ) → get key_cmp known q ≡ x → IsFirst g old i r × IsKey g old r q
      go None e =
          let same : r ≡ i = is ∙ ap (λ x. unwrap_or x i) e in (
            record {
              low = omega (arith, same);
              alike = subst (λ r. HaveOneKey g old r i) (sym same) (key_refl g old i);
              none = λ j lt one. none-some (class_at new j) (sym e ∙ h.has q j (omega (arith, lt, same))
                  (key_shared g old i j q k (key_sym g old j i one)));
            },
            subst (λ r. IsKey g old r q) (sym same) k,
          )
      go (Some s) e =
          let same : r ≡ s = is ∙ ap (λ x. unwrap_or x i) e in
          let w = h.there q s e in
          let has : IsKey g old r q = subst (λ r. IsKey g old r q) (sym same) w.1 in (
            record {
              low = let lt : s < i = w.0 in omega (arith, same);
              alike = keys_same g old r i q has k;
              none = λ j lt one.
                  let below : s < i = w.0 in
                  let inside : j < i = omega (arith, lt, same) in
                  let at = h.has q j inside (key_shared g old i j q k (key_sym g old j i one)) in
                  let is : s ≡ class_at new j = same_Some s (class_at new j) (sym e ∙ at) in
                  let low = (h.first j inside).low in
                  let f : ⊥ = absurd (omega (arith, lt, same, is, low)) in f;
            },
            has,
          )

  at_before : (j : ℕ) → j < i → class_at (new ++ r ∷ []) j ≡ class_at new j
  at_before j lt = get_or_append_left new (r ∷ []) 0 j (omega (arith, lt, h.size))

  at_end : class_at (new ++ r ∷ []) i ≡ r
  at_end = get_or_push new r 0 i h.size

  tied : (p : Key) → key_cmp q p ≡ Equal → get key_cmp after p ≡ Some r
  tied p e = put p ∙ ap (λ o. cond (is_eq o) (Some r) (get key_cmp known p)) e

  there : (p : Key) (s : ℕ) (o : Ordering) → key_cmp q p ≡ o → get key_cmp after p ≡ Some s → (s < i + 1) × IsKey g old s p
  there p s Less e f = let w = h.there p s (sym (put p ∙ ap (λ o. cond (is_eq o) (Some r) (get key_cmp known p)) e) ∙ f) in (omega (arith, w.0), w.1)
  there p s Greater e f = let w = h.there p s (sym (put p ∙ ap (λ o. cond (is_eq o) (Some r) (get key_cmp known p)) e) ∙ f) in (omega (arith, w.0), w.1)
  there p s Equal e f =
      let same : r ≡ s = same_Some r s (sym (tied p e) ∙ f) in
      let low = first_is.0.low in (
        omega (arith, same, low),
        subst (λ s. IsKey g old s p) same (key_moves g old r q p (key_equal q p e) first_is.1),
      )

  has : (p : Key) (j : ℕ) → j < i + 1 → IsKey g old j p → get key_cmp after p ≡ Some (class_at (new ++ r ∷ []) j)
  has p j lt w = elim (cases_lt j i) [
    | inl less ↦ before less (key_cmp q p) refl
    | inr le ↦
        let e : i ≡ j = omega arith in
        let tie = keys_tie g old i q p k (subst (λ j. IsKey g old j p) (sym e) w) in
        tied p tie ∙ ap Some (sym at_end) ∙ ap (λ j. Some (class_at (new ++ r ∷ []) j)) e
  ]
    where
      at : j < i → get key_cmp known p ≡ Some (class_at (new ++ r ∷ []) j)
      at less = h.has p j less w ∙ ap Some (sym (at_before j less))

      before : j < i → (o : Ordering) → key_cmp q p ≡ o → get key_cmp after p ≡ Some (class_at (new ++ r ∷ []) j)
      before less Less e = put p ∙ ap (λ o. cond (is_eq o) (Some r) (get key_cmp known p)) e ∙ at less
      before less Greater e = put p ∙ ap (λ o. cond (is_eq o) (Some r) (get key_cmp known p)) e ∙ at less
      before less Equal e =
          let same : get key_cmp known q ≡ Some (class_at (new ++ r ∷ []) j) = tied_gets known q p e ∙ at less in
          tied p e ∙ ap Some (is ∙ ap (λ x. unwrap_or x i) same)

  pub round_more : IsRefining g old (new ++ r ∷ []) (i + 1) after
  round_more = record {
    size = omega (arith, length-append new (r ∷ []), h.size);
    first = λ j lt. elim (cases_lt j i) [
      | inl less ↦ subst (IsFirst g old j) (sym (at_before j less)) (h.first j less)
      | inr le ↦
          let e : i ≡ j = omega arith in
          subst (λ j. IsFirst g old j (class_at (new ++ r ∷ []) j)) e (subst (IsFirst g old i) (sym at_end) first_is.0)
    ];
    there = λ p s e. there p s (key_cmp q p) refl e;
    has = has;
  }

pub round_ends : (g : Graph) (old new : List ℕ) (i : ℕ) (known : BTreeMap Key ℕ) → IsRefining g old new i known → i ≡ length g → IsRefined g old new
round_ends g old new i known h e = record { size = h.size ∙ e; first = λ j lt. h.first j (omega (arith, lt, e)) }
