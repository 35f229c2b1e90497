-- Numbers that take vertices apart never take alike ones apart.
use Rattle.std.proofs.Common.{◌≡◌, ℕ, Bool, true, false, ◌+◌, ◌<◌, cond, List, [], ◌∷◌, ◌++◌, length, Some, All, inl, inr, refl, sym, ap, subst, ◌∙◌, arith, length-append}
use Rattle.std.specs.declared.cmp.Ordering.{Ordering}
use Rattle.std.specs.declared.cmp.Ordering.TheVariants.{Less, Equal, Greater}
use Rattle.std.specs.Ordering.{is_eq}
use Rattle.std.specs.Option.{unwrap_or}
use Rattle.std.specs.List.{AllZip}
use Rattle.std.specs.BTreeMap.{BTreeMap, get}
use Rattle.std.proofs.lemmas.Bool.{cases_lt}
use Rattle.std.proofs.lemmas.List.{get_or_append_left, get_or_push}
use Rattle.std.proofs.lemmas.List.Elements.{All-head, All-tail, All-nil, All-cons}
use mathlib.Core.Bool.{true≢false}
use Rattle.hm_graph.specs.Same.{Graph, IsClosed, next_at, AreAlike}
use Rattle.hm_graph.proofs.Alike.{alike_next, alike_sym}
use Rattle.hm_graph_classes.specs.Reduced.{class_at}
use Rattle.hm_graph_classes.specs.Indexed.{Key, key_cmp}
use Rattle.hm_graph_classes.specs.Partitions.{IsKey, HaveOneKey, IsRefined}
use Rattle.hm_graph_classes.specs.Calm.{AreCalm, flag_at}
use Rattle.hm_graph_classes.specs.Apart.{Respects, IsRenumbered, IsRenumbering, IsPut}
use Rattle.hm_graph_classes.proofs.Partitions.{key_sym, key_of_alike, partition_begins, partition_refined, respects_partition}
use Rattle.hm_graph_classes.proofs.Rounds.{tied_gets, key_shared, keys_tie}
use Rattle.hm_graph.proofs.Search.{closed_at}

-- ---- which vertices are calm

bools_same : (a b : Bool) → (a ≡ true → b ≡ true) → (b ≡ true → a ≡ true) → a ≡ b
bools_same true b f g = sym (f refl)
bools_same false true f g = g refl
bools_same false false f g = refl

-- of alike vertices both are calm or none is
abbrev pub CalmAlike : Graph → List Bool → Type 0
CalmAlike g flags = (i j : ℕ) → i < length g → j < length g → AreAlike g i j → flag_at flags i ≡ flag_at flags j

pub none_calm : (g : Graph) (flags : List Bool) → flags ≡ [] → CalmAlike g flags
none_calm g flags e i j one two a = ap (λ l. flag_at l i) e ∙ sym (ap (λ l. flag_at l j) e)

module _ (g : Graph) (closed : IsClosed g) (old new : List ℕ) (h : Respects g old) (k : Respects g new) where
  abbrev Stays : ℕ → Type 0
  Stays x = class_at old x ≡ class_at new x

  stays : (x y : ℕ) → x < length g → y < length g → AreAlike g x y → Stays x → Stays y
  stays x y one two a e = sym (h.alike x y one two a) ∙ e ∙ k.alike x y one two a

  all_stay : (xs ys : List ℕ) → All (λ x. x < length g) xs → All (λ x. x < length g) ys → AllZip (AreAlike g) xs ys → All Stays xs → All Stays ys
  all_stay [] [] p q z s = All-nil Stays
  all_stay [] (y ∷ ys) p q z s = absurd z
  all_stay (x ∷ xs) [] p q z s = absurd z
  all_stay (x ∷ xs) (y ∷ ys) p q z s =
      let In : ℕ → Type 0 = λ x. x < length g in
      All-cons Stays y ys (stays x y (All-head In x xs p) (All-head In y ys q) z.0 (All-head Stays x xs s))
      (all_stay xs ys (All-tail In x xs p) (All-tail In y ys q) z.1 (All-tail Stays x xs s))

  pub calm_alike : (flags : List Bool) → AreCalm g old new flags → CalmAlike g flags
  calm_alike flags c i j one two a =
      bools_same (flag_at flags i) (flag_at flags j)
      (λ t. (c.each j two).1 (all_stay (next_at g i) (next_at g j) (closed_at g i closed) (closed_at g j closed) (alike_next g i j a) ((c.each i one).0 t)))
      (λ t. (c.each i one).1 (all_stay (next_at g j) (next_at g i) (closed_at g j closed) (closed_at g i closed) (alike_next g j i (alike_sym g i j a)) ((c.each j two).0 t)))

-- ---- a round

pub renumbering_begins : (g : Graph) (calm : List Bool) (old new : List ℕ) (m : BTreeMap Key ℕ) → new ≡ [] → IsRenumbering g calm old new 0 m
renumbering_begins g calm old new m e = record {
  size = ap length e;
  kept = λ i lt f. absurd (omega (arith, lt));
  moved = λ i j lt less f k one. absurd (omega (arith, lt));
  has = λ q i lt f k. absurd (omega (arith, lt));
}

module _ (g : Graph) (calm : List Bool) (old new : List ℕ) (i : ℕ) (known : BTreeMap Key ℕ) (h : IsRenumbering g calm old new i known) (r : ℕ) where
  at_before : (j : ℕ) → j < i → class_at (new ++ r ∷ []) j ≡ class_at new j
  at_before j lt = get_or_append_left new (r ∷ []) 0 j (omega (arith, lt, h.size))

  at_end : class_at (new ++ r ∷ []) i ≡ r
  at_end = get_or_push new r 0 i h.size

  size_more : length (new ++ r ∷ []) ≡ i + 1
  size_more = omega (arith, length-append new (r ∷ []), h.size)

  moved_before : (j k : ℕ) → j < i → k < i → flag_at calm j ≡ false → flag_at calm k ≡ false → HaveOneKey g old j k
      → class_at (new ++ r ∷ []) j ≡ class_at (new ++ r ∷ []) k
  moved_before j k lt less e f one = at_before j lt ∙ h.moved j k lt less e f one ∙ sym (at_before k less)

  -- a calm vertex
  module _ (yes_calm : flag_at calm i ≡ true) (same : r ≡ class_at old i) where
    before_calm : (j : ℕ) → j < i + 1 → flag_at calm j ≡ false → j < i
    before_calm j lt f = elim (cases_lt j i) [
      | inl less ↦ less
      | inr le ↦ let e : i ≡ j = omega arith in absurd (true≢false (sym yes_calm ∙ ap (flag_at calm) e ∙ f))
    ]

    pub renumbering_calm : IsRenumbering g calm old (new ++ r ∷ []) (i + 1) known
    renumbering_calm = record {
      size = size_more;
      kept = λ j lt f. elim (cases_lt j i) [
        | inl less ↦ at_before j less ∙ h.kept j less f
        | inr le ↦
            let e : i ≡ j = omega arith in
            subst (λ j. class_at (new ++ r ∷ []) j ≡ class_at old j) e (at_end ∙ same)
      ];
      moved = λ j k lt less e f one. moved_before j k (before_calm j lt e) (before_calm k less f) e f one;
      has = λ q j lt f k. let less = before_calm j lt f in h.has q j less f k ∙ ap Some (sym (at_before j less));
    }

  -- another one
  module _ (not_calm : flag_at calm i ≡ false) (after : BTreeMap Key ℕ) (p : IsPut g old i known after r) where
    number_is : (q : Key) (j : ℕ) → get key_cmp known p.key ≡ Some (class_at new j) → r ≡ class_at new j
    number_is q j e = p.first ∙ ap (λ x. unwrap_or x p.value) e

    shared : (j : ℕ) → j < i → flag_at calm j ≡ false → HaveOneKey g old j i → r ≡ class_at new j
    shared j lt f one = number_is p.key j (h.has p.key j lt f (key_shared g old i j p.key p.is (key_sym g old j i one)))

    tied : (q : Key) → key_cmp p.key q ≡ Equal → get key_cmp after q ≡ Some r
    tied q e = p.put q ∙ ap (λ o. cond (is_eq o) (Some r) (get key_cmp known q)) e

    moved : (j k : ℕ) → j < i + 1 → k < i + 1 → flag_at calm j ≡ false → flag_at calm k ≡ false → HaveOneKey g old j k
        → class_at (new ++ r ∷ []) j ≡ class_at (new ++ r ∷ []) k
    moved j k lt less e f one = elim (cases_lt j i) [
      | inl low ↦ elim (cases_lt k i) [
        | inl under ↦ moved_before j k low under e f one
        | inr le ↦
            let same : i ≡ k = omega arith in
            let is = shared j low e (subst (λ k. HaveOneKey g old j k) (sym same) one) in
            at_before j low ∙ sym is ∙ sym at_end ∙ ap (class_at (new ++ r ∷ [])) same
      ]
      | inr ge ↦
          let here : i ≡ j = omega arith in
          elim (cases_lt k i) [
            | inl under ↦
                let is = shared k under f (key_sym g old i k (subst (λ j. HaveOneKey g old j k) (sym here) one)) in
                sym (ap (class_at (new ++ r ∷ [])) here) ∙ at_end ∙ is ∙ sym (at_before k under)
            | inr le ↦ let same : j ≡ k = omega (arith, here) in ap (class_at (new ++ r ∷ [])) same
          ]
    ]

    has : (q : Key) (j : ℕ) → j < i + 1 → flag_at calm j ≡ false → IsKey g old j q → get key_cmp after q ≡ Some (class_at (new ++ r ∷ []) j)
    has q j lt f w = elim (cases_lt j i) [
      | inl less ↦ before less (key_cmp p.key q) refl
      | inr le ↦
          let e : i ≡ j = omega arith in
          let tie = keys_tie g old i p.key q p.is (subst (λ j. IsKey g old j q) (sym e) w) in
          tied q tie ∙ ap Some (sym at_end) ∙ ap (λ j. Some (class_at (new ++ r ∷ []) j)) e
    ]
      where
        there : j < i → get key_cmp known q ≡ Some (class_at new j)
        there less = h.has q j less f w

        before : j < i → (o : Ordering) → key_cmp p.key q ≡ o → get key_cmp after q ≡ Some (class_at (new ++ r ∷ []) j)
        before less Less e = p.put q ∙ ap (λ o. cond (is_eq o) (Some r) (get key_cmp known q)) e ∙ there less ∙ ap Some (sym (at_before j less))
        before less Greater e = p.put q ∙ ap (λ o. cond (is_eq o) (Some r) (get key_cmp known q)) e ∙ there less ∙ ap Some (sym (at_before j less))
        before less Equal e =
            tied q e ∙ ap Some (number_is q j (tied_gets known p.key q e ∙ there less)) ∙ ap Some (sym (at_before j less))

    pub renumbering_moved : IsRenumbering g calm old (new ++ r ∷ []) (i + 1) after
    renumbering_moved = record {
      size = size_more;
      kept = λ j lt f. elim (cases_lt j i) [
        | inl less ↦ at_before j less ∙ h.kept j less f
        | inr le ↦ let e : i ≡ j = omega arith in absurd (true≢false (sym f ∙ ap (flag_at calm) (sym e) ∙ not_calm))
      ];
      moved = moved;
      has = has;
    }

pub renumbering_ends : (g : Graph) (calm : List Bool) (old new : List ℕ) (i : ℕ) (known : BTreeMap Key ℕ) → IsRenumbering g calm old new i known
    → i ≡ length g → IsRenumbered g calm old new
renumbering_ends g calm old new i known h e = record {
  size = h.size ∙ e;
  kept = λ j lt f. h.kept j (omega (arith, lt, e)) f;
  moved = λ j k lt less f d one. h.moved j k (omega (arith, lt, e)) (omega (arith, less, e)) f d one;
}

-- ---- the rounds

pub respects_begins : (g : Graph) → IsClosed g → (zeros new : List ℕ) → length zeros ≡ length g → ((i : ℕ) → class_at zeros i ≡ 0)
    → IsRefined g zeros new → Respects g new
respects_begins g closed zeros new size all r = respects_partition g new (partition_refined g closed zeros new (partition_begins g zeros size all) r)

pub respects_next : (g : Graph) → IsClosed g → (calm : List Bool) (old new : List ℕ) → Respects g old → CalmAlike g calm → IsRenumbered g calm old new
    → Respects g new
respects_next g closed calm old new h c r = record {
  size = r.size;
  alike = λ i j one two a. go i j one two a (flag_at calm i) refl;
}
  where
    go : (i j : ℕ) → i < length g → j < length g → AreAlike g i j → (b : Bool) → flag_at calm i ≡ b → class_at new i ≡ class_at new j
    go i j one two a true e = r.kept i one e ∙ h.alike i j one two a ∙ sym (r.kept j two (sym (c i j one two a) ∙ e))
    go i j one two a false e = r.moved i j one two e (sym (c i j one two a) ∙ e) (key_of_alike g closed old h i j one two a)
