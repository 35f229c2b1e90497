-- A partition that is refined until it stays as it is has the classes of alike vertices.
use Rattle.std.proofs.Common.{◌≡◌, ◌≢◌, ℕ, suc, ◌+◌, ◌-◌, ◌<◌, ◌≤◌, List, [], ◌∷◌, length, map, get_or, refl, sym, subst, ◌∙◌, arith, inl, inr, All}
use Rattle.std.specs.List.{AllZip}
use Rattle.std.proofs.lemmas.Bool.{cases_eq, cases_order}
use Rattle.std.proofs.lemmas.List.Elements.{All-head, All-tail}
use Rattle.hm_graph.specs.Same.{Graph, IsClosed, next_at, AreAlike}
use Rattle.hm_graph.proofs.Alike.{alike_label, alike_next}
use Rattle.hm_graph_classes.specs.Reduced.{class_at}
use Rattle.hm_graph_classes.specs.Apart.{Respects}
use Rattle.hm_graph_classes.specs.Partitions.{HaveOneKey, IsFirst, IsRefined, IsStable}
use Rattle.hm_graph.proofs.Search.{closed_at}

module _ (g : Graph) (cs : List ℕ) where
  pub key_refl : (i : ℕ) → HaveOneKey g cs i i
  key_refl i = record { class = refl; label = refl; below = refl }

  pub key_sym : (i j : ℕ) → HaveOneKey g cs i j → HaveOneKey g cs j i
  key_sym i j h = record { class = sym h.class; label = sym h.label; below = sym h.below }

  pub key_trans : (i j k : ℕ) → HaveOneKey g cs i j → HaveOneKey g cs j k → HaveOneKey g cs i k
  key_trans i j k h f = record { class = h.class ∙ f.class; label = h.label ∙ f.label; below = h.below ∙ f.below }

  -- there is one first
  pub first_once : (i j r s : ℕ) → HaveOneKey g cs i j → IsFirst g cs i r → IsFirst g cs j s → r ≡ s
  first_once i j r s k a b =
      elim (cases_order r s) [
        | inl e ↦ e
        | inr w ↦ elim w [
          | inl lt ↦ absurd (b.none r lt (key_trans r i j a.alike k))
          | inr lt ↦ absurd (a.none s lt (key_trans s j i b.alike (key_sym i j k)))
        ]
      ]

-- what the refining keeps: alike vertices are in one class, and a class is named by none greater than its members
pub record IsPartition (g : Graph) (cs : List ℕ) : Type 0 where
  pub size : length cs ≡ length g
  pub alike : (i j : ℕ) → i < length g → j < length g → AreAlike g i j → class_at cs i ≡ class_at cs j
  pub low : (i : ℕ) → i < length g → class_at cs i ≤ i

pub partition_begins : (g : Graph) (cs : List ℕ) → length cs ≡ length g → ((i : ℕ) → class_at cs i ≡ 0) → IsPartition g cs
partition_begins g cs size all = record { size = size; alike = λ i j one two a. all i ∙ sym (all j); low = λ i lt. omega (arith, all i) }

pub respects_partition : (g : Graph) (cs : List ℕ) → IsPartition g cs → Respects g cs
respects_partition g cs h = record { size = h.size; alike = h.alike }

module _ (g : Graph) (closed : IsClosed g) (old : List ℕ) (h : Respects g old) where
  -- alike vertices have one key
  pub key_of_alike : (i j : ℕ) → i < length g → j < length g → AreAlike g i j → HaveOneKey g old i j
  key_of_alike i j one two a = record {
    class = h.alike i j one two a;
    label = alike_label g i j a;
    below = go (next_at g i) (next_at g j) (closed_at g i closed) (closed_at g j closed) (alike_next g i j a);
  }
    where
      go : (xs ys : List ℕ) → All (λ k. k < length g) xs → All (λ k. k < length g) ys → AllZip (AreAlike g) xs ys
          → map (class_at old) xs ≡ map (class_at old) ys
      go [] [] p q r = refl
      go [] (y ∷ ys) p q r = absurd r
      go (x ∷ xs) [] p q r = absurd r
      go (x ∷ xs) (y ∷ ys) p q r =
          let In : ℕ → Type 0 = λ k. k < length g in
          let one : class_at old x ≡ class_at old y = h.alike x y (All-head In x xs p) (All-head In y ys q) r.0 in
          let rest = go xs ys (All-tail In x xs p) (All-tail In y ys q) r.1 in
          λ t. one t ∷ rest t

  pub partition_of : (new : List ℕ) → IsRefined g old new → IsPartition g new
  partition_of new r = record {
    size = r.size;
    alike = λ i j one two a. first_once g old i j (class_at new i) (class_at new j) (key_of_alike i j one two a) (r.first i one) (r.first j two);
    low = λ i lt. (r.first i lt).low;
  }

module _ (g : Graph) (closed : IsClosed g) (old new : List ℕ) (h : IsPartition g old) (r : IsRefined g old new) where
  pub partition_refined : IsPartition g new
  partition_refined = partition_of g closed old (respects_partition g old h) new r

  -- numbers only rise
  pub refined_rises : (i : ℕ) → i < length g → class_at old i ≤ class_at new i
  refined_rises i lt =
      let f = r.first i lt in
      let below = h.low (class_at new i) (omega (arith, f.low)) in
      omega (arith, f.alike.class)

  -- where nothing has changed, vertices of a class have one key
  pub partition_ends : new ≡ old → IsStable g old
  partition_ends same = record {
    size = h.size;
    low = h.low;
    key = λ i lt. subst (λ (cs : List ℕ). HaveOneKey g old (class_at cs i) i) same (r.first i lt).alike;
    alike = h.alike;
  }

-- ---- how far the numbers can still rise

abbrev pub slack : ℕ → List ℕ → ℕ
slack n [] = 0
slack n (x ∷ xs) = (n - x) + slack n xs

slack_rises : (n : ℕ) (xs ys : List ℕ) → length xs ≡ length ys
    → ((i : ℕ) → i < length xs → (get_or xs i 0 ≤ get_or ys i 0) × (get_or ys i 0 < n)) → slack n ys ≤ slack n xs
slack_rises n [] [] e h = omega arith
slack_rises n [] (y ∷ ys) e h = absurd (omega arith)
slack_rises n (x ∷ xs) [] e h = absurd (omega arith)
slack_rises n (x ∷ xs) (y ∷ ys) e h =
    let f = h 0 (omega arith) in
    let rest = slack_rises n xs ys (omega arith) (λ i lt. h (suc i) (omega arith)) in
    omega (arith, f.0, f.1)

pub slack_falls : (n : ℕ) (xs ys : List ℕ) → length xs ≡ length ys
    → ((i : ℕ) → i < length xs → (get_or xs i 0 ≤ get_or ys i 0) × (get_or ys i 0 < n)) → ys ≢ xs → slack n ys < slack n xs
slack_falls n [] [] e h ne = absurd (ne refl)
slack_falls n [] (y ∷ ys) e h ne = absurd (omega arith)
slack_falls n (x ∷ xs) [] e h ne = absurd (omega arith)
slack_falls n (x ∷ xs) (y ∷ ys) e h ne =
    let f = h 0 (omega arith) in
    elim (cases_eq y x) [
      | inl same ↦
          let rest = slack_falls n xs ys (omega arith) (λ i lt. h (suc i) (omega arith)) (λ q. ne (λ t. same t ∷ q t)) in
          omega (arith, f.0, f.1)
      | inr off ↦
          let rest = slack_rises n xs ys (omega arith) (λ i lt. h (suc i) (omega arith)) in
          omega (arith, f.0, f.1)
    ]
