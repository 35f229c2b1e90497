-- When two lists have the same names, and when names are those of edges.
use Rattle.std.proofs.Common.{◌≡◌, ◌≢◌, ℕ, suc, ◌+◌, ◌<◌, Bool, true, false, cond, ◌&&◌, List, [], ◌∷◌, length, get_or, drop, map, refl, sym, ap, ◌∙◌, arith}
use Rattle.std.specs.Prelude.{IsTrue, ◌↔◌}
use Rattle.std.specs.Ordering.{eq_by_cmp}
use Rattle.std.specs.Cmp.{Equal-is}
use Rattle.std.specs.FinSet.{from_list}
use Rattle.std.specs.List.Sorted.{IsStrictlySortedBy}
use Rattle.std.proofs.lemmas.Cmp.{tied_itself}
use Rattle.std.proofs.lemmas.List.{drop_more, length-map, get_or-map}
use Rattle.hm_tree.specs.Names.{Name, name_cmp}
use Rattle.hm_tree.specs.Nodes.{Tree}
use Rattle.hm_tree.specs.Cleaned.{cleaned}
use Rattle.hm_tree.specs.Sets.{ascending}
use Rattle.hm_tree.proofs.Sorted.{name_total, name_one}
use Rattle.hm_tree.proofs.Ascending.{ascending_is}
use Rattle.hm_tree.specs.Classes.{is_text}
use Rattle.hm_csv_columns.specs.Fields.{texts_shown, same_names}

off : (b : Bool) → (b && false) ≡ false
off true = refl
off false = refl

pub differ : (ns ks : List Name) → length ns ≢ length ks → same_names ns ks ≡ false
differ [] [] apart = absurd (apart refl)
differ [] (k ∷ ks) apart = refl
differ (n ∷ ns) [] apart = refl
differ (n ∷ ns) (k ∷ ks) apart = ap (λ b. eq_by_cmp name_cmp n k && b) (differ ns ks (λ e. apart (ap suc e))) ∙ off (eq_by_cmp name_cmp n k)

-- from a place on
pub step : (ns ks : List Name) (place : ℕ) (n k : Name) → length ns ≡ length ks → place < length ns
    → same_names (drop place ns) (drop place ks) ≡ (eq_by_cmp name_cmp (get_or ns place n) (get_or ks place k) && same_names (drop (place + 1) ns) (drop (place + 1) ks))
step ns ks place n k long lt =
    (λ i. same_names (drop_more ns place n lt i) (drop_more ks place k (omega (arith, lt, long)) i))

module _ (ns ks : List Name) (place : ℕ) (n k : Name) (long : length ns ≡ length ks) (lt : place < length ns)
    (here : n ≡ get_or ns place n) (there : k ≡ get_or ks place k)
    (so_far : same_names (drop place ns) (drop place ks) ≡ same_names ns ks) where
  from_here : same_names ns ks ≡ (eq_by_cmp name_cmp n k && same_names (drop (place + 1) ns) (drop (place + 1) ks))
  from_here = sym so_far ∙ step ns ks place n k long lt ∙ (λ i. eq_by_cmp name_cmp (sym here i) (sym there i) && same_names (drop (place + 1) ns) (drop (place + 1) ks))

  pub apart_here : ¬ (n ≡ k) → false ≡ same_names ns ks
  apart_here apart = sym (from_here ∙ go (eq_by_cmp name_cmp n k) refl)
    where
      go : (tied : Bool) → eq_by_cmp name_cmp n k ≡ tied → (tied && same_names (drop (place + 1) ns) (drop (place + 1) ks)) ≡ false
      go true t = absurd (apart (name_one n k ((Equal-is (name_cmp n k)).0 t)))
      go false t = refl

  pub same_here : n ≡ k → same_names (drop (place + 1) ns) (drop (place + 1) ks) ≡ same_names ns ks
  same_here same = sym (from_here ∙ ap (λ b. b && same_names (drop (place + 1) ns) (drop (place + 1) ks)) (ap (eq_by_cmp name_cmp n) (sym same) ∙ (Equal-is (name_cmp n n)).1 (tied_itself name_total n)))

-- a test of two names that came out so
pub not_the_same : (answer : Bool) (n k : Name) → IsTrue answer ↔ (n ≡ k) → answer ≡ false → ¬ (n ≡ k)
not_the_same true n k is e = let bad : ⊥ = cc in absurd bad
not_the_same false n k is e = λ same. let t = is.1 same in let bad : ⊥ = cc in bad

-- lists that have the same names are equal
pub equal : (ns ks : List Name) → same_names ns ks ≡ true → ns ≡ ks
equal [] [] e = refl
equal [] (k ∷ ks) e = let bad : ⊥ = cc in absurd bad
equal (n ∷ ns) [] e = let bad : ⊥ = cc in absurd bad
equal (n ∷ ns) (k ∷ ks) e = go (eq_by_cmp name_cmp n k) refl e (equal ns ks)
  where
    go : (tied : Bool) → eq_by_cmp name_cmp n k ≡ tied → (tied && same_names ns ks) ≡ true → (same_names ns ks ≡ true → ns ≡ ks) → (n ∷ ns) ≡ (k ∷ ks)
    go true t e rest = λ i. name_one n k ((Equal-is (name_cmp n k)).0 t) i ∷ rest e i
    go false t e rest = let bad : ⊥ = cc in absurd bad

pub itself : (ns : List Name) → same_names ns ns ≡ true
itself [] = refl
itself (n ∷ ns) = (λ i. (Equal-is (name_cmp n n)).1 (tied_itself name_total n) i && itself ns i)

-- ---- names and the edges of a tree

abbrev pub names_in : List (Name × Tree) → List Name
names_in es = map (λ e. e.0) es

pub differ_edges : (ns : List Name) (es : List (Name × Tree)) → length ns ≢ length es → same_names ns (names_in es) ≡ false
differ_edges ns es apart = differ ns (names_in es) (λ e. apart (e ∙ length-map es (λ e. e.0)))

module _ (ns : List Name) (es : List (Name × Tree)) (place : ℕ) (n : Name) (e : Name × Tree) (long : length ns ≡ length es) (lt : place < length ns)
    (here : n ≡ get_or ns place n) (so_far : same_names (drop place ns) (drop place (names_in es)) ≡ same_names ns (names_in es)) where
  abbrev there : Name
  there = (get_or es place e).0

  there_is : there ≡ get_or (names_in es) place there
  there_is = sym (get_or-map (λ (d : Name × Tree). d.0) es place e there (omega (arith, lt, long)))

  as_long : length ns ≡ length (names_in es)
  as_long = long ∙ sym (length-map es (λ e. e.0))

  pub edge_apart : ¬ (n ≡ (get_or es place e).0) → false ≡ same_names ns (names_in es)
  edge_apart apart = apart_here ns (names_in es) place n there as_long lt here there_is so_far apart

  pub edge_same : n ≡ (get_or es place e).0 → same_names (drop (place + 1) ns) (drop (place + 1) (names_in es)) ≡ same_names ns (names_in es)
  edge_same same = same_here ns (names_in es) place n there as_long lt here there_is so_far same

-- ---- the texts of a field of one text at the most

pub one_shown : (field : List ℕ) → cond (is_text (cleaned field)) (cleaned field ∷ []) [] ≡ ascending (texts_shown false field)
unfolding IsStrictlySortedBy
one_shown field = go (is_text (cleaned field))
  where
    go : (b : Bool) → cond b (cleaned field ∷ []) [] ≡ ascending (from_list {R = name_cmp} (map cleaned (cond b (field ∷ []) [])))
    go true = sym (ascending_is (cleaned field ∷ []) _ (tt, tt) refl)
    go false = sym (ascending_is [] _ tt refl)
