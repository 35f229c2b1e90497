-- The names of a set that are alike, each at its place.
use Rattle.std.proofs.Common.{◌≡◌, ◌≤◌, ◌∙◌, ℕ, Bool, true, false, List, [], ◌∷◌, ◌++◌, length, take, codes, refl, sym, ap, append_assoc, IsTrue}
use Rattle.std.specs.Prelude.{flat_map, ◌↔◌}
use Rattle.std.specs.FinSet.{FinSet, from_list}
use Rattle.std.specs.List.Sorted.{IsStrictlySortedBy}
use Rattle.std.proofs.lemmas.List.{take_all}
use Rattle.hm_tree.specs.Names.{Name, name_cmp}
use Rattle.hm_tree.specs.Sets.{ascending}
use Rattle.hm_tree.proofs.Ascending.{ascending_is}
use Rattle.hm_report.specs.Text.{line_feed}

-- the line of a set, put name by name
pub all_put : (before middle after : List ℕ) (names : List Name) (s : FinSet name_cmp) (i : ℕ) (f : Name → List ℕ) → IsStrictlySortedBy name_cmp names → from_list {R = name_cmp} names ≡ s
    → length names ≤ i → middle ≡ (before ++ codes "alike") ++ flat_map f (take i names) → after ≡ middle ++ 10 ∷ []
    → after ≡ before ++ (codes "alike" ++ (flat_map f (ascending s) ++ line_feed))
all_put before middle after names s i f rises is all put last =
    last ∙ (λ j. put j ++ 10 ∷ []) ∙ (λ j. ((before ++ codes "alike") ++ flat_map f (take_all i names all j)) ++ 10 ∷ [])
    ∙ append_assoc (before ++ codes "alike") (flat_map f names) (10 ∷ []) ∙ append_assoc before (codes "alike") (flat_map f names ++ 10 ∷ [])
    ∙ ap (λ l. before ++ (codes "alike" ++ (flat_map f l ++ line_feed))) (sym (ascending_is names s rises is))
