-- Two views have one list of changes, and two sides one list of sets of alike names.
use Rattle.std.proofs.Common.{◌≡◌, List, [], ◌∷◌, map, refl, sym, subst, arith}
use Rattle.std.specs.List.{Contains}
use Rattle.std.specs.Cmp.{IsTotalOrder, then_total, on_total}
use Rattle.hm_tree.specs.PathOrder.{path_cmp}
use Rattle.hm_tree.specs.Sets.{ascending}
use Rattle.hm_tree.proofs.Sorted.{name_total}
use Rattle.hm_alike.specs.Alike.{first_name}
use Rattle.hm_changes_alike.specs.declared.alikes.AlikeNames.{AlikeNames}
use Rattle.hm_changes_alike.specs.Alikes.{Renewal, set_cmp, AreAlikes}
use Rattle.hm_tree.specs.States.{Path, View}
use Rattle.hm_tree.proofs.PathLaws.{path_total}
use Rattle.hm_outcome.proofs.SortedLists.{contained, no_longer}
use Rattle.hm_changes.specs.declared.change.Change.{Change}
use Rattle.hm_changes.specs.declared.change.Turn.{Turn}
use Rattle.hm_changes.specs.Changes.{IsTurned, IsTopmost, AreChanges}
use Rattle.hm_changes.proofs.Lists.{contains_here, contains_later, contains_map, map_contains}
use Rattle.hm_changes.proofs.Tops.{turned_once}

module _ (old new : View) where
  abbrev path_of : Change → Path
  path_of c = c.path

  abbrev AreTopmost : List Change → Type 0
  AreTopmost xs = (c : Change) → Contains xs c → IsTopmost old new c

  one_turn : (t u : Turn) (p q : Path) → IsTurned t old new p → IsTurned u old new q → p ≡ q → t ≡ u
  one_turn t u p q one other same = turned_once t u old new q (subst (IsTurned t old new) same one) other

  -- by their paths
  same_changes : (xs ys : List Change) → AreTopmost xs → AreTopmost ys → map path_of xs ≡ map path_of ys → xs ≡ ys
  same_changes [] [] one other e = refl
  same_changes [] (y ∷ ys) one other e = let no : ⊥ = cc in absurd no
  same_changes (x ∷ xs) [] one other e = let no : ⊥ = cc in absurd no
  same_changes (x ∷ xs) (y ∷ ys) one other e =
      let path : x.path ≡ y.path = cc in
      let rest : map path_of xs ≡ map path_of ys = cc in
      let turn : x.turn ≡ y.turn = one_turn x.turn y.turn x.path y.path (one x (contains_here x xs)).turned (other y (contains_here y ys)).turned path in
      let more = same_changes xs ys (λ c among. one c (contains_later x xs c among)) (λ c among. other c (contains_later y ys c among)) rest in
      λ i. record { turn = turn i; path = path i } ∷ more i

  within : (xs ys : List Change) → AreChanges old new xs → AreChanges old new ys → (p : Path) → Contains (map path_of xs) p → Contains (map path_of ys) p
  within xs ys one other p among =
      let m = map_contains path_of xs p among in
      subst (Contains (map path_of ys)) (sym m.1) (contains_map path_of ys m.0 ((other.each m.0).1 ((one.each m.0).0 m.2)))

  pub changes_once : (xs ys : List Change) → AreChanges old new xs → AreChanges old new ys → xs ≡ ys
  changes_once xs ys one other =
      let forth = no_longer path_cmp path_total (map path_of xs) (map path_of ys) one.ascending other.ascending (within xs ys one other) in
      let back = no_longer path_cmp path_total (map path_of ys) (map path_of xs) other.ascending one.ascending (within ys xs other one) in
      same_changes xs ys (λ c. (one.each c).0) (λ c. (other.each c).0)
      (contained path_cmp path_total (map path_of xs) (map path_of ys) one.ascending other.ascending (within xs ys one other) (omega arith))

set_total : IsTotalOrder set_cmp
set_total = then_total (on_total (λ (s : AlikeNames). s.parent) path_total) (on_total (λ (s : AlikeNames). first_name (ascending s.names)) name_total)

pub alikes_once : (a b : Renewal) (xs ys : List AlikeNames) → AreAlikes a b xs → AreAlikes a b ys → xs ≡ ys
alikes_once a b xs ys one other =
    let forth = no_longer set_cmp set_total xs ys one.rise other.rise (λ s c. (other.each s).1 ((one.each s).0 c)) in
    let back = no_longer set_cmp set_total ys xs other.rise one.rise (λ s c. (one.each s).1 ((other.each s).0 c)) in
    contained set_cmp set_total xs ys one.rise other.rise (λ s c. (other.each s).1 ((one.each s).0 c)) (omega arith)
