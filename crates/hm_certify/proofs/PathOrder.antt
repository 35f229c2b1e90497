-- The order of paths, name by name.
use Rattle.std.proofs.Common.{◌≡◌, ◌↔◌, ℕ, ◌<◌, ◌≤◌, [], length, drop, get_or, Bool, true, false, IsTrue, refl, sym, ◌∙◌, arith}
use Rattle.std.proofs.lemmas.List.{drop_all, get_or_default}
use Rattle.std.proofs.lemmas.Bool.{ltb-true, ltb-false}
use lib.Dec.{ltb}
use Rattle.std.specs.declared.cmp.Ordering.TheVariants.{Less, Equal, Greater}
use Rattle.hm_tree.specs.Names.{Name}
use Rattle.hm_tree.specs.States.{Path}
use Rattle.hm_tree.specs.PathOrder.{path_cmp}
use Rattle.hm_certify.proofs.Verdicts.{is_so, is_not}
use Rattle.hm_tree.proofs.Paths.{front_is}

-- two paths that were the same up to a place
abbrev pub SameUpTo : Path → Path → ℕ → Type 0
SameUpTo p q i = path_cmp p q ≡ path_cmp (drop i p) (drop i q)

module _ (p q : Path) (i : ℕ) (same : SameUpTo p q i) where
  -- the other path has ended
  other_ended : (k : Name) → i < length p → k ≡ get_or p i k → length q ≤ i → IsTrue false ↔ (path_cmp p q ≡ Less)
  other_ended k in_p at_p end = is_not (λ less. go (drop i q) (drop_all i q end) less)
    where
      go : (rest : Path) → rest ≡ [] → path_cmp p q ≡ Less → ⊥
      go rest e less =
          let greater : path_cmp p q ≡ Greater = same ∙ (λ j. path_cmp (front_is p i k in_p at_p j) (drop_all i q end j)) in
          let bad : Greater ≡ Less = sym greater ∙ less in cc

  pub other_ends : i < length p → length q ≤ i → IsTrue false ↔ (path_cmp p q ≡ Less)
  other_ends in_p end = other_ended (get_or p i []) in_p (get_or_default p i [] (get_or p i []) in_p) end

  -- this one has ended, and the other perhaps
  pub this_ends : length p ≤ i → i ≤ length p → i ≤ length q → IsTrue (ltb (length p) (length q)) ↔ (path_cmp p q ≡ Less)
  this_ends end start within = go (ltb (length p) (length q)) refl
    where
      go : (b : Bool) → ltb (length p) (length q) ≡ b → IsTrue b ↔ (path_cmp p q ≡ Less)
      go true e =
          let lt = ltb-true (length p) (length q) e in
          let in_q : i < length q = omega arith in
          is_so (same ∙ (λ j. path_cmp (drop_all i p end j) (front_is q i (get_or q i []) in_q (get_or_default q i [] (get_or q i []) in_q) j)))
      go false e =
          let le = ltb-false (length p) (length q) e in
          let end_q : length q ≤ i = omega arith in
          is_not (λ less.
          let equal : path_cmp p q ≡ Equal = same ∙ (λ j. path_cmp (drop_all i p end j) (drop_all i q end_q j)) in
          let bad : Equal ≡ Less = sym equal ∙ less in
          (let f : ⊥ = cc in f))
