-- Paths that are lent, sorted, and each kept once.
use Rattle.std.proofs.Common.{◌≡◌, Bool, List, Bor, refl, sym, subst, ◌∙◌}
use Rattle.std.specs.Cmp.{IsTotalOrder, Equal-is}
use Rattle.std.specs.List.{Contains, dedup}
use Rattle.std.specs.List.Sorted.{IsPermutation, IsSorted}
use Rattle.std.specs.Ordering.{eq_by_cmp}
use Rattle.std.specs.declared.cmp.Ordering.{Ordering}
use Rattle.std.proofs.lemmas.Cmp.{on_total, eq_by_cmp_equiv}
use Rattle.std.proofs.lemmas.List.Kept.{IsStrictlySortedBy-dedup, Any-dedup, Contains-from_dedup}
use Rattle.std.proofs.lemmas.List.Sorted.{IsPermutation-sym, Contains-permutation}
use Rattle.hm_tree.specs.States.{Path}
use Rattle.hm_tree.specs.PathOrder.{path_cmp}
use Rattle.hm_tree.proofs.PathLaws.{path_total, path_one}
use Rattle.hm_changes.proofs.Lists.{contains_map, map_contains, ascending_map}
use Rattle.hm_changes_alike.specs.Parents.{lent_paths, AreOnceEach}

abbrev pub lent_cmp : Bor Path → Bor Path → Ordering
lent_cmp p q = path_cmp p.now q.now

abbrev pub tied : Bor Path → Bor Path → Bool
tied = eq_by_cmp lent_cmp

abbrev value : Bor Path → Path
value p = p.now

pub lent_total : IsTotalOrder lent_cmp
lent_total = on_total value path_total

pub once_sorted : (paths sorted : List (Bor Path)) → IsPermutation paths sorted → IsSorted lent_cmp sorted
    → AreOnceEach (lent_paths paths) (lent_paths (dedup tied sorted))
once_sorted paths sorted same rise = record {
  rise = ascending_map value lent_cmp path_cmp (λ p q less. less) (dedup tied sorted) (IsStrictlySortedBy-dedup lent_total (λ p q. refl) sorted rise);
  each = λ p. (forth p, back p);
}
  where
    forth : (p : Path) → Contains (lent_paths (dedup tied sorted)) p → Contains (lent_paths paths) p
    forth p c =
        let m = map_contains value (dedup tied sorted) p c in
        subst (Contains (lent_paths paths)) (sym m.1)
        (contains_map value paths m.0 (Contains-permutation sorted paths m.0 (IsPermutation-sym paths sorted same) (Contains-from_dedup tied sorted m.0 m.2)))

    back : (p : Path) → Contains (lent_paths paths) p → Contains (lent_paths (dedup tied sorted)) p
    back p c =
        let m = map_contains value paths p c in
        let kept = Any-dedup (eq_by_cmp_equiv lent_total) sorted m.0 (Contains-permutation paths sorted m.0 same m.2) in
        let one : m.0.now ≡ kept.1.now = path_one m.0.now kept.1.now ((Equal-is (path_cmp m.0.now kept.1.now)).0 kept.4) in
        subst (Contains (lent_paths (dedup tied sorted))) (sym (m.1 ∙ one)) (contains_map value (dedup tied sorted) kept.1 (kept.0, kept.2, kept.3))
