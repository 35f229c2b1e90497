-- The order of paths, and the first path with a property.
use Rattle.std.proofs.Common.{◌≡◌, ◌≢◌, ◌↔◌, [], ◌∷◌, ◌++◌, refl, ap, subst, ◌∙◌}
use Rattle.std.specs.Cmp.{IsTotalOrder}
use Rattle.std.specs.Cmp.Lexicographic.{lists_total}
use Rattle.std.specs.FinMap.{slice_cmp-IsAntisymmetric}
use Rattle.std.specs.Ordering.{ordering_then, ordering_reverse}
use Rattle.std.specs.declared.cmp.Ordering.{Ordering}
use Rattle.std.specs.declared.cmp.Ordering.TheVariants.{Less, Equal, Greater}
use Rattle.std.proofs.lemmas.Cmp.{tied_itself}
use Rattle.hm_tree.specs.Names.{Name, name_cmp}
use Rattle.hm_tree.specs.States.{Path}
use Rattle.hm_tree.specs.PathOrder.{path_cmp, IsFirst}
use Rattle.hm_tree.proofs.Sorted.{name_total, name_one}

pub path_total : IsTotalOrder path_cmp
path_total = lists_total name_total

pub path_one : (p q : Path) → path_cmp p q ≡ Equal → p ≡ q
path_one = slice_cmp-IsAntisymmetric name_one

-- paths that go on from one path are in the order of what follows
pub same_front : (p q r : Path) → path_cmp (p ++ q) (p ++ r) ≡ path_cmp q r
same_front [] q r = refl
same_front (k ∷ p) q r = ap (λ o. ordering_then o (path_cmp (p ++ q) (p ++ r))) (tied_itself name_total k) ∙ same_front p q r

-- of two paths neither of which stands before the other, each is the other
pub neither_before : (p q : Path) → path_cmp p q ≢ Less → path_cmp q p ≢ Less → p ≡ q
neither_before p q one other = go (path_cmp p q) refl
  where
    go : (o : Ordering) → path_cmp p q ≡ o → p ≡ q
    go Less e = absurd (one e)
    go Equal e = path_one p q e
    go Greater e = absurd (other (path_total.antisymm q p ∙ ap ordering_reverse e))

-- nothing stands before the root
pub none_before_root : (q : Path) → path_cmp q [] ≢ Less
none_before_root [] e = let no : ⊥ = cc in no
none_before_root (k ∷ q) e = let no : ⊥ = cc in no

-- ---- the first path with a property

pub first_once : (P : Path → Type 0) (p q : Path) → IsFirst P p → IsFirst P q → p ≡ q
first_once P p q one other = neither_before p q (other.none_before p one.here) (one.none_before q other.here)

pub first_at_root : (P : Path → Type 0) → P [] → IsFirst P []
first_at_root P here = record { here = here; none_before = λ q has. none_before_root q }

pub first_as : (P Q : Path → Type 0) (p : Path) → ((q : Path) → P q ↔ Q q) → IsFirst P p → IsFirst Q p
first_as P Q p same first = record { here = (same p).0 first.here; none_before = λ q has. first.none_before q ((same q).1 has) }

-- where neither the root nor a path below an earlier name has the property, the first below a name is the first
pub first_under : (P : Path → Type 0) (k : Name) (p : Path)
    → ¬ (P []) → ((l : Name) (q : Path) → name_cmp l k ≡ Less → ¬ (P (l ∷ q)))
    → IsFirst (λ q. P (k ∷ q)) p → IsFirst P (k ∷ p)
first_under P k p root earlier first = record { here = first.here; none_before = none }
  where
    none : (q : Path) → P q → path_cmp q (k ∷ p) ≢ Less
    none [] has less = root has
    none (l ∷ q) has less = go (name_cmp l k) refl less
      where
        go : (o : Ordering) → name_cmp l k ≡ o → ordering_then o (path_cmp q p) ≡ Less → ⊥
        go Less e less = earlier l q e has
        go Equal e less = first.none_before q (subst (λ n. P (n ∷ q)) (name_one l k e) has) less
        go Greater e less = let no : ⊥ = cc in no

-- and the other way round
pub first_below : (P : Path → Type 0) (k : Name) (p : Path) → IsFirst P (k ∷ p) → IsFirst (λ q. P (k ∷ q)) p
first_below P k p first = record { here = first.here; none_before = λ q has less. first.none_before (k ∷ q) has (same_front (k ∷ []) q p ∙ less) }
