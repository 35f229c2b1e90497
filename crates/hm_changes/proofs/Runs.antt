-- Names in a row that are equal count once, however they are referred to.
use Rattle.std.proofs.Common.{◌≡◌, suc, Bool, true, false, cond, List, [], ◌∷◌, length, map, Bor, refl, ap}
use Rattle.std.specs.List.{dedup, dedup_from}
use Rattle.std.specs.Ordering.{eq_by_cmp}
use Rattle.hm_tree.specs.Names.{Name, name_cmp}

abbrev tied : Name → Name → Bool
tied = eq_by_cmp name_cmp

abbrev pub tied_there : Bor Name → Bor Name → Bool
tied_there a b = tied a.now b.now

abbrev names_of : List (Bor Name) → List Name
names_of = map (λ n. n.now)

once_from : (k : Bor Name) (xs : List (Bor Name)) → length (dedup_from tied_there k xs) ≡ length (dedup_from tied k.now (names_of xs))
once_from k [] = refl
once_from k (x ∷ xs) = go (tied x.now k.now) (once_from k xs) (once_from x xs)
  where
    go : (b : Bool) → length (dedup_from tied_there k xs) ≡ length (dedup_from tied k.now (names_of xs))
        → length (dedup_from tied_there x xs) ≡ length (dedup_from tied x.now (names_of xs)) → length (cond b (dedup_from tied_there k xs) (k ∷ dedup_from tied_there x xs))
        ≡ length (cond b (dedup_from tied k.now (names_of xs)) (k.now ∷ dedup_from tied x.now (names_of xs)))
    go true here next = here
    go false here next = ap suc next

pub once_each : (xs : List (Bor Name)) → length (dedup tied_there xs) ≡ length (dedup tied (names_of xs))
once_each [] = refl
once_each (x ∷ xs) = once_from x xs
