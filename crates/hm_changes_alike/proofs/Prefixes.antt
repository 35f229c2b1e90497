-- Paths above a path that ends in a name.
use Rattle.std.proofs.Common.{◌≡◌, ◌≢◌, [], ◌∷◌, ◌++◌, length, ◌-◌, refl, sym, arith, length-append}
use Rattle.std.proofs.Math.Seq.{take-append_seam}
use Rattle.hm_tree.specs.Names.{Name}
use Rattle.hm_tree.specs.States.{Path}
use Rattle.hm_changes_alike.specs.Parents.{parent}

-- what stands above it stands above its last name, or there
pub above_last : (p q r : Path) (k : Name) → p ++ k ∷ [] ≡ q ++ r → r ≢ [] → (rest : Path) × (p ≡ q ++ rest)
above_last p [] r k e some = (p, refl)
above_last [] (j ∷ []) r k e some = let none : [] ≡ r = cc in absurd (some (sym none))
above_last [] (j ∷ i ∷ q) r k e some = let no : ⊥ = cc in absurd no
above_last (i ∷ p) (j ∷ q) r k e some =
    let name : i ≡ j = cc in
    let rest : p ++ k ∷ [] ≡ q ++ r = cc in
    let m = above_last p q r k rest some in
    (m.0, λ x. name x ∷ m.1 x)

pub parent-push : (p : Path) (k : Name) → parent (p ++ k ∷ []) ≡ p
parent-push p k =
    let count : length (p ++ k ∷ []) - 1 ≡ length p = omega (arith, length-append p (k ∷ [])) in
    rw count (take-append_seam p (k ∷ []))
