-- What is kept of the lenses in a lens, and the first one that copies.
use Rattle.std.specs.Prelude.{◌≡◌, ◌<◌, ◌+◌, ℕ, Bool, true, false, List, [], ◌∷◌, Some, slice_get}
use Rattle.hm_terms.specs.Lenses.{Lens, copy, identity, sequence, constant, hoist, plunge, fork, each, among, items, merge, on_concrete, on_view, text, call}
use Rattle.hm_types_rules.specs.Faults.{size_of}
use Rattle.hm_types_terms.specs.declared.part.Part.{Part}
use Rattle.hm_types_terms.specs.Numbers.{parts_of}

abbrev pub copies : Lens → Bool
copies identity = false
copies (sequence l k) = false
copies (constant t d) = false
copies (hoist n) = false
copies (plunge n) = false
copies (fork P Q l k) = false
copies (each l) = false
copies (among ls) = false
copies (items l) = false
copies (copy m n) = true
copies (merge m n) = false
copies (text x) = false
copies (on_concrete m l k) = false
copies (on_view m n l k) = false
copies (call n) = false

abbrev pub part_of : Lens → Part
part_of l = record { size = size_of l; copies = copies l }

abbrev pub behind_head : List Lens → List Lens
behind_head [] = []
behind_head (l ∷ ls) = ls

-- the lenses inside a lens, in their order
abbrev pub parts_inside : Lens → List Lens
parts_inside l = behind_head (parts_of l)

-- the number of the first lens in a lens that copies, or 1
pub data IsFirstCopy (l : Lens) : ℕ → Type 0 where
  copies_first : {i : ℕ} {k : Lens} → slice_get (parts_of l) i ≡ Some k → copies k ≡ true
      → ((j : ℕ) (x : Lens) → j < i → slice_get (parts_of l) j ≡ Some x → copies x ≡ false) → IsFirstCopy l (i + 1)
  none_copies : ((j : ℕ) (x : Lens) → slice_get (parts_of l) j ≡ Some x → copies x ≡ false) → IsFirstCopy l 1
