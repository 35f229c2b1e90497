-- What holds of each item of a list.
use Rattle.std.proofs.Common.{suc, List, [], ◌∷◌, All, arith}
use Rattle.hm_tree.specs.Names.{name_cmp}
use Rattle.hm_book_items.specs.Items.{Each}

pub each_of : {X : Type 0} (P : X → Type 0) (xs : List X) → All P xs → Each name_cmp P xs
each_of P [] h = tt
each_of P (x ∷ xs) h = (h 0 x (omega arith), each_of P xs (λ k d lt. h (suc k) d (omega (arith, lt))))
