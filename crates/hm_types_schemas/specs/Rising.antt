-- Shapes that rise.
use Rattle.std.specs.Prelude.{◌≡◌, ◌<◌, ℕ, List, Some, slice_get}
use Rattle.std.specs.declared.cmp.Ordering.TheVariants.{Less}
use Rattle.hm_schema.specs.declared.node.Shape.{Shape}
use Rattle.hm_schema.specs.ShapeOrder.{shape_cmp}

-- each of the first shapes, so many, is less than those of them behind it
abbrev pub RiseBelow : ℕ → List Shape → Type 0
RiseBelow n xs = (i j : ℕ) (a b : Shape) → i < j → j < n → slice_get xs i ≡ Some a → slice_get xs j ≡ Some b → shape_cmp a b ≡ Less

-- each shape is less than those behind it
abbrev pub Rise : List Shape → Type 0
Rise xs = (i j : ℕ) (a b : Shape) → i < j → slice_get xs i ≡ Some a → slice_get xs j ≡ Some b → shape_cmp a b ≡ Less
