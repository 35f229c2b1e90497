-- The classes Filled, Trimmed and Folded as tests that compute.
use Rattle.std.specs.Prelude.{ℕ, Bool, false, not, ◌&&◌, ◌==◌, ◌-◌, length, slice_get, Option, Some, None}
use Rattle.std.specs.List.{list_any}
use Rattle.std.specs.Str.{bytes_eq}
use Rattle.hm_tree.specs.Names.{Name}
use Rattle.hm_tree.specs.Cleaned.{cleaned}
use Rattle.hm_tree.specs.Classes.{folding}

abbrev pub is_no_space : ℕ → Bool
is_no_space b = not (b == 32)

unfoldable pub is_filled : Name → Bool
is_filled t = bytes_eq (cleaned t) t && list_any is_no_space t

-- there is a byte, and it is no space
abbrev pub is_other : Option ℕ → Bool
is_other None = false
is_other (Some b) = is_no_space b

unfoldable pub is_trimmed : Name → Bool
is_trimmed t = is_filled t && (is_other (slice_get t 0) && is_other (slice_get t (length t - 1)))

unfoldable pub is_folded : Name → Bool
is_folded t = is_trimmed t && bytes_eq (folding t) t
