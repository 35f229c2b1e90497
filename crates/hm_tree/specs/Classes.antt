-- Classes of names.
use Rattle.std.specs.Prelude.{◌≡◌, ◌≢◌, ◌-◌, Bool, not, length, slice_get, Some, Any, chars, encode_utf8_all}
use Rattle.std.specs.Bool.{◌==◌}
use Rattle.std.specs.List.{list_any}
use Rattle.caseless.specs.Caseless.{default_case_fold}
use Rattle.hm_tree.specs.declared.class.Class.{Class}
use Rattle.hm_tree.specs.declared.class.Class.TheVariants.{Any as Every, Clean, Filled, Trimmed, Folded}
use Rattle.hm_tree.specs.Names.{Name}
use Rattle.hm_tree.specs.Cleaned.{cleaned}

-- full case folding (The Unicode Standard, section 3.13)
abbrev pub folding : Name → Name
folding t = encode_utf8_all (default_case_fold (chars t))

abbrev pub IsClean : Name → Type 0
IsClean t = cleaned t ≡ t

-- not of spaces alone
pub record IsFilled (t : Name) : Type 0 where
  pub clean : IsClean t
  pub filled : Any (λ b. b ≢ 32) t

-- the same of a text that may not be clean
abbrev pub is_text : Name → Bool
is_text t = list_any (λ b. not (b == 32)) t

-- and with no space at either end
pub record IsTrimmed (t : Name) : Type 0 where
  pub filled : IsFilled t
  pub front : slice_get t 0 ≢ Some 32
  pub back : slice_get t (length t - 1) ≢ Some 32

pub record IsFolded (t : Name) : Type 0 where
  pub trimmed : IsTrimmed t
  pub folded : folding t ≡ t

abbrev pub IsInClass : Class → Name → Type 0
IsInClass Every t = Unit {0}
IsInClass Clean t = IsClean t
IsInClass Filled t = IsFilled t
IsInClass Trimmed t = IsTrimmed t
IsInClass Folded t = IsFolded t
