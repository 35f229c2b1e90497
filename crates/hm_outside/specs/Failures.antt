-- The calls of a store that failed, as a list that only grows.
use Rattle.std.specs.Prelude.{◌≡◌, ℕ, ◌<◌, Bool, true, false, ◌&&◌, List, ◌++◌, count_by}
use Rattle.std.specs.Str.{bytes_eq}
use Rattle.hm_tree.specs.Names.{Name}
use Rattle.hm_outside.specs.declared.outside.Kind.{Kind}
use Rattle.hm_outside.specs.declared.outside.Kind.TheVariants.{Load, Replace}
use Rattle.hm_outside.specs.declared.outside.Failure.{Failure}

abbrev pub is_same_kind : Kind → Kind → Bool
is_same_kind Load Load = true
is_same_kind Load Replace = false
is_same_kind Replace Load = false
is_same_kind Replace Replace = true

-- the store's count of a kind and a name: how many such calls failed
abbrev pub count_of : Kind → Name → List Failure → ℕ
count_of kind name failed = count_by (λ f. is_same_kind kind f.kind && bytes_eq name f.name) failed

-- the old list, and maybe more behind it
pub record Extends (old new : List Failure) : Type 0 where
  pub more : List Failure
  pub is : new ≡ old ++ more

-- more calls of this kind and name have failed
pub record HasRisen (kind : Kind) (name : Name) (old new : List Failure) : Type 0 where
  pub rises : count_of kind name old < count_of kind name new
