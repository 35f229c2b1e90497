-- The sets of names that are alike below one path.
use Rattle.std.specs.Prelude.{◌≡◌, ◌↔◌, Bool, ◌||◌, List, ◌++◌, map, filter, Some}
use Rattle.std.specs.List.{Contains, list_any}
use Rattle.std.specs.List.Sorted.{IsStrictlySortedBy}
use Rattle.std.specs.FinSet as set
use Rattle.hm_tree.specs.Names.{Name, name_cmp}
use Rattle.hm_tree.specs.States.{Path, state}
use Rattle.hm_changes_alike.specs.declared.alikes.AlikeNames.{AlikeNames}
use Rattle.hm_changes_alike.specs.declared.views.Views.{Views}
use Rattle.hm_changes_alike.specs.Alikes.{Renewal, AreAlike, set_cmp}
use Rattle.hm_changes_alike.specs.Staying.{Staying, turns_at}

abbrev pub renewal : Views → Renewal
renewal v = record { old = state (Some v.old.now); new = state (Some v.new.now) }

-- whether a name comes or goes on one of two sides
abbrev pub is_told_at : Staying → Staying → Name → Bool
is_told_at left right k = turns_at left k || turns_at right k

-- whether one of some names does
abbrev pub is_told : Staying → Staying → List Name → Bool
is_told left right names = list_any (is_told_at left right) names

abbrev pub set_below : Path → List Name → AlikeNames
set_below p names = record { parent = p; names = set.from_list {R = name_cmp} names }

-- the sets of the lists of names of which one comes or goes
abbrev pub told_sets : Staying → Staying → Path → List (List Name) → List AlikeNames
told_sets left right p classes = map (set_below p) (filter (is_told left right) classes)

-- all sets of alike names below a path, in their order
pub record AreAlikesBelow (a b : Renewal) (p : Path) (sets : List AlikeNames) : Type 0 where
  pub rise : IsStrictlySortedBy set_cmp sets
  pub each : (s : AlikeNames) → Contains sets s ↔ ((s.parent ≡ p) × AreAlike a b s)

-- they are put behind others
pub record AddsAlikes (a b : Renewal) (p : Path) (before after : List AlikeNames) : Type 0 where
  pub sets : List AlikeNames
  pub added : after ≡ before ++ sets
  pub are : AreAlikesBelow a b p sets
