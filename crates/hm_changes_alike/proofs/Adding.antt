-- The sets below a path, as the code finds them.
use Rattle.std.proofs.Common.{◌≡◌, ◌↔◌, true, List, ◌++◌, Some, subst, ◌∙◌, inl, inr}
use Rattle.std.specs.List.{Contains}
use Rattle.std.proofs.lemmas.Bool.{or_cases, or_left, or_right}
use Rattle.hm_tree.specs.Names.{Name}
use Rattle.hm_tree.specs.States.{Path, at_path}
use Rattle.hm_alike.specs.Alike.{AreClasses}
use Rattle.hm_changes_alike.specs.declared.alikes.AlikeNames.{AlikeNames}
use Rattle.hm_changes_alike.specs.declared.views.Views.{Views}
use Rattle.hm_changes_alike.specs.Alikes.{IsShown, IsTold}
use Rattle.hm_changes_alike.specs.Below.{renewal, is_told_at, told_sets, AddsAlikes}
use Rattle.hm_changes_alike.specs.Shown.{AreUnited}
use Rattle.hm_changes_alike.specs.Staying.{Staying, both_at, edges_shown, turns_at}
use Rattle.hm_changes_alike.proofs.Staying.{shows, turns}
use Rattle.hm_changes_alike.proofs.Classed.{sets_below}

module _ (v w : Views) (p : Path) where
  abbrev left : Staying
  left = both_at (at_path (Some v.old.now) p) (at_path (Some v.new.now) p)

  abbrev right : Staying
  right = both_at (at_path (Some w.old.now) p) (at_path (Some w.new.now) p)

  shown : (names : List Name) → AreUnited (edges_shown left) (edges_shown right) names → (k : Name) → Contains names k ↔ IsShown (renewal v) (renewal w) p k
  shown names united k = (
    (λ c. elim ((united.each k).0 c) [ inl c ↦ inl ((shows v p k).1 c) | inr c ↦ inr ((shows w p k).1 c) ]),
    (λ h. (united.each k).1 (elim h [ inl h ↦ inl ((shows v p k).0 h) | inr h ↦ inr ((shows w p k).0 h) ])),
  )

  tells : (k : Name) → (is_told_at left right k ≡ true) ↔ IsTold (renewal v) (renewal w) p k
  tells k = (
    (λ h. elim (or_cases (turns_at left k) (turns_at right k) h) [ inl h ↦ inl ((turns v p k).1 h) | inr h ↦ inr ((turns w p k).1 h) ]),
    (λ h. elim h [ inl h ↦ or_left (turns_at left k) (turns_at right k) ((turns v p k).0 h) | inr h ↦ or_right (turns_at left k) (turns_at right k) ((turns w p k).0 h) ]),
  )

  adds_here : (names : List Name) (classes : List (List Name)) (before after : List AlikeNames) → AreUnited (edges_shown left) (edges_shown right) names
      → AreClasses names classes → after ≡ before ++ told_sets left right p classes → AddsAlikes (renewal v) (renewal w) p before after
  adds_here names classes before after united are is = record {
    sets = told_sets left right p classes;
    added = is;
    are = sets_below names united.rise (renewal v) (renewal w) p (shown names united) (is_told_at left right) tells classes are;
  }

  -- the same by what both views have at the path
  pub adds_sets : (ones others : Staying) (names : List Name) (classes : List (List Name)) (before after : List AlikeNames) → ones ≡ left → others ≡ right
      → AreUnited (edges_shown ones) (edges_shown others) names → AreClasses names classes → after ≡ before ++ told_sets ones others p classes
      → AddsAlikes (renewal v) (renewal w) p before after
  adds_sets ones others names classes before after is_left is_right united are is =
      adds_here names classes before after
      (subst (λ (x : Staying). AreUnited (edges_shown x) (edges_shown right) names) is_left
      (subst (λ (x : Staying). AreUnited (edges_shown ones) (edges_shown x) names) is_right united))
      are (is ∙ (λ i. before ++ told_sets (is_left i) (is_right i) p classes))
