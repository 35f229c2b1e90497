-- A safe result has no path that neither side had, and so is no deeper than the sides were.
use Rattle.std.proofs.Common.{◌≡◌, ◌≢◌, ◌⊎◌, inl, inr, ⊎_elim, ℕ, ◌≤◌, length, Some, refl, sym, ◌∙◌, arith}
use Rattle.hm_tree.specs.declared.archive.State.{State}
use Rattle.hm_tree.specs.declared.archive.State.TheVariants.{Missing, Present, Marked}
use Rattle.hm_tree.specs.Nodes.{Tree, depth}
use Rattle.hm_tree.specs.Archives.{Archive, depth_here}
use Rattle.hm_tree.specs.States.{Path, state, View, Has, HasNoMarkAbove}
use Rattle.hm_tree.proofs.DepthLaws.{path_bound, depth_bound, archive_depth_bound}
use Rattle.hm_safety.specs.Views.{Views}
use Rattle.hm_safety.specs.Changes.{Clash}
use Rattle.hm_safety.specs.Safety.{IsTopmostMark, IsSafe}

abbrev StoodBefore : Views → Path → Type 0
StoodBefore before p = Has before.left p ⊎ Has before.right p

-- ---- what stands on a side, or is recorded, stood on one of the sides

own_or_other : (new own other : View) (p : Path) → (new p ≢ own p → new p ≡ other p) → Has new p → Has own p ⊎ Has other p
own_or_other new own other p from has = by (own p) refl
  where
    by : (s : State) → own p ≡ s → Has own p ⊎ Has other p
    by Present is = inl is
    by Missing is = inr (sym (from (λ e. let no : Present ≡ Missing = sym has ∙ e ∙ is in let f : ⊥ = cc in f)) ∙ has)
    by Marked is = inr (sym (from (λ e. let no : Present ≡ Marked = sym has ∙ e ∙ is in let f : ⊥ = cc in f)) ∙ has)

module _ (before after : Views) (safe : IsSafe before after) where
  left_stood : (p : Path) → Has after.left p → StoodBefore before p
  left_stood p = own_or_other after.left before.left before.right p (safe.left_from_right p)

  right_stood : (p : Path) → Has after.right p → StoodBefore before p
  right_stood p has =
      ⊎_elim (λ l. inr l) (λ r. inl r) (own_or_other after.right before.right before.left p (safe.right_from_left p) has)

  clash_stood : (p : Path) → Clash before p → StoodBefore before p
  clash_stood p (inl lost) = inl lost.has
  clash_stood p (inr lost) = inr lost.has

  recorded_stood : (p : Path) → Has after.archive p → StoodBefore before p
  recorded_stood p has =
      ⊎_elim (λ marked. absurd (let no : Present ≡ Marked = sym has ∙ marked in let f : ⊥ = cc in f))
      (λ agree. left_stood p (sym agree.0 ∙ has)) (safe.agrees_or_stops p)

  mark_stood : (p : Path) → IsTopmostMark after.archive p → StoodBefore before p
  mark_stood p mark = ⊎_elim (λ both. inl both.0) (clash_stood p) (safe.stops_at p mark)

-- ---- depths

module _ (o archive : Archive) (a b left right : Tree) where
  abbrev Old : Views
  Old = record { archive = state o; left = state (Some a); right = state (Some b) }

  abbrev New : Views
  New = record { archive = state archive; left = state (Some left); right = state (Some right) }

  module _ (n : ℕ) (safe : IsSafe Old New) (a_shallow : depth a ≤ n) (b_shallow : depth b ≤ n) where
    short : (p : Path) → StoodBefore Old p → length p ≤ n
    short p (inl has) = let bound = path_bound a p has in omega arith
    short p (inr has) = let bound = path_bound b p has in omega arith

    pub left_shallow : depth left ≤ n
    left_shallow = depth_bound left n (λ p has. short p (left_stood Old New safe p has))

    pub right_shallow : depth right ≤ n
    right_shallow = depth_bound right n (λ p has. short p (right_stood Old New safe p has))

    pub archive_shallow : depth_here archive ≤ n
    archive_shallow = archive_depth_bound archive n (λ p there above. short p (stood p (state archive p) refl there above))
      where
        stood : (p : Path) (s : State) → state archive p ≡ s → state archive p ≢ Missing → HasNoMarkAbove archive p → StoodBefore Old p
        stood p Missing is there above = absurd (there is)
        stood p Present is there above = recorded_stood Old New safe p is
        stood p Marked is there above = mark_stood Old New safe p (record { marked = is; topmost = above })
