-- The definitions, tried on small trees: what has changed, what clashes, and results that aren't safe.
use Rattle.std.proofs.Common.{◌≡◌, ◌≢◌, [], ◌∷◌, ◌++◌, Some, refl, inl, inr}
use Rattle.std.specs.Prelude.{false}
use Rattle.hm_tree.specs.declared.archive.State.TheVariants.{Missing, Present, Marked}
use Rattle.hm_tree.specs.Names.{Name, name_cmp}
use Rattle.hm_tree.specs.Nodes.{bare, mark, edge, both, Tree, marked, edges, edges_of, is_marked}
use Rattle.hm_tree.specs.Archives.{Archive}
use Rattle.hm_tree.specs.States.{Path, state}
use Rattle.hm_safety.specs.Views.{Views, Agree, both_present}
use Rattle.hm_safety.specs.Changes.{HasChanged, Clash}
use Rattle.hm_safety.specs.Safety.{IsTopmostMark, IsSafe}
use Rattle.hm_safety.proofs.SmallTrees.{nothing, ann, bob, tel, bob_text, tel_text, leaf_sound, has_ann, has_bob, holds_ann, holds_bob, holds_nothing}

abbrev before : Archive → Tree → Tree → Views
before o a b = record { archive = state o; left = state (Some a); right = state (Some b) }

disagree : Agree Present Missing → ⊥
disagree h = elim h [ ]

disagree_too : Agree Missing Present → ⊥
disagree_too h = elim h [ ]

-- the archive has Ann, and a side that lacks her has changed there
deleted_is_changed : HasChanged (state holds_ann) (state (Some nothing)) (ann ∷ [])
unfolding edges edges_of is_marked name_cmp
deleted_is_changed h = disagree h

-- a side that still has her hasn't
kept_is_unchanged : ¬ (HasChanged (state holds_ann) (state (Some has_ann)) (ann ∷ []))
unfolding edges edges_of is_marked name_cmp
kept_is_unchanged h = h both_present

-- a mark agrees with nothing
marked_is_changed : HasChanged (state (Some marked)) (state (Some nothing)) []
unfolding is_marked marked
marked_is_changed h = elim h [ ]

-- ---- results that aren't safe

-- a deleted name may not come back
not_back : ¬ (IsSafe (before holds_ann nothing has_ann) (before holds_ann has_ann has_ann))
unfolding edges edges_of is_marked name_cmp
not_back h = let same : Present ≡ Missing = h.keeps_left (ann ∷ []) deleted_is_changed in let no : ⊥ = cc in no

-- nothing may be made up
not_made_up : ¬ (IsSafe (before holds_nothing nothing nothing) (before holds_bob has_bob has_bob))
unfolding edges edges_of is_marked name_cmp
not_made_up h =
    let same : Present ≡ Missing = h.left_from_right (bob ∷ []) (λ e. let e2 : Present ≡ Missing = e in let no : ⊥ = cc in no) in
    let no : ⊥ = cc in no

-- the left side may not win: what the right side has added stays there
left_wins_not : ¬ (IsSafe (before holds_nothing has_ann has_bob) (before holds_ann has_ann has_ann))
unfolding edges edges_of is_marked name_cmp
left_wins_not h =
    let same : Missing ≡ Present = h.keeps_right (bob ∷ []) (λ a. disagree_too a) in
    let no : ⊥ = cc in no

-- where the sides differ the archive may not follow one of them
not_as_left : ¬ (IsSafe (before holds_nothing has_ann has_bob) (before holds_ann has_ann has_bob))
unfolding edges edges_of is_marked name_cmp
not_as_left h = elim (h.agrees_or_stops (ann ∷ [])) [
  | inl m ↦ (let e : Present ≡ Marked = m in let no : ⊥ = cc in no)
  | inr s ↦ (let e : Present ≡ Missing = s.1 in let no : ⊥ = cc in no)
]

-- a change that the other side hasn't seen may not be held back under a mark: there is no clash
abbrev marks_bob : Archive
marks_bob = Some (record { shape = edge bob mark bare; sound = both _ _ (both _ _ bob_text tt) tt })

topmost : IsTopmostMark (state marks_bob) (bob ∷ [])
unfolding edges edges_of is_marked name_cmp
topmost = record { marked = refl; topmost = above }
  where
    above : (q r : Path) → bob ∷ [] ≡ q ++ r → r ≢ [] → state marks_bob q ≢ Marked
    above [] r e n m = let f : Present ≡ Marked = m in let no : ⊥ = cc in no
    above (k ∷ q) [] e n m = n refl
    above (k ∷ q) (j ∷ r) e n m = let no : ⊥ = longer k j q r e in no
      where
        longer : (k j : Name) (q r : Path) → bob ∷ [] ≡ (k ∷ q) ++ (j ∷ r) → ⊥
        longer k j [] r e = cc
        longer k j (i ∷ q) r e = cc

not_held_back : ¬ (IsSafe (before holds_nothing nothing has_bob) (before marks_bob nothing has_bob))
unfolding edges edges_of is_marked name_cmp
not_held_back h = elim (h.stops_at (bob ∷ []) topmost) [
  | inl both ↦ (let e : Missing ≡ Present = both.0 in let no : ⊥ = cc in no)
  | inr (inl lost) ↦ (let e : Missing ≡ Present = lost.has in let no : ⊥ = cc in no)
  | inr (inr lost) ↦ lost.known refl
]

-- ---- clashes

-- the left side deleted Bob, and the right side gave him a number
abbrev bob_has_tel : Tree
bob_has_tel = record {
  shape = edge bob (edge tel bare bare) bare;
  sound = both _ _ (both _ _ bob_text tt) (both _ _ (leaf_sound false tel tel_text) tt);
}

clashes : Clash (before holds_bob nothing bob_has_tel) (bob ∷ [])
unfolding edges edges_of is_marked name_cmp
clashes = inr (record {
  has = refl;
  lacks = refl;
  known = λ e. (let f : Present ≡ Missing = e in let no : ⊥ = cc in no);
  news = (tel ∷ [], refl, λ e. (let f : Missing ≡ Present = e in let no : ⊥ = cc in no));
})

-- a side that still has Bob as he was clashes with no deletion
clashes_not : ¬ (Clash (before holds_bob nothing has_bob) (bob ∷ []))
unfolding edges edges_of is_marked name_cmp
clashes_not (inl lost) = let e : Missing ≡ Present = lost.has in let no : ⊥ = cc in no
clashes_not (inr lost) = as_he_was lost.news.0 lost.news.1 lost.news.2
  where
    as_he_was : (r : Path) → state (Some has_bob) (bob ∷ r) ≡ Present → state holds_bob (bob ∷ r) ≢ Present → ⊥
    as_he_was [] has none = none refl
    as_he_was (k ∷ r) has none = let e : Missing ≡ Present = has in let no : ⊥ = cc in no
