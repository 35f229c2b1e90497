-- A topmost mark, looked for along a path of which i names were passed.
use Rattle.std.proofs.Common.{◌≡◌, ◌≢◌, ◌↔◌, ℕ, ◌+◌, ◌<◌, ◌≤◌, [], ◌∷◌, length, drop, get_or, false, IsTrue, refl, sym, subst}
use Rattle.std.proofs.lemmas.List.{drop_all}
use Rattle.hm_tree.specs.declared.archive.State.TheVariants.{Marked}
use Rattle.hm_tree.specs.Names.{Name}
use Rattle.hm_tree.specs.Archives.{Archive, under}
use Rattle.hm_tree.specs.States.{Path, state, View}
use Rattle.hm_safety.specs.Safety.{IsTopmostMark}
use Rattle.hm_outcome.proofs.Marks.{at_root, below_root}
use Rattle.hm_outcome.proofs.Downward.{state_under, none_above_below}
use Rattle.hm_certify.proofs.Verdicts.{is_not}
use Rattle.hm_tree.proofs.Paths.{front_is}

mark_under : (o : Archive) (k : Name) (p : Path) → state o [] ≢ Marked → IsTopmostMark (state o) (k ∷ p) ↔ IsTopmostMark (state (under k o)) p
mark_under o k p n = (
  λ m. subst (λ (v : View). IsTopmostMark v p) same
      (record { marked = m.marked; topmost = (none_above_below (λ q. state o q ≡ Marked) k p n).0 m.topmost }),
  λ m. below_root (state o) k p n (subst (λ (v : View). IsTopmostMark v p) (sym same) m),
)
  where
    same : ◌≡◌ {A = View} (λ q. state o (k ∷ q)) (state (under k o))
    same = λ i q. state_under o k q n i

-- what is looked for in the whole archive is now looked for here
abbrev pub FoundOn : Archive → Archive → Path → ℕ → Type 0
FoundOn o here p i = IsTopmostMark (state o) p ↔ IsTopmostMark (state here) (drop i p)

module _ (o here : Archive) (p : Path) (i : ℕ) (on : FoundOn o here p i) where
  pub on_end : length p ≤ i → IsTopmostMark (state o) p ↔ (state here [] ≡ Marked)
  on_end end = (
    λ m. (subst (IsTopmostMark (state here)) (drop_all i p end) (on.0 m)).marked,
    λ m. on.1 (subst (IsTopmostMark (state here)) (sym (drop_all i p end)) (at_root (state here) m)),
  )

  module _ (k : Name) (within : i < length p) (at : k ≡ get_or p i k) where
    here_is : IsTopmostMark (state here) (drop i p) → IsTopmostMark (state here) (k ∷ drop (i + 1) p)
    here_is m = subst (IsTopmostMark (state here)) (front_is p i k within at) m

    pub on_mark : state here [] ≡ Marked → IsTrue false ↔ IsTopmostMark (state o) p
    on_mark marked = is_not (λ m. (here_is (on.0 m)).topmost [] (k ∷ drop (i + 1) p) refl (λ e. (let f : ⊥ = cc in f)) marked)

    pub on_down : state here [] ≢ Marked → (child : Archive) → child ≡ under k here → FoundOn o child p (i + 1)
    on_down n child is = (
      λ m. subst (λ (c : Archive). IsTopmostMark (state c) (drop (i + 1) p)) (sym is) ((mark_under here k (drop (i + 1) p) n).0 (here_is (on.0 m))),
      λ m. on.1 (subst (IsTopmostMark (state here)) (sym (front_is p i k within at))
          ((mark_under here k (drop (i + 1) p) n).1 (subst (λ (c : Archive). IsTopmostMark (state c) (drop (i + 1) p)) is m))),
    )
