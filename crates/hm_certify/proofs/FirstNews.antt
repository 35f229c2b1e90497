-- The first news of a side, looked for down the tree.
use Rattle.std.proofs.Common.{◌≡◌, ◌≢◌, ◌↔◌, ℕ, ◌+◌, ◌<◌, ◌≤◌, length, drop, get_or, Bool, false, IsTrue, [], ◌∷◌, Option, Some, refl, sym, ap, subst, ◌∙◌, inl, inr}
use Rattle.std.specs.Ordering.{ordering_then}
use Rattle.std.proofs.lemmas.List.{drop_all}
use Rattle.hm_tree.specs.declared.archive.State.{State}
use Rattle.hm_tree.specs.declared.archive.State.TheVariants.{Present, Marked}
use Rattle.hm_tree.specs.Names.{Name}
use Rattle.hm_tree.specs.Nodes.{Tree, below}
use Rattle.hm_tree.specs.Archives.{Archive, under}
use Rattle.hm_tree.specs.States.{Path, state}
use Rattle.hm_tree.proofs.States.{state_root, state_down}
use Rattle.hm_tree.specs.PathOrder.{path_cmp, IsFirst}
use Rattle.hm_tree.proofs.PathLaws.{first_as, first_below}
use Rattle.hm_outcome.proofs.Downward.{state_under}
use Rattle.hm_outcome.proofs.Search.{is_present}
use Rattle.hm_report.proofs.FirstNews.{NewsOf, news_at_root, news_below}
use Rattle.hm_certify.specs.News.{IsWithinBefore}
use Rattle.hm_certify.proofs.Verdicts.{is_not}
use Rattle.hm_tree.proofs.Paths.{front_is}

not_marked : {s : State} → s ≡ Present → s ≢ Marked
not_marked e m = let f : Present ≡ Marked = sym e ∙ m in cc

-- ---- at the end of the names

pub news_here : (o : Archive) (t : Tree) → (state o [] ≢ Present) ↔ IsFirst (NewsOf o t) []
news_here o t = (news_at_root o t, λ f. f.here.news)

-- ---- a name more

-- where the archive isn't present at the root the root itself is the first
pub news_above : (o : Archive) (t : Tree) (k : Name) (q : Path) → state o [] ≢ Present → IsFirst (NewsOf o t) (k ∷ q) → ⊥
news_above o t k q n f = f.none_before [] (record { has = state_root t; news = n }) refl

module _ (o : Archive) (t : Tree) (k : Name) (q : Path) (present : state o [] ≡ Present) where
  down : (j : Name) (r : Path) → state o (j ∷ r) ≡ state (under j o) r
  down j r = state_under o j r (not_marked present)

  pub news_before : IsFirst (NewsOf o t) (k ∷ q) → IsWithinBefore t o k
  news_before f j c is less r has = elim (is_present (state (under j o) r)) [
    | inl there ↦ there
    | inr n ↦ (
        let news : NewsOf o t (j ∷ r) = record {
          has = state_down t j r ∙ ap (λ (x : Option Tree). state x r) is ∙ has;
          news = λ e. n (sym (down j r) ∙ e);
        } in
        absurd (f.none_before (j ∷ r) news (ap (λ x. ordering_then x (path_cmp r q)) less)))
  ]

  module _ (c : Tree) (is : below k t ≡ Some c) where
    here : (r : Path) → state (Some t) (k ∷ r) ≡ state (Some c) r
    here r = state_down t k r ∙ ap (λ (x : Option Tree). state x r) is

    news_under : (r : Path) → NewsOf o t (k ∷ r) ↔ NewsOf (under k o) c r
    news_under r = (
      λ n. record { has = sym (here r) ∙ n.has; news = λ e. n.news (down k r ∙ e) },
      λ n. record { has = here r ∙ n.has; news = λ e. n.news (sym (down k r) ∙ e) },
    )

    pub news_step : IsWithinBefore t o k → IsFirst (NewsOf o t) (k ∷ q) ↔ IsFirst (NewsOf (under k o) c) q
    news_step before = (
      λ f. first_as (λ r. NewsOf o t (k ∷ r)) (NewsOf (under k o) c) q news_under (first_below (NewsOf o t) k q f),
      news_below o t present k c is before q,
    )

-- ---- along a list of names, of which i were passed

abbrev pub NewsOn : Archive → Tree → Path → Archive → Tree → ℕ → Type 0
NewsOn o t names here side i = IsFirst (NewsOf o t) names ↔ IsFirst (NewsOf here side) (drop i names)

module _ (o : Archive) (t : Tree) (names : Path) (here : Archive) (side : Tree) (i : ℕ) (on : NewsOn o t names here side i) where
  pub on_end : (b : Bool) → length names ≤ i → IsTrue b ↔ (state here [] ≢ Present) → IsTrue b ↔ IsFirst (NewsOf o t) names
  on_end b end h = (
    λ true_is. on.1 (subst (IsFirst (NewsOf here side)) (sym (drop_all i names end)) ((news_here here side).0 (h.0 true_is))),
    λ f. h.1 ((news_here here side).1 (subst (IsFirst (NewsOf here side)) (drop_all i names end) (on.0 f))),
  )

  module _ (k : Name) (within : i < length names) (at : k ≡ get_or names i k) where
    next : IsFirst (NewsOf o t) names → IsFirst (NewsOf here side) (k ∷ drop (i + 1) names)
    next f = subst (IsFirst (NewsOf here side)) (front_is names i k within at) (on.0 f)

    pub on_above : state here [] ≢ Present → IsTrue false ↔ IsFirst (NewsOf o t) names
    on_above n = is_not (λ f. news_above here side k (drop (i + 1) names) n (next f))

    module _ (present : state here [] ≡ Present) where
      pub on_before : (IsWithinBefore side here k → ⊥) → IsTrue false ↔ IsFirst (NewsOf o t) names
      on_before n = is_not (λ f. n (news_before here side k (drop (i + 1) names) present (next f)))

      pub on_down : IsWithinBefore side here k → (c : Tree) (d : Archive) → below k side ≡ Some c → d ≡ under k here → NewsOn o t names d c (i + 1)
      on_down before c d is under_is = (
        λ f. subst (λ (x : Archive). IsFirst (NewsOf x c) (drop (i + 1) names)) (sym under_is)
            ((news_step here side k (drop (i + 1) names) present c is before).0 (next f)),
        λ f. on.1 (subst (IsFirst (NewsOf here side)) (sym (front_is names i k within at))
            ((news_step here side k (drop (i + 1) names) present c is before).1
            (subst (λ (x : Archive). IsFirst (NewsOf x c) (drop (i + 1) names)) under_is f))),
      )
