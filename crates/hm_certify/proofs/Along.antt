-- What is so at a path is so at the root of what stands there.
use Rattle.std.proofs.Common.{◌≡◌, ◌↔◌, Bool, true, false, cond, [], ◌∷◌, ◌++◌, Option, Some, None, refl, sym, subst, ◌∙◌}
use Rattle.hm_tree.specs.declared.archive.State.{State}
use Rattle.hm_tree.specs.Names.{Name}
use Rattle.hm_tree.specs.Nodes.{Node, Tree, below, is_marked}
use Rattle.hm_tree.specs.Archives.{Archive}
use Rattle.hm_tree.specs.States.{Path, state, at_path, View}
use Rattle.hm_tree.proofs.Paths.{state_at, state_here, nothing_below}
use Rattle.hm_tree.proofs.PathLaws.{first_as}
use Rattle.hm_safety.specs.Views.{Agree}
use Rattle.hm_safety.specs.Changes.{HasChanged, IsLost}
use Rattle.hm_report.proofs.FirstNews.{first_behind}
use Rattle.hm_outcome.specs.Trios.{Trio, views, Differ}
use Rattle.hm_outcome.specs.Carried.{IsCarried, on_both, clashing, kept, brought}
use Rattle.hm_report.specs.Reasons.{IsNews, IsFirstNews, LosesFirst}
use Rattle.hm_certify.specs.Steps.{along}

-- what stands at a path that goes on stands there from what stands at its beginning
pub at_path-append : {m : Bool} (t : Option (Node m)) (p q : Path) → at_path t (p ++ q) ≡ at_path (at_path t p) q
at_path-append t [] q = refl
at_path-append None (k ∷ p) q = sym (nothing_below q)
at_path-append {m = m} (Some t) (k ∷ p) q = go (is_marked t) refl (at_path-append (below k t) p q)
  where
    of_mark : (q : Path) → is_marked t ≡ true → Some t ≡ at_path (Some t) q
    of_mark [] e = refl
    of_mark (j ∷ q) e = rw e refl

    go : (b : Bool) → is_marked t ≡ b → at_path (below k t) (p ++ q) ≡ at_path (at_path (below k t) p) q
        → cond b (Some t) (at_path (below k t) (p ++ q)) ≡ at_path (cond b (Some t) (at_path (below k t) p)) q
    go true e rest = of_mark q e
    go false e rest = rest

pub along-append : (p q : Path) (t : Trio) → along (p ++ q) t ≡ along q (along p t)
along-append p q t = λ i. record {
  archive = at_path-append t.archive p q i;
  left = at_path-append t.left p q i;
  right = at_path-append t.right p q i;
}

-- ---- one side deleted it, and what the other has there

module _ (o : Archive) (mine other : Option Tree) (p : Path) where
  -- what they have at the path, and below it
  abbrev O : View
  O = state (at_path o p)

  abbrev M : View
  M = state (at_path mine p)

  abbrev N : View
  N = state (at_path other p)

  pub lost_along : IsLost (state o) (state mine) (state other) p ↔ IsLost O M N []
  lost_along = (
    λ l. record {
      has = sym (state_here mine p) ∙ l.has;
      lacks = sym (state_here other p) ∙ l.lacks;
      known = λ e. l.known (state_here o p ∙ e);
      news = (l.news.0, sym (state_at mine p l.news.0) ∙ l.news.1, λ e. l.news.2 (state_at o p l.news.0 ∙ e));
    },
    λ l. record {
      has = state_here mine p ∙ l.has;
      lacks = state_here other p ∙ l.lacks;
      known = λ e. l.known (sym (state_here o p) ∙ e);
      news = (l.news.0, state_at mine p l.news.0 ∙ l.news.1, λ e. l.news.2 (sym (state_at o p l.news.0) ∙ e));
    },
  )

  news_along : (r : Path) → IsNews (state o) (state mine) (p ++ r) ↔ IsNews O M r
  news_along r = (
    λ n. record { has = sym (state_at mine p r) ∙ n.has; news = λ e. n.news (state_at o p r ∙ e) },
    λ n. record { has = state_at mine p r ∙ n.has; news = λ e. n.news (sym (state_at o p r) ∙ e) },
  )

  pub first_along : (names : Path) → IsFirstNews (state o) (state mine) p (p ++ names) ↔ IsFirstNews O M [] names
  first_along names = (
    λ f. (first_behind O M [] names).1 (first_as at_p (IsNews O M) names news_along ((first_behind (state o) (state mine) p names).0 f)),
    λ f. (first_behind (state o) (state mine) p names).1
        (first_as (IsNews O M) at_p names (λ r. ((news_along r).1, (news_along r).0)) ((first_behind O M [] names).0 f)),
  )
    where
      at_p : Path → Type 0
      at_p r = IsNews (state o) (state mine) (p ++ r)

  pub loses_along : (names : Path) → LosesFirst (state o) (state mine) (state other) p (p ++ names) ↔ LosesFirst O M N [] names
  loses_along names = (
    λ l. record { lost = lost_along.0 l.lost; first = (first_along names).0 l.first },
    λ l. record { lost = lost_along.1 l.lost; first = (first_along names).1 l.first },
  )

changed_along : (o : Archive) (a : Option Tree) (p : Path)
    → HasChanged (state o) (state a) p ↔ HasChanged (state (at_path o p)) (state (at_path a p)) []
changed_along o a p = (
  λ changed agree. changed (subst (λ (x : State × State). Agree x.0 x.1) (λ i. (sym (state_here o p) i, sym (state_here a p) i)) agree),
  λ changed agree. changed (subst (λ (x : State × State). Agree x.0 x.1) (λ i. (state_here o p i, state_here a p i)) agree),
)

-- ---- carried

pub carried_along : (o : Archive) (mine other : Option Tree) (p : Path)
    → IsCarried (state o) (state mine) (state other) p ↔ IsCarried (state (at_path o p)) (state (at_path mine p)) (state (at_path other p)) []
carried_along o mine other p = (to, from)
  where
    to : IsCarried (state o) (state mine) (state other) p → IsCarried (state (at_path o p)) (state (at_path mine p)) (state (at_path other p)) []
    to (on_both h g) = on_both (sym (state_here mine p) ∙ h) (sym (state_here other p) ∙ g)
    to (clashing l) = clashing ((lost_along o mine other p).0 l)
    to (kept h l n c) = kept (sym (state_here mine p) ∙ h) (sym (state_here other p) ∙ l) (λ x. n ((lost_along o mine other p).1 x))
        ((changed_along o mine p).0 c)
    to (brought l h n c) = brought (sym (state_here mine p) ∙ l) (sym (state_here other p) ∙ h) (λ x. n ((lost_along o other mine p).1 x))
        ((changed_along o other p).0 c)

    from : IsCarried (state (at_path o p)) (state (at_path mine p)) (state (at_path other p)) [] → IsCarried (state o) (state mine) (state other) p
    from (on_both h g) = on_both (state_here mine p ∙ h) (state_here other p ∙ g)
    from (clashing l) = clashing ((lost_along o mine other p).1 l)
    from (kept h l n c) = kept (state_here mine p ∙ h) (state_here other p ∙ l) (λ x. n ((lost_along o mine other p).0 x))
        ((changed_along o mine p).1 c)
    from (brought l h n c) = brought (state_here mine p ∙ l) (state_here other p ∙ h) (λ x. n ((lost_along o other mine p).0 x))
        ((changed_along o other p).1 c)

-- a name is carried at a path
pub name_carried : (o : Archive) (mine other : Option Tree) (p : Path) (k : Name)
    → IsCarried (state o) (state mine) (state other) (p ++ k ∷ [])
    ↔ IsCarried (state (at_path (at_path o p) (k ∷ []))) (state (at_path (at_path mine p) (k ∷ []))) (state (at_path (at_path other p) (k ∷ []))) []
name_carried o mine other p k =
    subst (λ (t : Trio). IsCarried (state o) (state mine) (state other) (p ++ k ∷ []) ↔ IsCarried (state t.archive) (state t.left) (state t.right) [])
    (along-append p (k ∷ []) (record { archive = o; left = mine; right = other })) (carried_along o mine other (p ++ k ∷ []))

-- ---- the sides don't agree

pub differ_along : (t : Trio) (p : Path) → Differ (views t) p ↔ Differ (views (along p t)) []
differ_along t p = (
  λ d. (
    d.0,
    λ agree. d.1 (subst (λ (x : State × State). Agree x.0 x.1) (λ i. (sym (state_at t.left p d.0) i, sym (state_at t.right p d.0) i))
        agree),
  ),
  λ d. (d.0, λ agree. d.1 (subst (λ (x : State × State). Agree x.0 x.1) (λ i. (state_at t.left p d.0 i, state_at t.right p d.0 i)) agree)),
)
