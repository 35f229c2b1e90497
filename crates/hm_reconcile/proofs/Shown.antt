-- What shows why a path is contested, by what stands there.
use Rattle.std.proofs.Common.{◌≡◌, ◌≢◌, ◌↔◌, inl, inr, Bool, [], ◌∷◌, ◌++◌, Option, Some, None, sym, ap, subst, ◌∙◌}
use Rattle.hm_tree.specs.declared.archive.State.TheVariants.{Present, Marked}
use Rattle.hm_tree.specs.Nodes.{Node, Tree}
use Rattle.hm_tree.specs.Archives.{Archive}
use Rattle.hm_tree.specs.States.{Path, state, at_path, IsWithin, View, down}
use Rattle.hm_tree.proofs.Paths.{state_at, state_here, stands, stands_not}
use Rattle.hm_safety.specs.Views.{Views}
use Rattle.hm_safety.specs.Changes.{IsLost}
use Rattle.hm_schema.specs.Values.{Names}
use Rattle.hm_outcome.specs.Trios.{given, views}
use Rattle.hm_outcome.specs.Carried.{IsCarried, AreCarried}
use Rattle.hm_outcome.specs.Contested.{AreRefused, IsContested, earlier, lost, refused}
use Rattle.hm_outcome.proofs.Downward.{carried_below}
use Rattle.hm_outcome.proofs.Marks.{has_and_lacks}
use Rattle.hm_outcome.proofs.Settled.{chained, one_set}
use Rattle.hm_report.specs.declared.conflict.Why.TheVariants as why
use Rattle.hm_report.specs.Reasons.{IsNews, IsFirstNews, LosesFirst, ShowsWhy}
use Rattle.hm_report.specs.Reasons as reason
use Rattle.hm_report.proofs.FirstNews as first
use Rattle.hm_reconcile.specs.FirstNews.{IsNewsFrom}
use Rattle.hm_reconcile.specs.Showing.{IsContestedSomewhere, ShowsWherever}

-- ---- below a path, as from the root

pub carried_down : (p : Path) (archive mine other : View) (q : Path)
    → IsCarried archive mine other (p ++ q) ↔ IsCarried (down p archive) (down p mine) (down p other) q
carried_down [] archive mine other q = (λ c. c, λ c. c)
carried_down (k ∷ p) archive mine other q =
    chained (carried_below k archive mine other (p ++ q)) (carried_down p (down (k ∷ []) archive) (down (k ∷ []) mine) (down (k ∷ []) other) q)

pub carried_up : (p : Path) (archive mine other : View) (names : Names) → AreCarried (down p archive) (down p mine) (down p other) [] names
    → AreCarried archive mine other p names
carried_up p archive mine other names are k = chained (are k) (let both = carried_down p archive mine other (k ∷ []) in (both.1, both.0))

down_is : {m : Bool} (t : Option (Node m)) (p : Path) (u : Option (Node m)) → u ≡ at_path t p → down p (state t) ≡ state u
down_is t p u is = (λ i r. state_at t p r i) ∙ ap state (sym is)

module _ (o h : Archive) (a b : Tree) (p : Path) (at : h ≡ at_path o p) where
  abbrev before : Views
  before = views (given o a b)

  archive_from : (r : Path) → state o (p ++ r) ≡ state h r
  archive_from r = state_at o p r ∙ ap (λ x. state x r) (sym at)

  archive_here : state o p ≡ state h []
  archive_here = state_here o p ∙ ap (λ x. state x []) (sym at)

  pub earlier_shown : state h [] ≡ Marked → ShowsWherever before p why.Earlier
  earlier_shown mark s i (earlier m differ) = reason.earlier m differ
  earlier_shown mark s i (lost present clash) = let f : Present ≡ Marked = sym present ∙ archive_here ∙ mark in let no : ⊥ = cc in absurd no
  earlier_shown mark s i (refused r) = absurd (r.unmarked (archive_here ∙ mark))

  module _ (unmarked : state h [] ≢ Marked) where
    not_earlier : state o p ≢ Marked
    not_earlier mark = unmarked (sym archive_here ∙ mark)

    pub nothing_contested : None ≡ at_path (Some a) p → None ≡ at_path (Some b) p → IsContestedSomewhere before p → ⊥
    nothing_contested no_left no_right c = go c.contested
      where
        go : IsContested c.schema c.node before p → ⊥
        go (earlier m differ) = not_earlier m
        go (lost present (inl l)) = stands_not a p no_left l.has
        go (lost present (inr l)) = stands_not b p no_right l.has
        go (refused r) = stands_not a p no_left r.has_left

    -- ---- both sides have it

    module _ (t u : Tree) (left_at : Some t ≡ at_path (Some a) p) (right_at : Some u ≡ at_path (Some b) p) where
      left_names : (names : Names) → AreCarried (state h) (state (Some t)) (state (Some u)) [] names
          → AreCarried (state o) (state (Some a)) (state (Some b)) p names
      left_names names are = carried_up p (state o) (state (Some a)) (state (Some b)) names
          (subst (λ (z : View × View × View). AreCarried z.0 z.1 z.2 [] names)
          (λ j. (sym (down_is o p h at) j, sym (down_is (Some a) p (Some t) left_at) j, sym (down_is (Some b) p (Some u) right_at) j)) are)

      right_names : (names : Names) → AreCarried (state h) (state (Some u)) (state (Some t)) [] names
          → AreCarried (state o) (state (Some b)) (state (Some a)) p names
      right_names names are = carried_up p (state o) (state (Some b)) (state (Some a)) names
          (subst (λ (z : View × View × View). AreCarried z.0 z.1 z.2 [] names)
          (λ j. (sym (down_is o p h at) j, sym (down_is (Some b) p (Some u) right_at) j, sym (down_is (Some a) p (Some t) left_at) j)) are)

      pub names_shown : (left right : Names) → AreCarried (state h) (state (Some t)) (state (Some u)) [] left
          → AreCarried (state h) (state (Some u)) (state (Some t)) [] right → ShowsWherever before p (why.Names left right)
      names_shown left right are_left are_right s i (earlier m differ) = absurd (not_earlier m)
      names_shown left right are_left are_right s i (lost present (inl l)) = absurd (has_and_lacks (stands b u p right_at) l.lacks)
      names_shown left right are_left are_right s i (lost present (inr l)) = absurd (has_and_lacks (stands a t p left_at) l.lacks)
      names_shown left right are_left are_right s i (refused {left = l} {right = r} x) =
          reason.refused (subst (λ (z : Names × Names). AreRefused s i before p z.0 z.1)
          (λ j. (one_set l left x.are_left (left_names left are_left) j, one_set r right x.are_right (right_names right are_right) j)) x)

    -- ---- one side alone has it

    -- what is lost isn't within the archive
    lost_news : (keeper other t : Tree) → Some t ≡ at_path (Some keeper) p → IsLost (state o) (state (Some keeper)) (state (Some other)) p
        → ¬ (IsWithin (Some t) h)
    lost_news keeper other t is l within =
        l.news.2 (archive_from l.news.0 ∙ within l.news.0 (sym (state_at (Some keeper) p l.news.0 ∙ ap (λ x. state x l.news.0) (sym is)) ∙ l.news.1))

    first_from : (keeper t : Tree) (q : Path) → Some t ≡ at_path (Some keeper) p → IsNewsFrom (state h) (state (Some t)) p q
        → IsFirstNews (state o) (state (Some keeper)) p q
    first_from keeper t q is n =
        subst (IsFirstNews (state o) (state (Some keeper)) p) (sym n.is) (first.first_from o h (Some keeper) t p n.below at is n.first)

    module _ (t : Tree) where
      pub left_news : Some t ≡ at_path (Some a) p → None ≡ at_path (Some b) p → IsContestedSomewhere before p → ¬ (IsWithin (Some t) h)
      left_news left_at right_at c = go c.contested
        where
          go : IsContested c.schema c.node before p → ¬ (IsWithin (Some t) h)
          go (earlier m differ) = absurd (not_earlier m)
          go (lost present (inl l)) = lost_news a b t left_at l
          go (lost present (inr l)) = absurd (stands_not b p right_at l.has)
          go (refused r) = absurd (stands_not b p right_at r.has_right)

      pub left_shown : Some t ≡ at_path (Some a) p → None ≡ at_path (Some b) p → (q : Path) → IsNewsFrom (state h) (state (Some t)) p q
          → ShowsWherever before p (why.Lost q)
      left_shown left_at right_at q n s i (earlier m differ) = absurd (not_earlier m)
      left_shown left_at right_at q n s i (lost present (inl l)) = reason.lost present (inl (record { lost = l; first = first_from a t q left_at n }))
      left_shown left_at right_at q n s i (lost present (inr l)) = absurd (stands_not b p right_at l.has)
      left_shown left_at right_at q n s i (refused r) = absurd (stands_not b p right_at r.has_right)

      pub right_news : None ≡ at_path (Some a) p → Some t ≡ at_path (Some b) p → IsContestedSomewhere before p → ¬ (IsWithin (Some t) h)
      right_news left_at right_at c = go c.contested
        where
          go : IsContested c.schema c.node before p → ¬ (IsWithin (Some t) h)
          go (earlier m differ) = absurd (not_earlier m)
          go (lost present (inl l)) = absurd (stands_not a p left_at l.has)
          go (lost present (inr l)) = lost_news b a t right_at l
          go (refused r) = absurd (stands_not a p left_at r.has_left)

      pub right_shown : None ≡ at_path (Some a) p → Some t ≡ at_path (Some b) p → (q : Path) → IsNewsFrom (state h) (state (Some t)) p q
          → ShowsWherever before p (why.Lost q)
      right_shown left_at right_at q n s i (earlier m differ) = absurd (not_earlier m)
      right_shown left_at right_at q n s i (lost present (inl l)) = absurd (stands_not a p left_at l.has)
      right_shown left_at right_at q n s i (lost present (inr l)) =
          reason.lost present (inr (record { lost = l; first = first_from b t q right_at n }))
      right_shown left_at right_at q n s i (refused r) = absurd (stands_not a p left_at r.has_left)
