-- Where both sides have the root and it isn't contested, what is settled under each name is settled as a whole.
use Rattle.std.proofs.Common.{◌≡◌, ◌≢◌, ◌⊎◌, ◌↔◌, Bool, true, false, cond, length, [], ◌∷◌, ◌++◌, Option, Some, None, All, option_and_then, refl, sym, ap, subst, subst₂, ◌∙◌, inl, inr, le_refl}
use Rattle.std.proofs.lemmas.Option.{same_Some, none-some, slice_get_past}
use Rattle.std.proofs.lemmas.List.Elements.{All-nil}
use Rattle.hm_tree.specs.declared.archive.State.TheVariants.{Present, Marked}
use Rattle.hm_tree.specs.Names.{Name}
use Rattle.hm_tree.specs.Nodes.{Node, Tree, below, is_marked}
use Rattle.hm_tree.specs.Archives.{under}
use Rattle.hm_tree.specs.States.{Path, state, View, Has, down}
use Rattle.hm_tree.proofs.States.{state_root, state_unmarked}
use Rattle.hm_safety.specs.Views.{Views}
use Rattle.hm_safety.specs.Changes.{IsLost, Clash}
use Rattle.hm_safety.specs.Safety.{IsTopmostMark, IsSafe}
use Rattle.hm_schema.specs.declared.node.NodeId.{NodeId}
use Rattle.hm_schema.specs.Values.{Names, NodeValue, SchemaValue, node_at, child_at, reached, node_of}
use Rattle.hm_schema.specs.Permitted.{Permits}
use Rattle.hm_schema.specs.Membership.{HasNames, IsTwin, IsMember, HasNoTwins}
use Rattle.hm_outcome.specs.Trios.{Trio, views, AreMembers, IsSafeUnder}
use Rattle.hm_outcome.specs.Carried.{IsCarried, on_both, clashing, kept, brought, AreCarried}
use Rattle.hm_outcome.specs.Contested.{IsContested, earlier, lost, refused, IsTopmostContested}
use Rattle.hm_outcome.specs.Outcomes.{IsOutcome}
use Rattle.hm_outcome.proofs.Marks.{has_and_lacks}
use Rattle.hm_outcome.proofs.Settled.{one_set, chained, equal_sides}

-- what stands under a name in each of the three
abbrev pub child : Name → Trio → Trio
child k t = record { archive = under k t.archive; left = under k t.left; right = under k t.right }

-- the names that a side is to have at the root are permitted there, and the result has them
pub record TakesNames (n : NodeValue) (archive mine other after : View) : Type 0 where
  pub names : Names
  pub carried : AreCarried archive mine other [] names
  pub permitted : Permits n names
  pub has : HasNames after names

-- both sides have the root before and after, and under each name there is an outcome
pub record IsDownward (s : SchemaValue) (i : NodeId) (before after : Trio) : Type 0 where
  pub unmarked : state before.archive [] ≢ Marked
  pub has_left : Has (state before.left) []
  pub has_right : Has (state before.right) []
  pub archive : Has (state after.archive) []
  pub left : Has (state after.left) []
  pub right : Has (state after.right) []
  pub placed : (k : Name) (j : NodeId) → child_at s i k ≡ Some j → IsOutcome s j (child k before) (child k after)
  -- nothing stands under a name that has no node
  pub unplaced : (k : Name) → child_at s i k ≡ None → child k after ≡ record { archive = None; left = None; right = None }
  pub node : NodeValue
  pub is : node_at s i ≡ Some node
  pub left_names : TakesNames node (state before.archive) (state before.left) (state before.right) (state after.left)
  pub right_names : TakesNames node (state before.archive) (state before.right) (state before.left) (state after.right)

-- ---- what is seen below a name

abbrev pub views_below : Name → Views → Views
views_below k v = record { archive = down (k ∷ []) v.archive; left = down (k ∷ []) v.left; right = down (k ∷ []) v.right }

pub state_under : {m : Bool} (o : Option (Node m)) (k : Name) (p : Path) → state o [] ≢ Marked → state o (k ∷ p) ≡ state (under k o) p
state_under None k p n = refl
state_under (Some t) k p n =
    elim (is_marked t) as (λ b. cond b Marked Present ≢ Marked → cond b Marked (state (below k t) p) ≡ state (below k t) p)
    [ true ↦ λ n. absurd (n refl) | false ↦ λ n. refl ] n

pub views_child : (k : Name) (t : Trio) → state t.archive [] ≢ Marked → views (child k t) ≡ views_below k (views t)
views_child k t n = λ i. record {
  archive = λ p. sym (state_under t.archive k p n) i;
  left = λ p. sym (state_under t.left k p (state_unmarked t.left [])) i;
  right = λ p. sym (state_under t.right k p (state_unmarked t.right [])) i;
}

pub lost_below : (k : Name) (archive keeper other : View) (p : Path)
    → IsLost archive keeper other (k ∷ p) ↔ IsLost (down (k ∷ []) archive) (down (k ∷ []) keeper) (down (k ∷ []) other) p
lost_below k archive keeper other p = (
  λ l. record { has = l.has; lacks = l.lacks; known = l.known; news = l.news },
  λ l. record { has = l.has; lacks = l.lacks; known = l.known; news = l.news },
)

pub carried_below : (k : Name) (archive mine other : View) (p : Path)
    → IsCarried archive mine other (k ∷ p) ↔ IsCarried (down (k ∷ []) archive) (down (k ∷ []) mine) (down (k ∷ []) other) p
carried_below k archive mine other p = (to, from)
  where
    mine_lost : IsLost archive mine other (k ∷ p) ↔ IsLost (down (k ∷ []) archive) (down (k ∷ []) mine) (down (k ∷ []) other) p
    mine_lost = lost_below k archive mine other p

    other_lost : IsLost archive other mine (k ∷ p) ↔ IsLost (down (k ∷ []) archive) (down (k ∷ []) other) (down (k ∷ []) mine) p
    other_lost = lost_below k archive other mine p

    to : IsCarried archive mine other (k ∷ p) → IsCarried (down (k ∷ []) archive) (down (k ∷ []) mine) (down (k ∷ []) other) p
    to (on_both h g) = on_both h g
    to (clashing l) = clashing (mine_lost.0 l)
    to (kept h l n c) = kept h l (λ x. n (mine_lost.1 x)) c
    to (brought l h n c) = brought l h (λ x. n (other_lost.1 x)) c

    from : IsCarried (down (k ∷ []) archive) (down (k ∷ []) mine) (down (k ∷ []) other) p → IsCarried archive mine other (k ∷ p)
    from (on_both h g) = on_both h g
    from (clashing l) = clashing (mine_lost.1 l)
    from (kept h l n c) = kept h l (λ x. n (mine_lost.0 x)) c
    from (brought l h n c) = brought l h (λ x. n (other_lost.0 x)) c

-- ---- contested below a name

module _ (s : SchemaValue) (i j : NodeId) (k : Name) (v : Views) (leads : (p : Path) → node_of s i (k ∷ p) ≡ node_of s j p) where
  are_carried_below : (archive mine other : View) (p : Path) (names : Names)
      → AreCarried archive mine other (k ∷ p) names ↔ AreCarried (down (k ∷ []) archive) (down (k ∷ []) mine) (down (k ∷ []) other) p names
  are_carried_below archive mine other p names = (λ c x. chained (c x) (at x), λ c x. chained (c x) ((at x).1, (at x).0))
    where
      at : (x : Name) → IsCarried archive mine other (k ∷ (p ++ x ∷ []))
          ↔ IsCarried (down (k ∷ []) archive) (down (k ∷ []) mine) (down (k ∷ []) other) (p ++ x ∷ [])
      at x = carried_below k archive mine other (p ++ x ∷ [])

  contested_below : (p : Path) → IsContested s i v (k ∷ p) ↔ IsContested s j (views_below k v) p
  contested_below p = (to, from)
    where
      left_lost : IsLost v.archive v.left v.right (k ∷ p) ↔ IsLost (down (k ∷ []) v.archive) (down (k ∷ []) v.left) (down (k ∷ []) v.right) p
      left_lost = lost_below k v.archive v.left v.right p

      right_lost : IsLost v.archive v.right v.left (k ∷ p) ↔ IsLost (down (k ∷ []) v.archive) (down (k ∷ []) v.right) (down (k ∷ []) v.left) p
      right_lost = lost_below k v.archive v.right v.left p

      to : IsContested s i v (k ∷ p) → IsContested s j (views_below k v) p
      to (earlier m d) = earlier m d
      to (lost h (inl l)) = lost h (inl (left_lost.0 l))
      to (lost h (inr l)) = lost h (inr (right_lost.0 l))
      to (refused {left} {right} r) = refused (record {
        has_left = r.has_left;
        has_right = r.has_right;
        unmarked = r.unmarked;
        are_left = (are_carried_below v.archive v.left v.right p left).0 r.are_left;
        are_right = (are_carried_below v.archive v.right v.left p right).0 r.are_right;
        node = r.node;
        is = sym (leads p) ∙ r.is;
        refused = r.refused;
      })

      from : IsContested s j (views_below k v) p → IsContested s i v (k ∷ p)
      from (earlier m d) = earlier m d
      from (lost h (inl l)) = lost h (inl (left_lost.1 l))
      from (lost h (inr l)) = lost h (inr (right_lost.1 l))
      from (refused {left} {right} r) = refused (record {
        has_left = r.has_left;
        has_right = r.has_right;
        unmarked = r.unmarked;
        are_left = (are_carried_below v.archive v.left v.right p left).1 r.are_left;
        are_right = (are_carried_below v.archive v.right v.left p right).1 r.are_right;
        node = r.node;
        is = leads p ∙ r.is;
        refused = r.refused;
      })

-- ---- topmost below a name

abbrev pub NoneAbove : (Path → Type 0) → Path → Type 0
NoneAbove P p = (q r : Path) → p ≡ q ++ r → r ≢ [] → ¬ (P q)

-- where it doesn't hold at the root
pub none_above_below : (P : Path → Type 0) (k : Name) (p : Path) → ¬ (P []) → NoneAbove P (k ∷ p) ↔ NoneAbove (λ q. P (k ∷ q)) p
none_above_below P k p root = (λ n q r e. n (k ∷ q) r (ap (λ x. k ∷ x) e), from)
  where
    from : NoneAbove (λ q. P (k ∷ q)) p → NoneAbove P (k ∷ p)
    from n [] r e some h = root h
    from n (x ∷ q) r e some h =
        let same_name : x ≡ k = cc in
        let same_path : p ≡ q ++ r = cc in
        n q r same_path some (subst (λ x. P (x ∷ q)) same_name h)

-- what holds at the root and below each name holds at each path
pub at_each : (P : Path → Type 0) → P [] → ((k : Name) (p : Path) → P (k ∷ p)) → (p : Path) → P p
at_each P root further [] = root
at_each P root further (k ∷ p) = further k p

-- ---- what is settled under one name

record IsSettledBelow (s : SchemaValue) (i : NodeId) (k : Name) (v w : Views) : Type 0 where
  place : NodeId
  leads : (p : Path) → node_of s i (k ∷ p) ≡ node_of s place p
  safe : IsSafeUnder s place (views_below k v) (views_below k w)
  marks : (p : Path) → IsTopmostMark (down (k ∷ []) w.archive) p ↔ IsTopmostContested s place (views_below k v) p

module _ (s : SchemaValue) (i : NodeId) where
  node_below : (k : Name) (x : Option NodeId) (p : Path) → child_at s i k ≡ x
      → node_of s i (k ∷ p) ≡ option_and_then (node_at s) (option_and_then (λ j. reached s j p) x)
  node_below k x p e = ap (λ y. option_and_then (node_at s) (option_and_then (λ j. reached s j p) y)) e

  -- the place past the last has no node, and leads nowhere
  abbrev nowhere : NodeId
  nowhere = record { place = length s.nodes }

  node_of-nowhere : (p : Path) → node_of s nowhere p ≡ None
  node_of-nowhere [] = slice_get_past s.nodes (length s.nodes) (le_refl _)
  node_of-nowhere (x ∷ p) = rw (slice_get_past s.nodes (length s.nodes) (le_refl _))

  -- nothing of a member stands under a name that has no node
  unplaced_side : (a : Option Tree) (k : Name) → IsMember s i (state a) → child_at s i k ≡ None → under k a ≡ None
  unplaced_side a k m e = go (under k a) refl
    where
      go : (x : Option Tree) → under k a ≡ x → x ≡ None
      go None u = refl
      go (Some c) u =
          let there = m (k ∷ []) (state_under a k [] (state_unmarked a []) ∙ ap (λ y. state y []) u ∙ state_root c) in
          absurd (none-some there.node (sym (node_below k None [] e) ∙ there.is))

  -- ---- the whole

  module _ (before after : Trio) (no_twins : HasNoTwins s) (members : AreMembers s i (views before)) (h : IsDownward s i before after) where
    abbrev v : Views
    v = views before

    abbrev w : Views
    w = views after

    unmarked_after : state after.archive [] ≢ Marked
    unmarked_after m = let p : Has (state after.archive) [] = h.archive in cc

    -- where a name has no node nothing stands under it, before or after: its sides are alike
    outcome_nowhere : (k : Name) → child_at s i k ≡ None → IsOutcome s nowhere (child k before) (child k after)
    outcome_nowhere k e = subst₂ (IsOutcome s nowhere) none_before (sym (h.unplaced k e))
        (equal_sides s nowhere (under k before.archive) None (λ p has. absurd (has_and_lacks has refl)))
      where
        none_before : record { archive = under k before.archive; left = None; right = None } ≡ child k before
        none_before x = record {
          archive = under k before.archive;
          left = sym (unplaced_side before.left k members.left e) x;
          right = sym (unplaced_side before.right k members.right e) x;
        }

    settled_below : (k : Name) → IsSettledBelow s i k v w
    settled_below k = go (child_at s i k) refl
      where
        settled : (j : NodeId) → ((p : Path) → node_of s i (k ∷ p) ≡ node_of s j p) → IsOutcome s j (child k before) (child k after)
            → IsSettledBelow s i k v w
        settled j leads o = record {
          place = j;
          leads = leads;
          safe = subst₂ (IsSafeUnder s j) (views_child k before h.unmarked) (views_child k after unmarked_after) o.safe;
          marks = subst₂ (λ (x y : Views). (p : Path) → IsTopmostMark y.archive p ↔ IsTopmostContested s j x p)
              (views_child k before h.unmarked) (views_child k after unmarked_after) o.marks;
        }

        go : (x : Option NodeId) → child_at s i k ≡ x → IsSettledBelow s i k v w
        go (Some j) e = settled j (λ p. node_below k (Some j) p e) (h.placed k j e)
        go None e = settled nowhere (λ p. node_below k None p e ∙ sym (node_of-nowhere p)) (outcome_nowhere k e)

    -- what a side is to have at the root is permitted there
    takes_permitted : {archive mine other result : View} (n : NodeValue) (names : Names) → TakesNames h.node archive mine other result
        → AreCarried archive mine other [] names → node_of s i [] ≡ Some n → Permits n names
    takes_permitted n names takes carried is = subst₂ Permits (same_Some h.node n (sym h.is ∙ is))
        (one_set takes.names names takes.carried carried) takes.permitted

    uncontested_root : ¬ (IsContested s i v [])
    uncontested_root (earlier m d) = h.unmarked m
    uncontested_root (lost known (inl l)) = has_and_lacks h.has_right l.lacks
    uncontested_root (lost known (inr l)) = has_and_lacks h.has_left l.lacks
    uncontested_root (refused {left} {right} r) = elim r.refused [
      | inl n ↦ n (takes_permitted r.node left h.left_names r.are_left r.is)
      | inr n ↦ n (takes_permitted r.node right h.right_names r.are_right r.is)
    ]

    marks_below : (k : Name) (p : Path) → IsTopmostMark w.archive (k ∷ p) ↔ IsTopmostMark (down (k ∷ []) w.archive) p
    marks_below k p =
        let above = none_above_below (λ q. w.archive q ≡ Marked) k p unmarked_after in
        (λ m. record { marked = m.marked; topmost = above.0 m.topmost }, λ m. record { marked = m.marked; topmost = above.1 m.topmost })

    topmost_below : (k : Name) (p : Path) → IsTopmostContested s (settled_below k).place (views_below k v) p ↔ IsTopmostContested s i v (k ∷ p)
    topmost_below k p = (to, from)
      where
        same : (q : Path) → IsContested s i v (k ∷ q) ↔ IsContested s (settled_below k).place (views_below k v) q
        same = contested_below s i (settled_below k).place k v (settled_below k).leads

        above : NoneAbove (IsContested s i v) (k ∷ p) ↔ NoneAbove (λ q. IsContested s i v (k ∷ q)) p
        above = none_above_below (IsContested s i v) k p uncontested_root

        to : IsTopmostContested s (settled_below k).place (views_below k v) p → IsTopmostContested s i v (k ∷ p)
        to c = record { contested = (same p).1 c.contested; topmost = above.1 (λ q r e n x. c.topmost q r e n ((same q).0 x)) }

        from : IsTopmostContested s i v (k ∷ p) → IsTopmostContested s (settled_below k).place (views_below k v) p
        from c = record { contested = (same p).0 c.contested; topmost = λ q r e n x. above.0 c.topmost q r e n ((same q).1 x) }

    marks : (p : Path) → IsTopmostMark w.archive p ↔ IsTopmostContested s i v p
    marks [] = (λ m. absurd (unmarked_after m.marked), λ c. absurd (uncontested_root c.contested))
    marks (k ∷ p) = chained (marks_below k p) (chained ((settled_below k).marks p) (topmost_below k p))

    clash_up : (k : Name) (p : Path) → Clash (views_below k v) p → Clash v (k ∷ p)
    clash_up k p (inl l) = inl ((lost_below k v.archive v.left v.right p).1 l)
    clash_up k p (inr l) = inr ((lost_below k v.archive v.right v.left p).1 l)

    stops : (p : Path) → IsTopmostMark w.archive p → (Has v.left p × Has v.right p) ⊎ Clash v p
    stops [] m = absurd (unmarked_after m.marked)
    stops (k ∷ p) m = elim ((settled_below k).safe.safe.stops_at p ((marks_below k p).0 m)) [ inl both ↦ inl both | inr c ↦ inr (clash_up k p c) ]

    below_safe : (k : Name) → IsSafe (views_below k v) (views_below k w)
    below_safe k = (settled_below k).safe.safe

    safe : IsSafe v w
    safe = record {
      keeps_left = at_each _ (λ c. h.left ∙ sym h.has_left) (λ k. (below_safe k).keeps_left);
      keeps_right = at_each _ (λ c. h.right ∙ sym h.has_right) (λ k. (below_safe k).keeps_right);
      left_from_right = at_each _ (λ n. h.left ∙ sym h.has_right) (λ k. (below_safe k).left_from_right);
      right_from_left = at_each _ (λ n. h.right ∙ sym h.has_left) (λ k. (below_safe k).right_from_left);
      agrees_or_stops = at_each _ (inr (h.archive ∙ sym h.left, h.archive ∙ sym h.right)) (λ k. (below_safe k).agrees_or_stops);
      stop_leaves_left = at_each _ (λ m. h.left ∙ sym h.has_left) (λ k. (below_safe k).stop_leaves_left);
      stop_leaves_right = at_each _ (λ m. h.right ∙ sym h.has_right) (λ k. (below_safe k).stop_leaves_right);
      stops_at = stops;
    }

    member_here : {archive mine other result : View} → TakesNames h.node archive mine other result
        → ((k : Name) → IsMember s (settled_below k).place (down (k ∷ []) result)) → IsMember s i result
    member_here {result = a} takes below_names [] has = record {
      node = h.node;
      is = h.is;
      allowed = record {
        names = takes.names;
        has = takes.has;
        permitted = takes.permitted;
        twins = subst (All (λ t. IsTwin a t.0 t.1)) (sym (no_twins i h.node h.is)) (All-nil _);
      };
    }
    member_here takes below_names (k ∷ p) has =
        let x = below_names k p has in
        record { node = x.node; is = (settled_below k).leads p ∙ x.is; allowed = x.allowed }

    pub downward : IsOutcome s i before after
    downward = record {
      safe = record {
        safe = safe;
        members = record {
          left = member_here h.left_names (λ k. (settled_below k).safe.members.left);
          right = member_here h.right_names (λ k. (settled_below k).safe.members.right);
        };
      };
      marks = marks;
    }
