-- The outcome over what a stopped run left is the outcome of the whole run.
use Rattle.std.proofs.Common.{◌≡◌, ◌≢◌, ◌⊎◌, inl, inr, ℕ, zero, suc, ◌<◌, length, [], ◌∷◌, ◌++◌, append-nil, Option, refl, sym, ap, subst, subst₂, ◌∙◌, arith}
use Rattle.std.proofs.lemmas.List.{append_assoc, length-append}
use Rattle.hm_tree.specs.declared.archive.State.TheVariants.{Missing, Present, Marked}
use Rattle.hm_tree.specs.Nodes.{Tree}
use Rattle.hm_tree.specs.States.{Path, state, Has, Lacks}
use Rattle.hm_tree.proofs.States.{state_unmarked}
use Rattle.hm_safety.specs.Views.{Agree, both_missing}
use Rattle.hm_safety.specs.Changes.{Clash}
use Rattle.hm_safety.specs.Safety.{IsTopmostMark, IsSafe}
use Rattle.hm_schema.specs.declared.node.NodeId.{NodeId}
use Rattle.hm_schema.specs.Values.{SchemaValue}
use Rattle.hm_outcome.specs.Trios.{Trio, views, turned, Differ, AreMembers, IsSafeUnder}
use Rattle.hm_outcome.specs.Contested.{IsContested, earlier, lost, refused, IsTopmostContested}
use Rattle.hm_outcome.specs.Outcomes.{IsOutcome}
use Rattle.hm_outcome.proofs.Marks.{agree_same, has_or_lacks, has_and_lacks, is_marked_or_not, state_above, state_reaches, topmost_above, IsUnderTopmost}
use Rattle.hm_outcome.proofs.Best.{MarksContested}
use Rattle.hm_outcome.proofs.Settled.{outcome_turned}
use Rattle.hm_outcome.proofs.Apart.{marks_differ}
use Rattle.hm_stops.specs.Stopped.{stopped}
use Rattle.hm_outcome.proofs.Forced.{clash_marked, refused_marked}
use Rattle.hm_stops.proofs.From.{SameFrom, same_here, lost_from, contested_from}

-- ---- when a safe result is the outcome: its topmost marks are contested, and earlier marks stay where the sides differ

module _ (s : SchemaValue) (i : NodeId) (before after : Trio) (safe : IsSafeUnder s i (views before) (views after))
    (earlier_marked : (p : Path) → state before.archive p ≡ Marked → Differ (views before) p → state after.archive p ≡ Marked) where
  contested_marked : (p : Path) → IsContested s i (views before) p → state after.archive p ≡ Marked
  contested_marked p (earlier m d) = earlier_marked p m d
  contested_marked p (lost present clash) = clash_marked s i before after safe.safe safe.members p clash
  contested_marked p (refused {left} {right} x) = refused_marked s i before after safe.safe safe.members p left right x

  module _ (contested : MarksContested s i before after) where
    to : (p : Path) → IsTopmostMark (state after.archive) p → IsTopmostContested s i (views before) p
    to p mark = record { contested = contested p mark; topmost = λ q r e n c. mark.topmost q r e n (contested_marked q c) }

    from : (p : Path) → IsTopmostContested s i (views before) p → IsTopmostMark (state after.archive) p
    from p top = go under.rest under.is
      where
        under : IsUnderTopmost (state after.archive) p
        under = topmost_above (state after.archive) p (contested_marked p top.contested)

        go : (r : Path) → p ≡ under.top ++ r → IsTopmostMark (state after.archive) p
        go [] e = subst (IsTopmostMark (state after.archive)) (sym (e ∙ append-nil under.top)) under.mark
        go (k ∷ r) e = absurd (top.topmost under.top (k ∷ r) e (λ none. let f : ⊥ = cc in f) (contested under.top under.mark))

    pub forced_outcome : IsOutcome s i before after
    forced_outcome = record { safe = safe; marks = λ p. (to p, from p) }

-- ---- what is contested is marked in the outcome

module _ (s : SchemaValue) (i : NodeId) (before after : Trio) (outcome : IsOutcome s i before after) where
  -- above a path that isn't marked nothing is contested
  none_above : (p : Path) → state after.archive p ≢ Marked → (n : ℕ) (q r : Path) → length q < n → p ≡ q ++ r → ¬ (IsContested s i (views before) q)
  none_above p unmarked zero q r less e c = absurd (omega arith)
  none_above p unmarked (suc n) q r less e c =
      let mark : IsTopmostMark (state after.archive) q = (outcome.marks q).1 (record {
        contested = c;
        topmost = λ w x is some. none_above p unmarked n w (x ++ r) (shorter w x is some) (e ∙ ap (λ l. l ++ r) is ∙ append_assoc w x r);
      }) in
      unmarked (ap (state after.archive) e ∙ state_reaches after.archive q r mark.marked)
    where
      shorter : (w x : Path) → q ≡ w ++ x → x ≢ [] → length w < n
      shorter w [] is some = absurd (some refl)
      shorter w (k ∷ x) is some = let long = ap (λ (l : Path). length l) is ∙ length-append w (k ∷ x) in omega arith

  outcome_marked : (p : Path) → IsContested s i (views before) p → state after.archive p ≡ Marked
  outcome_marked p c = elim (is_marked_or_not (state after.archive p)) [
    | inl m ↦ m
    | inr n ↦ absurd (none_above p n (suc (length p)) p [] (omega arith) (sym (append-nil p)) c)
  ]

  -- ---- the left side is new

  abbrev left_new : Trio
  left_new = record { archive = before.archive; left = after.left; right = before.right }

  h : IsSafe (views before) (views after)
  h = outcome.safe.safe

  -- at and below a mark both sides are as they were
  pub left_from : (p : Path) → state after.archive p ≡ Marked → SameFrom (state before.left) (state after.left) p
  left_from p m = λ r. sym (h.stop_leaves_left (p ++ r) (state_reaches after.archive p r m))

  pub right_from : (p : Path) → state after.archive p ≡ Marked → SameFrom (state before.right) (state after.right) p
  right_from p m = λ r. sym (h.stop_leaves_right (p ++ r) (state_reaches after.archive p r m))

  safe_left_new : IsSafe (views left_new) (views after)
  safe_left_new = record {
    keeps_left = λ p changed. refl;
    keeps_right = h.keeps_right;
    left_from_right = λ p new. absurd (new refl);
    right_from_left = λ p new. elim (h.agrees_or_stops p) [ inl m ↦ absurd (new (h.stop_leaves_right p m)) | inr all ↦ sym all.1 ∙ all.0 ];
    agrees_or_stops = h.agrees_or_stops;
    stop_leaves_left = λ p m. refl;
    stop_leaves_right = h.stop_leaves_right;
    stops_at = λ p top. still p (left_from p top.marked) (h.stops_at p top);
  }
    where
      still : (p : Path) → SameFrom (state before.left) (state after.left) p → (Has (state before.left) p × Has (state before.right) p) ⊎ Clash (views before) p
          → (Has (state after.left) p × Has (state before.right) p) ⊎ Clash (views left_new) p
      still p same (inl both) = inl (sym (same_here (state before.left) (state after.left) p same) ∙ both.0, both.1)
      still p same (inr (inl l)) =
          inr (inl (lost_from (state before.archive) (state before.left) (state after.left) (state before.right) (state before.right) p same (λ r. refl) l))
      still p same (inr (inr l)) =
          inr (inr (lost_from (state before.archive) (state before.right) (state before.right) (state before.left) (state after.left) p (λ r. refl) same l))

  -- an earlier mark has left the side as it was
  earlier_stays : (p : Path) → state before.archive p ≡ Marked → Differ (views left_new) p → state after.archive p ≡ Marked
  earlier_stays p m d = outcome_marked p (earlier m (d.0, λ agree. d.1 (subst (λ x. Agree x (state before.right (p ++ d.0))) (sym same) agree)))
    where
      same : state after.left (p ++ d.0) ≡ state before.left (p ++ d.0)
      same = h.keeps_left (p ++ d.0) (λ agree. state_unmarked before.left (p ++ d.0) (sym (agree_same agree) ∙ state_reaches before.archive p d.0 m))

  pub left_written : IsOutcome s i left_new after
  left_written =
      forced_outcome s i left_new after (record { safe = safe_left_new; members = outcome.safe.members }) earlier_stays
      (λ p mark. contested_from (state before.archive) (state before.left) (state after.left) (state before.right) (state before.right) p
      (left_from p mark.marked) (λ r. refl) s i ((outcome.marks p).0 mark).contested)

-- the right side is new, with left and right exchanged
pub right_written : (s : SchemaValue) (i : NodeId) (before after : Trio) → IsOutcome s i before after
    → IsOutcome s i (record { archive = before.archive; left = before.left; right = after.right }) after
right_written s i before after outcome =
    outcome_turned s i (record { archive = before.archive; left = after.right; right = before.left }) (turned after)
    (left_written s i (turned before) (turned after) (outcome_turned s i before after outcome))

-- ---- what leaves nothing to do comes to itself

-- all agree or there is a mark, both sides are members, and at each topmost mark they differ
pub record IsSettled (s : SchemaValue) (i : NodeId) (t : Trio) : Type 0 where
  pub agrees_or_stops : (p : Path) → (state t.archive p ≡ Marked) ⊎ ((state t.archive p ≡ state t.left p) × (state t.archive p ≡ state t.right p))
  pub members : AreMembers s i (views t)
  pub differ : (p : Path) → IsTopmostMark (state t.archive) p → Differ (views t) p

-- a side lacks each path below one that it lacks
lacks_below : (a : Option Tree) (p r : Path) → Lacks (state a) p → Lacks (state a) (p ++ r)
lacks_below a p r lacks = elim (has_or_lacks a (p ++ r)) [ inl there ↦ absurd (has_and_lacks (state_above a p r there) lacks) | inr e ↦ e ]

module _ (s : SchemaValue) (i : NodeId) (t : Trio) (settled : IsSettled s i t) where
  stops_there : (p : Path) → IsTopmostMark (state t.archive) p → (Has (state t.left) p × Has (state t.right) p) ⊎ Clash (views t) p
  stops_there p mark = go (has_or_lacks t.left p) (has_or_lacks t.right p)
    where
      known : state t.archive p ≢ Missing
      known e = let f : Marked ≡ Missing = sym mark.marked ∙ e in let no : ⊥ = cc in no

      new : state t.archive (p ++ []) ≢ Present
      new e = let f : Marked ≡ Present = sym mark.marked ∙ ap (state t.archive) (sym (append-nil p)) ∙ e in let no : ⊥ = cc in no

      go : Has (state t.left) p ⊎ Lacks (state t.left) p → Has (state t.right) p ⊎ Lacks (state t.right) p
          → (Has (state t.left) p × Has (state t.right) p) ⊎ Clash (views t) p
      go (inl a) (inl b) = inl (a, b)
      go (inl a) (inr b) = inr (inl (record { has = a; lacks = b; known = known; news = ([], ap (state t.left) (append-nil p) ∙ a, new) }))
      go (inr a) (inl b) = inr (inr (record { has = b; lacks = a; known = known; news = ([], ap (state t.right) (append-nil p) ∙ b, new) }))
      go (inr a) (inr b) =
          let d = settled.differ p mark in
          absurd (d.1 (subst₂ Agree (sym (lacks_below t.left p d.0 a)) (sym (lacks_below t.right p d.0 b)) both_missing))

  pub comes_to_itself : IsOutcome s i t t
  comes_to_itself = forced_outcome s i t t (record {
    safe = record {
      keeps_left = λ p changed. refl;
      keeps_right = λ p changed. refl;
      left_from_right = λ p new. absurd (new refl);
      right_from_left = λ p new. absurd (new refl);
      agrees_or_stops = settled.agrees_or_stops;
      stop_leaves_left = λ p m. refl;
      stop_leaves_right = λ p m. refl;
      stops_at = stops_there;
    };
    members = settled.members;
  }) (λ p m d. m) (λ p mark. earlier mark.marked (settled.differ p mark))

-- ---- all three are new

module _ (s : SchemaValue) (i : NodeId) (before after : Trio) (members : AreMembers s i (views before)) (outcome : IsOutcome s i before after) where
  pub differ_at : (p : Path) → IsTopmostMark (state after.archive) p → Differ (views after) p
  differ_at p mark = marks_differ s i before after members outcome p mark

  pub all_written : IsOutcome s i after after
  all_written =
      comes_to_itself s i after
      (record { agrees_or_stops = outcome.safe.safe.agrees_or_stops; members = outcome.safe.members; differ = differ_at })

  -- ---- whatever was written

  pub again : (n : ℕ) → IsOutcome s i (stopped before after n) after
  again zero = outcome
  again (suc zero) = left_written s i before after outcome
  again (suc (suc zero)) = right_written s i (stopped before after 1) after (left_written s i before after outcome)
  again (suc (suc (suc n))) = all_written
