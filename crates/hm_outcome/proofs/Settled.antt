-- What settles a whole place: both sides come to be alike where nothing is contested, and where the root is contested
-- both stay, under a mark.
use Rattle.std.proofs.Common.{◌≡◌, ◌≢◌, ◌⊎◌, ◌↔◌, IsTrue, [], ◌∷◌, ◌++◌, Option, Some, None, refl, sym, subst, subst₂, ◌∙◌, inl, inr}
use Rattle.std.specs.FinSet.{contains}
use Rattle.std.specs.Cmp.{both_ways}
use Rattle.std.proofs.lemmas.Option.{same_Some}
use Rattle.hm_tree.specs.declared.archive.State.{State}
use Rattle.hm_tree.specs.declared.archive.State.TheVariants.{Missing, Present, Marked}
use Rattle.hm_tree.specs.Names.{Name}
use Rattle.hm_tree.specs.Nodes.{Tree, below, marked}
use Rattle.hm_tree.specs.Archives.{Archive}
use Rattle.hm_tree.specs.States.{Path, state, View, Has, Lacks, down}
use Rattle.hm_tree.proofs.States.{state_root, state_down, state_unmarked, state_marked, state-recorded}
use Rattle.hm_safety.specs.Views.{Agree, both_present, both_missing}
use Rattle.hm_safety.specs.Changes.{IsLost, Clash}
use Rattle.hm_safety.specs.Safety.{IsTopmostMark}
use Rattle.hm_schema.specs.declared.node.NodeId.{NodeId}
use Rattle.hm_schema.specs.Values.{Names, NodeValue, SchemaValue, node_of}
use Rattle.hm_schema.specs.Permitted.{Permits}
use Rattle.hm_schema.specs.Membership.{HasNames, IsMember}
use Rattle.hm_schema.proofs.NamesOf.{same_names}
use Rattle.hm_outcome.specs.Trios.{Trio, views, turned, recorded_side, AreMembers}
use Rattle.hm_outcome.specs.Carried.{IsCarried, on_both, clashing, kept, brought}
use Rattle.hm_outcome.specs.Contested.{IsContested, earlier, lost, refused, IsTopmostContested}
use Rattle.hm_outcome.specs.Outcomes.{IsOutcome}
use Rattle.hm_outcome.proofs.Marks.{agree_itself, has_or_lacks, has_and_lacks}
use Rattle.hm_outcome.proofs.Forced.{safe_turned}

-- ---- states

agree_back : (s t : State) → Agree s t → Agree t s
agree_back _ _ both_present = both_present
agree_back _ _ both_missing = both_missing

alike : {s t : State} → s ≡ Present → t ≡ Present → Agree s t
alike h g = subst₂ Agree (sym h) (sym g) both_present

-- with what a state agree_itself
agreed : {s t u : State} → Agree s t → t ≡ u → s ≡ u
agreed both_present e = e
agreed both_missing e = e

marked_apart : {s t : State} → s ≡ Marked → ¬ (Agree s t)
marked_apart m both_present = cc
marked_apart m both_missing = cc

new : {s t : State} → s ≡ Missing → t ≡ Present → ¬ (Agree s t)
new l h g = has_and_lacks (agreed g h) l

state-recorded_side : (a : Option Tree) (p : Path) → state (recorded_side a) p ≡ state a p
state-recorded_side None p = refl
state-recorded_side (Some t) p = state-recorded t p

-- a side has each path above one that it has
has_above : (a : Option Tree) (p r : Path) → Has (state a) (p ++ r) → Has (state a) p
has_above None p r h = absurd (has_and_lacks h refl)
has_above (Some t) [] r h = state_root t
has_above (Some t) (k ∷ p) r h = state_down t k p ∙ has_above (below k t) p r (sym (state_down t k (p ++ r)) ∙ h)

lacks_below : (a : Option Tree) (p r : Path) → Lacks (state a) p → Lacks (state a) (p ++ r)
lacks_below a p r l = elim (has_or_lacks a (p ++ r)) [ inl h ↦ absurd (has_and_lacks (has_above a p r h) l) | inr e ↦ e ]

-- ---- sets of names

pub chained : {A B C : Type 0} → A ↔ B → B ↔ C → A ↔ C
chained f g = (λ x. g.0 (f.0 x), λ x. f.1 (g.1 x))

-- there is one set of the names of which something holds
pub one_set : {P : Name → Type 0} (xs ys : Names) → ((k : Name) → IsTrue (contains xs k) ↔ P k) → ((k : Name) → IsTrue (contains ys k) ↔ P k)
    → xs ≡ ys
one_set xs ys f g = same_names xs ys (λ k. both_ways _ _ (λ h. (g k).1 ((f k).0 h)) (λ h. (f k).1 ((g k).0 h)))

-- the node of a path that a member has permits its names there
pub permits_own : (s : SchemaValue) (i : NodeId) (a : View) (p : Path) (n : NodeValue) (names : Names) → IsMember s i a → Has a p
    → node_of s i p ≡ Some n → HasNames (down p a) names → Permits n names
permits_own s i a p n names m h is has =
    let x = m p h in
    subst (λ n. Permits n names) (same_Some x.node n (sym x.is ∙ is))
    (subst (Permits x.node) (one_set x.allowed.names names x.allowed.has has) x.allowed.permitted)

-- ---- nothing stands above the root

none_above : (q r : Path) → [] ≡ q ++ r → r ≢ [] → ⊥
none_above [] r e n = n (sym e)
none_above (k ∷ q) r e n = cc

not_root : {k : Name} {p : Path} → k ∷ p ≢ []
not_root e = cc

-- ---- left and right exchanged

module _ (s : SchemaValue) (i : NodeId) where
  contested_turned : (t : Trio) (p : Path) → IsContested s i (views t) p → IsContested s i (views (turned t)) p
  contested_turned t p (earlier m d) = earlier m (d.0, λ a. d.1 (agree_back _ _ a))
  contested_turned t p (lost h (inl l)) = lost h (inr l)
  contested_turned t p (lost h (inr l)) = lost h (inl l)
  contested_turned t p (refused r) =
      refused (record {
        has_left = r.has_right;
        has_right = r.has_left;
        unmarked = r.unmarked;
        are_left = r.are_right;
        are_right = r.are_left;
        node = r.node;
        is = r.is;
        refused = elim r.refused [ inl n ↦ inr n | inr n ↦ inl n ];
      })

  topmost_turned : (t : Trio) (p : Path) → IsTopmostContested s i (views t) p → IsTopmostContested s i (views (turned t)) p
  topmost_turned t p top = record {
    contested = contested_turned t p top.contested;
    topmost = λ q r e n c. top.topmost q r e n (contested_turned (turned t) q c);
  }

  pub outcome_turned : (before after : Trio) → IsOutcome s i before after → IsOutcome s i (turned before) (turned after)
  outcome_turned before after h = record {
    safe = record { safe = safe_turned before after h.safe.safe; members = record { left = h.safe.members.right; right = h.safe.members.left } };
    marks = λ p. (λ m. topmost_turned before p ((h.marks p).0 m), λ c. (h.marks p).1 (topmost_turned (turned before) p c));
  }

  -- without marks, and where nothing is contested, topmost marks stand where they have to
  no_marks : (before : Trio) (archive : View) → ((p : Path) → archive p ≢ Marked) → ((p : Path) → ¬ (IsContested s i (views before) p))
      → (p : Path) → IsTopmostMark archive p ↔ IsTopmostContested s i (views before) p
  no_marks before archive unmarked none p = (λ m. absurd (unmarked p m.marked), λ c. absurd (none p c.contested))

  -- ---- the left side is as the right one, or the archive is as the left side: both come to be as the right one

  module _ (o : Archive) (a b : Option Tree) (same : ((p : Path) → state a p ≡ state b p) ⊎ ((p : Path) → Agree (state o p) (state a p))) where
    abbrev here : Trio
    here = record { archive = o; left = a; right = b }

    -- what the left side alone has, the archive has
    gone : (p : Path) → Has (state a) p → Lacks (state b) p → Agree (state o p) (state a p)
    gone p h l = elim same [ inl e ↦ absurd (has_and_lacks h (e p ∙ l)) | inr r ↦ r p ]

    -- what the right side alone has, the archive lacks
    came : (p : Path) → Lacks (state a) p → Has (state b) p → Lacks (state o) p
    came p l h = elim same [ inl e ↦ absurd (has_and_lacks h (sym (e p) ∙ l)) | inr r ↦ agreed (r p) l ]

    no_clash : (p : Path) → ¬ (Clash (views here) p)
    no_clash p (inl l) = elim same [ inl e ↦ has_and_lacks l.has (e p ∙ l.lacks) | inr r ↦ l.news.2 (agreed (r (p ++ l.news.0)) l.news.1) ]
    no_clash p (inr l) = l.known (came p l.lacks l.has)

    -- a side is to have what the right side has
    left_names : (q : Path) → IsCarried (state o) (state a) (state b) q ↔ Has (state b) q
    left_names q = (to, from)
      where
        to : IsCarried (state o) (state a) (state b) q → Has (state b) q
        to (on_both h g) = g
        to (clashing l) = absurd (no_clash q (inl l))
        to (kept h l n changed) = absurd (changed (gone q h l))
        to (brought l h n changed) = h

        from : Has (state b) q → IsCarried (state o) (state a) (state b) q
        from h = elim (has_or_lacks a q) [ inl g ↦ on_both g h | inr l ↦ brought l h (λ c. no_clash q (inr c)) (new (came q l h) h) ]

    right_names : (q : Path) → IsCarried (state o) (state b) (state a) q ↔ Has (state b) q
    right_names q = (to, from)
      where
        to : IsCarried (state o) (state b) (state a) q → Has (state b) q
        to (on_both h g) = h
        to (clashing l) = l.has
        to (kept h l n changed) = h
        to (brought l h n changed) = absurd (changed (gone q h l))

        from : Has (state b) q → IsCarried (state o) (state b) (state a) q
        from h = elim (has_or_lacks a q) [ inl g ↦ on_both h g | inr l ↦ kept h l (λ c. no_clash q (inr c)) (new (came q l h) h) ]

    module _ (member : IsMember s i (state b)) where
      uncontested : (p : Path) → ¬ (IsContested s i (views here) p)
      uncontested p (earlier m d) =
          elim same [
            | inl e ↦ d.1 (subst (Agree (state a (p ++ d.0))) (e (p ++ d.0)) (agree_itself _ (state_unmarked a (p ++ d.0))))
            | inr r ↦
                marked_apart m (r p)
          ]
      uncontested p (lost h c) = no_clash p c
      uncontested p (refused {left} {right} r) =
          let permits = λ (names : Names) (has : HasNames (down p (state b)) names).
          permits_own s i (state b) p r.node names member r.has_right r.is has in
          elim r.refused [
            | inl n ↦ n (permits left (λ k. chained (r.are_left k) (left_names (p ++ k ∷ []))))
            | inr n ↦ n (permits right (λ k. chained (r.are_right k) (right_names (p ++ k ∷ []))))
          ]

      settled_right : IsOutcome s i here (record { archive = recorded_side b; left = b; right = b })
      settled_right = record {
        safe = record {
          safe = record {
            keeps_left = λ p changed. elim same [ inl e ↦ sym (e p) | inr r ↦ absurd (changed (r p)) ];
            keeps_right = λ p changed. refl;
            left_from_right = λ p n. refl;
            right_from_left = λ p n. absurd (n refl);
            agrees_or_stops = λ p. inr (state-recorded_side b p, state-recorded_side b p);
            stop_leaves_left = λ p m. absurd (unmarked p m);
            stop_leaves_right = λ p m. refl;
            stops_at = λ p top. absurd (unmarked p top.marked);
          };
          members = record { left = member; right = member };
        };
        marks = no_marks here _ unmarked uncontested;
      }
        where
          unmarked : (p : Path) → state (recorded_side b) p ≢ Marked
          unmarked p m = state_unmarked b p (sym (state-recorded_side b p) ∙ m)

  -- sides that are alike stay, and the archive comes to be as they are
  pub equal_sides : (o : Archive) (a : Option Tree) → IsMember s i (state a)
      → IsOutcome s i (record { archive = o; left = a; right = a }) (record { archive = recorded_side a; left = a; right = a })
  equal_sides o a = settled_right o a a (inl (λ p. refl))

  -- where the archive is as one side, both come to be as the other
  pub left_unchanged : (a b : Option Tree) → IsMember s i (state b)
      → IsOutcome s i (record { archive = recorded_side a; left = a; right = b }) (record { archive = recorded_side b; left = b; right = b })
  left_unchanged a b = settled_right (recorded_side a) a b
      (inr (λ p. subst (λ x. Agree x (state a p)) (sym (state-recorded_side a p)) (agree_itself _ (state_unmarked a p))))

  pub right_unchanged : (a b : Option Tree) → IsMember s i (state a)
      → IsOutcome s i (record { archive = recorded_side b; left = a; right = b }) (record { archive = recorded_side a; left = a; right = a })
  right_unchanged a b m = outcome_turned _ _ (left_unchanged b a m)

  -- ---- one side is missing, and the other lies within the archive

  module _ (o : Archive) (a : Option Tree) (within : (p : Path) → Has (state a) p → Has (state o) p) where
    abbrev left_alone : Trio
    left_alone = record { archive = o; left = a; right = None }

    no_more_contested : (p : Path) → ¬ (IsContested s i (views left_alone) p)
    no_more_contested p (earlier m d) = elim (has_or_lacks a (p ++ d.0)) [
      | inl h ↦ (let w = within p (has_above a p d.0 h) in cc)
      | inr l ↦ d.1 (subst (λ x. Agree x Missing) (sym l) both_missing)
    ]
    no_more_contested p (lost h (inl l)) = l.news.2 (within (p ++ l.news.0) l.news.1)
    no_more_contested p (lost h (inr l)) = has_and_lacks l.has refl
    no_more_contested p (refused r) = has_and_lacks r.has_right refl

    -- it is taken out
    pub taken_out : IsOutcome s i (record { archive = o; left = a; right = None }) (record { archive = None; left = None; right = None })
    taken_out = record {
      safe = record {
        safe = record {
          keeps_left = λ p changed. elim (has_or_lacks a p) [ inl h ↦ absurd (changed (alike (within p h) h)) | inr l ↦ sym l ];
          keeps_right = λ p changed. refl;
          left_from_right = λ p n. refl;
          right_from_left = λ p n. absurd (n refl);
          agrees_or_stops = λ p. inr (refl, refl);
          stop_leaves_left = λ p m. absurd (unmarked m);
          stop_leaves_right = λ p m. refl;
          stops_at = λ p top. absurd (unmarked top.marked);
        };
        members = record { left = λ p h. absurd (has_and_lacks h refl); right = λ p h. absurd (has_and_lacks h refl) };
      };
      marks = no_marks left_alone _ (λ p. unmarked) no_more_contested;
    }
      where
        unmarked : Missing ≢ Marked
        unmarked e = cc

  -- ---- a contested root

  module _ (before : Trio) (contested : IsContested s i (views before) []) (members : AreMembers s i (views before)) where
    -- an earlier mark where one side alone is left is news of that side
    alone : (mine other : Option Tree) → state before.archive [] ≡ Marked → Has (state mine) [] → Lacks (state other) []
        → IsLost (state before.archive) (state mine) (state other) []
    alone mine other m h l = record { has = h; lacks = l; known = λ e. (let f : ⊥ = cc in f); news = ([], h, λ e. (let f : ⊥ = cc in f)) }

    stops_here : IsContested s i (views before) [] → (Has (state before.left) [] × Has (state before.right) []) ⊎ Clash (views before) []
    stops_here (earlier m d) = elim (has_or_lacks before.left []) [
      | inl h ↦ elim (has_or_lacks before.right []) [ inl g ↦ inl (h, g) | inr l ↦ inr (inl (alone before.left before.right m h l)) ]
      | inr l ↦ elim (has_or_lacks before.right []) [
        | inl g ↦ inr (inr (alone before.right before.left m g l))
        | inr k ↦ absurd (d.1 (subst₂ Agree (sym (lacks_below before.left [] d.0 l)) (sym (lacks_below before.right [] d.0 k)) both_missing))
      ]
    ]
    stops_here (lost h c) = inr c
    stops_here (refused r) = inl (r.has_left, r.has_right)

    marks_root : (p : Path) → IsTopmostMark (state (Some marked)) p ↔ IsTopmostContested s i (views before) p
    marks_root [] = (
      λ m. record { contested = contested; topmost = λ q r e n. absurd (none_above q r e n) },
      λ c. record { marked = state_marked []; topmost = λ q r e n. absurd (none_above q r e n) },
    )
    marks_root (k ∷ p) = (
      λ m. absurd (m.topmost [] (k ∷ p) refl not_root (state_marked [])),
      λ c. absurd (c.topmost [] (k ∷ p) refl not_root contested),
    )

    -- both sides stay, and the root is marked
    pub stopped : IsOutcome s i before (record { archive = Some marked; left = before.left; right = before.right })
    stopped = record {
      safe = record {
        safe = record {
          keeps_left = λ p changed. refl;
          keeps_right = λ p changed. refl;
          left_from_right = λ p n. absurd (n refl);
          right_from_left = λ p n. absurd (n refl);
          agrees_or_stops = λ p. inl (state_marked p);
          stop_leaves_left = λ p m. refl;
          stop_leaves_right = λ p m. refl;
          stops_at = only_root;
        };
        members = record { left = members.left; right = members.right };
      };
      marks = marks_root;
    }
      where
        only_root : (p : Path) → IsTopmostMark (state (Some marked)) p
            → (Has (state before.left) p × Has (state before.right) p) ⊎ Clash (views before) p
        only_root [] top = stops_here contested
        only_root (k ∷ p) top = absurd (top.topmost [] (k ∷ p) refl not_root (state_marked []))
