-- What is settled under each name, gathered, is the outcome of the whole.
use Rattle.std.proofs.Common.{◌≡◌, ◌≢◌, ◌⊎◌, inl, inr, ◌↔◌, Bool, true, false, cond, [], ◌∷◌, ◌++◌, Option, Some, None, is_some, IsTrue, option_and_then, refl, sym, ap, subst, ◌∙◌}
use Rattle.std.specs.Ordering.{is_eq, eq_by_cmp}
use Rattle.std.specs.FinMap.{put}
use Rattle.std.specs.Str.{IsUtf8}
use mathlib.Core.Bool.{true≢false}
use Rattle.std.proofs.lemmas.Option.{same_Some}
use Rattle.hm_tree.specs.declared.archive.State.TheVariants.{Present, Marked}
use Rattle.hm_tree.specs.Names.{Name, name_cmp}
use Rattle.hm_tree.specs.Nodes.{Tree, edges, edges_of, below, empty, is_marked}
use Rattle.hm_tree.specs.NodeLaws.{is_marked-node}
use Rattle.hm_tree.specs.Archives.{Archive, under, with_archive}
use Rattle.hm_tree.specs.States.{Path, state, View, Has, down}
use Rattle.hm_tree.proofs.States.{state_root, state_down}
use Rattle.std.proofs.lemmas.Cmp.{tied_itself}
use Rattle.hm_tree.proofs.Sorted.{name_total, below_with}
use Rattle.hm_safety.specs.Changes.{Clash}
use Rattle.hm_safety.specs.Safety.{IsSafe}
use Rattle.hm_schema.specs.declared.node.NodeId.{NodeId}
use Rattle.hm_schema.specs.Values.{NodeValue, SchemaValue, node_at, child_at, reached}
use Rattle.hm_schema.specs.Permitted.{Permits, PermitsAt, names_of}
use Rattle.hm_schema.specs.Membership.{HasNames, Allows, IsMember, HasNoTwins}
use Rattle.hm_schema.proofs.NamesOf.{tie_one, names_of-below}
use Rattle.hm_outcome.specs.Trios.{Trio, given, views, turned, AreMembers}
use Rattle.hm_outcome.specs.Carried.{IsCarried, on_both, clashing, kept, brought, AreCarried}
use Rattle.hm_outcome.specs.Outcomes.{IsOutcome}
use Rattle.hm_outcome.proofs.Forced.{safe_turned, has_carried, carried_has}
use Rattle.hm_outcome.proofs.Settled.{chained, equal_sides}
use Rattle.hm_outcome.proofs.Downward.{child, views_below, views_child, carried_below, TakesNames, downward}
use Rattle.hm_outcome.specs.Gathering.{IsInEither, with_side, with_trio}

-- nothing stands in any of the three
abbrev pub nothing : Trio
nothing = record { archive = None; left = None; right = None }

-- under the names that were passed there are outcomes, and under the others nothing
pub record IsGathered (s : SchemaValue) (i : NodeId) (before : Trio) (passed : Name → Type 0) (made : Trio) : Type 0 where
  pub archive : state made.archive [] ≡ Present
  pub settled : (k : Name) → passed k → (j : NodeId) → child_at s i k ≡ Some j → IsOutcome s j (child k before) (child k made)
  pub rest : (k : Name) → ¬ (passed k) → child k made ≡ nothing

-- ---- no name yet

pub none_below : {m : Bool} (k : Name) → below k (empty {m = m}) ≡ None
unfolding edges edges_of empty
none_below k = refl

pub root_there : state (Some (empty {m = true})) [] ≡ Present
unfolding is_marked empty
root_there = refl

pub gathered_none : (s : SchemaValue) (i : NodeId) (before : Trio) (passed : Name → Type 0) → ((k : Name) → ¬ (passed k)) →
    IsGathered s i before passed (given (Some empty) empty empty)
gathered_none s i before passed none = record {
  archive = root_there;
  settled = λ k was. absurd (none k was);
  rest = λ k fresh. λ x. record { archive = none_below k x; left = none_below k x; right = none_below k x };
}

-- ---- one name more

pub tied_same : (k : Name) → eq_by_cmp name_cmp k k ≡ true
tied_same k = ap is_eq (tied_itself name_total k)

module _ (k : Name) (text : IsUtf8 k) where
  side_here : (c : Option Tree) (t : Tree) → below k t ≡ None → below k (with_side k c t) ≡ c
  side_here None t none = none
  side_here (Some c) t none = below_with k k c t text ∙ ap (λ b. cond b (Some c) (below k t)) (tied_same k)

  side_there : (q : Name) → eq_by_cmp name_cmp q k ≡ false → (c : Option Tree) (t : Tree) → below q (with_side k c t) ≡ below q t
  side_there q apart None t = refl
  side_there q apart (Some c) t = below_with q k c t text ∙ ap (λ b. cond b (Some c) (below q t)) apart

  pub archive_here : (c : Archive) (o : Archive) → state o [] ≡ Present → under k o ≡ None → under k (with_archive k c o) ≡ c
  archive_here c None present none = let no : ⊥ = cc in absurd no
  archive_here None (Some t) present none = none
  archive_here (Some c) (Some t) present none = below_with k k c t text ∙ ap (λ b. cond b (Some c) (below k t)) (tied_same k)

  pub archive_there : (q : Name) → eq_by_cmp name_cmp q k ≡ false → (c : Archive) (o : Archive) → under q (with_archive k c o) ≡ under q o
  archive_there q apart c None = refl
  archive_there q apart None (Some t) = refl
  archive_there q apart (Some c) (Some t) = below_with q k c t text ∙ ap (λ b. cond b (Some c) (below q t)) apart

-- a present root stays so
pub still_present : (k : Name) (c : Archive) (o : Archive) → state o [] ≡ Present → state (with_archive k c o) [] ≡ Present
still_present k c None present = present
still_present k None (Some t) present = present
still_present k (Some c) (Some t) present = ap (λ m. cond m Marked Present) (is_marked-node (put name_cmp k c (edges t)))

module _ (s : SchemaValue) (i : NodeId) (before : Trio) (passed : Name → Type 0) (o : Archive) (a b : Tree)
    (h : IsGathered s i before passed (given o a b)) (k : Name) (text : IsUtf8 k) (fresh : ¬ (passed k)) (here : Trio) where
  abbrev pub made : Trio
  made = with_trio k here o a b

  made_here : child k made ≡ here
  made_here =
      let none = h.rest k fresh in λ x. record {
        archive = archive_here k text here.archive o h.archive (ap (λ (t : Trio). t.archive) none) x;
        left = side_here k text here.left a (ap (λ (t : Trio). t.left) none) x;
        right = side_here k text here.right b (ap (λ (t : Trio). t.right) none) x;
      }

  made_there : (q : Name) → eq_by_cmp name_cmp q k ≡ false → child q made ≡ child q (given o a b)
  made_there q apart = λ x. record {
    archive = archive_there k text q apart here.archive o x;
    left = side_there k text q apart here.left a x;
    right = side_there k text q apart here.right b x;
  }

  pub gathered_next : (now : Name → Type 0) → ((q : Name) → now q ↔ (passed q ⊎ (q ≡ k)))
      → ((j : NodeId) → child_at s i k ≡ Some j → IsOutcome s j (child k before) here) → IsGathered s i before now made
  gathered_next now grows settled = record {
    archive = still_present k here.archive o h.archive;
    settled = λ q was j leads. go q j leads ((grows q).0 was) (eq_by_cmp name_cmp q k) refl;
    rest = λ q not_now. untouched q not_now (eq_by_cmp name_cmp q k) refl;
  }
    where
      go : (q : Name) (j : NodeId) → child_at s i q ≡ Some j → passed q ⊎ (q ≡ k) → (t : Bool) → eq_by_cmp name_cmp q k ≡ t
          → IsOutcome s j (child q before) (child q made)
      go q j leads was true tied =
          let same : q ≡ k = tie_one q k tied in
          subst (λ z. IsOutcome s j (child z before) (child z made)) (sym same)
          (subst (IsOutcome s j (child k before)) (sym made_here) (settled j (sym (ap (child_at s i) same) ∙ leads)))
      go q j leads (inl was) false apart = subst (IsOutcome s j (child q before)) (sym (made_there q apart)) (h.settled q was j leads)
      go q j leads (inr same) false apart = absurd (true≢false (sym (ap (λ z. eq_by_cmp name_cmp z k) same ∙ tied_same k) ∙ apart))

      untouched : (q : Name) → ¬ (now q) → (t : Bool) → eq_by_cmp name_cmp q k ≡ t → child q made ≡ nothing
      untouched q not_now true tied = absurd (not_now ((grows q).1 (inr (tie_one q k tied))))
      untouched q not_now false apart = made_there q apart ∙ h.rest q (λ was. not_now ((grows q).1 (inl was)))

-- ---- the names that the result has

-- the root of a safe result is there just where it is carried
root_carried : (before after : Trio) → IsSafe (views before) (views after)
    → IsCarried (state before.archive) (state before.left) (state before.right) [] ↔ Has (state after.left) []
root_carried before after safe = (has_carried before after safe [] stops, carried_has before after safe [] stops)
  where
    stops : state after.archive [] ≡ Marked → (Has (state before.left) [] × Has (state before.right) []) ⊎ Clash (views before) []
    stops marked = safe.stops_at [] (record { marked = marked; topmost = none_above })
      where
        none_above : (q r : Path) → [] ≡ q ++ r → r ≢ [] → state after.archive q ≢ Marked
        none_above [] r is some = absurd (some (sym is))
        none_above (k ∷ q) r is some = let no : ⊥ = cc in absurd no

turned_round : {A B : Type 0} → A ↔ B → B ↔ A
turned_round h = (h.1, h.0)

there_is : (t : Tree) (k : Name) → IsTrue (is_some (below k t)) ↔ Has (state (Some t)) (k ∷ [])
there_is t k = (λ some. state_down t k [] ∙ to (below k t) some, λ has. from (below k t) (sym (state_down t k []) ∙ has))
  where
    to : (c : Option Tree) → IsTrue (is_some c) → state c [] ≡ Present
    to None some = absurd (true≢false (sym some))
    to (Some c) some = state_root c

    from : (c : Option Tree) → state c [] ≡ Present → IsTrue (is_some c)
    from None has = let no : ⊥ = cc in absurd no
    from (Some c) has = refl

tree_names : (t : Tree) → HasNames (state (Some t)) (names_of t)
tree_names t k = (λ there. (there_is t k).0 (sym (names_of-below t k) ∙ there), λ has. names_of-below t k ∙ (there_is t k).1 has)

-- what is carried under a name is so by what stands there
pub carried_under : (o : Archive) (mine other : Tree) (k : Name) → state o [] ≢ Marked
    → IsCarried (state o) (state (Some mine)) (state (Some other)) (k ∷ [])
    ↔ IsCarried (state (under k o)) (state (below k mine)) (state (below k other)) []
carried_under o mine other k unmarked = (
  λ c. subst (λ v. IsCarried v.archive v.left v.right []) (sym views_here) (lower.0 c),
  λ c. lower.1 (subst (λ v. IsCarried v.archive v.left v.right []) views_here c),
)
  where
    views_here : views (child k (given o mine other)) ≡ views_below k (views (given o mine other))
    views_here = views_child k (given o mine other) unmarked

    lower : IsCarried (state o) (state (Some mine)) (state (Some other)) (k ∷ [])
        ↔ IsCarried (down (k ∷ []) (state o)) (down (k ∷ []) (state (Some mine))) (down (k ∷ []) (state (Some other))) []
    lower = carried_below k (state o) (state (Some mine)) (state (Some other)) []

-- a name is carried to a side just where the result has it, if that is so below the name
module _ (s : SchemaValue) (i : NodeId) (o : Archive) (unmarked : state o [] ≢ Marked) (mine other result : Tree) (k : Name) where
  no_side : (t : Tree) → below k t ≡ None → ¬ (Has (state (Some t)) (k ∷ []))
  no_side t none has = true≢false (sym ((there_is t k).1 has) ∙ ap is_some none)

  name_carried : (child_at s i k ≡ None → (below k mine ≡ None) × (below k other ≡ None) × (below k result ≡ None))
      → ((j : NodeId) → child_at s i k ≡ Some j → IsCarried (state (under k o)) (state (below k mine)) (state (below k other)) []
      ↔ Has (state (below k result)) []) → IsCarried (state o) (state (Some mine)) (state (Some other)) (k ∷ []) ↔ Has (state (Some result)) (k ∷ [])
  name_carried nothing_there root = go (child_at s i k) refl
    where
      here : IsCarried (state o) (state (Some mine)) (state (Some other)) (k ∷ [])
          ↔ IsCarried (state (under k o)) (state (below k mine)) (state (below k other)) []
      here = carried_under o mine other k unmarked

      nowhere : child_at s i k ≡ None → IsCarried (state o) (state (Some mine)) (state (Some other)) (k ∷ []) → ⊥
      nowhere none (on_both has_mine has_other) = no_side mine (nothing_there none).0 has_mine
      nowhere none (clashing lost) = no_side mine (nothing_there none).0 lost.has
      nowhere none (kept has_mine lacks alone changed) = no_side mine (nothing_there none).0 has_mine
      nowhere none (brought lacks has_other alone changed) = no_side other (nothing_there none).1 has_other

      go : (c : Option NodeId) → child_at s i k ≡ c → IsCarried (state o) (state (Some mine)) (state (Some other)) (k ∷ [])
          ↔ Has (state (Some result)) (k ∷ [])
      go (Some j) leads = (
        λ c. state_down result k [] ∙ (root j leads).0 (here.0 c),
        λ has. here.1 ((root j leads).1 (sym (state_down result k []) ∙ has)),
      )
      go None none = (λ c. absurd (nowhere none c), λ has. absurd (no_side result (nothing_there none).2 has))

-- nothing stands under a name without a node
pub no_node : (s : SchemaValue) (i : NodeId) (t : Tree) → IsMember s i (state (Some t)) → (k : Name) → child_at s i k ≡ None → below k t ≡ None
no_node s i t member k none = go (below k t) refl
  where
    go : (c : Option Tree) → below k t ≡ c → below k t ≡ None
    go None e = e
    go (Some c) e =
        let at = member (k ∷ []) (state_down t k [] ∙ ap (λ z. state z []) e ∙ state_root c) in
        let nowhere : None ≡ Some at.node = ap (λ z. option_and_then (node_at s) (option_and_then (λ j. Some j) z)) (sym none) ∙ at.is in
        let no : ⊥ = cc in absurd no

-- what stands under a name is a member at the node of that name
pub member_at : (s : SchemaValue) (i j : NodeId) (t : Tree) (k : Name) → IsMember s i (state (Some t)) → child_at s i k ≡ Some j →
    IsMember s j (state (below k t))
member_at s i j t k member leads p has =
    let at = member (k ∷ p) (state_down t k p ∙ has) in
    record {
      node = at.node;
      is = sym (ap (λ x. option_and_then (node_at s) (option_and_then (λ j. reached s j p) x)) leads) ∙ at.is;
      allowed = subst (Allows at.node) (λ x q. state_down t k (p ++ q) x) at.allowed;
    }

-- ---- all names

module _ (s : SchemaValue) (i : NodeId) (o : Archive) (a b : Tree) (members : AreMembers s i (views (given o a b)))
    (unmarked : state o [] ≢ Marked) (passed : Name → Type 0) (all : (k : Name) → passed k ↔ IsInEither (below k a) (below k b))
    (made_archive : Archive) (made_left made_right : Tree) (h : IsGathered s i (given o a b) passed (given made_archive made_left made_right)) where
  abbrev pub before : Trio
  before = given o a b

  abbrev pub after : Trio
  after = given made_archive made_left made_right

  not_passed : (k : Name) → below k a ≡ None → below k b ≡ None → ¬ (passed k)
  not_passed k one two was = true≢false (sym (subst (λ (z : Option Tree × Option Tree). IsInEither z.0 z.1) (λ x. (one x, two x)) ((all k).0 was)))

  in_left : (k : Name) (c : Tree) → below k a ≡ Some c → IsInEither (below k a) (below k b)
  in_left k c one = subst (λ z. IsInEither z (below k b)) (sym one) refl

  in_right : (k : Name) (d : Tree) → below k b ≡ Some d → IsInEither (below k a) (below k b)
  in_right k d two = subst (IsInEither (below k a)) (sym two) (go (below k a))
    where
      go : (x : Option Tree) → IsInEither x (Some d)
      go None = refl
      go (Some c) = refl

  under_it : (k : Name) (j : NodeId) → child_at s i k ≡ Some j → IsOutcome s j (child k before) (child k after)
  under_it k j leads = go (below k a) (below k b) refl refl
    where
      neither : below k a ≡ None → below k b ≡ None → IsOutcome s j (child k before) (child k after)
      neither one two =
          subst (IsOutcome s j (child k before)) (sym (h.rest k (not_passed k one two)))
          (subst (λ (z : Option Tree × Option Tree). IsOutcome s j (record { archive = under k o; left = z.0; right = z.1 }) nothing)
          (λ x. (sym one x, sym two x))
          (equal_sides s j (under k o) None (λ p has. let no : ⊥ = cc in absurd no)))

      go : (x y : Option Tree) → below k a ≡ x → below k b ≡ y → IsOutcome s j (child k before) (child k after)
      go None None one two = neither one two
      go (Some c) y one two = h.settled k ((all k).1 (in_left k c one)) j leads
      go None (Some d) one two = h.settled k ((all k).1 (in_right k d two)) j leads

  pub unplaced : (k : Name) → child_at s i k ≡ None → child k after ≡ nothing
  unplaced k none = h.rest k (not_passed k (no_node s i a members.left k none) (no_node s i b members.right k none))

  pub carried_left : AreCarried (state o) (state (Some a)) (state (Some b)) [] (names_of made_left)
  carried_left k = chained (tree_names made_left k) (turned_round (name_carried s i o unmarked a b made_left k
      (λ none. (no_node s i a members.left k none, no_node s i b members.right k none, ap (λ (t : Trio). t.left) (unplaced k none)))
      (λ j leads. root_carried (child k before) (child k after) (under_it k j leads).safe.safe)))

  pub carried_right : AreCarried (state o) (state (Some b)) (state (Some a)) [] (names_of made_right)
  carried_right k = chained (tree_names made_right k) (turned_round (name_carried s i o unmarked b a made_right k
      (λ none. (no_node s i b members.right k none, no_node s i a members.left k none, ap (λ (t : Trio). t.right) (unplaced k none)))
      (λ j leads. root_carried (turned (child k before)) (turned (child k after))
      (safe_turned (child k before) (child k after) (under_it k j leads).safe.safe))))

  takes : (node : NodeValue) → node_at s i ≡ Some node → (t : Tree) (archive mine other : View) → AreCarried archive mine other [] (names_of t)
      → PermitsAt s i (names_of t) → TakesNames node archive mine other (state (Some t))
  takes node is t archive mine other carried at = record {
    names = names_of t;
    carried = carried;
    permitted = subst (λ n. Permits n (names_of t)) (same_Some at.node node (sym at.is ∙ is)) at.permitted;
    has = tree_names t;
  }

  -- where each side may have the names that it has come to have
  pub gathered : HasNoTwins s → PermitsAt s i (names_of made_left) → PermitsAt s i (names_of made_right) → IsOutcome s i before after
  gathered no_twins left right = downward s i before after no_twins members (record {
    unmarked = unmarked;
    has_left = state_root a;
    has_right = state_root b;
    archive = h.archive;
    left = state_root made_left;
    right = state_root made_right;
    placed = under_it;
    unplaced = unplaced;
    node = left.node;
    is = left.is;
    left_names = takes left.node left.is made_left (state o) (state (Some a)) (state (Some b)) carried_left left;
    right_names = takes left.node left.is made_right (state o) (state (Some b)) (state (Some a)) carried_right right;
  })
