-- There is an outcome, whatever the archive and the two members are: what one side alone has is settled as a whole, what
-- both have name by name, unless the names that come to stand there aren't permitted.
use Rattle.std.proofs.Common.{◌≡◌, ◌≢◌, ◌⊎◌, ◌↔◌, inl, inr, ℕ, zero, suc, ◌<◌, List, [], ◌∷◌, ◌++◌, Option, Some, None, refl, sym, subst, ◌∙◌, arith}
use Rattle.std.specs.List.{All, list_any}
use Rattle.std.specs.Str.{IsUtf8}
use Rattle.std.proofs.lemmas.List.Elements.{All-head, All-tail}
use Rattle.std.proofs.lemmas.Option.{none-some, same_Some}
use Rattle.hm_tree.specs.declared.archive.State.{State}
use Rattle.hm_tree.specs.declared.archive.State.TheVariants.{Missing, Present, Marked}
use Rattle.hm_tree.specs.Names.{Name}
use Rattle.hm_tree.specs.Nodes.{Tree, below, depth, marked, empty}
use Rattle.hm_tree.specs.Archives.{Archive, under, with_archive, recorded}
use Rattle.hm_tree.specs.States.{state}
use Rattle.hm_tree.proofs.Depths.{depth_below}
use Rattle.hm_tree.proofs.NameSets.{tied}
use Rattle.hm_tree.proofs.States.{state_root}
use Rattle.hm_schema.specs.declared.node.NodeId.{NodeId}
use Rattle.hm_schema.specs.Values.{Names, SchemaValue, child_at}
use Rattle.hm_schema.specs.Permitted.{Permits, PermitsAt, names_of}
use Rattle.hm_schema.specs.Membership.{IsAllowed, IsMember, HasNoTwins}
use Rattle.hm_schema.proofs.Decided.{Decided, decided_true, decided_permits}
use Rattle.hm_schema.proofs.Members.{member_root}
use Rattle.hm_outcome.specs.Trios.{Trio, given, views, turned, AreMembers}
use Rattle.hm_outcome.specs.Sides.{on_left, on_right, on_neither, recorded_on_both}
use Rattle.hm_outcome.specs.Gathering.{IsInEither, with_side}
use Rattle.hm_outcome.specs.Carried.{AreCarried}
use Rattle.hm_outcome.specs.Contested.{earlier, refused}
use Rattle.hm_outcome.specs.Outcomes.{IsOutcome, HasOneOutcome}
use Rattle.hm_outcome.proofs.Alone.{missing_member, left_taken, left_stopped}
use Rattle.hm_outcome.proofs.Best.{outcome_once}
use Rattle.hm_outcome.proofs.Downward.{child}
use Rattle.hm_outcome.proofs.Gathered.{nothing, IsGathered, gathered_none, gathered_next, member_at, carried_left, carried_right, gathered}
use Rattle.hm_outcome.proofs.Marks.{is_marked_or_not}
use Rattle.hm_outcome.proofs.NameLists.{IsListed, none_listed, one_more, name_list, listed_in_either, texts_of_both}
use Rattle.hm_outcome.proofs.Search.{within_or_news, same_or_differ}
use Rattle.hm_outcome.proofs.Settled.{equal_sides, stopped, taken_out, outcome_turned}

-- an outcome is there
record IsSettled (s : SchemaValue) (i : NodeId) (before : Trio) : Type 0 where
  after : Trio
  is : IsOutcome s i before after

-- and both sides have the root
record IsSettledNode (s : SchemaValue) (i : NodeId) (before : Trio) : Type 0 where
  archive : Archive
  left : Tree
  right : Tree
  is : IsOutcome s i before (given archive left right)

-- ---- one side alone has it

module _ (s : SchemaValue) (i : NodeId) (o : Archive) (t : Tree) (member : IsMember s i (state (Some t))) where
  left_alone : IsSettled s i (on_left o t)
  left_alone = go (state o []) refl
    where
      known : state o [] ≢ Missing → IsSettled s i (on_left o t)
      known there = elim (within_or_news t o) [
        | inl within ↦ record { after = on_neither; is = taken_out s i o (Some t) within }
        | inr news ↦ record { after = on_left (Some marked) t; is = left_stopped s i o t there (λ within. news.2 (within news.0 news.1)) member }
      ]

      go : (r : State) → state o [] ≡ r → IsSettled s i (on_left o t)
      go Missing e = record { after = recorded_on_both t; is = left_taken s i o t e member }
      go Present e = known (λ m. let f : Present ≡ Missing = sym e ∙ m in cc)
      go Marked e = known (λ m. let f : Marked ≡ Missing = sym e ∙ m in cc)

  right_alone : IsSettled s i (on_right o t)
  right_alone =
      let settled = left_alone in
      record { after = turned settled.after; is = outcome_turned s i (on_left o t) settled.after settled.is }

neither : (s : SchemaValue) (i : NodeId) (o : Archive) → IsSettled s i (record { archive = o; left = None; right = None })
neither s i o = record { after = nothing; is = equal_sides s i o None (missing_member s i) }

-- ---- what stands under each name, put together

-- under each name that has a node there is an outcome
abbrev AreSettledBelow : SchemaValue → NodeId → Trio → Type 0
AreSettledBelow s i before = (k : Name) (j : NodeId) → child_at s i k ≡ Some j → IsSettled s j (child k before)

module _ (s : SchemaValue) (i : NodeId) (o : Archive) (a b : Tree) (settled_below : AreSettledBelow s i (given o a b)) where
  abbrev before : Trio
  before = given o a b

  record IsPut (names : List Name) : Type 0 where
    archive : Archive
    left : Tree
    right : Tree
    gathered : IsGathered s i before (IsListed names) (given archive left right)

  -- whatever the node of the name is
  record IsSettledUnder (k : Name) : Type 0 where
    here : Trio
    is : (j : NodeId) → child_at s i k ≡ Some j → IsOutcome s j (child k before) here

  settled_under : (k : Name) → IsSettledUnder k
  settled_under k = go (child_at s i k) refl
    where
      go : (x : Option NodeId) → child_at s i k ≡ x → IsSettledUnder k
      go None none = record { here = nothing; is = λ j leads. absurd (none-some j (sym none ∙ leads)) }
      go (Some j) leads =
          let settled = settled_below k j leads in
          record {
            here = settled.after;
            is = λ l leads_too. subst (λ z. IsOutcome s z (child k before) settled.after) (same_Some j l (sym leads ∙ leads_too)) settled.is;
          }

  -- a name that is listed already adds nothing
  put_again : (k : Name) (names : List Name) → IsListed names k → IsPut names → IsPut (k ∷ names)
  put_again k names listed put = record {
    archive = put.archive;
    left = put.left;
    right = put.right;
    gathered = record {
      archive = put.gathered.archive;
      settled = λ q was. put.gathered.settled q (elim ((one_more k names q).0 was) [
        | inl early ↦ early
        | inr same ↦ subst (IsListed names) (sym same) listed
      ]);
      rest = λ q fresh. put.gathered.rest q (λ was. fresh ((one_more k names q).1 (inl was)));
    };
  }

  put_new : (k : Name) (names : List Name) → IsUtf8 k → ¬ (IsListed names k) → IsPut names → IsPut (k ∷ names)
  put_new k names text fresh put =
      let under_it = settled_under k in
      record {
        archive = with_archive k under_it.here.archive put.archive;
        left = with_side k under_it.here.left put.left;
        right = with_side k under_it.here.right put.right;
        gathered = gathered_next s i before (IsListed names) put.archive put.left put.right put.gathered k text fresh under_it.here
            (IsListed (k ∷ names)) (one_more k names) under_it.is;
      }

  put_all : (names : List Name) → All IsUtf8 names → IsPut names
  put_all [] texts = record { archive = Some empty; left = empty; right = empty; gathered = gathered_none s i before (IsListed []) none_listed }
  put_all (k ∷ names) texts = elim (decided_true (list_any (tied k) names)) [
    | inl listed ↦ put_again k names listed (put_all names (All-tail IsUtf8 k names texts))
    | inr fresh ↦ put_new k names (All-head IsUtf8 k names texts) fresh (put_all names (All-tail IsUtf8 k names texts))
  ]

  -- ---- a node of both, whose archive isn't marked

  module _ (no_twins : HasNoTwins s) (members : AreMembers s i (views before)) (unmarked : state o [] ≢ Marked) where
    abbrev names : List Name
    names = name_list a ++ name_list b

    all_listed : (k : Name) → IsListed names k ↔ IsInEither (below k a) (below k b)
    all_listed k = (λ l. sym (listed_in_either a b k) ∙ l, λ e. listed_in_either a b k ∙ e)

    -- what is put together is the outcome where both sides may have its names, else both sides stay
    whole : IsPut names → IsSettledNode s i before
    whole put = go (decided_permits root.node (names_of put.left)) (decided_permits root.node (names_of put.right))
      where
        root : IsAllowed s i (state (Some a)) []
        root = member_root s i a members.left

        left_is : AreCarried (state o) (state (Some a)) (state (Some b)) [] (names_of put.left)
        left_is = carried_left s i o a b members unmarked (IsListed names) all_listed put.archive put.left put.right put.gathered

        right_is : AreCarried (state o) (state (Some b)) (state (Some a)) [] (names_of put.right)
        right_is = carried_right s i o a b members unmarked (IsListed names) all_listed put.archive put.left put.right put.gathered

        stays : ¬ (Permits root.node (names_of put.left)) ⊎ ¬ (Permits root.node (names_of put.right)) → IsSettledNode s i before
        stays refuses = record {
          archive = Some marked;
          left = a;
          right = b;
          is = stopped s i before (refused (record {
            has_left = state_root a;
            has_right = state_root b;
            unmarked = unmarked;
            are_left = left_is;
            are_right = right_is;
            node = root.node;
            is = root.is;
            refused = refuses;
          })) members;
        }

        permits : {names : Names} → Permits root.node names → PermitsAt s i names
        permits permitted = record { node = root.node; is = root.is; permitted = permitted }

        go : Decided (Permits root.node (names_of put.left)) → Decided (Permits root.node (names_of put.right)) → IsSettledNode s i before
        go (inr not_left) right = stays (inl not_left)
        go (inl left) (inr not_right) = stays (inr not_right)
        go (inl left) (inl right) = record {
          archive = put.archive;
          left = put.left;
          right = put.right;
          is = gathered s i o a b members unmarked (IsListed names) all_listed put.archive put.left put.right put.gathered no_twins
              (permits left) (permits right);
        }

    name_by_name : IsSettledNode s i before
    name_by_name = whole (put_all names (texts_of_both a b))

-- ---- a node of both, by the depth of the left one

-- at an earlier mark the sides are equal, or stay
at_mark : (s : SchemaValue) (i : NodeId) (o : Archive) (a b : Tree) → AreMembers s i (views (given o a b)) → state o [] ≡ Marked →
    IsSettledNode s i (given o a b)
at_mark s i o a b members mark = elim (same_or_differ a b) [
  | inl same ↦ record {
    archive = Some (recorded a);
    left = a;
    right = a;
    is = subst (λ z. IsOutcome s i (given o a z) (given (Some (recorded a)) a a)) same (equal_sides s i o (Some a) members.left);
  }
  | inr differ ↦ record { archive = Some marked; left = a; right = b; is = stopped s i (given o a b) (earlier mark differ) members }
]

module _ (s : SchemaValue) (no_twins : HasNoTwins s) where
  -- whatever the archive, wherever the left side is less deep
  abbrev AreSettledUpTo : ℕ → Type 0
  AreSettledUpTo n = (i : NodeId) (o : Archive) (a b : Tree) → depth a < n → AreMembers s i (views (given o a b)) → IsSettledNode s i (given o a b)

  below_node : (n : ℕ) → AreSettledUpTo n → (i : NodeId) (o : Archive) (a b : Tree) → depth a < suc n → AreMembers s i (views (given o a b)) →
      AreSettledBelow s i (given o a b)
  below_node n nodes i o a b deep members k j leads =
      go (below k a) (below k b) refl (member_at s i j a k members.left leads) (member_at s i j b k members.right leads)
    where
      go : (x y : Option Tree) → below k a ≡ x → IsMember s j (state x) → IsMember s j (state y) →
          IsSettled s j (record { archive = under k o; left = x; right = y })
      go (Some x) (Some y) there left right =
          let less = depth_below k a x there in
          let settled = nodes j (under k o) x y (omega arith) (record { left = left; right = right }) in
          record { after = given settled.archive settled.left settled.right; is = settled.is }
      go (Some x) None there left right = left_alone s j (under k o) x left
      go None (Some y) there left right = right_alone s j (under k o) y right
      go None None there left right = neither s j (under k o)

  up_to : (n : ℕ) → AreSettledUpTo n
  up_to zero i o a b deep members = absurd (omega arith)
  up_to (suc n) i o a b deep members = elim (is_marked_or_not (state o [])) [
    | inl mark ↦ at_mark s i o a b members mark
    | inr unmarked ↦ name_by_name s i o a b (below_node n (up_to n) i o a b deep members) no_twins members unmarked
  ]

  -- there is one, and no other
  pub one_outcome : (i : NodeId) (o : Archive) (a b : Tree) → AreMembers s i (views (given o a b)) → HasOneOutcome s i (given o a b)
  one_outcome i o a b members =
      let settled = up_to (suc (depth a)) i o a b (omega arith) members in
      record {
        archive = settled.archive;
        left = settled.left;
        right = settled.right;
        is = settled.is;
        only = λ other is. outcome_once s i (given o a b) other (given settled.archive settled.left settled.right) is settled.is;
      }
