-- The steps of reconciling a node name by name.
use mathlib.Core.Bool.{true≢false}
use Rattle.std.proofs.Common.{◌≡◌, ◌≢◌, ◌⊎◌, inl, inr, T, List, [], ◌∷◌, map, Option, Some, None, true, false, cond, ◌&&◌, refl, sym, ap, subst, ◌∙◌}
use Rattle.std.specs.Ordering.{is_lt, eq_by_cmp}
use Rattle.std.specs.FinMap.{is_sorted, find}
use Rattle.std.specs.Str.{IsUtf8}
use Rattle.std.specs.declared.cmp.Ordering.TheVariants.{Less}
use Rattle.hm_tree.specs.declared.archive.State.TheVariants.{Marked}
use Rattle.hm_tree.specs.Names.{Name, name_cmp}
use Rattle.hm_tree.specs.Nodes.{Node, Tree, edges, below, below_all, empty}
use Rattle.hm_tree.specs.NodeLaws.{edges_sorted}
use Rattle.hm_tree.specs.Archives.{Archive, under, with_archive, edges_here}
use Rattle.hm_tree.specs.States.{state}
use Rattle.hm_tree.proofs.Utf8Names.{below_utf8}
use Rattle.hm_schema.specs.declared.node.NodeId.{NodeId}
use Rattle.hm_schema.specs.Values.{SchemaValue, child_at}
use Rattle.hm_schema.specs.Membership.{HasNoTwins}
use Rattle.hm_schema.specs.Permitted.{names_of}
use Rattle.hm_outcome.specs.Trios.{Trio, given, views, AreMembers}
use Rattle.hm_outcome.specs.Outcomes.{IsOutcome}
use Rattle.hm_outcome.proofs.Downward.{child}
use Rattle.hm_outcome.specs.Gathering.{with_trio, IsInEither}
use Rattle.hm_reconcile.specs.Holding.{Holds}
use Rattle.hm_reconcile.specs.Naming.{ArePermitted}
use Rattle.hm_reconcile.specs.Taken.{IsTaken, AreOver, nothing_or, found}
use Rattle.hm_reconcile.proofs.Passing.{Passed, AreLeft, all_left, none_passed, fresh, in_either, passes, next_left, all_passed, passed_before}
use Rattle.hm_outcome.proofs.Gathered.{nothing, IsGathered, gathered_none, gathered_next, carried_left, carried_right, gathered}
use Rattle.hm_reconcile.proofs.Held.{IsHeld, held_none, held_next, held_all}

-- what is left of the three, and what was made of the names that were passed
pub record IsUnderWay (s : SchemaValue) (i : NodeId) (o : Archive) (a b : Tree) (old : List (Name × Archive)) (es fs : List (Name × Tree))
    (made : Trio) (aside : Archive) : Type 0 where
  pub left : AreLeft a b es fs
  pub sorted : T (is_sorted name_cmp old)
  pub old_is : (k : Name) → ¬ (Passed a b es fs k) → IsInEither (below k a) (below k b) → found k old ≡ under k o
  pub gathered : IsGathered s i (given o a b) (Passed a b es fs) made
  pub held : IsHeld o (Passed a b es fs) made.archive aside

-- ---- at the start

found_here : (o : Archive) (k : Name) → found k (edges_here o) ≡ under k o
found_here None k = refl
found_here (Some t) k = by (edges t)
  where
    by : (es : List (Name × Node true)) → found k (map {B = Name × Archive} (λ (e : Name × Node true). (e.0, Some e.1)) es) ≡ find name_cmp k es
    by [] = refl
    by (e ∷ es) = elim (eq_by_cmp name_cmp k e.0)
        as (λ t. nothing_or (cond t (Some (Some e.1))
        (find name_cmp k (map {B = Name × Archive} (λ (x : Name × Node true). (x.0, Some x.1)) es))) ≡ cond t (Some e.1) (find name_cmp k es))
        [ true ↦ refl | false ↦ by es ]

here_rises : (o : Archive) → T (is_sorted name_cmp (edges_here o))
here_rises None = tt
here_rises (Some t) = subst T (sym (same (edges t))) (edges_sorted t)
  where
    some : List (Name × Node true) → List (Name × Archive)
    some es = map (λ (e : Name × Node true). (e.0, Some e.1)) es

    above : (x : Name) (es : List (Name × Node true)) → below_all x (some es) ≡ below_all x es
    above x [] = refl
    above x (e ∷ es) = ap (λ t. is_lt (name_cmp x e.0) && t) (above x es)

    same : (es : List (Name × Node true)) → is_sorted name_cmp (some es) ≡ is_sorted name_cmp es
    same [] = refl
    same (e ∷ es) = λ j. above e.0 es j && same es j

pub under_way_start : (s : SchemaValue) (i : NodeId) (o : Archive) (a b : Tree) (old : List (Name × Archive)) (es fs : List (Name × Tree))
    (made : Trio) (held : Archive) → old ≡ edges_here o → es ≡ edges a → fs ≡ edges b → made ≡ given (Some empty) empty empty
    → held ≡ Some empty → IsUnderWay s i o a b old es fs made held
under_way_start s i o a b old es fs made held old_is left_is right_is made_is held_is =
    subst (λ (z : List (Name × Archive) × List (Name × Tree) × List (Name × Tree) × Trio × Archive). IsUnderWay s i o a b z.0 z.1 z.2 z.3 z.4)
    (λ j. (sym old_is j, sym left_is j, sym right_is j, sym made_is j, sym held_is j)) (record {
      left = all_left a b;
      sorted = here_rises o;
      old_is = λ k fresh there. found_here o k;
      gathered = gathered_none s i (given o a b) (Passed a b (edges a) (edges b)) (none_passed a b);
      held = held_none o (Passed a b (edges a) (edges b)) (λ k was. none_passed a b k was);
    })

-- ---- one name more

-- a name that one of two trees has is UTF-8
either_utf8 : (a b : Tree) (k : Name) → IsInEither (below k a) (below k b) → IsUtf8 k
either_utf8 a b k h = go (below k a) (below k b) refl refl h
  where
    go : (x y : Option Tree) → below k a ≡ x → below k b ≡ y → IsInEither x y → IsUtf8 k
    go (Some c) y e f there = below_utf8 a k c e
    go None (Some d) e f there = below_utf8 b k d f
    go None None e f there = absurd (true≢false (sym there))

module _ {s : SchemaValue} {i : NodeId} {o : Archive} {a b : Tree} {old : List (Name × Archive)} {es fs es_rest fs_rest : List (Name × Tree)}
    {made_o : Archive} {made_a made_b : Tree} {aside : Archive} {k : Name} {one two : Option Tree}
    (w : IsUnderWay s i o a b old es fs (given made_o made_a made_b) aside) (t : IsTaken es fs es_rest fs_rest k one two) where
  -- what stood under the name in the archive
  pub old_here : found k old ≡ under k o
  old_here = w.old_is k (fresh w.left t) (in_either w.left t)

  name_text : IsUtf8 k
  name_text = either_utf8 a b k (in_either w.left t)

  -- nothing was made under it yet
  pub nothing_made : child k (given made_o made_a made_b) ≡ nothing
  nothing_made = w.gathered.rest k (fresh w.left t)

  pub nothing_held : under k aside ≡ None
  nothing_held = w.held.rest k (fresh w.left t)

  pub under_way_next : (old_rest : List (Name × Archive)) (here : Trio) (aside_here : Archive) (made_now : Trio) (aside_now : Archive)
      → T (is_sorted name_cmp old_rest) → ((q : Name) → name_cmp k q ≡ Less → found q old_rest ≡ found q old)
      → ((j : NodeId) → child_at s i k ≡ Some j → IsOutcome s j (child k (given o a b)) here) → Holds (under k o) here.archive aside_here
      → made_now ≡ with_trio k here made_o made_a made_b → aside_now ≡ with_archive k aside_here aside
      → IsUnderWay s i o a b old_rest es_rest fs_rest made_now aside_now
  under_way_next old_rest here aside_here made_now aside_now sorted later settled holds made_is aside_is =
      subst (λ (z : Trio × Archive). IsUnderWay s i o a b old_rest es_rest fs_rest z.0 z.1) (λ j. (sym made_is j, sym aside_is j)) (record {
        left = next_left w.left t;
        sorted = sorted;
        old_is = λ q not_yet there. later q (passed_before (next_left w.left t) k q ((passes w.left t k).1 (inr refl)) not_yet there)
            ∙ w.old_is q (λ was. not_yet ((passes w.left t q).1 (inl was))) there;
        gathered = gathered_next s i (given o a b) (Passed a b es fs) made_o made_a made_b w.gathered k name_text (fresh w.left t) here
            (Passed a b es_rest fs_rest) (passes w.left t) settled;
        held = held_next o (Passed a b es fs) (Passed a b es_rest fs_rest) made_o aside k name_text here.archive aside_here w.held
            (fresh w.left t) w.gathered.archive (ap (λ (x : Trio). x.archive) nothing_made) (passes w.left t) holds;
      })

-- ---- at the end

module _ {s : SchemaValue} {i : NodeId} {o : Archive} {a b : Tree} {old : List (Name × Archive)} {es fs : List (Name × Tree)} {made_o : Archive}
    {made_a made_b : Tree} {aside : Archive} (w : IsUnderWay s i o a b old es fs (given made_o made_a made_b) aside) (over : AreOver es fs) where
  pub outcome_whole : AreMembers s i (views (given o a b)) → state o [] ≢ Marked → HasNoTwins s → ArePermitted s i (views (given o a b))
      → IsOutcome s i (given o a b) (given made_o made_a made_b)
  outcome_whole members unmarked no_twins permitted =
      let all = all_passed over in
      gathered s i o a b members unmarked (Passed a b es fs) all made_o made_a made_b w.gathered no_twins
      (permitted.left (names_of made_a) (carried_left s i o a b members unmarked (Passed a b es fs) all made_o made_a made_b w.gathered))
      (permitted.right (names_of made_b) (carried_right s i o a b members unmarked (Passed a b es fs) all made_o made_a made_b w.gathered))

  pub held_whole : state o [] ≢ Marked → Holds o made_o aside
  held_whole unmarked = held_all o made_o aside (Passed a b es fs) unmarked w.gathered.archive w.held (λ k. go k (below k a) (below k b) refl refl)
    where
      go : (k : Name) (x y : Option Tree) → below k a ≡ x → below k b ≡ y → Passed a b es fs k ⊎ (under k made_o ≡ None)
      go k (Some c) y e f = inl ((all_passed over k).1 (rw e refl))
      go k None (Some d) e f = inl ((all_passed over k).1 (rw (e, f) refl))
      go k None None e f = inr (ap (λ (x : Trio). x.archive)
          (w.gathered.rest k (λ was. let bad : false ≡ true = rw (e, f) at ((all_passed over k).0 was) in true≢false (sym bad))))
