-- A tree is a member of a schema, or has a first path at which it isn't allowed.
use Rattle.std.proofs.Common.{◌≡◌, ℕ, zero, suc, ◌<◌, true, List, [], ◌∷◌, ◌++◌, length, take, slice_get, is_some, Option, Some, None, All, refl, sym, ap, subst, ◌∙◌, arith, length-append}
use Rattle.std.proofs.lemmas.Option.{slice_get-get_or}
use Rattle.std.proofs.Math.Seq.{take-append_seam, get_or-append_seam}
use mathlib.Core.Bool.{true≢false}
use Rattle.hm_existence.specs.Existence.{IsThere}
use Rattle.hm_existence.proofs.Existence.{from_one, from_there, by_cases, all_or_first}
use Rattle.hm_tree.specs.Names.{Name}
use Rattle.hm_tree.specs.Nodes.{Tree, edges, depth}
use Rattle.hm_tree.specs.States.{Path}
use Rattle.hm_tree.proofs.Depths.{depth_edge}
use Rattle.hm_schema.specs.declared.node.NodeId.{NodeId}
use Rattle.hm_schema.specs.Values.{SchemaValue, child_at}
use Rattle.hm_schema.specs.Permitted.{PermitsAt, names_of}
use Rattle.hm_schema.specs.Membership.{IsAllowed, IsAnswer, HasNoTwins}
use Rattle.hm_schema.proofs.Members.{view, IsMemberBelow, allowed_child, member_whole}
use Rattle.hm_schema.proofs.Outside.{allowed_names, outside_at_root, outside_under}

at_seam : {X : Type 0} (before : List X) (x : X) (after : List X) → slice_get (before ++ x ∷ after) (length before) ≡ Some x
at_seam before x after =
    let long = length-append before (x ∷ after) in
    slice_get-get_or (before ++ x ∷ after) (length before) x (omega arith) ∙ ap Some (get_or-append_seam before x after x)

module _ (s : SchemaValue) (plain : HasNoTwins s) where
  abbrev Answers : NodeId → Tree → Option Path → Type 0
  Answers i t = IsAnswer s i (view t)

  module _ (i : NodeId) (t : Tree) (permitted : PermitsAt s i (names_of t)) where
    root : IsAllowed s i (view t) []
    root = allowed_names s i t plain permitted

    -- an edge whose tree is no member has a first path below it
    module _ (before : List (Name × Tree)) (e : Name × Tree) (after : List (Name × Tree)) (are : edges t ≡ before ++ e ∷ after)
        (members : All (λ e. IsMemberBelow s i e.0 e.1) before) (refused : ¬ (IsMemberBelow s i e.0 e.1)) where
      there : slice_get (edges t) (length before) ≡ Some e
      there = ap (λ (es : List (Name × Tree)). slice_get es (length before)) are ∙ at_seam before e after

      earlier : All (λ e. IsMemberBelow s i e.0 e.1) (take (length before) (edges t))
      earlier =
          subst (All (λ (e : Name × Tree). IsMemberBelow s i e.0 e.1))
          (sym (ap (take (length before)) are ∙ take-append_seam before (e ∷ after))) members

      below_there : (j : NodeId) → child_at s i e.0 ≡ Some j → IsThere (Answers j e.1) → IsThere (Answers i t)
      below_there j is some = from_there (Answers j e.1) (Answers i t) some found
        where
          found : (o : Option Path) → Answers j e.1 o → IsThere (Answers i t)
          found None member = absurd (refused (record { place = j; is = is; member = member }))
          found (Some p) first =
              from_one (Answers i t) (Some (e.0 ∷ p)) (outside_under s i t root (length before) e.0 e.1 there earlier j is p first)

      edge_there : ((j : NodeId) → IsThere (Answers j e.1)) → IsThere (Answers i t)
      edge_there deeper = go (child_at s i e.0) refl (allowed_child s i t (length before) e.0 e.1 there permitted)
        where
          go : (o : Option NodeId) → child_at s i e.0 ≡ o → is_some (child_at s i e.0) ≡ true → IsThere (Answers i t)
          go None is some = absurd (true≢false (sym some ∙ ap is_some is))
          go (Some j) is some = below_there j is (deeper j)

    edges_there : ((j : NodeId) (c : Tree) → depth c < depth t → IsThere (Answers j c)) → IsThere (Answers i t)
    edges_there deeper =
        all_or_first (Answers i t) (λ e. IsMemberBelow s i e.0 e.1) (edges t)
        (λ all. from_one (Answers i t) None (member_whole s i t root all))
        (λ before e after are members refused. edge_there before e after are members refused (λ j. deeper j e.1
        (depth_edge t (length before) e.0 e.1 (there before e after are members refused))))

  within : (n : ℕ) (i : NodeId) (t : Tree) → depth t < n → IsThere (Answers i t)
  within zero i t le = absurd (omega arith)
  within (suc n) i t le =
      by_cases (Answers i t) (PermitsAt s i (names_of t))
      (λ permitted. edges_there i t permitted (λ j c less. within n j c (omega arith)))
      (λ refused. from_one (Answers i t) (Some []) (outside_at_root s i t refused))

  pub answer_there : (t : Tree) → IsThere (Answers s.root t)
  answer_there t = within (suc (depth t)) s.root t (omega arith)
