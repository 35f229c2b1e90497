-- Forks and conditionals: lenses with two lenses inside, each of which is checked at a node that is made for it.
use Rattle.std.proofs.Common.{◌≡◌, ◌<◌, ◌+◌, ◌∷◌, ◌++◌, ℕ, length, Some, inl, inr, sym, subst}
use Rattle.hm_tree.specs.Names.{Name}
use Rattle.hm_schema.specs.declared.node.NodeId.{NodeId}
use Rattle.hm_schema.specs.declared.node.Shape.{Shape}
use Rattle.hm_schema.specs.Values.{Names, NodeOver}
use Rattle.hm_terms.specs.Lenses.{Lens, fork, on_concrete, on_view}
use Rattle.hm_types_nodes.specs.Branching.{node_with, node_without}
use Rattle.hm_schema.specs.Shapes.{RequiresTwins}
use Rattle.hm_types_forms.specs.Forms.{Form, node_of, formed, form}
use Rattle.hm_types_forms.specs.Sound.{IsSound}
use Rattle.hm_types_forms.specs.SameForms.{IsSame}
use Rattle.hm_types_rules.specs.Typing.{Types, Goes, goes_fork, goes_concrete, goes_view, IsForked, IsBranched, AreJoinable, AreMergeable, inside_form, outside_form}
use Rattle.hm_types_rules.specs.Sources.{ForkSource, ForkView, BranchSource, MergeView}
use Rattle.hm_types_rules.specs.Faults.{At, at, Faults, size_of, fault_fork, fault_inside, fault_outside, fault_joined, fault_concrete, fault_where_it_has, fault_where_it_lacks, fault_apart, fault_view, fault_where_it_showed, fault_where_it_did_not, fault_merged}
use Rattle.hm_types_forms.proofs.SoundForms.{node_sound}
use Rattle.hm_types_rules.proofs.SoundViews.{inside_sound, outside_sound, with_sound, without_sound}
use Rattle.hm_types_table.specs.Tables.{Nodes, AreFormed, Extends}
use Rattle.hm_types_terms.specs.declared.course.Course.{Course}
use Rattle.hm_types_terms.specs.declared.memo.Memo.{Memo}
use Rattle.hm_types_terms.specs.Numbers.{parts_of}
use Rattle.hm_types_terms.specs.Courses.{scope_of, AreTypes, lenses_in, IsView, IsReady, IsAt}
use Rattle.hm_types_terms.specs.Pairs.{ArePairReady, ArePairViews, IsPairAt}
use Rattle.hm_types_terms.proofs.Standing.{stand_inside, stand_first}
use Rattle.hm_types_terms.proofs.Growing.{types_grown, declared_grown, view_sound, grown_by, ready_at}

module _ (c : Course) (n : ℕ) (lens l k : Lens) (old : Nodes) (known : Memo) (i : NodeId)
    (r : IsReady c old known (lens ∷ (parts_of l ++ parts_of k)) n i) (mid : Nodes) (formed : AreFormed mid) (e : Extends old mid) (p q : NodeId)
    (in_range : (p.place < length mid) × (q.place < length mid)) (sound : IsSound (form mid p) × IsSound (form mid q)) where
  pub pair_ready : ArePairReady c mid known l k n p q
  pair_ready =
      let stand = stand_inside (lenses_in c) n lens (parts_of l ++ parts_of k) r.stand in
      record {
        first = ready_at c old known (lens ∷ (parts_of l ++ parts_of k)) n i r mid known (parts_of l) (n + 1) p
            (grown_by c old known (lens ∷ (parts_of l ++ parts_of k)) n i r mid formed e) in_range.0 sound.0
            (stand_first (lenses_in c) (n + 1) (parts_of l) (parts_of k) stand);
        stand = stand;
        in_range = in_range.1;
        sound = sound.1;
      }

  -- the view of the first one is sound
  pub first_view_sound : (new : Nodes) (x : NodeId) → IsView (scope_of c) mid new l p x → IsSound (form new x)
  first_view_sound new x v =
      view_sound mid (scope_of c) (declared_grown old mid r.start.formed e (scope_of c) r.start.declared) new l p x sound.0 v

  pub first_twins : (new : Nodes) (x : NodeId) → IsView (scope_of c) mid new l p x → (w : NodeOver Form) → node_of (form new x) ≡ Some w → RequiresTwins w
  first_twins new x v w is = (node_sound (form new x) w is (first_view_sound new x v)).own

-- ---- forks

module _ (c : Course) (n : ℕ) (P Q : Names) (l k : Lens) (old : Nodes) (known : Memo) (i : NodeId)
    (r : IsReady c old known (parts_of (fork P Q l k)) n i) where
  pub fork_refused : ((w : NodeOver Form) (a : Shape) → IsForked P (form old i) w a → ⊥) → IsAt (scope_of c) old (fork P Q l k) n i (at n 6)
  fork_refused f types t = fault_fork f

  module _ (mid : Nodes) (e : Extends old mid) (p q : NodeId) (s : ForkSource P (form old i) (form mid p) (form mid q)) where
    pub fork_sound : IsSound (form mid p) × IsSound (form mid q)
    fork_sound = (
      subst IsSound (sym s.first) (inside_sound P (form old i) s.node s.shape s.forked r.start.sound),
      subst IsSound (sym s.second) (outside_sound P (form old i) s.node s.shape s.forked r.start.sound),
    )

    later : (types : Types) → AreTypes old (scope_of c) types → AreTypes mid (scope_of c) types
    later types t = types_grown old mid r.start.formed e (scope_of c) r.start.declared types t

    pub fork_pair_at : (a : At) → IsPairAt (scope_of c) mid l k n p q a → IsAt (scope_of c) old (fork P Q l k) n i a
    fork_pair_at a f types t = elim (f types (later types t)) [
      | inl g ↦ fault_inside s.forked (subst (λ u. Faults types l (n + 1) u a) s.first g)
      | inr g ↦ fault_outside s.forked (subst (λ u. Goes types l u g.0) s.first g.1.0)
          (subst (λ u. Faults types k (n + 1 + size_of l) u a) s.second g.1.1)
    ]

    module _ (end : Nodes) (x y : NodeId) (v : ArePairViews (scope_of c) mid end l k p q x y) where
      first_goes : (types : Types) → AreTypes old (scope_of c) types → Goes types l (inside_form P s.node s.shape) (form end x)
      first_goes types t = subst (λ u. Goes types l u (form end x)) s.first (v.first.goes types (later types t))

      second_goes : (types : Types) → AreTypes old (scope_of c) types → Goes types k (outside_form P s.node s.shape) (form end y)
      second_goes types t = subst (λ u. Goes types k u (form end y)) s.second (v.second.goes types (later types t))

      pub fork_view : (new : Nodes) (j : NodeId) → j.place < length new → ForkView Q (form end x) (form end y) (form new j)
          → IsView (scope_of c) old new (fork P Q l k) i j
      fork_view new j lt w = record {
        in_range = lt;
        goes = λ types t. goes_fork s.forked (first_goes types t) (second_goes types t) w.joinable w.joined w.is;
      }

      pub fork_apart : ((one two : NodeOver Form) → AreJoinable Q (form end x) (form end y) one two → ⊥)
          → IsAt (scope_of c) old (fork P Q l k) n i (at n 6)
      fork_apart f types t = fault_joined s.forked (first_goes types t) (second_goes types t) f

-- ---- conditionals

module _ (c : Course) (n : ℕ) (m : Name) (lens l k : Lens) (old : Nodes) (known : Memo) (i : NodeId)
    (r : IsReady c old known (lens ∷ (parts_of l ++ parts_of k)) n i) (mid : Nodes) (e : Extends old mid) (p q : NodeId)
    (s : BranchSource m (form old i) (form mid p) (form mid q)) where
  pub branch_sound : IsSound (form mid p) × IsSound (form mid q)
  branch_sound = (
    subst IsSound (sym s.first) (with_sound m (form old i) s.node s.branched r.start.sound),
    subst IsSound (sym s.second) (without_sound m (form old i) s.node s.branched r.start.sound),
  )

  pub types_there : (types : Types) → AreTypes old (scope_of c) types → AreTypes mid (scope_of c) types
  types_there types t = types_grown old mid r.start.formed e (scope_of c) r.start.declared types t

  module _ (end : Nodes) (x y : NodeId) (v : ArePairViews (scope_of c) mid end l k p q x y) where
    pub with_goes : (types : Types) → AreTypes old (scope_of c) types → Goes types l (formed (node_with m s.node)) (form end x)
    with_goes types t = subst (λ u. Goes types l u (form end x)) s.first (v.first.goes types (types_there types t))

    pub without_goes : (types : Types) → AreTypes old (scope_of c) types → Goes types k (formed (node_without m s.node)) (form end y)
    without_goes types t = subst (λ u. Goes types k u (form end y)) s.second (v.second.goes types (types_there types t))

module _ (c : Course) (n : ℕ) (m : Name) (l k : Lens) (old : Nodes) (known : Memo) (i : NodeId)
    (r : IsReady c old known (parts_of (on_concrete m l k)) n i) where
  pub concrete_refused : ((w : NodeOver Form) → IsBranched m (form old i) w → ⊥) → IsAt (scope_of c) old (on_concrete m l k) n i (at n 12)
  concrete_refused f types t = fault_concrete f

  module _ (mid : Nodes) (e : Extends old mid) (p q : NodeId) (s : BranchSource m (form old i) (form mid p) (form mid q)) where
    pub concrete_pair_at : (a : At) → IsPairAt (scope_of c) mid l k n p q a → IsAt (scope_of c) old (on_concrete m l k) n i a
    concrete_pair_at a f types t = elim (f types (types_there c n m (on_concrete m l k) l k old known i r mid e p q s types t)) [
      | inl g ↦ fault_where_it_has s.branched (subst (λ u. Faults types l (n + 1) u a) s.first g)
      | inr g ↦ fault_where_it_lacks s.branched (subst (λ u. Goes types l u g.0) s.first g.1.0)
          (subst (λ u. Faults types k (n + 1 + size_of l) u a) s.second g.1.1)
    ]

    module _ (end : Nodes) (x y : NodeId) (v : ArePairViews (scope_of c) mid end l k p q x y) where
      pub concrete_view : IsSame (form end x) (form end y) → IsView (scope_of c) old end (on_concrete m l k) i x
      concrete_view same = record {
        in_range = v.first.in_range;
        goes = λ types t. goes_concrete s.branched (with_goes c n m (on_concrete m l k) l k old known i r mid e p q s end x y v types t)
            (without_goes c n m (on_concrete m l k) l k old known i r mid e p q s end x y v types t) same;
      }

      pub concrete_apart : (IsSame (form end x) (form end y) → ⊥) → IsAt (scope_of c) old (on_concrete m l k) n i (at n 12)
      concrete_apart f types t = fault_apart s.branched (with_goes c n m (on_concrete m l k) l k old known i r mid e p q s end x y v types t)
          (without_goes c n m (on_concrete m l k) l k old known i r mid e p q s end x y v types t) f

module _ (c : Course) (n : ℕ) (m o : Name) (l k : Lens) (old : Nodes) (known : Memo) (i : NodeId)
    (r : IsReady c old known (parts_of (on_view m o l k)) n i) where
  pub view_refused : ((w : NodeOver Form) → IsBranched m (form old i) w → ⊥) → IsAt (scope_of c) old (on_view m o l k) n i (at n 13)
  view_refused f types t = fault_view f

  module _ (mid : Nodes) (e : Extends old mid) (p q : NodeId) (s : BranchSource m (form old i) (form mid p) (form mid q)) where
    pub view_pair_at : (a : At) → IsPairAt (scope_of c) mid l k n p q a → IsAt (scope_of c) old (on_view m o l k) n i a
    view_pair_at a f types t = elim (f types (types_there c n m (on_view m o l k) l k old known i r mid e p q s types t)) [
      | inl g ↦ fault_where_it_showed s.branched (subst (λ u. Faults types l (n + 1) u a) s.first g)
      | inr g ↦ fault_where_it_did_not s.branched (subst (λ u. Goes types l u g.0) s.first g.1.0)
          (subst (λ u. Faults types k (n + 1 + size_of l) u a) s.second g.1.1)
    ]

    module _ (end : Nodes) (x y : NodeId) (v : ArePairViews (scope_of c) mid end l k p q x y) where
      pub view_view : (new : Nodes) (j : NodeId) → j.place < length new → MergeView o (form end x) (form end y) (form new j)
          → IsView (scope_of c) old new (on_view m o l k) i j
      view_view new j lt w = record {
        in_range = lt;
        goes = λ types t. goes_view s.branched (with_goes c n m (on_view m o l k) l k old known i r mid e p q s end x y v types t)
            (without_goes c n m (on_view m o l k) l k old known i r mid e p q s end x y v types t) w.mergeable w.merged w.is;
      }

      pub view_apart : ((one two : NodeOver Form) → AreMergeable o (form end x) (form end y) one two → ⊥)
          → IsAt (scope_of c) old (on_view m o l k) n i (at n 13)
      view_apart f types t = fault_merged s.branched (with_goes c n m (on_view m o l k) l k old known i r mid e p q s end x y v types t)
          (without_goes c n m (on_view m o l k) l k old known i r mid e p q s end x y v types t) f
