-- What the two lenses of a fork and of a conditional are checked at is one, and their faults are those of two lenses.
use Rattle.std.proofs.Common.{◌≡◌, ℕ, ◌+◌, refl, sym, ap, ◌∙◌}
use Rattle.hm_tree.specs.Names.{Name}
use Rattle.hm_schema.specs.Values.{Names, NodeOver}
use Rattle.hm_terms.specs.Lenses.{Lens, fork, on_concrete, on_view}
use Rattle.hm_types_nodes.specs.Branching.{node_with, node_without}
use Rattle.hm_types_forms.specs.Forms.{Form, formed}
use Rattle.hm_types_forms.specs.SameForms.{IsSame}
use Rattle.hm_types_rules.specs.Typing.{Types, Goes, inside_form, outside_form, AreJoinable, AreMergeable}
use Rattle.hm_types_rules.specs.Sources.{ForkSource, BranchSource}
use Rattle.hm_types_rules.specs.Faults.{At, at, size_of, Faults, fault_fork, fault_inside, fault_outside, fault_joined, fault_concrete, fault_where_it_has, fault_where_it_lacks, fault_apart, fault_view, fault_where_it_showed, fault_where_it_did_not, fault_merged}
use Rattle.hm_types_rules.proofs.Determined.{node_one, forked_one}
use Rattle.hm_types_rules.proofs.TwoFaults.{TwoFaults, at_source, in_first, in_second, at_end}

-- ---- what the two lenses of a fork and of a conditional are checked at

pub fork_source_one : (P : Names) (u p q r s : Form) → ForkSource P u p q → ForkSource P u r s → (p ≡ r) × (q ≡ s)
fork_source_one P u p q r s h k =
    let same = forked_one P u h.node k.node h.shape k.shape h.forked k.forked in
    (h.first ∙ (λ i. inside_form P (same.0 i) (same.1 i)) ∙ sym k.first, h.second ∙ (λ i. outside_form P (same.0 i) (same.1 i)) ∙ sym k.second)

pub branch_source_one : (m : Name) (u p q r s : Form) → BranchSource m u p q → BranchSource m u r s → (p ≡ r) × (q ≡ s)
branch_source_one m u p q r s h k =
    let same = node_one u h.node k.node h.branched.node k.branched.node in
    (h.first ∙ ap (λ n. formed (node_with m n)) same ∙ sym k.first, h.second ∙ ap (λ n. formed (node_without m n)) same ∙ sym k.second)

-- the conditions on the two views
abbrev pub CanJoinViews : Names → Form → Form → Type 0
CanJoinViews Q x y = (one : NodeOver Form) × (two : NodeOver Form) × AreJoinable Q x y one two

abbrev pub CanMergeViews : Name → Form → Form → Type 0
CanMergeViews o x y = (one : NodeOver Form) × (two : NodeOver Form) × AreMergeable o x y one two

module _ (T : Types) where
  abbrev pub Two : (l k : Lens) (n rule : ℕ) → (Form → Form → Type 0) → (Form → Form → Type 0) → At → Type 0
  Two l k n rule Source End f = TwoFaults (at n rule) Source (Goes T l) (Faults T l (n + 1)) (Goes T k) (Faults T k (n + 1 + size_of l)) End f

  pub fork_faults : {P Q : Names} {l k : Lens} {n : ℕ} {u : Form} {f : At} → Faults T (fork P Q l k) n u f
      → Two l k n 6 (ForkSource P u) (CanJoinViews Q) f
  fork_faults (fault_fork fails) = at_source refl (λ p q s. fails s.node s.shape s.forked)
  fork_faults (fault_inside {w = w} {a = a} s h) = in_first (record { node = w; shape = a; forked = s; first = refl; second = refl }) h
  fork_faults (fault_outside {w = w} {a = a} s g h) = in_second (record { node = w; shape = a; forked = s; first = refl; second = refl }) g h
  fork_faults (fault_joined {w = w} {a = a} s g h fails) =
      at_end refl (record { node = w; shape = a; forked = s; first = refl; second = refl }) g h (λ c. fails c.0 c.1 c.2)

  pub concrete_faults : {m : Name} {l k : Lens} {n : ℕ} {u : Form} {f : At} → Faults T (on_concrete m l k) n u f
      → Two l k n 12 (BranchSource m u) IsSame f
  concrete_faults (fault_concrete fails) = at_source refl (λ p q s. fails s.node s.branched)
  concrete_faults (fault_where_it_has {w = w} s h) = in_first (record { node = w; branched = s; first = refl; second = refl }) h
  concrete_faults (fault_where_it_lacks {w = w} s g h) = in_second (record { node = w; branched = s; first = refl; second = refl }) g h
  concrete_faults (fault_apart {w = w} s g h fails) = at_end refl (record { node = w; branched = s; first = refl; second = refl }) g h fails

  pub view_faults : {m o : Name} {l k : Lens} {n : ℕ} {u : Form} {f : At} → Faults T (on_view m o l k) n u f
      → Two l k n 13 (BranchSource m u) (CanMergeViews o) f
  view_faults (fault_view fails) = at_source refl (λ p q s. fails s.node s.branched)
  view_faults (fault_where_it_showed {w = w} s h) = in_first (record { node = w; branched = s; first = refl; second = refl }) h
  view_faults (fault_where_it_did_not {w = w} s g h) = in_second (record { node = w; branched = s; first = refl; second = refl }) g h
  view_faults (fault_merged {w = w} s g h fails) =
      at_end refl (record { node = w; branched = s; first = refl; second = refl }) g h (λ c. fails c.0 c.1 c.2)
