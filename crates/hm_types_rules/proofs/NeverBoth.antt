-- A lens goes from a source to one view at the most, has one fault at the most, and never both.
use Rattle.std.proofs.Common.{◌≡◌, ℕ, Bool, true, false, cond, Some, subst}
use Rattle.std.specs.Ordering.{eq_by_cmp}
use Rattle.std.proofs.lemmas.Option.{same_Some, none-some}
use Rattle.hm_tree.specs.Names.{Name, name_cmp}
use Rattle.hm_terms.specs.Lenses.{Lens, Lenses, identity, sequence, constant, hoist, plunge, fork, each, among, items, copy, merge, on_concrete, on_view, text, call, none, also, lens_at}
use Rattle.hm_types_forms.specs.Forms.{Form}
use Rattle.hm_types_rules.specs.Typing.{Types, Goes}
use Rattle.hm_types_rules.specs.Faults.{At, Faults}
use Rattle.hm_types_rules.proofs.OneFault.{Single, identity_single, plunge_single, constant_single, hoist_single, copy_single, merge_single, text_single, call_single, each_single, items_single, sequence_single, fork_single, concrete_single, view_single}
use Rattle.hm_types_rules.proofs.OneAmong.{among_single}

module _ (T : Types) where
  first_or_rest : (k m : Name) (l j : Lens) (ls : Lenses) → Single T j → (lens_at k ls ≡ Some l → Single T l) → (b : Bool)
      → cond b (Some j) (lens_at k ls) ≡ Some l → Single T l
  first_or_rest k m l j ls s rest true e = subst (λ l. Single T l) (same_Some j l e) s
  first_or_rest k m l j ls s rest false e = rest e

  mutual
    pub single : (l : Lens) → Single T l
    single identity = identity_single T
    single (sequence l k) = sequence_single T l (single l) k (single k)
    single (constant t d) = constant_single T t d
    single (hoist m) = hoist_single T m
    single (plunge m) = plunge_single T m
    single (fork P Q l k) = fork_single T l (single l) k (single k) P Q
    single (each l) = each_single T l (single l)
    single (among ls) = among_single T ls (singles ls)
    single (items l) = items_single T l (single l)
    single (copy m o) = copy_single T m o
    single (merge m o) = merge_single T m o
    single (on_concrete m l k) = concrete_single T l (single l) k (single k) m
    single (on_view m o l k) = view_single T l (single l) k (single k) m o
    single (text x) = text_single T x
    single (call m) = call_single T m

    singles : (ls : Lenses) (k : Name) (l : Lens) → lens_at k ls ≡ Some l → Single T l
    singles none k l e = absurd (none-some l e)
    singles (also m j ls) k l e = first_or_rest k m l j ls (single j) (singles ls k l) (eq_by_cmp name_cmp k m) e

  pub never_both : (l : Lens) (n : ℕ) (u v : Form) (f : At) → Goes T l u v → Faults T l n u f → ⊥
  never_both l n = (single l n).never

  pub fault_once : (l : Lens) (n : ℕ) (u : Form) (f g : At) → Faults T l n u f → Faults T l n u g → f ≡ g
  fault_once l n = (single l n).one_fault
