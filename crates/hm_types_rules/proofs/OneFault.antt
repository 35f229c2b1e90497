-- A lens has one fault at the most, and none where it goes.
use Rattle.std.proofs.Common.{◌≡◌, ◌⊎◌, ℕ, ◌+◌, true, refl, sym, ap, subst, ◌∙◌, inl, inr}
use Rattle.std.specs.declared.cmp.Ordering.{Ordering}
use Rattle.std.specs.declared.cmp.Ordering.TheVariants.{Less, Equal, Greater}
use Rattle.hm_tree.specs.Names.{Name, name_cmp}
use Rattle.hm_tree.proofs.Sorted.{name_one, back_greater}
use Rattle.hm_schema.specs.Values.{Names}
use Rattle.hm_terms.specs.Lenses.{Lens, identity, sequence, constant, hoist, plunge, fork, each, items, copy, merge, on_concrete, on_view, text, call}
use Rattle.hm_types_forms.specs.Forms.{Form, Label, Step, named, others, under, can_be}
use Rattle.hm_types_forms.specs.SameForms.{IsSame}
use Rattle.hm_types_rules.specs.Typing.{Types, Goes, goes_sequence, goes_constant, goes_hoist, goes_fork, goes_each, goes_list, goes_items, goes_copy, goes_merge, goes_concrete, goes_view, goes_text, goes_call, IsPlain}
use Rattle.hm_types_rules.specs.Faults.{At, at, Before, size_of, Faults, fault_first, fault_second, fault_constant, fault_hoist, fault_each, fault_child, fault_items, fault_list_item, fault_some_item, fault_copy, fault_merge, fault_text, fault_call}
use Rattle.hm_types_rules.proofs.Determined.{list_one, items_one, list_or_items}
use Rattle.hm_types_rules.proofs.Once.{goes_once, label_one}
use Rattle.hm_types_rules.proofs.TwoFaults.{IsSingle, two_once, two_never}
use Rattle.hm_types_rules.specs.Sources.{ForkSource, BranchSource}
use Rattle.hm_types_rules.proofs.Sources.{fork_source_one, branch_source_one, CanJoinViews, CanMergeViews, fork_faults, concrete_faults, view_faults}

-- ---- steps, in their order

-- of two steps one is before the other one, or they are one
one_before : (s r : Step) → (s ≡ r) ⊎ (Before s r ⊎ Before r s)
one_before (named k) (named m) = go (name_cmp k m) refl
  where
    go : (o : Ordering) → name_cmp k m ≡ o → (named k ≡ named m) ⊎ (Before (named k) (named m) ⊎ Before (named m) (named k))
    go Less e = inr (inl e)
    go Equal e = inl (ap named (name_one k m e))
    go Greater e = inr (inr (back_greater m k e))
one_before (named k) others = inr (inl tt)
one_before others (named m) = inr (inr tt)
one_before others others = inl refl

-- ---- each kind of lens

module _ (T : Types) where
  -- of a lens, whatever its number is
  abbrev pub Single : Lens → Type 0
  Single l = (n : ℕ) → IsSingle (Goes T l) (Faults T l n)

  -- a lens that has a fault of its own alone
  pub alone : (l : Lens) (n : ℕ) → ((u v : Form) (f : At) → Goes T l u v → Faults T l n u f → ⊥)
      → ((u : Form) (f g : At) → Faults T l n u f → Faults T l n u g → f ≡ g) → IsSingle (Goes T l) (Faults T l n)
  alone l n never one = record { one_view = λ u v w g h. goes_once T g h; never = never; one_fault = one }

  pub identity_single : Single identity
  identity_single n = alone identity n (λ u v f g h. elim h [ ]) (λ u f g h k. elim h [ ])

  pub plunge_single : (m : Name) → Single (plunge m)
  plunge_single m n = alone (plunge m) n (λ u v f g h. elim h [ ]) (λ u f g h k. elim h [ ])

  pub constant_single : (t d : _) → Single (constant t d)
  constant_single t d n = alone (constant t d) n (λ u v f g h. never u v f g h) (λ u f g h k. one u f g h k)
    where
      never : (u v : Form) (f : At) → Goes T (constant t d) u v → Faults T (constant t d) n u f → ⊥
      never u v f (goes_constant m e) (fault_constant fails) = fails m

      one : (u : Form) (f g : At) → Faults T (constant t d) n u f → Faults T (constant t d) n u g → f ≡ g
      one u f g (fault_constant a) (fault_constant b) = refl

  pub hoist_single : (m : Name) → Single (hoist m)
  hoist_single m n = alone (hoist m) n never one
    where
      never : (u v : Form) (f : At) → Goes T (hoist m) u v → Faults T (hoist m) n u f → ⊥
      never u v f (goes_hoist {n = w} is a at) (fault_hoist fails) = fails w is a

      one : (u : Form) (f g : At) → Faults T (hoist m) n u f → Faults T (hoist m) n u g → f ≡ g
      one u f g (fault_hoist a) (fault_hoist b) = refl

  pub copy_single : (m o : Name) → Single (copy m o)
  copy_single m o n = alone (copy m o) n never one
    where
      never : (u v : Form) (f : At) → Goes T (copy m o) u v → Faults T (copy m o) n u f → ⊥
      never u v f (goes_copy {n = w} is can copied e) (fault_copy fails) = fails w is can

      one : (u : Form) (f g : At) → Faults T (copy m o) n u f → Faults T (copy m o) n u g → f ≡ g
      one u f g (fault_copy a) (fault_copy b) = refl

  pub merge_single : (m o : Name) → Single (merge m o)
  merge_single m o n = alone (merge m o) n never one
    where
      never : (u v : Form) (f : At) → Goes T (merge m o) u v → Faults T (merge m o) n u f → ⊥
      never u v f (goes_merge {n = w} is can e) (fault_merge fails) = fails w is can

      one : (u : Form) (f g : At) → Faults T (merge m o) n u f → Faults T (merge m o) n u g → f ≡ g
      one u f g (fault_merge a) (fault_merge b) = refl

  pub text_single : (x : Name) → Single (text x)
  text_single x n = alone (text x) n never one
    where
      never : (u v : Form) (f : At) → Goes T (text x) u v → Faults T (text x) n u f → ⊥
      never u v f (goes_text {c = c} {d = d} {n = w} is a e) (fault_text fails) = fails c d w is a

      one : (u : Form) (f g : At) → Faults T (text x) n u f → Faults T (text x) n u g → f ≡ g
      one u f g (fault_text a) (fault_text b) = refl

  pub call_single : (m : Name) → Single (call m)
  call_single m n = alone (call m) n never one
    where
      never : (u v : Form) (f : At) → Goes T (call m) u v → Faults T (call m) n u f → ⊥
      never u v f (goes_call {x = x} is s) (fault_call fails) = fails x v is s

      one : (u : Form) (f g : At) → Faults T (call m) n u f → Faults T (call m) n u g → f ≡ g
      one u f g (fault_call a) (fault_call b) = refl

  module _ (l : Lens) (first : Single l) where
    pub each_single : Single (each l)
    each_single n = alone (each l) n never one
      where
        same : (u : Form) (a b : Label) (s : Step) → IsPlain u a → IsPlain u b → can_be b s ≡ true → can_be a s ≡ true
        same u a b s p q t = ap (λ (c : Label). can_be c s) (label_one u a b p q) ∙ t

        never : (u v : Form) (f : At) → Goes T (each l) u v → Faults T (each l) n u f → ⊥
        never u v f (goes_each {a = a} p e h j) (fault_each fails) = fails a p
        never u v f (goes_each {a = a} p e h j) (fault_child {a = b} s q t before k) =
            (first (n + 1)).never (under s u) (under s v) f (h s (same u a b s p q t)) k

        one : (u : Form) (f g : At) → Faults T (each l) n u f → Faults T (each l) n u g → f ≡ g
        one u f g (fault_each a) (fault_each b) = refl
        one u f g (fault_each fails) (fault_child {a = b} s q t before k) = absurd (fails b q)
        one u f g (fault_child {a = b} s q t before k) (fault_each fails) = absurd (fails b q)
        one u f g (fault_child {a = a} s p t before h) (fault_child {a = b} r q i earlier k) = elim (one_before s r) [
          | inl e ↦ (first (n + 1)).one_fault (under s u) f g h (subst (λ r. Faults T l (n + 1) (under r u) g) (sym e) k)
          | inr w ↦ elim w [
            | inl sooner ↦ let x = earlier s sooner (same u b a s q p t) in absurd ((first (n + 1)).never (under s u) x.view f x.goes h)
            | inr later ↦ let x = before r later (same u a b r p q i) in absurd ((first (n + 1)).never (under r u) x.view g x.goes k)
          ]
        ]

    pub items_single : Single (items l)
    items_single n = alone (items l) n never one
      where
        moved : (u x y : Form) (f : At) → x ≡ y → Faults T l (n + 1) y f → Faults T l (n + 1) x f
        moved u x y f e h = subst (λ x. Faults T l (n + 1) x f) (sym e) h

        never : (u v : Form) (f : At) → Goes T (items l) u v → Faults T (items l) n u f → ⊥
        never u v f (goes_list {x = x} {empty_first = b} is g e) (fault_items no_list no_items) = no_list x b is
        never u v f (goes_list {x = x} {y = y} {empty_first = b} is g e) (fault_list_item {x = z} {b = c} s h) =
            (first (n + 1)).never x y f g (moved u x z f (list_one u x z b c is s).0 h)
        never u v f (goes_list {x = x} {empty_first = b} is g e) (fault_some_item {x = z} {b = c} s h) = list_or_items u x z b c is s
        never u v f (goes_items {x = x} {empty_first = b} is g e) (fault_items no_list no_items) = no_items x b is
        never u v f (goes_items {x = x} {empty_first = b} is g e) (fault_list_item {x = z} {b = c} s h) = list_or_items u z x c b s is
        never u v f (goes_items {x = x} {y = y} {empty_first = b} is g e) (fault_some_item {x = z} {b = c} s h) =
            (first (n + 1)).never x y f g (moved u x z f (items_one u x z b c is s).0 h)

        one : (u : Form) (f g : At) → Faults T (items l) n u f → Faults T (items l) n u g → f ≡ g
        one u f g (fault_items a b) (fault_items c d) = refl
        one u f g (fault_items no_list no_items) (fault_list_item {x = x} {b = b} s h) = absurd (no_list x b s)
        one u f g (fault_items no_list no_items) (fault_some_item {x = x} {b = b} s h) = absurd (no_items x b s)
        one u f g (fault_list_item {x = x} {b = b} s h) (fault_items no_list no_items) = absurd (no_list x b s)
        one u f g (fault_list_item {x = x} {b = b} s h) (fault_list_item {x = y} {b = c} r k) =
            (first (n + 1)).one_fault x f g h (moved u x y g (list_one u x y b c s r).0 k)
        one u f g (fault_list_item {x = x} {b = b} s h) (fault_some_item {x = y} {b = c} r k) = absurd (list_or_items u x y b c s r)
        one u f g (fault_some_item {x = x} {b = b} s h) (fault_items no_list no_items) = absurd (no_items x b s)
        one u f g (fault_some_item {x = x} {b = b} s h) (fault_list_item {x = y} {b = c} r k) = absurd (list_or_items u y x c b r s)
        one u f g (fault_some_item {x = x} {b = b} s h) (fault_some_item {x = y} {b = c} r k) =
            (first (n + 1)).one_fault x f g h (moved u x y g (items_one u x y b c s r).0 k)

    module _ (k : Lens) (second : Single k) where
      pub sequence_single : Single (sequence l k)
      sequence_single n = alone (sequence l k) n never one
        where
          never : (u v : Form) (f : At) → Goes T (sequence l k) u v → Faults T (sequence l k) n u f → ⊥
          never u v f (goes_sequence {m = m} g h) (fault_first a) = (first (n + 1)).never u m f g a
          never u v f (goes_sequence {m = m} g h) (fault_second {m = o} i a) =
              (second (n + 1 + size_of l)).never m v f h (subst (λ m. Faults T k (n + 1 + size_of l) m f) (goes_once T i g) a)

          one : (u : Form) (f g : At) → Faults T (sequence l k) n u f → Faults T (sequence l k) n u g → f ≡ g
          one u f g (fault_first a) (fault_first b) = (first (n + 1)).one_fault u f g a b
          one u f g (fault_first a) (fault_second {m = m} i b) = absurd ((first (n + 1)).never u m f i a)
          one u f g (fault_second {m = m} i b) (fault_first a) = absurd ((first (n + 1)).never u m g i a)
          one u f g (fault_second {m = m} i a) (fault_second {m = o} j b) =
              (second (n + 1 + size_of l)).one_fault m f g a (subst (λ m. Faults T k (n + 1 + size_of l) m g) (goes_once T j i) b)

      pub fork_single : (P Q : Names) → Single (fork P Q l k)
      fork_single P Q n = alone (fork P Q l k) n never one
        where
          never : (u v : Form) (f : At) → Goes T (fork P Q l k) u v → Faults T (fork P Q l k) n u f → ⊥
          never u v f (goes_fork {n = w} {one = x} {two = y} {a = a} s g h j is e) fault =
              two_never (ForkSource P u) (Goes T l) (Faults T l (n + 1)) (Goes T k) (Faults T k (n + 1 + size_of l)) (CanJoinViews Q)
              (fork_source_one P u) (first (n + 1)) (second (n + 1 + size_of l))
              (record { node = w; shape = a; forked = s; first = refl; second = refl }) g h (x, y, j) (fork_faults T fault)

          one : (u : Form) (f g : At) → Faults T (fork P Q l k) n u f → Faults T (fork P Q l k) n u g → f ≡ g
          one u f g a b =
              two_once (ForkSource P u) (Goes T l) (Faults T l (n + 1)) (Goes T k) (Faults T k (n + 1 + size_of l)) (CanJoinViews Q)
              (fork_source_one P u) (first (n + 1)) (second (n + 1 + size_of l)) (fork_faults T a) (fork_faults T b)

      pub concrete_single : (m : Name) → Single (on_concrete m l k)
      concrete_single m n = alone (on_concrete m l k) n never one
        where
          never : (u v : Form) (f : At) → Goes T (on_concrete m l k) u v → Faults T (on_concrete m l k) n u f → ⊥
          never u v f (goes_concrete {n = w} s g h same) fault =
              two_never (BranchSource m u) (Goes T l) (Faults T l (n + 1)) (Goes T k) (Faults T k (n + 1 + size_of l)) IsSame
              (branch_source_one m u) (first (n + 1)) (second (n + 1 + size_of l))
              (record { node = w; branched = s; first = refl; second = refl }) g h same (concrete_faults T fault)

          one : (u : Form) (f g : At) → Faults T (on_concrete m l k) n u f → Faults T (on_concrete m l k) n u g → f ≡ g
          one u f g a b =
              two_once (BranchSource m u) (Goes T l) (Faults T l (n + 1)) (Goes T k) (Faults T k (n + 1 + size_of l)) IsSame
              (branch_source_one m u) (first (n + 1)) (second (n + 1 + size_of l)) (concrete_faults T a) (concrete_faults T b)

      pub view_single : (m o : Name) → Single (on_view m o l k)
      view_single m o n = alone (on_view m o l k) n never one
        where
          never : (u v : Form) (f : At) → Goes T (on_view m o l k) u v → Faults T (on_view m o l k) n u f → ⊥
          never u v f (goes_view {n = w} {one = x} {two = y} s g h c is e) fault =
              two_never (BranchSource m u) (Goes T l) (Faults T l (n + 1)) (Goes T k) (Faults T k (n + 1 + size_of l)) (CanMergeViews o)
              (branch_source_one m u) (first (n + 1)) (second (n + 1 + size_of l))
              (record { node = w; branched = s; first = refl; second = refl }) g h (x, y, c) (view_faults T fault)

          one : (u : Form) (f g : At) → Faults T (on_view m o l k) n u f → Faults T (on_view m o l k) n u g → f ≡ g
          one u f g a b =
              two_once (BranchSource m u) (Goes T l) (Faults T l (n + 1)) (Goes T k) (Faults T k (n + 1 + size_of l)) (CanMergeViews o)
              (branch_source_one m u) (first (n + 1)) (second (n + 1 + size_of l)) (view_faults T a) (view_faults T b)
