-- A lens that is given to the child of its name.
use Rattle.std.proofs.Common.{◌≡◌, Vec, ℕ, zero, suc, ◌<◌, ◌≤◌, ◌-◌, Bool, true, false, cond, T, List, [], ◌∷◌, map, All, length, slice_get, get_or, drop, Option, Some, None, refl, sym, ap, subst, ◌∙◌, arith}
use Rattle.std.specs.Borrow.{Bor}
use Rattle.std.specs.Ordering.{eq_by_cmp, is_lt}
use Rattle.std.specs.Cmp.{Equal-is}
use Rattle.std.specs.declared.cmp.Ordering.{Ordering}
use Rattle.std.specs.declared.cmp.Ordering.TheVariants.{Less, Equal, Greater}
use Rattle.std.specs.FinMap.{find, is_sorted}
use Rattle.std.proofs.lemmas.Cmp.{tied_itself}
use Rattle.std.proofs.lemmas.Option.{same_Some, none-some}
use Rattle.std.proofs.lemmas.List.Elements.{All-nil, All-cons, All-head, All-tail}
use mathlib.Core.Bool.{true≢false}
use Rattle.std.proofs.Math.ListN.{set}
use Rattle.std.proofs.Math.Seq.{drop-cons}
use Rattle.std.proofs.lemmas.List.{get_or_default}
use Rattle.hm_tree.specs.NodeLaws.{edges_sorted}
use Rattle.hm_tree.specs.Names.{Name, name_cmp}
use Rattle.hm_tree.specs.Nodes.{Tree, below_all, first, second, both}
use Rattle.hm_tree.specs.Edges.{rank, IsPlaceOf}
use Rattle.hm_tree.proofs.Sorted.{name_total, name_one, back_equal, back_greater, is_less}
use Rattle.hm_terms.specs.declared.term.Term.{Term, Each}
use Rattle.hm_terms.specs.Lenses.{Lens, lens_at}
use Rattle.hm_terms.specs.Programs.{lens_of, lenses_of}
use Rattle.hm_eval_terms.specs.declared.children.Child.{Child}
use Rattle.hm_eval_terms.specs.Terms.{option_lens}
use Rattle.std.specs.declared.alloc.Global.{Global}
use Rattle.hm_terms.proofs.Rows.{each_items}
use Rattle.hm_eval_terms.specs.Children.{edge_of, AreChildren, AreChildrenBy, given}

abbrev Slots : Type 0
Slots = List (Name × Child)

abbrev HasBy : (Name → Option Lens) → Name × Child → Type 0
HasBy by e = option_lens e.1.lens ≡ by e.0

abbrev pub with_lens : Bor Term → Name × Child → Name × Child
with_lens t e = (e.0, record { tree = e.1.tree; lens = Some t })

none_above : (k : Name) (es : Slots) → T (below_all k es) → find name_cmp k es ≡ None
none_above k [] h = refl
none_above k (e ∷ es) h = rw (is_less (name_cmp k e.0) (first _ _ h)) (none_above k es (second _ _ h))

above_too : (k x : Name) (es : Slots) → name_cmp k x ≡ Less → T (below_all x es) → T (below_all k es)
above_too k x [] p h = tt
above_too k x (e ∷ es) p h = both _ _ (subst (λ r. T (is_lt r)) (sym (name_total.trans k x e.0 p (is_less _ (first _ _ h)))) tt)
    (above_too k x es p (second _ _ h))

module _ (k : Name) (l : Lens) (by : Name → Option Lens) where
  -- other names keep their lenses
  other : (n : Name) → (n ≡ k → ⊥) → given k l by n ≡ by n
  other n ne = go (eq_by_cmp name_cmp n k) refl
    where
      go : (b : Bool) → eq_by_cmp name_cmp n k ≡ b → cond b (Some l) (by n) ≡ by n
      go true e = absurd (ne (name_one n k ((Equal-is (name_cmp n k)).0 e)))
      go false e = refl

  less_apart : (n : Name) → name_cmp k n ≡ Less → n ≡ k → ⊥
  less_apart n less same =
      let tied : eq_by_cmp name_cmp k n ≡ true = ap (eq_by_cmp name_cmp k) same ∙ rw (tied_itself name_total k) refl in
      let apart : eq_by_cmp name_cmp k n ≡ false = rw less refl in
      true≢false (sym tied ∙ apart)

  greater_apart : (n : Name) → name_cmp k n ≡ Greater → n ≡ k → ⊥
  greater_apart n more same =
      let tied : eq_by_cmp name_cmp k n ≡ true = ap (eq_by_cmp name_cmp k) same ∙ rw (tied_itself name_total k) refl in
      let apart : eq_by_cmp name_cmp k n ≡ false = rw more refl in
      true≢false (sym tied ∙ apart)

  all_above : (es : Slots) → T (below_all k es) → All (HasBy by) es → All (HasBy (given k l by)) es
  all_above [] h all = All-nil (HasBy (given k l by))
  all_above (e ∷ es) h all =
      All-cons (HasBy (given k l by)) e es (All-head (HasBy by) e es all ∙ sym (other e.0 (less_apart e.0 (is_less (name_cmp k e.0) (first _ _ h)))))
      (all_above es (second _ _ h) (All-tail (HasBy by) e es all))

  pub none_given : (es : Slots) → find name_cmp k es ≡ None → All (HasBy by) es → All (HasBy (given k l by)) es
  none_given [] none all = All-nil (HasBy (given k l by))
  none_given (e ∷ es) none all = go (eq_by_cmp name_cmp k e.0) refl none (λ h. none_given es h (All-tail (HasBy by) e es all))
    where
      go : (b : Bool) → eq_by_cmp name_cmp k e.0 ≡ b → cond b (Some e.1) (find name_cmp k es) ≡ None
          → (find name_cmp k es ≡ None → All (HasBy (given k l by)) es) → All (HasBy (given k l by)) (e ∷ es)
      go true t none rest = absurd (none-some e.1 (sym none))
      go false t none rest =
          let self : eq_by_cmp name_cmp k k ≡ true = rw (tied_itself name_total k) refl in
          All-cons (HasBy (given k l by)) e es (All-head (HasBy by) e es all ∙ sym (other e.0 (λ same.
          true≢false (sym self ∙ ap (eq_by_cmp name_cmp k) (sym same) ∙ t)))) (rest none)

  -- the child at the place of the name
  pub one_given : (es : Slots) (i : ℕ) (x : Child) (t : Bor Term) → T (is_sorted name_cmp es) → i ≡ rank k es → find name_cmp k es ≡ Some x
      → lens_of t.now ≡ l
      → All (HasBy by) es → (e : Name × Child) → slice_get es i ≡ Some e → All (HasBy (given k l by)) (set es i (with_lens t e))
  one_given [] i x t sorted place found is all e at = absurd (none-some x found)
  one_given (d ∷ es) i x t sorted place found is all e at =
      go (name_cmp k d.0) refl i place at found (λ j p f r. one_given es j x t (second _ _ sorted) p f is (All-tail (HasBy by) d es all) e r)
    where
      here : name_cmp k d.0 ≡ Equal → d ≡ e → All (HasBy (given k l by)) (with_lens t e ∷ es)
      here tied same =
          let name : e.0 ≡ k = ap (λ (e : Name × Child). e.0) (sym same) ∙ sym (name_one k d.0 tied) in
          let self : eq_by_cmp name_cmp k k ≡ true = rw (tied_itself name_total k) refl in
          let gives : given k l by e.0 ≡ Some l = ap (given k l by) name ∙ ap (λ b. cond b (Some l) (by k)) self in
          All-cons (HasBy (given k l by)) (with_lens t e) es (ap Some is ∙ sym gives)
          (all_above es (subst (λ n. T (below_all n es)) (sym (name_one k d.0 tied)) (first _ _ sorted)) (All-tail (HasBy by) d es all))

      go : (r : Ordering) → name_cmp k d.0 ≡ r → (i : ℕ) → i ≡ rank k (d ∷ es) → slice_get (d ∷ es) i ≡ Some e → find name_cmp k (d ∷ es) ≡ Some x
          → ((j : ℕ) → j ≡ rank k es → find name_cmp k es ≡ Some x → slice_get es j ≡ Some e → All (HasBy (given k l by)) (set es j (with_lens t e)))
          → All (HasBy (given k l by)) (set (d ∷ es) i (with_lens t e))
      go Less p i place at found rest =
          let there : find name_cmp k es ≡ Some x = rw p at found in
          absurd (none-some x (sym (none_above k es (above_too k d.0 es p (first _ _ sorted))) ∙ there))
      go Equal p zero place at found rest = here p (same_Some d e at)
      go Equal p (suc i) place at found rest = let first_place : suc i ≡ 0 = rw (back_equal d.0 k p) at place in absurd (omega arith)
      go Greater p zero place at found rest = let later : 0 ≡ suc (rank k es) = rw (back_greater d.0 k p) at place in absurd (omega arith)
      go Greater p (suc i) place at found rest =
          let later : suc i ≡ suc (rank k es) = rw (back_greater d.0 k p) at place in
          let there : find name_cmp k es ≡ Some x = rw p at found in
          All-cons (HasBy (given k l by)) d (set es i (with_lens t e)) (All-head (HasBy by) d es all ∙ sym (other d.0 (λ same.
          greater_apart d.0 p same))) (rest i (omega arith) there at)

-- ---- a loop over named terms, from the last one to the first

sorted_slots : (es : Slots) → T (is_sorted name_cmp (map edge_of es)) → T (is_sorted name_cmp es)
sorted_slots [] h = h
sorted_slots (e ∷ es) h = both _ _ (below_slots e.0 es (first _ _ h)) (sorted_slots es (second _ _ h))
  where
    below_slots : (n : Name) (es : Slots) → T (below_all n (map edge_of es)) → T (below_all n es)
    below_slots n [] h = h
    below_slots n (e ∷ es) h = both _ _ (first _ _ h) (below_slots n es (second _ _ h))

pub slots_sorted : (by : Name → Option Lens) (t : Tree) (es : Slots) → AreChildrenBy by t es → T (is_sorted name_cmp es)
slots_sorted by t es are = sorted_slots es (subst (λ l. T (is_sorted name_cmp l)) (sym are.edges) (edges_sorted t))

pub term_given : (ts : List (Name × Term)) (i : ℕ) (e f : Name × Term) (t : Tree) (es : Slots) → i < length ts → e ≡ get_or ts i e → f ≡ get_or ts i f
    → AreChildrenBy (given e.0 (lens_of f.1) (λ n. lens_at n (lenses_of (drop (suc i) ts)))) t es
    → AreChildrenBy (λ n. lens_at n (lenses_of (drop i ts))) t es
term_given ts i e f t es below is same are =
    let one : f ≡ e = same ∙ get_or_default ts i f e below ∙ sym is in
    let cut : drop i ts ≡ e ∷ drop (suc i) ts = drop-cons ts i e below ∙ ap (λ x. x ∷ drop (suc i) ts) (sym is) in
    subst (λ l. AreChildrenBy (λ n. lens_at n (lenses_of l)) t es) (sym cut)
    (subst (λ (f : Name × Term). AreChildrenBy (given e.0 (lens_of f.1) (λ n. lens_at n (lenses_of (drop (suc i) ts)))) t es) one are)

pub term_before : (ts : List (Name × Term)) (j : ℕ) (e f : Name × Term) (t : Tree) (es fs : Slots) → 0 < j → j ≤ length ts → e ≡ get_or ts (j - 1) e
    → f ≡ get_or ts (j - 1) f → AreChildrenBy (λ n. lens_at n (lenses_of (drop j ts))) t es
    → ((by : Name → Option Lens) (t : Tree) → AreChildrenBy by t es → AreChildrenBy (given (get_or ts (j - 1) e).0 (lens_of (get_or ts (j - 1) f).1) by) t fs)
    → AreChildrenBy (λ n. lens_at n (lenses_of (drop (j - 1) ts))) t fs
term_before ts j e f t es fs some most is same are gives =
    let next : suc (j - 1) ≡ j = omega arith in
    term_given ts (j - 1) e f t fs (omega arith) is same
    (subst (λ m. AreChildrenBy (given e.0 (lens_of f.1) (λ n. lens_at n (lenses_of (drop m ts)))) t fs) (sym next)
    (subst (λ (w : (Name × Term) × (Name × Term)). AreChildrenBy (given w.0.0 (lens_of w.1.1) (λ n. lens_at n (lenses_of (drop j ts)))) t fs)
    (λ i. (sym is i, sym same i)) (gives (λ n. lens_at n (lenses_of (drop j ts))) t are)))

at_is : (es : Slots) (i : ℕ) (e : Name × Child) → i < length es → e ≡ get_or es i e → slice_get es i ≡ Some e
at_is [] i e lt is = absurd (omega arith)
at_is (d ∷ es) zero e lt is = ap (λ (e : Name × Child). Some e) (sym is)
at_is (d ∷ es) (suc i) e lt is = at_is es i e (omega arith) is

same_edges : (es : Slots) (i : ℕ) (t : Bor Term) (e : Name × Child) → slice_get es i ≡ Some e → map edge_of (set es i (with_lens t e)) ≡ map edge_of es
same_edges [] i t e at = refl
same_edges (d ∷ es) zero t e at = ap (λ (d : Name × Child). edge_of d ∷ map edge_of es) (sym (same_Some d e at))
same_edges (d ∷ es) (suc i) t e at = ap (λ l. edge_of d ∷ l) (same_edges es i t e at)

module _ (k : Name) (t : Bor Term) (es fs : Slots) (same : fs ≡ es) where
  pub given_here : (i : ℕ) (e : Name × Child) → T (is_sorted name_cmp es) → IsPlaceOf k fs i → e ≡ get_or es i e → (by : Name → Option Lens) (c : Tree)
      → AreChildrenBy by c es → AreChildrenBy (given k (lens_of t.now) by) c (set es i (with_lens t e))
  given_here i e sorted found is by c are =
      let place : IsPlaceOf k es i = subst (λ l. IsPlaceOf k l i) same found in
      let at = at_is es i e place.in_range is in
      record {
        edges = same_edges es i t e at ∙ are.edges;
        lenses = one_given k (lens_of t.now) by es i _ t sorted place.place (place.found e) refl are.lenses e at;
      }

  pub given_none : find name_cmp k fs ≡ None → (by : Name → Option Lens) (c : Tree) → AreChildrenBy by c es → AreChildrenBy (given k (lens_of t.now) by) c es
  given_none none by c are =
      record { edges = are.edges; lenses = none_given k (lens_of t.now) by es (ap (find name_cmp k) (sym same) ∙ none) are.lenses }

pub named_are : (t : Term) (v : Vec (Name × Term) Global) (l : List (Name × Term)) (c : Tree) (es : Slots) → t ≡ Each v → l ≡ v.items
    → AreChildrenBy (λ n. lens_at n (lenses_of l)) c es → AreChildren (lens_of t) c es
named_are t v l c es e f are =
    let there : AreChildrenBy (λ n. lens_at n (lenses_of v.items)) c es = subst (λ l. AreChildrenBy (λ n. lens_at n (lenses_of l)) c es) f are in
    subst (λ z. AreChildren z c es) (sym (ap lens_of e ∙ each_items v)) (record { edges = there.edges; lenses = there.lenses })
