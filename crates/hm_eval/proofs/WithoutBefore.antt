-- What an oblivious lens puts, it puts without a tree from before.
use Rattle.std.proofs.Common.{◌≡◌, ◌≤◌, ℕ, zero, suc, Bool, true, false, ◌&&◌, cond, List, [], ◌∷◌, length, drop, slice_get, Option, Some, None, refl, sym, ap, subst, ◌∙◌, arith}
use Rattle.std.specs.Ordering.{eq_by_cmp}
use Rattle.std.proofs.lemmas.Bool.{and_parts, false≢true}
use Rattle.std.proofs.lemmas.Option.{same_Some, none-some}
use Rattle.hm_tree.specs.Names.{Name, name_cmp}
use Rattle.hm_tree.specs.Nodes.{Tree}
use Rattle.hm_terms.specs.declared.term.Term.{Term}
use Rattle.hm_terms.specs.Lenses.{Lens, Lenses, none, also, lens_at, Setting}
use Rattle.hm_terms.specs.Programs.{lens_of, lenses_of}
use Rattle.hm_terms.specs.Put.{none_before, Puts, put_identity, put_sequence, put_constant, put_hoist, put_plunge, put_fork, put_each, put_among, put_call, put_copy, put_merge, put_text, put_items_none, put_items_more, put_concrete_has, put_concrete_none, put_view_has, put_view_none}
use Rattle.hm_terms.proofs.OnePut.{one_put}
use Rattle.hm_eval_terms.specs.Conditions.{IsPut}
use Rattle.hm_eval.specs.Oblivious.{IsOblivious, oblivious, oblivious_all}

-- each of oblivious lenses is oblivious
named_oblivious : (ls : Lenses) (n : Name) (l : Lens) → oblivious_all ls ≡ true → lens_at n ls ≡ Some l → oblivious l ≡ true
named_oblivious none n l o e = absurd (none-some l e)
named_oblivious (also k j rest) n l o e =
    let both = and_parts (oblivious j) (oblivious_all rest) o in go (eq_by_cmp name_cmp n k) both.0 e (named_oblivious rest n l both.1)
  where
    go : (b : Bool) → oblivious j ≡ true → cond b (Some j) (lens_at n rest) ≡ Some l → (lens_at n rest ≡ Some l → oblivious l ≡ true) → oblivious l ≡ true
    go true first is later = ap oblivious (sym (same_Some j l is)) ∙ first
    go false first is later = later is

module _ (S : Setting) where
  put_without : {l : Lens} {a c : Tree} {b : Option Tree} → oblivious l ≡ true → Puts S l a b c → Puts S l a None c
  put_without o put_identity = put_identity
  put_without o (put_sequence {l = l} {k = k} h p q) =
      let both = and_parts (oblivious l) (oblivious k) o in put_sequence none_before (put_without both.1 p) (put_without both.0 q)
  put_without o (put_constant e) = absurd (false≢true o)
  put_without o (put_hoist e) = put_hoist e
  put_without o (put_plunge e) = put_plunge e
  put_without o (put_fork {l = l} {k = k} p q j) =
      let both = and_parts (oblivious l) (oblivious k) o in put_fork (put_without both.0 p) (put_without both.1 q) j
  put_without o (put_each e f) = put_each e (λ n x y at there. put_without o (f n x y at there))
  put_without o (put_among {ls = ls} e f g) =
      put_among e (λ n l x y named at there. put_without (named_oblivious ls n l o named) (f n l x y named at there)) g
  put_without o (put_items_none i e f) = put_items_none tt e f
  put_without o (put_items_more i e p q f) = put_items_more tt e (put_without o p) (put_without o q) f
  put_without o (put_copy e) = put_copy e
  put_without o (put_merge e f g h) = absurd (false≢true o)
  put_without o (put_concrete_has e p) = absurd (false≢true o)
  put_without o (put_concrete_none e p) = absurd (false≢true o)
  put_without o (put_view_has {l = l} {k = k} e p) = put_view_has e (put_without (and_parts (oblivious l) (oblivious k) o).0 p)
  put_without o (put_view_none {l = l} {k = k} e p) = put_view_none e (put_without (and_parts (oblivious l) (oblivious k) o).1 p)
  put_without o (put_text is h e p f) = absurd (false≢true o)
  put_without o (put_call e p) = absurd (false≢true o)

  pub is_oblivious : (l : Lens) → oblivious l ≡ true → IsOblivious S l
  is_oblivious l o a c b p = put_without o p

  -- a lens that may put a view over a tree may put it over none, and puts the same
  pub may_put_without : {l : Lens} {a : Tree} {b : Option Tree} → oblivious l ≡ true → IsPut S l a b → IsPut S l a None
  may_put_without o may = record { tree = may.tree; is = put_without o may.is }

  pub put_alike : {l : Lens} {a c : Tree} {b : Option Tree} → oblivious l ≡ true → IsPut S l a b → Puts S l a None c → Puts S l a b c
  put_alike {l} {a} {c} {b} o may p = subst (Puts S l a b) (one_put S (put_without o may.is) p) may.is

-- ---- lenses one after another

-- the lenses from a place on are oblivious, where the one at it is and those behind it are
pub row_next : (rows : List (Name × Term)) (i : ℕ) (row : Name × Term) → slice_get rows i ≡ Some row
    → oblivious_all (lenses_of (drop i rows)) ≡ (oblivious (lens_of row.1) && oblivious_all (lenses_of (drop (suc i) rows)))
row_next [] i row at = absurd (none-some row at)
row_next (r ∷ rows) zero row at = ap (λ (q : Name × Term). oblivious (lens_of q.1) && oblivious_all (lenses_of rows)) (same_Some r row at)
row_next (r ∷ rows) (suc i) row at = row_next rows i row at

-- no lens is left behind the last one
pub none_left : (rows : List (Name × Term)) (i : ℕ) → length rows ≤ i → oblivious_all (lenses_of (drop i rows)) ≡ true
none_left [] zero past = refl
none_left [] (suc i) past = refl
none_left (r ∷ rows) zero past = absurd (omega (arith, past))
none_left (r ∷ rows) (suc i) past = none_left rows i (omega (arith, past))
