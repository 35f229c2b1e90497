-- The index of definitions, one by one.
use Rattle.std.proofs.Common.{◌≡◌, Vec, ℕ, ◌+◌, ◌<◌, Bool, true, false, cond, T, List, [], ◌∷◌, ◌++◌, map, length, get_or, take, add-one, Option, Some, None, Result, Ok, Err, IfOk, refl, sym, ap, subst, ◌∙◌, arith}
use Rattle.std.specs.Borrow.{Bor}
use Rattle.std.specs.declared.alloc.Global.{Global}
use Rattle.std.specs.List.{insert}
use Rattle.std.specs.Option.{option_map, option_or}
use Rattle.std.specs.Ordering.{eq_by_cmp}
use Rattle.std.specs.FinMap.{find, put, is_sorted}
use Rattle.std.specs.FinMap.Entries.{find-put}
use Rattle.std.proofs.Math.Seq.{take-suc}
use Rattle.hm_tree.specs.Names.{Name, name_cmp}
use Rattle.hm_tree.specs.Edges.{rank, IsPlaceOf, IsGapFor}
use Rattle.hm_tree.proofs.Sorted.{name_total, put_rank, sorted_put}
use Rattle.hm_terms.specs.declared.term.Term.{Term}
use Rattle.hm_terms.specs.declared.term.Definition.{Definition}
use Rattle.hm_terms.specs.Lenses.{Lens, DefinitionValue, body_of}
use Rattle.hm_terms.specs.Programs.{lens_of, definition_value}
use Rattle.hm_eval_terms.specs.Terms.{option_lens, IsIndex}
use Rattle.hm_facts.proofs.Options.{or_none}
use Rattle.hm_tree.proofs.NameSets.{tied_one}

pub same_items : (v w : Vec (Name × Bor Term) Global) → v ≡ w → v.items ≡ w.items
same_items v w e = ap (λ (v : Vec (Name × Bor Term) Global). v.items) e

abbrev body_by : List Definition → Name → Option Lens
body_by ds n = body_of (map definition_value ds) n

abbrev last_body : Definition → Name → Option Lens
last_body d n = cond (eq_by_cmp name_cmp n d.name) (Some (lens_of d.body)) None

-- the first body of a name counts
body_last : (xs : List Definition) (d : Definition) (n : Name) → body_by (xs ++ d ∷ []) n ≡ option_or (body_by xs n) (last_body d n)
body_last [] d n = go (eq_by_cmp name_cmp n d.name)
  where
    go : (b : Bool) → option_map (λ (v : DefinitionValue). v.body) (cond b (Some (definition_value d).1) None) ≡ cond b (Some (lens_of d.body)) None
    go true = refl
    go false = refl
body_last (x ∷ xs) d n = go (eq_by_cmp name_cmp n x.name) (body_last xs d n)
  where
    go : (b : Bool) → body_by (xs ++ d ∷ []) n ≡ option_or (body_by xs n) (last_body d n)
        → option_map (λ (v : DefinitionValue). v.body) (cond b (Some (definition_value x).1) (find name_cmp n (map definition_value (xs ++ d ∷ []))))
        ≡ option_or (option_map (λ (v : DefinitionValue). v.body) (cond b (Some (definition_value x).1) (find name_cmp n (map definition_value xs))))
        (last_body d n)
    go true rest = refl
    go false rest = rest

module _ (ds : List Definition) (i : ℕ) (d : Definition) (bodies : List (Name × Bor Term)) (below : i < length ds) (is : d ≡ get_or ds i d)
    (so : IsIndex (take i ds) bodies) where
  one_further : take (i + 1) ds ≡ take i ds ++ d ∷ []
  one_further = ap (λ j. take j ds) (add-one i) ∙ take-suc ds i d below ∙ ap (λ x. take i ds ++ x ∷ []) (sym is)

  pub index_more : (gap : ℕ) (k : Name) (t : Bor Term) (es new : List (Name × Bor Term)) → es ≡ bodies → IsGapFor d.name es gap → k ≡ d.name → t.now ≡ d.body
      → new ≡ insert bodies gap (k, t) → IsIndex (take (i + 1) ds) new
  index_more gap k t es new seen found same body made = record {
    sorted = subst (λ l. T (is_sorted name_cmp l)) (sym is_put) (sorted_put k t bodies so.sorted);
    all = λ n. ap (λ l. option_lens (find name_cmp n l)) is_put ∙ ap option_lens (find-put name_cmp name_total n k t bodies)
        ∙ go n (eq_by_cmp name_cmp n k) refl ∙ sym (body_last (take i ds) d n) ∙ ap (λ l. body_by l n) (sym one_further);
  }
    where
      free : IsGapFor d.name bodies gap
      free = subst (λ l. IsGapFor d.name l gap) seen found

      none : find name_cmp k bodies ≡ None
      none = ap (λ m. find name_cmp m bodies) same ∙ free.absent

      is_put : new ≡ put name_cmp k t bodies
      is_put = made ∙ ap (λ j. insert bodies j (k, t)) (free.place ∙ ap (λ m. rank m bodies) (sym same)) ∙ sym (put_rank k t bodies none)

      go : (n : Name) (b : Bool) → eq_by_cmp name_cmp n k ≡ b → option_lens (cond b (Some t) (find name_cmp n bodies)) ≡ option_or (body_by (take i ds) n)
          (last_body d n)
      go n true e =
          let gone : body_by (take i ds) n ≡ None = sym (so.all n) ∙ ap option_lens (ap (λ m. find name_cmp m bodies) (tied_one n k e) ∙ none) in
          let here : eq_by_cmp name_cmp n d.name ≡ true = ap (eq_by_cmp name_cmp n) (sym same) ∙ e in
          ap (λ x. Some (lens_of x)) body ∙ sym (ap (λ x. option_or x (last_body d n)) gone ∙ ap (λ b. cond b (Some (lens_of d.body)) None) here)
      go n false e =
          let other : eq_by_cmp name_cmp n d.name ≡ false = ap (eq_by_cmp name_cmp n) (sym same) ∙ e in
          so.all n ∙ or_none (body_by (take i ds) n) ∙ sym (ap (λ b. option_or (body_by (take i ds) n) (cond b (Some (lens_of d.body)) None)) other)

  pub index_kept : (r : Result ℕ ℕ) (es new : List (Name × Bor Term)) → es ≡ bodies → IfOk r (IsPlaceOf d.name es) → ((x : ℕ) → r ≡ Err x → ⊥) → new ≡ bodies
      → IsIndex (take (i + 1) ds) new
  index_kept (Err x) es new seen found not made = absurd (not x refl)
  index_kept (Ok p) es new seen found not made = record {
    sorted = subst (λ l. T (is_sorted name_cmp l)) (sym made) so.sorted;
    all = λ n. ap (λ l. option_lens (find name_cmp n l)) made ∙ so.all n ∙ go n (eq_by_cmp name_cmp n d.name) refl
        ∙ sym (body_last (take i ds) d n) ∙ ap (λ l. body_by l n) (sym one_further);
  }
    where
      there : (es : List (Name × Bor Term)) → IsPlaceOf d.name es p → (t : Bor Term) × (find name_cmp d.name es ≡ Some t)
      there [] at = absurd (omega (arith, at.in_range))
      there (e ∷ es) at = (_, at.found e)

      go : (n : Name) (b : Bool) → eq_by_cmp name_cmp n d.name ≡ b
          → body_by (take i ds) n ≡ option_or (body_by (take i ds) n) (cond b (Some (lens_of d.body)) None)
      go n false e = or_none (body_by (take i ds) n)
      go n true e =
          let w = there bodies (subst (λ l. IsPlaceOf d.name l p) seen found) in
          let some : body_by (take i ds) n ≡ Some (lens_of w.0.now) = sym (so.all n) ∙ ap option_lens (ap (λ m. find name_cmp m bodies) (tied_one n d.name e)
          ∙ w.1) in
          some ∙ sym (ap (λ x. option_or x (Some (lens_of d.body))) some)
