-- The calls of one body more.
use Rattle.std.proofs.Common.{◌≡◌, ◌↔◌, ℕ, ◌+◌, ◌<◌, false, Vec, List, [], ◌∷◌, ◌++◌, length, get_or, take, Some, slice_get, length-append, length-take-le, sym, ap, subst, ◌∙◌, inl, inr, arith}
use Rattle.std.specs.List.{Contains}
use Rattle.std.specs.declared.alloc.Global.{Global}
use Rattle.std.proofs.lemmas.Bool.{cases_lt}
use Rattle.std.proofs.lemmas.Option.{same_Some, slice_get_within}
use Rattle.hm_tree.specs.Names.{Name}
use Rattle.hm_terms.specs.declared.term.Definition.{Definition}
use Rattle.hm_terms.specs.Programs.{lens_of}
use Rattle.hm_terms_cycles.specs.declared.call.Call.{Call}
use Rattle.hm_terms_cycles.specs.Calls.{Callees, items_of, calls_from}
use Rattle.hm_terms_cycles.specs.CallSets.{Adds}
use Rattle.hm_terms_cycles.specs.Callees.{IsCallIn, AreCallees}
use Rattle.hm_terms_cycles.proofs.Elements.{slice_front, slice_seam, take_next}

-- a set that had no calls has those that were added
pub from_none : (P : Call → Type 0) (old new : List Call) → old ≡ [] → Adds P old new → (x : Call) → Contains new x ↔ P x
from_none P old new none h x = (
  λ there. elim ((h.all x).0 there) [ inl o ↦ absurd (omega (arith, o.1, ap length none)) | inr p ↦ p ],
  λ p. (h.all x).1 (inr p),
)

module _ (ds : List Definition) (places : List (Name × ℕ)) where
  module _ (i : ℕ) (d : Definition) (lt : i < length ds) (is : d ≡ get_or ds i d) (g new : Callees) (v : Vec Call Global)
      (so : AreCallees (take i ds) places g) (made : new ≡ g ++ v ∷ [])
      (body : (x : Call) → Contains v.items x ↔ IsCallIn places false false (lens_of d.body) x) where
    further : take (i + 1) ds ≡ take i ds ++ d ∷ []
    further = take_next ds i d lt is

    count : length (take i ds) ≡ i
    count = length-take-le i ds (omega (arith, lt))

    each_more : (k : ℕ) (e : Definition) → slice_get (take i ds ++ d ∷ []) k ≡ Some e → (x : Call)
        → Contains (calls_from (g ++ v ∷ []) k) x ↔ IsCallIn places false false (lens_of e.body) x
    each_more k e at x = elim (cases_lt k (length g)) [
      | inl less ↦
          let same : calls_from (g ++ v ∷ []) k ≡ calls_from g k = ap items_of (slice_front g (v ∷ []) k less) in
          subst (λ l. Contains l x ↔ IsCallIn places false false (lens_of e.body) x) (sym same)
          (so.each k e (sym (slice_front (take i ds) (d ∷ []) k (omega (arith, less, so.size))) ∙ at) x)
      | inr more ↦
          let last : k ≡ length g = omega (arith, more, so.size, slice_get_within (take i ds ++ d ∷ []) k e at, length-append (take i ds) (d ∷ [])) in
          let here : calls_from (g ++ v ∷ []) k ≡ v.items = ap (calls_from (g ++ v ∷ [])) last ∙ ap items_of (slice_seam g v) in
          let it : d ≡ e = same_Some d e (sym (slice_seam (take i ds) d) ∙ ap (slice_get (take i ds ++ d ∷ [])) (sym (last ∙ so.size)) ∙ at) in
          subst (λ l. Contains l x ↔ IsCallIn places false false (lens_of e.body) x) (sym here)
          (subst (λ (e : Definition). Contains v.items x ↔ IsCallIn places false false (lens_of e.body) x) it (body x))
    ]

    pub one_called : AreCallees (take (i + 1) ds) places new
    one_called = subst (λ ds. AreCallees ds places new) (sym further) (subst (AreCallees (take i ds ++ d ∷ []) places) (sym made) (record {
      size = omega (arith, length-append g (v ∷ []), length-append (take i ds) (d ∷ []), so.size);
      each = each_more;
    }))
