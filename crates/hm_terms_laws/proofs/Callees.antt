-- The definitions that a definition calls, as a list: all of them, and those that are called inside no sequence and no lens on
-- children or items.
use Rattle.std.proofs.Common.{◌≡◌, Bool, true, false, not, ◌&&◌, List, [], ◌∷◌, cond, map, filter, option_map, Option, Some, None, refl, sym, ap, subst, ◌∙◌, inl, inr}
use mathlib.Core.Bool.{true≢false}
use Rattle.std.specs.Ordering.{eq_by_cmp}
use Rattle.std.specs.FinMap.{find}
use Rattle.std.proofs.lemmas.Option.{none-some}
use Rattle.hm_tree.specs.Names.{Name, name_cmp}
use Rattle.hm_schema.proofs.NamesOf.{tie_one}
use Rattle.hm_terms.specs.Lenses.{Lens, Definitions, DefinitionValue, body_of}
use Rattle.hm_terms.specs.Calls.{Calls}
use Rattle.hm_terms_laws.proofs.CallLists.{IsIn, at_head, in_rest, head_or_rest, in_map, from_map, Call, call_of, calls_of, listed, is_call}

-- ---- the steps from a definition to those that it calls

abbrev pub calls_if : Option Lens → List Call
calls_if None = []
calls_if (Some l) = calls_of l

abbrev pub is_open : Call → Bool
is_open c = not c.sequence && not c.children

-- a definition has a body, and this calls another one
pub record HasCall (ds : Definitions) (n : Name) (s c : Bool) (m : Name) : Type 0 where
  pub body : Lens
  pub is : body_of ds n ≡ Some body
  pub calls : Calls body s c m

module _ {X : Type 0} (p : X → Bool) where
  pub from_filter : (x : X) (xs : List X) → IsIn x (filter p xs) → IsIn x xs × (p x ≡ true)
  from_filter x [] h = elim h [ ]
  from_filter x (y ∷ xs) h = go (p y) refl h (from_filter x xs)
    where
      go : (b : Bool) → p y ≡ b → IsIn x (cond b (y ∷ filter p xs) (filter p xs)) → (IsIn x (filter p xs) → IsIn x xs × (p x ≡ true))
          → IsIn x (y ∷ xs) × (p x ≡ true)
      go true e h rest = elim (head_or_rest h) [
        | inl s ↦ (subst (λ z. IsIn z (y ∷ xs)) (sym s) at_head, ap p s ∙ e)
        | inr i ↦ let r = rest i in (in_rest r.0, r.1)
      ]
      go false e h rest = let r = rest h in (in_rest r.0, r.1)

  pub in_filter : (x : X) {xs : List X} → IsIn x xs → p x ≡ true → IsIn x (filter p xs)
  in_filter x (at_head {xs = xs}) e = subst (λ b. IsIn x (cond b (x ∷ filter p xs) (filter p xs))) (sym e) at_head
  in_filter x (in_rest {y = y} {xs = xs} h) e = go (p y) (in_filter x h e)
    where
      go : (b : Bool) → IsIn x (filter p xs) → IsIn x (cond b (y ∷ filter p xs) (filter p xs))
      go true h = in_rest h
      go false h = h

module _ (ds : Definitions) where
  abbrev pub defined : List Name
  defined = map (λ d. d.0) ds

  abbrev pub next : Name → List Name
  next n = map (λ c. c.name) (calls_if (body_of ds n))

  abbrev pub open_next : Name → List Name
  open_next n = map (λ c. c.name) (filter is_open (calls_if (body_of ds n)))

  pub call_there : (n : Name) (c : Call) → IsIn c (calls_if (body_of ds n)) → HasCall ds n c.sequence c.children c.name
  call_there n c h = go (body_of ds n) refl h
    where
      go : (b : Option Lens) → body_of ds n ≡ b → IsIn c (calls_if b) → HasCall ds n c.sequence c.children c.name
      go None e h = elim h [ ]
      go (Some l) e h = record { body = l; is = e; calls = is_call l c h }

  pub there_call : (n m : Name) (s c : Bool) → HasCall ds n s c m → IsIn (record { sequence = s; children = c; name = m }) (calls_if (body_of ds n))
  there_call n m s c h = subst (λ b. IsIn (record { sequence = s; children = c; name = m }) (calls_if b)) (sym h.is) (listed h.calls)

  is_defined : (es : List (Name × DefinitionValue)) (n : Name) (d : DefinitionValue) → find name_cmp n es ≡ Some d → IsIn n (map (λ d. d.0) es)
  is_defined [] n d e = absurd (none-some d e)
  is_defined (f ∷ es) n d e = go (eq_by_cmp name_cmp n f.0) refl e (is_defined es n d)
    where
      go : (b : Bool) → eq_by_cmp name_cmp n f.0 ≡ b → cond b (Some f.1) (find name_cmp n es) ≡ Some d
          → (find name_cmp n es ≡ Some d → IsIn n (map (λ d. d.0) es)) → IsIn n (f.0 ∷ map (λ d. d.0) es)
      go true t e rest = subst (λ k. IsIn k (f.0 ∷ map (λ d. d.0) es)) (sym (tie_one n f.0 t)) at_head
      go false t e rest = in_rest (rest e)

  pub has_body : (n : Name) (l : Lens) → body_of ds n ≡ Some l → IsIn n defined
  has_body n l e = go (find name_cmp n ds) refl e
    where
      go : (d : Option DefinitionValue) → find name_cmp n ds ≡ d → option_map (λ (d : DefinitionValue). d.body) d ≡ Some l
          → IsIn n (map (λ d. d.0) ds)
      go None f e = absurd (none-some l e)
      go (Some d) f e = is_defined ds n d f

  -- what a list of called definitions says
  pub called : (n m : Name) → IsIn m (next n) → (s : Bool) × (c : Bool) × HasCall ds n s c m
  called n m h =
      let x = from_map (λ (c : Call). c.name) (calls_if (body_of ds n)) h in
      (x.0.sequence, x.0.children, subst (λ m. HasCall ds n x.0.sequence x.0.children m) (sym x.1) (call_there n x.0 x.2))

  pub calls_next : (n m : Name) (s c : Bool) → HasCall ds n s c m → IsIn m (next n)
  calls_next n m s c h = in_map (λ (c : Call). c.name) (there_call n m s c h)

  pub called_open : (n m : Name) → IsIn m (open_next n) → HasCall ds n false false m
  called_open n m h =
      let x = from_map (λ (c : Call). c.name) (filter is_open (calls_if (body_of ds n))) h in
      go x.0 x.1 (from_filter is_open x.0 (calls_if (body_of ds n)) x.2)
    where
      neither : (a b : Bool) → (not a && not b) ≡ true → (a ≡ false) × (b ≡ false)
      neither false false e = (refl, refl)
      neither true b e = absurd (true≢false (sym e))
      neither false true e = absurd (true≢false (sym e))

      go : (c : Call) → m ≡ c.name → IsIn c (calls_if (body_of ds n)) × (is_open c ≡ true) → HasCall ds n false false m
      go c e h =
          let f = neither c.sequence c.children h.1 in
          subst (λ m. HasCall ds n false false m) (sym e) (subst (λ s. HasCall ds n s false c.name) f.0
          (subst (λ b. HasCall ds n c.sequence b c.name) f.1 (call_there n c h.0)))

  pub calls_open : (n m : Name) → HasCall ds n false false m → IsIn m (open_next n)
  calls_open n m h = in_map (λ (c : Call). c.name) (in_filter is_open (call_of m) (there_call n m false false h) refl)

  pub next_known : (n m : Name) → IsIn m (next n) → IsIn n defined
  next_known n m h = let x = called n m h in has_body n x.2.body x.2.is

  pub open_known : (n m : Name) → IsIn m (open_next n) → IsIn n defined
  open_known n m h = let x = called_open n m h in has_body n x.body x.is
