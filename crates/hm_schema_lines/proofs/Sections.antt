-- The lines of a node, and where they stand in the file.
use Rattle.std.proofs.Common.{◌≡◌, ◌⊎◌, inl, inr, ◌≤◌, ◌<◌, None, refl, ℕ, zero, suc, ◌+◌, Bool, true, false, cond, List, [], ◌∷◌, ◌++◌, length, take, drop, reverse, Some, sym, ap, ◌∙◌, append_assoc, slice_get, get_or, count_by, arith}
use Rattle.std.proofs.lemmas.List.{reverse-append, drop_all}
use Rattle.std.proofs.lemmas.List.Sums.{length-filter, sum_by-cons}
use mathlib.Core.List.{append-nil}
use Rattle.std.proofs.lemmas.Option.{slice_get_within, slice_get_cases, get_or_from_slice_get}
use Rattle.std.proofs.Math.Seq.{drop-cons}
use Rattle.hm_tree.proofs.Kept.{take_more}
use Rattle.hm_tree.specs.Names.{Name}
use Rattle.hm_schema_lines.specs.NodeLines.{node}
use Rattle.std.specs.Prelude.{filter, not}
use Rattle.std.specs.List.{prefix_len}
use Rattle.hm_schema_lines.specs.declared.entry.Entry.{Entry}
use Rattle.hm_schema_lines.specs.Entries.{EntryValue, says, entry_value, entry_values}
use Rattle.hm_schema_lines.specs.BadLines.{Says, begins_node, up_to_node, since_node, earlier, around, behind}

-- how many lines are of a kind
count_values : (f : EntryValue → Bool) (es : List Entry) → count_by (λ e. f (entry_value e)) es ≡ count_by f (entry_values es)
count_values f [] = refl
count_values f (e ∷ es) =
    sum_by-cons (λ z. cond (f (entry_value z)) 1 0) e es
    ∙ ap (λ n. cond (f (entry_value e)) 1 0 + n) (count_values f es)
    ∙ sym (sum_by-cons (λ z. cond (f z) 1 0) (entry_value e) (entry_values es))

pub length_of_kind : (f : EntryValue → Bool) (es : List Entry) → length (filter (λ e. f (entry_value e)) es) ≡ count_by f (entry_values es)
length_of_kind f es = length-filter (λ e. f (entry_value e)) es ∙ count_values f es

since_next : (es : List EntryValue) (e : EntryValue) (b : Bool) → begins_node e ≡ b → since_node (es ++ e ∷ []) ≡ cond b [] (since_node es ++ e ∷ [])
since_next es e true is = ap (λ z. reverse (up_to_node z)) (reverse-append es (e ∷ []))
    ∙ ap (λ c. reverse (cond c [] (e ∷ up_to_node (reverse es)))) is
since_next es e false is = ap (λ z. reverse (up_to_node z)) (reverse-append es (e ∷ []))
    ∙ ap (λ c. reverse (cond c [] (e ∷ up_to_node (reverse es)))) is ∙ reverse-append (e ∷ []) (up_to_node (reverse es))

pub drop_more : (es : List EntryValue) (i : ℕ) (e : EntryValue) → slice_get es i ≡ Some e → drop i es ≡ e ∷ drop (suc i) es
drop_more es i e is = drop-cons es i e (slice_get_within es i e is) ∙ ap (λ z. z ∷ drop (suc i) es) (get_or_from_slice_get es i e e is)

module _ (es : List EntryValue) (i : ℕ) (e : EntryValue) (is : slice_get es i ≡ Some e) where
  -- what stands before the next line of its node
  pub earlier_next : (b : Bool) → begins_node e ≡ b → earlier es (suc i) ≡ cond b [] (earlier es i ++ e ∷ [])
  earlier_next b told = ap since_node (take_more es i e is) ∙ since_next (take i es) e b told

  -- a line inside a node, and the lines behind it
  pub from_here : (b : Bool) → begins_node e ≡ b → up_to_node (drop i es) ≡ cond b [] (e ∷ up_to_node (drop (suc i) es))
  from_here b told = ap up_to_node (drop_more es i e is) ∙ ap (λ c. cond c [] (e ∷ up_to_node (drop (suc i) es))) told

  -- a node line begins its node
  pub around_begun : begins_node e ≡ true → around es (suc i) ≡ behind es i
  around_begun told = ap (λ z. z ++ up_to_node (drop (suc i) es)) (earlier_next true told)

  -- the next line has the same lines around it
  pub around_next : begins_node e ≡ false → around es (suc i) ≡ around es i
  around_next told =
      ap (λ z. z ++ up_to_node (drop (suc i) es)) (earlier_next false told)
      ∙ append_assoc (earlier es i) (e ∷ []) (up_to_node (drop (suc i) es))
      ∙ ap (λ z. earlier es i ++ z) (sym (from_here false told))

-- ---- the lines of a node from one of its places on

record IsWithin (es : List EntryValue) (j m : ℕ) (e : EntryValue) : Type 0 where
  pub at : slice_get es (j + m) ≡ Some e
  pub earlier_are : earlier es (j + m) ≡ earlier es j ++ take m (up_to_node (drop j es))
  pub around_is : around es (j + m) ≡ around es j
  pub inside : begins_node e ≡ false

no_more : (n : ℕ) → n ≡ n + 0
no_more n = omega arith

one_further : (j m : ℕ) → suc j + m ≡ j + suc m
one_further j m = omega arith

-- no line of the node is left, or the next one is
abbrev GoesOn : List EntryValue → ℕ → List EntryValue → Type 0
GoesOn es j lines = (lines ≡ []) ⊎ ((d : EntryValue) × (slice_get es j ≡ Some d) × (begins_node d ≡ false)
    × (lines ≡ d ∷ up_to_node (drop (suc j) es)))

goes_on : (es : List EntryValue) (j : ℕ) (lines : List EntryValue) → up_to_node (drop j es) ≡ lines → GoesOn es j lines
goes_on es j lines is = by (slice_get_cases es j).1
  where
    told : (d : EntryValue) → slice_get es j ≡ Some d → (b : Bool) → begins_node d ≡ b → GoesOn es j lines
    told d at true h = inl (sym is ∙ from_here es j d at true h)
    told d at false h = inr (d, at, h, sym is ∙ from_here es j d at false h)

    by : ((x : EntryValue) × (j < length es) × (slice_get es j ≡ Some x) × (get_or es j x ≡ x)) ⊎ ((length es ≤ j) × (slice_get es j ≡ None))
        → GoesOn es j lines
    by (inl f) = told f.0 f.2 (begins_node f.0) refl
    by (inr f) = inl (sym is ∙ ap up_to_node (drop_all j es f.0))

within : (es : List EntryValue) (m j : ℕ) (e : EntryValue) → slice_get (up_to_node (drop j es)) m ≡ Some e → IsWithin es j m e
within es zero j e is = by (goes_on es j (up_to_node (drop j es)) refl)
  where
    by : GoesOn es j (up_to_node (drop j es)) → IsWithin es j 0 e
    by (inl none) = let no : None ≡ Some e = sym (ap (λ z. slice_get z 0) none) ∙ is in let f : ⊥ = cc in absurd f
    by (inr f) =
        let first : Some f.0 ≡ Some e = sym (ap (λ z. slice_get z 0) f.3) ∙ is in
        let same : f.0 ≡ e = cc in record {
          at = ap (slice_get es) (sym (no_more j)) ∙ f.1 ∙ first;
          earlier_are = ap (earlier es) (sym (no_more j)) ∙ sym (append-nil (earlier es j));
          around_is = ap (around es) (sym (no_more j));
          inside = ap begins_node (sym same) ∙ f.2;
        }
within es (suc m) j e is = by (within es m (suc j) e) (goes_on es j (up_to_node (drop j es)) refl)
  where
    further : (d : EntryValue) → slice_get es j ≡ Some d → begins_node d ≡ false → up_to_node (drop j es) ≡ d ∷ up_to_node (drop (suc j) es)
        → IsWithin es (suc j) m e → IsWithin es j (suc m) e
    further d at told lines w = record {
      at = ap (slice_get es) (sym (one_further j m)) ∙ w.at;
      earlier_are =
          ap (earlier es) (sym (one_further j m))
          ∙ w.earlier_are
          ∙ ap (λ z. z ++ take m (up_to_node (drop (suc j) es))) (earlier_next es j d at false told)
          ∙ append_assoc (earlier es j) (d ∷ []) (take m (up_to_node (drop (suc j) es)))
          ∙ ap (λ z. earlier es j ++ take (suc m) z) (sym lines);
      around_is = ap (around es) (sym (one_further j m)) ∙ w.around_is ∙ around_next es j d at told;
      inside = w.inside;
    }

    by : (slice_get (up_to_node (drop (suc j) es)) m ≡ Some e → IsWithin es (suc j) m e) → GoesOn es j (up_to_node (drop j es))
        → IsWithin es j (suc m) e
    by more (inl none) = let no : None ≡ Some e = sym (ap (λ z. slice_get z (suc m)) none) ∙ is in let f : ⊥ = cc in absurd f
    by more (inr f) = further f.0 f.1 f.2 f.3 (more (sym (ap (λ z. slice_get z (suc m)) f.3) ∙ is))

-- a line of a node, at its place in the file
pub record IsInFile (es : List EntryValue) (i m : ℕ) (e : EntryValue) : Type 0 where
  pub at : slice_get es (suc i + m) ≡ Some e
  pub earlier_are : earlier es (suc i + m) ≡ take m (behind es i)
  pub around_is : around es (suc i + m) ≡ behind es i
  pub inside : begins_node e ≡ false

pub in_file : (es : List EntryValue) (i : ℕ) (w : Name) → Says es i (node w) → (m : ℕ) (e : EntryValue) → slice_get (behind es i) m ≡ Some e
    → IsInFile es i m e
in_file es i w is m e there =
    let f = within es m (suc i) e there in record {
      at = f.at;
      earlier_are = f.earlier_are ∙ ap (λ z. z ++ take m (behind es i)) (earlier_next es i (says (node w)) is true refl);
      around_is = f.around_is ∙ around_begun es i (says (node w)) is refl;
      inside = f.inside;
    }

-- ---- where a node ends

pub inside_lines : (es : List Entry) → entry_values (take (prefix_len (λ e. not (begins_node (entry_value e))) es) es) ≡ up_to_node (entry_values es)
inside_lines [] = refl
inside_lines (e ∷ es) = go (begins_node (entry_value e)) refl (inside_lines es)
  where
    one_on : (n : ℕ) → 1 + n ≡ suc n
    one_on n = omega arith

    inside : Entry → Bool
    inside e = not (begins_node (entry_value e))

    go : (b : Bool) → begins_node (entry_value e) ≡ b → entry_values (take (prefix_len inside es) es) ≡ up_to_node (entry_values es)
        → entry_values (take (prefix_len inside (e ∷ es)) (e ∷ es)) ≡ up_to_node (entry_values (e ∷ es))
    go true is more = ap (λ b. entry_values (take (cond (not b) (1 + prefix_len inside es) 0) (e ∷ es))) is
        ∙ sym (ap (λ b. cond b [] (entry_value e ∷ up_to_node (entry_values es))) is)
    go false is more =
        ap (λ b. entry_values (take (cond (not b) (1 + prefix_len inside es) 0) (e ∷ es))) is
        ∙ ap (λ n. entry_values (take n (e ∷ es))) (one_on (prefix_len inside es))
        ∙ ap (λ z. entry_value e ∷ z) more
        ∙ sym (ap (λ b. cond b [] (entry_value e ∷ up_to_node (entry_values es))) is)
