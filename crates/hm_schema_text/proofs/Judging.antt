-- When a line of a schema file is bad.
use Rattle.std.proofs.Common.{◌≡◌, ℕ, zero, suc, length, count_by, ◌+◌, ◌<◌, ◌≤◌, Bool, true, false, List, [], ◌∷◌, slice_get, Option, Some, None, Result, refl, sym, ap, ◌∙◌, subst, arith}
use Rattle.std.specs.Prelude.{codes, MatchOption, IsTrue, IfOk, ◌↔◌}
use Rattle.std.specs.Option.{IsSomeAnd}
use Rattle.std.specs.Int.{from_bool}
use Rattle.std.proofs.lemmas.Result.{IfOk-weaker}
use Rattle.std.proofs.lemmas.Option.{slice_get_within, get_or_from_slice_get}
use Rattle.std.proofs.lemmas.List.Sums.{count_by_more_yes, count_by_more_no}
use Rattle.std.proofs.lemmas.Slice.Zip.{AllZip-right}
use Rattle.hm_tree.specs.Names.{Name}
use Rattle.hm_schema_lines.specs.declared.token.Token.{Token}
use Rattle.hm_schema_lines.specs.declared.token.Token.TheVariants.{Word}
use Rattle.hm_schema_lines.specs.Tokens.{Spaced}
use Rattle.hm_schema_lines.specs.NodeLines.{NodeLineValue}
use Rattle.hm_schema_lines.specs.Entries.{EntryValue, unknown, says, IsEntry, texts_of, AreEntries}
use Rattle.hm_schema_lines.specs.BadLines.{is_counted, lines_before, Says, IsNode, IsBadNodeLine}
use Rattle.hm_schema_lines.specs.FirstBad.{HasNoBad}
use Rattle.hm_schema_lines.proofs.Laws.{begins, first_letter, more_before, spaced_one, bad_says, is_node}
use Rattle.hm_schema_text.specs.Head.{IsRoot, IsHeaderAt, IsRootAt, IsNth, IsReadRoot, NamesRoot}
use Rattle.hm_schema_text.specs.BadLines.{IsBadLine, no_header, no_root, names_no_node, unreadable, of_node}

-- fewer lines are counted before an earlier one
not_before : (es : List EntryValue) (n i j : ℕ) → IsNth es n i → IsNth es n j → ¬ (i < j)
not_before es n i j h k below = let more = more_before is_counted es i j h.entry h.is h.counted below in omega (arith, h.before, k.before)

pub nth_once : (es : List EntryValue) (n i j : ℕ) → IsNth es n i → IsNth es n j → i ≡ j
nth_once es n i j h k = omega (arith, not_before es n i j h k, not_before es n j i k h)

some_line : (x y : List ℕ) → Some x ≡ Some y → x ≡ y
some_line x y e = cc

pub root_once : (bytes : List ℕ) (i : ℕ) (w v : Name) → IsRootAt bytes i w → IsRootAt bytes i v → w ≡ v
root_once bytes i w v h k =
    let tokens = spaced_one _ _ h.0 k.0 (some_line h.0 k.0 (sym h.1 ∙ k.1)) h.2 k.2 in
    cc

-- tokens are the name of a root, as they are spelled
pub root_is : (line : List ℕ) (ts : List Token) → Spaced ts line → (o : Option Name)
    → IsReadRoot (λ w. ts ≡ Word (codes "root") ∷ Word w ∷ []) o → IsReadRoot (IsRoot line) o
root_is line ts s None none = λ w root. none w (spaced_one ts _ line line refl s root)
root_is line ts s (Some w) is = subst (λ z. Spaced z line) is s

-- one line more
pub lines_next : (es : List EntryValue) (i : ℕ) (e : EntryValue) → slice_get es i ≡ Some e
    → lines_before es i + from_bool (is_counted e) ≡ lines_before es (i + 1)
lines_next es i e is = go (is_counted e) refl
  where
    go : (b : Bool) → is_counted e ≡ b → lines_before es i + from_bool b ≡ lines_before es (i + 1)
    go true told = sym (count_by_more_yes is_counted es i e (slice_get_within es i e is) (ap is_counted (get_or_from_slice_get es i e e is) ∙ told))
    go false told = let more = count_by_more_no is_counted es i e (slice_get_within es i e is)
        (ap is_counted (get_or_from_slice_get es i e e is) ∙ told) in omega arith

module _ (bytes : List ℕ) (es : List EntryValue) (i : ℕ) where
  module _ (read : AreEntries bytes es) where
    -- the tokens of a bad line of a node begin with the letter of `node`, where no spaces stand in front
    node_letter : IsBadNodeLine es i → (line : List ℕ) → slice_get (texts_of bytes) i ≡ Some line → (ts : List Token) → Spaced ts line
        → first_letter ts ≡ 110
    node_letter bad line at ts s =
        let x = bad_says es i bad in
        let entry = subst (λ o. MatchOption o (Unit {0}) (λ y. IsSomeAnd (slice_get (texts_of bytes) i) (λ t. IsEntry t y))) x.1
        (AllZip-right IsEntry (texts_of bytes) es read i) in
        let its = subst (λ o. IsSomeAnd o (λ t. IsEntry t (says x.0))) at entry in
        ap first_letter (begins line ts s x.0 its.1).1

    pub first_line : IsNth es 0 i → IsBadLine bytes es i → ¬ (IsHeaderAt bytes i)
    first_line n (no_header m none) h = none h
    first_line n (no_root m none) h = omega (arith, n.before, m.before)
    first_line n (names_no_node m r none) h = omega (arith, n.before, m.before)
    first_line n (unreadable is two) h = omega (arith, n.before, two)
    first_line n (of_node bad) h = let e = node_letter bad h.0 h.1 _ h.2 in omega arith

    pub second_line : IsNth es 1 i → (w : Name) → IsRootAt bytes i w → IsBadLine bytes es i → ¬ (IsNode es w)
    second_line n w h (no_header m none) some = omega (arith, n.before, m.before)
    second_line n w h (no_root m none) some = none w h
    second_line n w h (names_no_node {w = v} m r none) some = none (subst (IsNode es) (root_once bytes i w v h r) some)
    second_line n w h (unreadable is two) some = omega (arith, n.before, two)
    second_line n w h (of_node bad) some = let e = node_letter bad h.0 h.1 _ h.2 in omega arith

  -- a line of a node behind the head
  pub node_told : {E : Type 0} (x : NodeLineValue) → Says es i x → 2 ≤ lines_before es i → (r : Result Bool E)
      → IfOk r (λ bad. IsTrue bad ↔ IsBadNodeLine es i) → IfOk r (λ bad. IsTrue bad ↔ IsBadLine bytes es i)
  node_told x is two r h =
      IfOk-weaker r (λ bad. IsTrue bad ↔ IsBadNodeLine es i) (λ bad. IsTrue bad ↔ IsBadLine bytes es i)
      (λ bad k. (λ yes. of_node (k.0 yes), λ b. k.1 (its b))) h
    where
      its : IsBadLine bytes es i → IsBadNodeLine es i
      its (no_header m f) = absurd (omega (arith, m.before))
      its (no_root m f) = absurd (omega (arith, m.before))
      its (names_no_node m r f) = absurd (omega (arith, m.before))
      its (unreadable none more) = let both : Some unknown ≡ Some (says x) = sym none ∙ is in absurd (let f : ⊥ = cc in f)
      its (of_node bad) = bad

  -- a bad line is one of the file
  pub bad_within : IsBadLine bytes es i → i < length es
  bad_within (no_header m f) = slice_get_within es i m.entry m.is
  bad_within (no_root m f) = slice_get_within es i m.entry m.is
  bad_within (names_no_node m r f) = slice_get_within es i m.entry m.is
  bad_within (unreadable is two) = slice_get_within es i unknown is
  bad_within (of_node bad) = let x = bad_says es i bad in slice_get_within es i (says x.0) x.1

-- the root of a file without a bad line
abbrev pub IsRootTold : List ℕ → List EntryValue → Option Name → Type 0
IsRootTold bytes es o = MatchOption o (count_by is_counted es < 2) (λ w. IsNode es w × NamesRoot bytes es w)

pub root_told : {E : Type 0} (bytes : List ℕ) (es : List EntryValue) → HasNoBad (IsBadLine bytes es) → (i : ℕ) → IsNth es 1 i
    → (r : Result (Option Name) E) → IfOk r (IsReadRoot (IsRootAt bytes i)) → IfOk r (IsRootTold bytes es)
root_told bytes es sound i n r h = IfOk-weaker r (IsReadRoot (IsRootAt bytes i)) (IsRootTold bytes es) by h
  where
    by : (o : Option Name) → IsReadRoot (IsRootAt bytes i) o → IsRootTold bytes es o
    by None none = absurd (sound i (no_root n none))
    by (Some w) root = (is_node es w (λ no_node. sound i (names_no_node n root no_node)), record { place = i; second = n; root = root })

pub few_next : (n r : ℕ) (b : Bool) → r ≡ from_bool b → n ≤ 1 → (b ≡ true → n ≡ 1 → ⊥) → n + r ≤ 1
few_next zero r true is few apart = omega arith
few_next (suc n) r true is few apart = absurd (apart refl (omega arith))
few_next n r false is few apart = omega arith
