-- When a line of a lens file is bad.
use Rattle.std.proofs.Common.{◌≡◌, ◌≢◌, inl, inr, ℕ, ◌+◌, ◌<◌, ◌≤◌, Bool, true, false, List, length, take, slice_get, count_by, Some, refl, sym, ap, ◌∙◌, subst, arith}
use Rattle.std.specs.Prelude.{IsTrue, ◌↔◌}
use mathlib.Core.Bool.{true≢false}
use Rattle.std.specs.Int.{from_bool}
use Rattle.std.proofs.lemmas.Option.{slice_get_within, get_or_from_slice_get}
use Rattle.std.proofs.lemmas.List.Sums.{count_by_more_yes, count_by_more_no}
use Rattle.hm_schema_lines.specs.NodeLines.{NodeLineValue}
use Rattle.hm_schema_lines.specs.Entries.{EntryValue, skipped, unknown, says}
use Rattle.hm_schema_lines.specs.Firsts.{AreFirsts, FirstPlaces}
use Rattle.hm_schema_lines.specs.BadLines.{IsBadNodeLine}
use Rattle.hm_schema_lines.proofs.Laws.{bad_says}
use Rattle.hm_focal.specs.OwnLines.{BodyValue, term, oversized, LensValue, OwnValue, nothing, header, format, lens, main, is_lens, body_in, lens_names}
use Rattle.hm_focal.specs.BadLines.{HasBody, IsBadLine, unreadable, of_node, declared_twice, names_no_source, names_no_view, calls_no_lens, too_many_lenses, too_large, too_long}
use Rattle.hm_focal.specs.Judging.{IsBadBody, IsBadLens, too_many, not_first, no_source, no_view, bad_body, IsBadOwn}
use Rattle.hm_focal.proofs.LensNames.{declared_again, twice_declared, undeclared, no_place}

module _ (es : List EntryValue) (os : List OwnValue) (i : ℕ) (e : EntryValue) (o : OwnValue) (at_e : slice_get es i ≡ Some e)
    (at_o : slice_get os i ≡ Some o) (table : FirstPlaces) (firsts : AreFirsts table (lens_names os)) (before : ℕ)
    (is : before ≡ count_by is_lens (take i os)) where
  pub Unreadable : Type 0
  Unreadable = (e ≡ unknown) × (o ≡ nothing)

  same_own : (p : OwnValue) → slice_get os i ≡ Some p → p ≡ o
  same_own p h = let both : Some p ≡ Some o = sym h ∙ at_o in cc

  same_entry : (x : EntryValue) → slice_get es i ≡ Some x → x ≡ e
  same_entry x h = let both : Some x ≡ Some e = sym h ∙ at_e in cc

  -- ---- from what is known to the line

  pub body_bad : (b : BodyValue) → body_in o ≡ Some b → IsBadBody table b → IsBadLine es os i
  body_bad (term l) has (inl long) = too_long (o, at_o, has) long
  body_bad (term l) has (inr c) = calls_no_lens (o, at_o, has) c.1 (undeclared os table firsts c.0 c.2)
  body_bad oversized has h = too_large (o, at_o, has)

  lens_bad : (d : LensValue) → o ≡ lens d → IsBadLens es table before d → IsBadLine es os i
  lens_bad d eq (too_many h) = too_many_lenses (at_o ∙ ap Some eq) (subst (λ n. 200 ≤ n) is h)
  lens_bad d eq (not_first h) = declared_twice (at_o ∙ ap Some eq)
      (twice_declared os i d (at_o ∙ ap Some eq) table firsts (λ first. h (first ∙ ap Some (sym is))))
  lens_bad d eq (no_source h) = names_no_source (at_o ∙ ap Some eq) h
  lens_bad d eq (no_view h) = names_no_view (at_o ∙ ap Some eq) h
  lens_bad d eq (bad_body h) = body_bad d.body (ap body_in eq) h

  pub own_bad : IsBadOwn es table before o → IsBadLine es os i
  own_bad h = go o refl h
    where
      go : (p : OwnValue) → o ≡ p → IsBadOwn es table before p → IsBadLine es os i
      go (lens d) eq k = lens_bad d eq k
      go (main b) eq k = body_bad b (ap body_in eq) k
      go nothing eq k = absurd k
      go header eq k = absurd k
      go (format w ps) eq k = absurd k

  pub unreadable_bad : (e ≡ unknown) × (o ≡ nothing) → IsBadLine es os i
  unreadable_bad h = unreadable (at_e ∙ ap Some h.0) (at_o ∙ ap Some h.1)

  -- ---- and back

  lens_back : (d : LensValue) → slice_get os i ≡ Some (lens d) → IsBadLens es table before d → IsBadOwn es table before o
  lens_back d h k = subst (IsBadOwn es table before) (same_own (lens d) h) k

  body_back : (b : BodyValue) → HasBody os i b → IsBadBody table b → IsBadOwn es table before o
  body_back b h k = go h.0 (same_own h.0 h.1) h.2
    where
      go : (p : OwnValue) → p ≡ o → body_in p ≡ Some b → IsBadOwn es table before o
      go (lens d) eq has = let same : d.body ≡ b = cc in subst (IsBadOwn es table before) eq (bad_body (subst (IsBadBody table) (sym same) k))
      go (main c) eq has = let same : c ≡ b = cc in subst (IsBadOwn es table before) eq (subst (IsBadBody table) (sym same) k)
      go nothing eq has = let f : ⊥ = cc in absurd f
      go header eq has = let f : ⊥ = cc in absurd f
      go (format w ps) eq has = let f : ⊥ = cc in absurd f

  pub data Cause : Type 0 where
    by_place : (e ≡ unknown) × (o ≡ nothing) → Cause
    by_own : IsBadOwn es table before o → Cause
    by_node : IsBadNodeLine es i → Cause

  pub cause : IsBadLine es os i → Cause
  cause (unreadable h k) = by_place (sym (same_entry unknown h), sym (same_own nothing k))
  cause (of_node h) = by_node h
  cause (declared_twice {d} h k) =
      by_own (lens_back d h (not_first (λ first. declared_again os i d h table firsts (first ∙ ap Some is) k)))
  cause (names_no_source {d} h k) = by_own (lens_back d h (no_source k))
  cause (names_no_view {d} h k) = by_own (lens_back d h (no_view k))
  cause (calls_no_lens {l} {n} h k none) = by_own (body_back (term l) h (inr (n, k, no_place os table firsts n none)))
  cause (too_many_lenses {d} h k) = by_own (lens_back d h (too_many (subst (λ n. 200 ≤ n) (sym is) k)))
  cause (too_large h) = by_own (body_back oversized h tt)
  cause (too_long {l} h k) = by_own (body_back (term l) h (inl k))

  module _ (b1 b2 : Bool) (h1 : IsTrue b1 ↔ ((e ≡ unknown) × (o ≡ nothing))) (n1 : b1 ≡ false) (h2 : IsTrue b2 ↔ IsBadOwn es table before o)
      (n2 : b2 ≡ false) where
    not_own : IsBadLine es os i → IsBadNodeLine es i
    not_own bad = go (cause bad)
      where
        go : Cause → IsBadNodeLine es i
        go (by_place k) = absurd (true≢false (sym (h1.1 k) ∙ n1))
        go (by_own k) = absurd (true≢false (sym (h2.1 k) ∙ n2))
        go (by_node k) = k

    pub node_told : (b : Bool) → IsTrue b ↔ IsBadNodeLine es i → IsTrue b ↔ IsBadLine es os i
    node_told b h = (λ yes_bad. of_node (h.0 yes_bad), λ bad. h.1 (not_own bad))

    pub quiet_told : ((x : NodeLineValue) → e ≢ says x) → IsTrue false ↔ IsBadLine es os i
    quiet_told quiet = (
      λ f. absurd (true≢false (sym f)),
      λ bad.
          let k = bad_says es i (not_own bad) in absurd (quiet k.0 (sym (same_entry (says k.0) k.1))),
    )

-- a bad line is one of the file
pub bad_within : (es : List EntryValue) (os : List OwnValue) (i : ℕ) → length os ≡ length es → IsBadLine es os i → i < length es
bad_within es os i l (unreadable h k) = slice_get_within es i unknown h
bad_within es os i l (of_node bad) = let x = bad_says es i bad in slice_get_within es i (says x.0) x.1
bad_within es os i l (declared_twice {d} h k) = omega (arith, l, slice_get_within os i (lens d) h)
bad_within es os i l (names_no_source {d} h k) = omega (arith, l, slice_get_within os i (lens d) h)
bad_within es os i l (names_no_view {d} h k) = omega (arith, l, slice_get_within os i (lens d) h)
bad_within es os i l (calls_no_lens h k none) = omega (arith, l, slice_get_within os i h.0 h.1)
bad_within es os i l (too_many_lenses {d} h k) = omega (arith, l, slice_get_within os i (lens d) h)
bad_within es os i l (too_large h) = omega (arith, l, slice_get_within os i h.0 h.1)
bad_within es os i l (too_long h k) = omega (arith, l, slice_get_within os i h.0 h.1)

-- one line more
pub lenses_next : (os : List OwnValue) (i : ℕ) (o : OwnValue) → slice_get os i ≡ Some o
    → count_by is_lens (take i os) + from_bool (is_lens o) ≡ count_by is_lens (take (i + 1) os)
lenses_next os i o is = go (is_lens o) refl
  where
    go : (b : Bool) → is_lens o ≡ b → count_by is_lens (take i os) + from_bool b ≡ count_by is_lens (take (i + 1) os)
    go true told = sym (count_by_more_yes is_lens os i o (slice_get_within os i o is) (ap is_lens (get_or_from_slice_get os i o o is) ∙ told))
    go false told = let more = count_by_more_no is_lens os i o (slice_get_within os i o is)
        (ap is_lens (get_or_from_slice_get os i o o is) ∙ told) in omega arith

pub skipped_says : (e : EntryValue) → e ≡ skipped → (x : NodeLineValue) → e ≢ says x
skipped_says e is x h = let both : skipped ≡ says x = sym is ∙ h in let f : ⊥ = cc in f

pub unknown_says : (e : EntryValue) → e ≡ unknown → (x : NodeLineValue) → e ≢ says x
unknown_says e is x h = let both : unknown ≡ says x = sym is ∙ h in let f : ⊥ = cc in f
