-- Lines in their places, one after another.
use Rattle.std.proofs.Common.{◌≡◌, ℕ, ◌+◌, ◌<◌, ◌≤◌, Bool, true, false, cond, List, [], ◌∷◌, ◌++◌, length, take, slice_get, count_by, Some, refl, sym, ap, ◌∙◌, subst, arith, append_assoc, inl, inr}
use mathlib.Core.List.{append-nil}
use Rattle.std.proofs.lemmas.Grind.{common_steps}
use Rattle.std.proofs.lemmas.Option.{gets, slice_get_within, same_Some}
use Rattle.std.proofs.lemmas.Bool.{cases_lt}
use Rattle.std.proofs.lemmas.List.{length_push, take_all}
use Rattle.std.proofs.lemmas.List.Sums.{sum_by-cons}
use Rattle.hm_schema_lines.specs.Entries.{EntryValue, skipped, unknown, says, IsEntry}
use Rattle.hm_schema_lines.specs.BadLines.{is_counted}
use Rattle.hm_focal.specs.declared.lines.Stage.{Stage}
use Rattle.hm_focal.specs.declared.lines.Stage.TheVariants.{Header, Format, Nodes, Lenses, End}
use Rattle.hm_focal.specs.OwnLines.{OwnValue, nothing, header, format, lens, main, is_main, ends_nodes, IsOwn, IsReadOwn}
use Rattle.hm_focal.specs.Lines.{MayStand, IsEntryBehind, IsOwnBehind, AreLines}
use Rattle.hm_focal.specs.Stages.{IsStage, placed_entry, placed_own, next_stage}
use Rattle.hm_focal.proofs.Owns.{letter, letter_once}

module _ (es : List EntryValue) (os : List OwnValue) where
  -- ---- one line in its place

  pub entry_placed : (line : List ℕ) (s : Stage) → IsStage es os s → (e : EntryValue) → IsEntry line e
      → IsEntryBehind es os line (placed_entry s e)
  entry_placed line s h skipped k = k
  entry_placed line s h unknown k = (k.0, λ x n _. k.1 x n)
  entry_placed line Header h (says x) k = (k.0, λ y n p. omega (arith, h.0, p.0))
  entry_placed line Format h (says x) k = (k.0, λ y n p. omega (arith, h.0, p.0))
  entry_placed line Nodes h (says x) k = (k.0, k.1, (h.0, h.1))
  entry_placed line Lenses h (says x) k = (k.0, λ y n p. omega (arith, h.1, p.1))
  entry_placed line End h (says x) k = (k.0, λ y n p. omega (arith, h.1, p.1))

  -- lines of one kind may stand in the same places
  same_place : (o p : OwnValue) → letter o ≡ letter p → MayStand es os o → MayStand es os p
  same_place o p e h = go o p e h
    where
      go : (o p : OwnValue) → letter o ≡ letter p → MayStand es os o → MayStand es os p
      go o nothing e h = tt
      go header header e h = h
      go (format w ps) (format v qs) e h = h
      go (lens d) (lens f) e h = h
      go (main b) (main c) e h = h
      go (lens d) (main c) e h = h
      go (main b) (lens f) e h = h
      go nothing header e h = absurd (omega (arith, e))
      go nothing (format v qs) e h = absurd (omega (arith, e))
      go nothing (lens f) e h = absurd (omega (arith, e))
      go nothing (main c) e h = absurd (omega (arith, e))
      go header (format v qs) e h = absurd (omega (arith, e))
      go header (lens f) e h = absurd (omega (arith, e))
      go header (main c) e h = absurd (omega (arith, e))
      go (format w ps) header e h = absurd (omega (arith, e))
      go (format w ps) (lens f) e h = absurd (omega (arith, e))
      go (format w ps) (main c) e h = absurd (omega (arith, e))
      go (lens d) header e h = absurd (omega (arith, e))
      go (lens d) (format v qs) e h = absurd (omega (arith, e))
      go (main b) header e h = absurd (omega (arith, e))
      go (main b) (format v qs) e h = absurd (omega (arith, e))

  out_of_place : (line : List ℕ) (o : OwnValue) → IsOwn line o → ¬ (MayStand es os o) → (p : OwnValue) → IsOwn line p → ¬ (MayStand es os p)
  out_of_place line o h none p k m = none (same_place p o (letter_once line p o k h) m)

  pub own_placed : (line : List ℕ) (s : Stage) → IsStage es os s → (o : OwnValue) → IsReadOwn line o
      → IsOwnBehind es os line (placed_own s o)
  own_placed line s h nothing k = λ p is _. k p is
  own_placed line Header h header k = (k, h.0)
  own_placed line Format h header k = out_of_place line header k (λ m. omega (arith, h.0, m))
  own_placed line Nodes h header k = out_of_place line header k (λ m. omega (arith, h.0, m))
  own_placed line Lenses h header k = out_of_place line header k (λ m. omega (arith, h.0, m))
  own_placed line End h header k = out_of_place line header k (λ m. omega (arith, h.0, m))
  own_placed line Header h (format w ps) k = out_of_place line (format w ps) k (λ m. omega (arith, h.0, m))
  own_placed line Format h (format w ps) k = (k, h.0)
  own_placed line Nodes h (format w ps) k = out_of_place line (format w ps) k (λ m. omega (arith, h.0, m))
  own_placed line Lenses h (format w ps) k = out_of_place line (format w ps) k (λ m. omega (arith, h.0, m))
  own_placed line End h (format w ps) k = out_of_place line (format w ps) k (λ m. omega (arith, h.0, m))
  own_placed line Header h (lens d) k = out_of_place line (lens d) k (λ m. omega (arith, h.0, m.0))
  own_placed line Format h (lens d) k = out_of_place line (lens d) k (λ m. omega (arith, h.0, m.0))
  own_placed line Nodes h (lens d) k = (k, (h.0, h.2))
  own_placed line Lenses h (lens d) k = (k, (h.0, h.2))
  own_placed line End h (lens d) k = out_of_place line (lens d) k (λ m. omega (arith, h.2, m.1))
  own_placed line Header h (main b) k = out_of_place line (main b) k (λ m. omega (arith, h.0, m.0))
  own_placed line Format h (main b) k = out_of_place line (main b) k (λ m. omega (arith, h.0, m.0))
  own_placed line Nodes h (main b) k = (k, (h.0, h.2))
  own_placed line Lenses h (main b) k = (k, (h.0, h.2))
  own_placed line End h (main b) k = out_of_place line (main b) k (λ m. omega (arith, h.2, m.1))

-- ---- one line more

pub count_push : {X : Type 0} (p : X → Bool) (xs : List X) (x : X) → count_by p (xs ++ x ∷ []) ≡ count_by p xs + cond (p x) 1 0
count_push p [] x = sum_by-cons (λ y. cond (p y) 1 0) x [] ∙ plus_zero (cond (p x) 1 0)
  where
    plus_zero : (n : ℕ) → n + 0 ≡ 0 + n
    plus_zero n = omega arith
count_push p (y ∷ xs) x =
    let whole = sum_by-cons (λ z. cond (p z) 1 0) y (xs ++ x ∷ []) in
    let front = sum_by-cons (λ z. cond (p z) 1 0) y xs in
    let rest = count_push p xs x in
    omega arith

module _ (es : List EntryValue) (os : List OwnValue) (e : EntryValue) where
  more : (b : Bool) → is_counted e ≡ b → count_by is_counted (es ++ e ∷ []) ≡ count_by is_counted es + cond b 1 0
  more b is = count_push is_counted es e ∙ ap (λ (z : Bool). count_by is_counted es + cond z 1 0) is

  at_least : count_by is_counted es ≤ count_by is_counted (es ++ e ∷ [])
  at_least = let m = count_push is_counted es e in omega arith

  -- a line of the file's own that ends nothing
  module _ (o : OwnValue) (ends : ends_nodes o ≡ false) (mains : is_main o ≡ false) where
    no_end : count_by ends_nodes (os ++ o ∷ []) ≡ count_by ends_nodes os
    no_end = let m = count_push ends_nodes os o ∙ ap (λ (z : Bool). count_by ends_nodes os + cond z 1 0) ends in omega arith

    no_main : count_by is_main (os ++ o ∷ []) ≡ count_by is_main os
    no_main = let m = count_push is_main os o ∙ ap (λ (z : Bool). count_by is_main os + cond z 1 0) mains in omega arith

    quiet : (s : Stage) → IsStage es os s → IsStage (es ++ e ∷ []) (os ++ o ∷ []) (next_stage s (is_counted e) nothing)
    quiet Header h = go (is_counted e) refl
      where
        go : (b : Bool) → is_counted e ≡ b → IsStage (es ++ e ∷ []) (os ++ o ∷ []) (next_stage Header b nothing)
        go true is = (omega (arith, more true is, h.0), no_end ∙ h.1, no_main ∙ h.2)
        go false is = (omega (arith, more false is, h.0), no_end ∙ h.1, no_main ∙ h.2)
    quiet Format h = go (is_counted e) refl
      where
        go : (b : Bool) → is_counted e ≡ b → IsStage (es ++ e ∷ []) (os ++ o ∷ []) (next_stage Format b nothing)
        go true is = (omega (arith, more true is, h.0), no_end ∙ h.1, no_main ∙ h.2)
        go false is = (omega (arith, more false is, h.0), no_end ∙ h.1, no_main ∙ h.2)
    quiet Nodes h = (omega (arith, at_least, h.0), no_end ∙ h.1, no_main ∙ h.2)
    quiet Lenses h = (omega (arith, at_least, h.0), omega (arith, no_end, h.1), no_main ∙ h.2)
    quiet End h = (omega (arith, at_least, h.0), omega (arith, no_end, h.1), omega (arith, no_main, h.2))

  some_end : (o : OwnValue) → ends_nodes o ≡ true → 0 < count_by ends_nodes (os ++ o ∷ [])
  some_end o ends = let m = count_push ends_nodes os o ∙ ap (λ (z : Bool). count_by ends_nodes os + cond z 1 0) ends in omega arith

  some_main : (o : OwnValue) → is_main o ≡ true → 0 < count_by is_main (os ++ o ∷ [])
  some_main o ends = let m = count_push is_main os o ∙ ap (λ (z : Bool). count_by is_main os + cond z 1 0) ends in omega arith

  not_main : (o : OwnValue) → is_main o ≡ false → count_by is_main (os ++ o ∷ []) ≡ count_by is_main os
  not_main o ends = let m = count_push is_main os o ∙ ap (λ (z : Bool). count_by is_main os + cond z 1 0) ends in omega arith

  -- what may stand behind a line that is in its place
  pub stage_next : (s : Stage) → IsStage es os s → (o : OwnValue)
      → IsStage (es ++ e ∷ []) (os ++ placed_own s o ∷ []) (next_stage s (is_counted e) (placed_own s o))
  stage_next Header h nothing = quiet nothing refl refl Header h
  stage_next Header h header = quiet header refl refl Header h
  stage_next Header h (format w ps) = quiet nothing refl refl Header h
  stage_next Header h (lens d) = quiet nothing refl refl Header h
  stage_next Header h (main b) = quiet nothing refl refl Header h
  stage_next Format h nothing = quiet nothing refl refl Format h
  stage_next Format h header = quiet nothing refl refl Format h
  stage_next Format h (format w ps) = quiet (format w ps) refl refl Format h
  stage_next Format h (lens d) = quiet nothing refl refl Format h
  stage_next Format h (main b) = quiet nothing refl refl Format h
  stage_next Nodes h nothing = quiet nothing refl refl Nodes h
  stage_next Nodes h header = quiet nothing refl refl Nodes h
  stage_next Nodes h (format w ps) = quiet nothing refl refl Nodes h
  stage_next Nodes h (lens d) = (omega (arith, at_least, h.0), some_end (lens d) refl, not_main (lens d) refl ∙ h.2)
  stage_next Nodes h (main b) = (omega (arith, at_least, h.0), some_end (main b) refl, some_main (main b) refl)
  stage_next Lenses h nothing = quiet nothing refl refl Lenses h
  stage_next Lenses h header = quiet nothing refl refl Lenses h
  stage_next Lenses h (format w ps) = quiet nothing refl refl Lenses h
  stage_next Lenses h (lens d) = (omega (arith, at_least, h.0), some_end (lens d) refl, not_main (lens d) refl ∙ h.2)
  stage_next Lenses h (main b) = (omega (arith, at_least, h.0), some_end (main b) refl, some_main (main b) refl)
  stage_next End h nothing = quiet nothing refl refl End h
  stage_next End h header = quiet nothing refl refl End h
  stage_next End h (format w ps) = quiet nothing refl refl End h
  stage_next End h (lens d) = quiet nothing refl refl End h
  stage_next End h (main b) = quiet nothing refl refl End h

-- ---- all lines

module _ {X : Type 0} where
  take_push : (xs : List X) (x : X) (i : ℕ) → i ≤ length xs → take i (xs ++ x ∷ []) ≡ take i xs
  take_push xs x i below = grind (arith, common_steps, gets)

  pub get_push : (xs : List X) (x : X) (i : ℕ) → i < length xs → slice_get (xs ++ x ∷ []) i ≡ slice_get xs i
  get_push xs x i below = grind (arith, common_steps, gets)

  pub get_last : (xs : List X) (x : X) (n : ℕ) → n ≡ length xs → slice_get (xs ++ x ∷ []) n ≡ Some x
  get_last xs x n is = grind (arith, common_steps, gets)

module _ (ts : List (List ℕ)) (es : List EntryValue) (os : List OwnValue) (h : AreLines ts es os) (line : List ℕ) (e : EntryValue) (o : OwnValue)
    (ke : IsEntryBehind es os line e) (ko : IsOwnBehind es os line o) where
  le : length es ≡ length ts
  le = h.entries

  lo : length os ≡ length ts
  lo = h.own

  entry_step : (i : ℕ) (t : List ℕ) (x : EntryValue) → slice_get (ts ++ line ∷ []) i ≡ Some t → slice_get (es ++ e ∷ []) i ≡ Some x
      → IsEntryBehind (take i (es ++ e ∷ [])) (take i (os ++ o ∷ [])) t x
  entry_step i t x at is = elim (cases_lt i (length ts)) [
    | inl below ↦
        subst (λ (z : List EntryValue × List OwnValue). IsEntryBehind z.0 z.1 t x)
        (λ j. (sym (take_push es e i (omega (arith, below, le))) j, sym (take_push os o i (omega (arith, below, lo))) j))
        (h.entry_at i t x (sym (get_push ts line i below) ∙ at) (sym (get_push es e i (omega (arith, below, le))) ∙ is))
    | inr above ↦
        let within = slice_get_within (ts ++ line ∷ []) i t at in
        let last : i ≡ length ts = omega (arith, length_push ts line) in
        let text : line ≡ t = same_Some line t (sym (get_last ts line i last) ∙ at) in
        let here : e ≡ x = same_Some e x (sym (get_last es e i (last ∙ sym le)) ∙ is) in
        subst (λ (z : (List EntryValue × List OwnValue) × (List ℕ × EntryValue)). IsEntryBehind z.0.0 z.0.1 z.1.0 z.1.1)
        (λ j. (
          (
            sym (take_push es e i (omega (arith, last, le)) ∙ take_all i es (omega (arith, last, le))) j,
            sym (take_push os o i (omega (arith, last, lo)) ∙ take_all i os (omega (arith, last, lo))) j,
          ),
          (text j, here j),
        ))
        ke
  ]

  own_step : (i : ℕ) (t : List ℕ) (x : OwnValue) → slice_get (ts ++ line ∷ []) i ≡ Some t → slice_get (os ++ o ∷ []) i ≡ Some x
      → IsOwnBehind (take i (es ++ e ∷ [])) (take i (os ++ o ∷ [])) t x
  own_step i t x at is = elim (cases_lt i (length ts)) [
    | inl below ↦
        subst (λ (z : List EntryValue × List OwnValue). IsOwnBehind z.0 z.1 t x)
        (λ j. (sym (take_push es e i (omega (arith, below, le))) j, sym (take_push os o i (omega (arith, below, lo))) j))
        (h.own_at i t x (sym (get_push ts line i below) ∙ at) (sym (get_push os o i (omega (arith, below, lo))) ∙ is))
    | inr above ↦
        let within = slice_get_within (ts ++ line ∷ []) i t at in
        let last : i ≡ length ts = omega (arith, length_push ts line) in
        let text : line ≡ t = same_Some line t (sym (get_last ts line i last) ∙ at) in
        let here : o ≡ x = same_Some o x (sym (get_last os o i (last ∙ sym lo)) ∙ is) in
        subst (λ (z : (List EntryValue × List OwnValue) × (List ℕ × OwnValue)). IsOwnBehind z.0.0 z.0.1 z.1.0 z.1.1)
        (λ j. (
          (
            sym (take_push es e i (omega (arith, last, le)) ∙ take_all i es (omega (arith, last, le))) j,
            sym (take_push os o i (omega (arith, last, lo)) ∙ take_all i os (omega (arith, last, lo))) j,
          ),
          (text j, here j),
        ))
        ko
  ]

  lines_next : AreLines (ts ++ line ∷ []) (es ++ e ∷ []) (os ++ o ∷ [])
  lines_next = record {
    entries = omega (arith, length_push es e, length_push ts line, le);
    own = omega (arith, length_push os o, length_push ts line, lo);
    entry_at = entry_step;
    own_at = own_step;
  }

-- ---- the loop

pub record IsReadTo (whole rest : List (List ℕ)) (es : List EntryValue) (os : List OwnValue) (s : Stage) : Type 0 where
  pub read : List (List ℕ)
  pub is : whole ≡ read ++ rest
  pub lines : AreLines read es os
  pub stage : IsStage es os s

pub none_read : (whole : List (List ℕ)) (es : List EntryValue) (os : List OwnValue) → es ≡ [] → os ≡ [] → IsReadTo whole whole es os Header
none_read whole es os e o = subst (λ (z : List EntryValue × List OwnValue). IsReadTo whole whole z.0 z.1 Header) (λ j. (sym e j, sym o j)) start
  where
    start : IsReadTo whole whole [] [] Header
    start = record {
      read = [];
      is = refl;
      lines = record {
        entries = refl;
        own = refl;
        entry_at = λ i t x at is. let f : ⊥ = cc in absurd f;
        own_at = λ i t x at is. let f : ⊥ = cc in absurd f;
      };
      stage = (refl, refl, refl);
    }

pub one_read : (whole rest next : List (List ℕ)) (es new_es : List EntryValue) (os new_os : List OwnValue) (s t : Stage)
    → IsReadTo whole rest es os s → (line : List ℕ) → rest ≡ line ∷ next → (e f : EntryValue) → IsEntry line e → f ≡ placed_entry s e
    → (o p : OwnValue) → IsReadOwn line o → p ≡ placed_own s o → t ≡ next_stage s (is_counted f) p → new_es ≡ es ++ f ∷ []
    → new_os ≡ os ++ p ∷ [] → IsReadTo whole next new_es new_os t
one_read whole rest next es new_es os new_os s t h line cut e f ke fe o p ko po te ee eo = record {
  read = h.read ++ line ∷ [];
  is = h.is ∙ ap (λ (z : List (List ℕ)). h.read ++ z) cut ∙ sym (append_assoc h.read (line ∷ []) next);
  lines = subst (λ (z : List EntryValue × List OwnValue). AreLines (h.read ++ line ∷ []) z.0 z.1) (λ j. (sym ee j, sym eo j))
      (lines_next h.read es os h.lines line f p
      (subst (IsEntryBehind es os line) (sym fe) (entry_placed es os line s h.stage e ke))
      (subst (IsOwnBehind es os line) (sym po) (own_placed es os line s h.stage o ko)));
  stage = subst (λ (z : (List EntryValue × List OwnValue) × Stage). IsStage z.0.0 z.0.1 z.1) (λ j. ((sym ee j, sym eo j), sym te j))
      (subst (λ (z : OwnValue). IsStage (es ++ f ∷ []) (os ++ z ∷ []) (next_stage s (is_counted f) z)) (sym po) (stage_next es os f s h.stage o));
}

pub all_read : (whole rest : List (List ℕ)) (es : List EntryValue) (os : List OwnValue) (s : Stage) → IsReadTo whole rest es os s → rest ≡ []
    → AreLines whole es os
all_read whole rest es os s h e = subst (λ (z : List (List ℕ)). AreLines z es os)
    (sym (h.is ∙ ap (λ (z : List (List ℕ)). h.read ++ z) e ∙ append-nil h.read)) h.lines
