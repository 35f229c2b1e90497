-- A lens file has one list of lines: each says one thing alone, and has one place alone where it may stand.
use Rattle.std.proofs.Common.{◌≡◌, ◌⊎◌, inl, inr, ℕ, zero, suc, ◌<◌, ◌≤◌, true, List, [], ◌∷◌, ◌++◌, length, get_or, take, slice_get, count_by, Some, refl, sym, ap, ◌∙◌, subst, arith}
use Rattle.std.specs.Prelude.{codes}
use Rattle.std.specs.List.{Contains}
use Rattle.std.proofs.lemmas.List.{take_all}
use Rattle.std.proofs.lemmas.Option.{slice_get_within, slice_get-get_or}
use Rattle.hm_tree.specs.Names.{Name}
use Rattle.hm_tree.proofs.Kept.{take_more}
use Rattle.hm_terms.specs.Lenses.{Lens}
use Rattle.hm_focal_terms.proofs.Laws.{one_term}
use Rattle.hm_schema_lines.specs.Entries.{EntryValue, skipped, unknown, says, IsSkipped}
use Rattle.hm_schema_lines.specs.BadLines.{is_counted}
use Rattle.hm_schema_lines.proofs.Laws.{line_once, more_before, at_place}
use Rattle.hm_focal.specs.OwnLines.{BodyValue, term, oversized, LensValue, OwnValue, nothing, header, format, lens, main, is_main, IsBody, IsLensLine, IsMainLine, IsOwn}
use Rattle.hm_focal.specs.Lines.{MayStand, IsEntryBehind, IsOwnBehind, AreLines}
use Rattle.hm_focal.proofs.Formats.{format_once}
use Rattle.hm_focal.proofs.Heads.{headed_once}
use Rattle.hm_focal.proofs.Owns.{letter, letter_once}
use Rattle.hm_focal.proofs.LineKinds.{own_entry}

-- ---- what a line says

body_once : (text : List ℕ) (b c : BodyValue) → IsBody text b → IsBody text c → b ≡ c
body_once text (term l) (term k) h g = ap term (one_term text l k h.2 g.2)
body_once text (term l) oversized h g = absurd (h.1 g.1)
body_once text oversized (term k) h g = absurd (g.1 h.1)
body_once text oversized oversized h g = refl

lens_line_once : (line : List ℕ) (d e : LensValue) → IsLensLine line d → IsLensLine line e → d ≡ e
lens_line_once line d e h k =
    let head = headed_once line (codes "lens" ∷ d.name ∷ d.source ∷ d.view ∷ []) (codes "lens" ∷ e.name ∷ e.source ∷ e.view ∷ []) h.0 k.0 h.1 k.1 in
    let words = head.0 in
    let name : d.name ≡ e.name = cc in
    let source : d.source ≡ e.source = cc in
    let view : d.view ≡ e.view = cc in
    let body = body_once k.0 d.body e.body (subst (λ (z : List ℕ). IsBody z d.body) head.1 h.2) k.2 in
    λ i. record { name = name i; source = source i; view = view i; body = body i }

main_line_once : (line : List ℕ) (b c : BodyValue) → IsMainLine line b → IsMainLine line c → b ≡ c
main_line_once line b c h k =
    let head = headed_once line (codes "main" ∷ []) (codes "main" ∷ []) h.0 k.0 h.1 k.1 in
    body_once k.0 b c (subst (λ (z : List ℕ). IsBody z b) head.1 h.2) k.2

own_once : (line : List ℕ) (o p : OwnValue) → IsOwn line o → IsOwn line p → o ≡ p
own_once line o p h k = go o p (letter_once line o p h k) h k
  where
    go : (o p : OwnValue) → letter o ≡ letter p → IsOwn line o → IsOwn line p → o ≡ p
    go nothing p e h k = absurd h
    go o nothing e h k = absurd k
    go header header e h k = refl
    go (format w ps) (format v qs) e h k = let same = format_once line w v ps qs h k in λ i. format (same.0 i) (same.1 i)
    go (lens d) (lens f) e h k = ap lens (lens_line_once line d f h k)
    go (main b) (main c) e h k = ap main (main_line_once line b c h k)
    go header (format v qs) e h k = absurd (omega (arith, e))
    go header (lens f) e h k = absurd (omega (arith, e))
    go header (main c) e h k = absurd (omega (arith, e))
    go (format w ps) header e h k = absurd (omega (arith, e))
    go (format w ps) (lens f) e h k = absurd (omega (arith, e))
    go (format w ps) (main c) e h k = absurd (omega (arith, e))
    go (lens d) header e h k = absurd (omega (arith, e))
    go (lens d) (format v qs) e h k = absurd (omega (arith, e))
    go (lens d) (main c) e h k = absurd (omega (arith, e))
    go (main b) header e h k = absurd (omega (arith, e))
    go (main b) (format v qs) e h k = absurd (omega (arith, e))
    go (main b) (lens f) e h k = absurd (omega (arith, e))

-- ---- a line behind others

module _ (es : List EntryValue) (os : List OwnValue) (line : List ℕ) where
  entry_behind_once : (d e : EntryValue) → IsEntryBehind es os line d → IsEntryBehind es os line e → d ≡ e
  entry_behind_once skipped skipped h k = refl
  entry_behind_once skipped unknown h k = absurd (k.0 h)
  entry_behind_once skipped (says y) h k = absurd (k.0 h)
  entry_behind_once unknown skipped h k = absurd (h.0 k)
  entry_behind_once unknown unknown h k = refl
  entry_behind_once unknown (says y) h k = absurd (h.1 y k.1 k.2)
  entry_behind_once (says x) skipped h k = absurd (h.0 k)
  entry_behind_once (says x) unknown h k = absurd (k.1 x h.1 h.2)
  entry_behind_once (says x) (says y) h k = ap says (line_once line x y h.1 k.1)

  -- it says something in its place, or nothing
  stands : (o : OwnValue) → IsOwnBehind es os line o → (o ≡ nothing) ⊎ (IsOwn line o × MayStand es os o)
  stands nothing h = inl refl
  stands header h = inr h
  stands (format w ps) h = inr h
  stands (lens d) h = inr h
  stands (main b) h = inr h

  not_nothing : (o p : OwnValue) → o ≡ nothing → IsOwnBehind es os line o → IsOwn line p → MayStand es os p → ⊥
  not_nothing o p e h is may = subst (IsOwnBehind es os line) e h p is may

  own_behind_once : (o p : OwnValue) → IsOwnBehind es os line o → IsOwnBehind es os line p → o ≡ p
  own_behind_once o p h k = go (stands o h) (stands p k)
    where
      go : (o ≡ nothing) ⊎ (IsOwn line o × MayStand es os o) → (p ≡ nothing) ⊎ (IsOwn line p × MayStand es os p) → o ≡ p
      go (inl e) (inl f) = e ∙ sym f
      go (inl e) (inr f) = absurd (not_nothing o p e h f.0 f.1)
      go (inr e) (inl f) = absurd (not_nothing p o f k e.0 e.1)
      go (inr e) (inr f) = own_once line o p e.0 f.0

  not_skipped : (e : EntryValue) → IsEntryBehind es os line e → ¬ (IsSkipped line) → is_counted e ≡ true
  not_skipped skipped h none = absurd (none h)
  not_skipped unknown h none = refl
  not_skipped (says x) h none = refl

-- ---- all lines

module _ (texts : List (List ℕ)) (es fs : List EntryValue) (os ps : List OwnValue) (h : AreLines texts es os) (k : AreLines texts fs ps) where
  same_up_to : (i : ℕ) → i ≤ length texts → (take i es ≡ take i fs) × (take i os ≡ take i ps)
  same_up_to zero within = (refl, refl)
  same_up_to (suc i) within =
      let before = same_up_to i (omega (arith, within)) in
      let line = get_or texts i [] in
      let text : slice_get texts i ≡ Some line = slice_get-get_or texts i [] (omega (arith, within)) in
      let e = get_or es i skipped in
      let e_at : slice_get es i ≡ Some e = slice_get-get_or es i skipped (omega (arith, within, h.entries)) in
      let f = get_or fs i skipped in
      let f_at : slice_get fs i ≡ Some f = slice_get-get_or fs i skipped (omega (arith, within, k.entries)) in
      let o = get_or os i nothing in
      let o_at : slice_get os i ≡ Some o = slice_get-get_or os i nothing (omega (arith, within, h.own)) in
      let p = get_or ps i nothing in
      let p_at : slice_get ps i ≡ Some p = slice_get-get_or ps i nothing (omega (arith, within, k.own)) in
      let entry : e ≡ f = entry_behind_once (take i fs) (take i ps) line e f
      (subst (λ (z : List EntryValue × List OwnValue). IsEntryBehind z.0 z.1 line e) (λ j. (before.0 j, before.1 j)) (h.entry_at i line e text e_at))
      (k.entry_at i line f text f_at) in
      let own : o ≡ p = own_behind_once (take i fs) (take i ps) line o p
      (subst (λ (z : List EntryValue × List OwnValue). IsOwnBehind z.0 z.1 line o) (λ j. (before.0 j, before.1 j)) (h.own_at i line o text o_at))
      (k.own_at i line p text p_at) in (
        take_more es i e e_at ∙ (λ j. before.0 j ++ entry j ∷ []) ∙ sym (take_more fs i f f_at),
        take_more os i o o_at ∙ (λ j. before.1 j ++ own j ∷ []) ∙ sym (take_more ps i p p_at),
      )

  pub lines_once : (es ≡ fs) × (os ≡ ps)
  lines_once =
      let n = length texts in
      let all = same_up_to n (omega arith) in (
        sym (take_all n es (omega (arith, h.entries))) ∙ all.0 ∙ take_all n fs (omega (arith, k.entries)),
        sym (take_all n os (omega (arith, h.own))) ∙ all.1 ∙ take_all n ps (omega (arith, k.own)),
      )

-- ---- the format line and the main line

module _ (texts : List (List ℕ)) (es : List EntryValue) (os : List OwnValue) (read : AreLines texts es os) where
  own_there : (i : ℕ) (o : OwnValue) → slice_get os i ≡ Some o → IsOwnBehind (take i es) (take i os) (get_or texts i []) o
  own_there i o at =
      read.own_at i (get_or texts i []) o
      (slice_get-get_or texts i [] (omega (arith, slice_get_within os i o at, read.own))) at

  -- a line of the file's own isn't skipped
  more_counted : (i j : ℕ) (o : OwnValue) → slice_get os i ≡ Some o → IsOwn (get_or texts i []) o → i < j
      → count_by is_counted (take i es) < count_by is_counted (take j es)
  more_counted i j o at is below =
      let within = slice_get_within os i o at in
      let line = get_or texts i [] in
      let e = get_or es i skipped in
      let e_at : slice_get es i ≡ Some e = slice_get-get_or es i skipped (omega (arith, within, read.entries, read.own)) in
      let text : slice_get texts i ≡ Some line = slice_get-get_or texts i [] (omega (arith, within, read.own)) in
      more_before is_counted es i j e e_at
      (not_skipped (take i es) (take i os) line e (read.entry_at i line e text e_at) (own_entry line o is).0) below

  no_later_format : (i j : ℕ) (w v : Name) (ps qs : List (Name × List Name)) → slice_get os i ≡ Some (format w ps)
      → slice_get os j ≡ Some (format v qs) → ¬ (i < j)
  no_later_format i j w v ps qs at to below =
      let one = own_there i (format w ps) at in
      let two = own_there j (format v qs) to in
      omega (arith, more_counted i j (format w ps) at one.0 below, one.1, two.1)

  no_later_main : (i j : ℕ) (b c : BodyValue) → slice_get os i ≡ Some (main b) → slice_get os j ≡ Some (main c) → ¬ (i < j)
  no_later_main i j b c at to below =
      let two = own_there j (main c) to in
      omega (arith, more_before is_main os i j (main b) at refl below, two.1.1)

  pub one_format : (w v : Name) (ps qs : List (Name × List Name)) → Contains os (format w ps) → Contains os (format v qs) → (w ≡ v) × (ps ≡ qs)
  one_format w v ps qs h k =
      let a = at_place os (format w ps) h in
      let b = at_place os (format v qs) k in
      let place : a.0 ≡ b.0 = omega (arith, no_later_format a.0 b.0 w v ps qs a.1 b.1, no_later_format b.0 a.0 v w qs ps b.1 a.1) in
      let both : Some (format w ps) ≡ Some (format v qs) = sym a.1 ∙ ap (slice_get os) place ∙ b.1 in
      let word : w ≡ v = cc in
      let pairs : ps ≡ qs = cc in
      (word, pairs)

  pub one_main : (l k : Lens) → Contains os (main (term l)) → Contains os (main (term k)) → l ≡ k
  one_main l k h g =
      let a = at_place os (main (term l)) h in
      let b = at_place os (main (term k)) g in
      let place : a.0 ≡ b.0 =
      omega (arith, no_later_main a.0 b.0 (term l) (term k) a.1 b.1, no_later_main b.0 a.0 (term k) (term l) b.1 a.1) in
      let both : Some (main (term l)) ≡ Some (main (term k)) = sym a.1 ∙ ap (slice_get os) place ∙ b.1 in
      let same : l ≡ k = cc in
      same
