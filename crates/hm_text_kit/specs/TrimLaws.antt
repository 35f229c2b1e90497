-- The laws of trimming.
use Rattle.std.proofs.Common.{◌≡◌, ◌≢◌, ℕ, zero, suc, ◌-◌, ◌<◌, ◌≤◌, true, false, List, [], ◌∷◌, ◌++◌, length, length-append, get_or, take, drop, Some, refl, sym, ap, ◌∙◌, subst, arith}
use Rattle.std.specs.Prelude.{◌==◌, reverse, slice_get, All, Any}
use Rattle.std.specs.Str.{IsUtf8}
use Rattle.std.proofs.Math.Seq.{take-append_seam, drop-append_seam}
use Rattle.std.proofs.lemmas.Bool.{eqb-true, true≢false, cond_both}
use Rattle.std.proofs.lemmas.List.{reverse-append, reverse-reverse, length-reverse, get_or-reverse}
use Rattle.std.proofs.lemmas.List.Elements.{All-nil, All-cons, All-from_get_or, All-get_or, All-tail}
use Rattle.std.proofs.lemmas.Option.{slice_get-get_or, get_or_from_slice_get}
use Rattle.std.proofs.lemmas.Str.{IsUtf8-from_ascii, IsUtf8-take, IsUtf8-drop, IsCharBoundary-from_take, IsCharBoundary-at_seam}
use Rattle.std.proofs.lemmas.Str.Ascii.{IsAscii-from_all}
use Rattle.hm_tree.specs.declared.class.Class.TheVariants.{Filled, Trimmed}
use Rattle.hm_tree.specs.Names.{Name}
use Rattle.hm_tree.specs.Classes.{IsFilled, IsTrimmed}
use Rattle.hm_tree.proofs.Texts.{text_test, text_tested}
use Rattle.hm_text_lens.specs.Meanings.{IsLawful}
use Rattle.hm_text_kit.specs.CleanLaws.{Kept, clean_from_kept, kept_from_clean}
use Rattle.hm_text_kit.specs.KindLaws.{normal_form_lawful}
use Rattle.hm_text_kit.specs.TextLaws.{IsText, Low}
use Rattle.hm_text_kit.specs.Trimmed.{skip_spaces, drop_spaces, trimmed, trimming}

space : (b : ℕ) → (b == 32) ≡ true → b ≡ 32
space b e = eqb-true b 32 e

-- ---- the front

front_free : (t : List ℕ) → slice_get (skip_spaces t) 0 ≢ Some 32
front_free [] = λ e. cc
front_free (b ∷ t) = cond_both (b == 32) (skip_spaces t) (b ∷ t) (λ l. slice_get l 0 ≢ Some 32) (λ _. front_free t)
    (λ no e. let is : b ≡ 32 = cc in let bad : true ≡ false = subst (λ (x : ℕ). (x == 32) ≡ false) is no in true≢false bad)

pub skip_same : (t : List ℕ) → slice_get t 0 ≢ Some 32 → skip_spaces t ≡ t
skip_same [] h = refl
skip_same (b ∷ t) h = cond_both (b == 32) (skip_spaces t) (b ∷ t) (λ l. l ≡ b ∷ t) (λ yes. absurd (h (ap Some (space b yes)))) (λ _. refl)

-- what is skipped stands before the rest, and is of ASCII
record Skipped (t rest : List ℕ) : Type 0 where
  front : List ℕ
  whole : t ≡ front ++ rest
  low : All Low front

nothing_skipped : (t : List ℕ) → Skipped t t
nothing_skipped t = record { front = []; whole = refl; low = All-nil Low }

skipped : (t : List ℕ) → Skipped t (skip_spaces t)
skipped [] = nothing_skipped []
skipped (b ∷ t) =
    let rest = skipped t in
    cond_both (b == 32) (skip_spaces t) (b ∷ t) (Skipped (b ∷ t))
    (λ yes. record {
      front = b ∷ rest.front;
      whole = ap (λ l. b ∷ l) rest.whole;
      low = let is = space b yes in All-cons Low b rest.front (omega arith) rest.low;
    })
    (λ _. nothing_skipped (b ∷ t))

All_skip : (P : ℕ → Type 0) (t : List ℕ) → All P t → All P (skip_spaces t)
All_skip P [] h = h
All_skip P (b ∷ t) h = cond_both (b == 32) (skip_spaces t) (b ∷ t) (All P) (λ _. All_skip P t (All-tail P b t h)) (λ _. h)

-- something other than a space is there
Any_skip : (t : List ℕ) → Any (λ b. b ≢ 32) t → Any (λ b. b ≢ 32) (skip_spaces t)
Any_skip [] h = h
Any_skip (b ∷ t) h = cond_both (b == 32) (skip_spaces t) (b ∷ t) (Any (λ b. b ≢ 32)) (λ yes. Any_skip t (later (space b yes) h.0 h.1 h.2 h.3 h.4)) (λ _. h)
  where
    later : b ≡ 32 → (k : ℕ) (x : ℕ) → k < suc (length t) → get_or (b ∷ t) k x ≡ x → x ≢ 32 → Any (λ b. b ≢ 32) t
    later is zero x lt at ne = absurd (ne (sym at ∙ is))
    later is (suc k) x lt at ne = (k, x, omega arith, at, ne)

-- ---- the end

All_reverse : (P : ℕ → Type 0) (t : List ℕ) → All P t → All P (reverse t)
All_reverse P t h = All-from_get_or P (reverse t) 0 (λ i lt.
    let l : i < length t = simp length-reverse at lt in
    rw (get_or-reverse t i 0 l) (All-get_or P t (length t - 1 - i) 0 (omega arith) h))

Any_reverse : (t : List ℕ) → Any (λ b. b ≢ 32) t → Any (λ b. b ≢ 32) (reverse t)
Any_reverse t h =
    let k = h.0 in
    let lt : k < length t = h.2 in
    let same : length t - 1 - (length t - 1 - k) ≡ k = omega arith in (
      length t - 1 - k,
      h.1,
      simp length-reverse (omega arith),
      get_or-reverse t (length t - 1 - k) h.1 (omega arith) ∙ ap (λ i. get_or t i h.1) same ∙ h.3,
      h.4,
    )

-- the last of a text turned round is its first
last_reverse : (t : List ℕ) → slice_get t 0 ≢ Some 32 → slice_get (reverse t) (length (reverse t) - 1) ≢ Some 32
last_reverse [] h = h
last_reverse (b ∷ t) h = λ e.
    let n : length (reverse (b ∷ t)) ≡ suc (length t) = length-reverse (b ∷ t) in
    let i : length (reverse (b ∷ t)) - 1 ≡ length t = omega arith in
    let at : slice_get (reverse (b ∷ t)) (length t) ≡ Some 32 = rw i at e in
    let got : get_or (reverse (b ∷ t)) (length t) 0 ≡ 32 = get_or_from_slice_get (reverse (b ∷ t)) (length t) 32 0 at in
    let z : suc (length t) - 1 - length t ≡ 0 = omega arith in
    let is : b ≡ 32 = sym (ap (λ i. get_or (b ∷ t) i 0) z) ∙ sym (get_or-reverse (b ∷ t) (length t) 0 (omega arith)) ∙ got in
    h (ap Some is)

front_append : (p q : List ℕ) → slice_get (p ++ q) 0 ≢ Some 32 → slice_get p 0 ≢ Some 32
front_append [] q h = λ e. cc
front_append (b ∷ p) q h = h

-- what is dropped stands behind the rest
dropped : (t : List ℕ) → t ≡ drop_spaces t ++ reverse (skipped (reverse t)).front
dropped t = let s = skipped (reverse t) in sym (reverse-reverse t) ∙ ap reverse s.whole ∙ reverse-append s.front (skip_spaces (reverse t))

front_kept : (t : List ℕ) → slice_get t 0 ≢ Some 32 → slice_get (drop_spaces t) 0 ≢ Some 32
front_kept t h =
    front_append (drop_spaces t) (reverse (skipped (reverse t)).front) (subst (λ (l : List ℕ). slice_get l 0 ≢ Some 32) (dropped t) h)

last_front : (t : List ℕ) → slice_get t (length t - 1) ≢ Some 32 → slice_get (reverse t) 0 ≢ Some 32
last_front t h e =
    let n : length (reverse t) ≡ length t = length-reverse t in
    let lt : 0 < length t = some t e in
    let got : get_or (reverse t) 0 0 ≡ 32 = get_or_from_slice_get (reverse t) 0 32 0 e in
    let z : length t - 1 - 0 ≡ length t - 1 = omega arith in
    let is : get_or t (length t - 1) 0 ≡ 32 = ap (λ i. get_or t i 0) (sym z) ∙ sym (get_or-reverse t 0 0 lt) ∙ got in
    h (slice_get-get_or t (length t - 1) 0 (omega arith) ∙ ap Some is)
  where
    some : (s : List ℕ) → slice_get (reverse s) 0 ≡ Some 32 → 0 < length s
    some [] e = let bad : ⊥ = cc in absurd bad
    some (b ∷ s) e = omega arith

pub drop_same : (t : List ℕ) → slice_get t (length t - 1) ≢ Some 32 → drop_spaces t ≡ t
drop_same t h = ap reverse (skip_same (reverse t) (last_front t h)) ∙ reverse-reverse t

-- ---- UTF-8

-- a text between ASCII is UTF-8 where the whole is
skipped_utf8 : (t : List ℕ) → IsUtf8 t → IsUtf8 (skip_spaces t)
skipped_utf8 t text =
    let s = skipped t in
    let front : IsUtf8 (take (length s.front) t) =
    subst IsUtf8 (sym (ap (take (length s.front)) s.whole ∙ take-append_seam s.front (skip_spaces t))) (IsUtf8-from_ascii s.front (IsAscii-from_all s.front s.low)) in
    let within : length s.front ≤ length t = omega (arith, ap length s.whole, length-append s.front (skip_spaces t)) in
    let cut = IsUtf8-drop t (length s.front) text (IsCharBoundary-from_take t (length s.front) text within front) in
    subst IsUtf8 (ap (drop (length s.front)) s.whole ∙ drop-append_seam s.front (skip_spaces t)) cut

dropped_utf8 : (t : List ℕ) → IsUtf8 t → IsUtf8 (drop_spaces t)
dropped_utf8 t text =
    let s = skipped (reverse t) in
    let back : IsUtf8 (reverse s.front) = IsUtf8-from_ascii (reverse s.front) (IsAscii-from_all (reverse s.front) (All_reverse Low s.front s.low)) in
    let cut = IsUtf8-take t (length (drop_spaces t)) text (IsCharBoundary-at_seam t (drop_spaces t) (reverse s.front) (dropped t) back) in
    subst IsUtf8 (ap (take (length (drop_spaces t))) (dropped t) ∙ take-append_seam (drop_spaces t) (reverse s.front)) cut

trimmed_text : (t : Name) → IsText t → IsText (trimmed t)
unfolding trimmed
trimmed_text t text = text_test (drop_spaces (skip_spaces t)) (dropped_utf8 (skip_spaces t) (skipped_utf8 t (text_tested t text)))

-- ---- classes

pub trims : (v : Name) → IsFilled v → IsTrimmed (trimmed v)
unfolding trimmed
trims v h = record {
  filled = record {
    clean = clean_from_kept _ (All_reverse Kept _ (All_skip Kept _ (All_reverse Kept _ (All_skip Kept v (kept_from_clean v h.clean)))));
    filled = Any_reverse _ (Any_skip _ (Any_reverse _ (Any_skip v h.filled)));
  };
  front = front_kept (skip_spaces v) (front_free v);
  back = last_reverse (skip_spaces (reverse (skip_spaces v))) (front_free (reverse (skip_spaces v)));
}

pub trimmed_same : (w : Name) → IsTrimmed w → trimmed w ≡ w
unfolding trimmed
trimmed_same w h = ap drop_spaces (skip_same w h.front) ∙ drop_same w h.back

pub trimming_lawful : (name : Name) → IsLawful (trimming name)
trimming_lawful name = normal_form_lawful name Filled Trimmed trimmed
    (λ v h. record { text = trimmed_text v h.text; in_class = trims v h.in_class }) (λ w h. h.filled) (λ w h. trimmed_same w h.in_class)
