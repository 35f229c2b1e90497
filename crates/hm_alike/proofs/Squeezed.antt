-- Words are put behind each other.
use Rattle.std.proofs.Common.{◌≡◌, ◌≢◌, true, false, List, [], ◌∷◌, ◌++◌, All, filter, refl, sym, ap, subst, ◌∙◌, append_assoc, append-nil, true≢false}
use Rattle.std.specs.Bool.{◌==◌}
use Rattle.std.specs.List.{join_with_byte, list_any}
use Rattle.std.proofs.lemmas.List.Splits.{slice_split_none}
use Rattle.std.proofs.lemmas.List.Elements.{filter-append, filter_passes, All-head}
use Rattle.hm_tree.specs.Names.{Name}
use Rattle.hm_alike.specs.Alike.{is_filled, squeezed}
use Rattle.hm_alike.proofs.NonePasses.{none_passes}
use Rattle.hm_alike.specs.Words.{with_word}

-- ---- a text with a word more

pub with_word-nothing : (text word : Name) → word ≡ [] → with_word text word ≡ text
with_word-nothing text word e = subst (λ w. with_word text w ≡ text) (sym e) (go text)
  where
    go : (text : Name) → with_word text [] ≡ text
    go [] = refl
    go (b ∷ text) = refl

pub with_word-first : (text word : Name) → text ≡ [] → with_word text word ≡ word
with_word-first text word e = ap (λ t. with_word t word) e

pub with_word-next : (text word : Name) → text ≢ [] → word ≢ [] → with_word text word ≡ text ++ 32 ∷ word
with_word-next [] word some full = absurd (some refl)
with_word-next (b ∷ text) [] some full = absurd (full refl)
with_word-next (b ∷ text) (d ∷ word) some full = refl

-- ---- words that are joined

-- words without the empty ones, with a space between each two
abbrev pub spaced : List Name → Name
spaced ws = join_with_byte 32 (filter is_filled ws)

join_push : (v : Name) (vs : List Name) (w : Name) → join_with_byte 32 (v ∷ vs) ++ 32 ∷ w ≡ join_with_byte 32 (v ∷ (vs ++ w ∷ []))
join_push v [] w = refl
join_push v (u ∷ us) w = append_assoc v (32 ∷ join_with_byte 32 (u ∷ us)) (32 ∷ w) ∙ ap (λ l. v ++ 32 ∷ l) (join_push u us w)

join_some : (v : Name) (vs : List Name) → is_filled v ≡ true → join_with_byte 32 (v ∷ vs) ≢ []
join_some [] vs h e = true≢false (sym h)
join_some (b ∷ v) [] h e = let no : ⊥ = cc in no
join_some (b ∷ v) (u ∷ us) h e = let f : ◌≡◌ {A = Name} (b ∷ (v ++ 32 ∷ join_with_byte 32 (u ∷ us))) [] = e in let no : ⊥ = cc in no

filled_some : (w : Name) → is_filled w ≡ true → w ≢ []
filled_some [] h e = true≢false (sym h)
filled_some (b ∷ w) h e = let no : ⊥ = cc in no

put_word : (vs : List Name) (w : Name) → All (λ v. is_filled v ≡ true) vs → is_filled w ≡ true
    → with_word (join_with_byte 32 vs) w ≡ join_with_byte 32 (vs ++ w ∷ [])
put_word [] w all full = refl
put_word (v ∷ vs) w all full =
    with_word-next (join_with_byte 32 (v ∷ vs)) w (join_some v vs (All-head (λ v. is_filled v ≡ true) v vs all)) (filled_some w full)
    ∙ join_push v vs w

pub spaced-push : (ws : List Name) (w : Name) → with_word (spaced ws) w ≡ spaced (ws ++ w ∷ [])
spaced-push ws w = go w ∙ ap (join_with_byte 32) (sym (filter-append is_filled ws (w ∷ [])))
  where
    go : (w : Name) → with_word (spaced ws) w ≡ join_with_byte 32 (filter is_filled ws ++ filter is_filled (w ∷ []))
    go [] = with_word-nothing (spaced ws) [] refl ∙ ap (join_with_byte 32) (sym (append-nil (filter is_filled ws)))
    go (b ∷ w) = put_word (filter is_filled ws) (b ∷ w) (filter_passes is_filled ws) refl

-- ---- a text without spaces

pub squeezed-itself : (n : Name) → list_any (λ b. b == 32) n ≡ false → squeezed n ≡ n
squeezed-itself n none =
    ap (λ ps. join_with_byte 32 (filter is_filled ps)) (slice_split_none (λ b. b == 32) n (none_passes (λ b. b == 32) n none)) ∙ go n
  where
    go : (n : Name) → join_with_byte 32 (filter is_filled (n ∷ [])) ≡ n
    go [] = refl
    go (b ∷ n) = refl
