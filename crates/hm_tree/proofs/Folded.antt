-- The folding of a text, and of one of ASCII alone.
use Rattle.std.proofs.Common.{◌≡◌, ◌≢◌, ◌↔◌, ℕ, ◌+◌, ◌<◌, ◌≤◌, Bool, true, false, not, ◌&&◌, List, [], ◌∷◌, ◌++◌, length, take, get_or, map, refl, sym, ap, ◌∙◌, subst, arith, inl, inr}
use Rattle.std.specs.Prelude.{IsAscii, IsUtf8, chars, encode_utf8_all}
use Rattle.std.specs.Char.{to_ascii_lowercase, is_ascii_uppercase}
use Rattle.std.proofs.lemmas.Bool.{and_parts, and_from, cases_Bool, not-true}
use Rattle.std.proofs.lemmas.Bool.Decides.{nat_tests}
use Rattle.std.proofs.lemmas.List.{take_more, take_all, map-append, same_from_push}
use Rattle.std.proofs.lemmas.Str.{chars-IsAscii, encodes-IsAscii, encodes-chars, chars_from_encodes}
use Rattle.std.proofs.lemmas.Str.Ascii.{IsAscii-nil, IsAscii-more, IsAscii-map, lowercase_ascii, All-from_ascii}
use Rattle.caseless.specs.Caseless.{default_case_fold}
use Rattle.caseless.proofs.CaselessLemmas.{default_case_fold-ascii}
use Rattle.hm_tree.specs.Classes.{folding}

-- the first i bytes are ASCII, and whether none of them is one of A to Z
pub record IsLowerSoFar (bs : List ℕ) (i : ℕ) (lower : Bool) : Type 0 where
  pub ascii : IsAscii (take i bs)
  pub is : (lower ≡ true) ↔ (map to_ascii_lowercase (take i bs) ≡ take i bs)

pub folding-ascii : (t : List ℕ) → IsAscii t → folding t ≡ map to_ascii_lowercase t
folding-ascii t h =
    ap (λ l. encode_utf8_all (default_case_fold l)) (chars-IsAscii t h)
    ∙ ap encode_utf8_all (default_case_fold-ascii t (All-from_ascii t h))
    ∙ encodes-IsAscii (map to_ascii_lowercase t) (IsAscii-map to_ascii_lowercase t lowercase_ascii h)

lower_is : (b : ℕ) → is_ascii_uppercase b ≡ false → to_ascii_lowercase b ≡ b
lower_is b h = grind (arith, nat_tests)

lower_not : (b : ℕ) → is_ascii_uppercase b ≡ true → to_ascii_lowercase b ≢ b
lower_not b h e = grind (arith, nat_tests)

pub lower_start : (bs : List ℕ) → IsLowerSoFar bs 0 true
lower_start bs = record { ascii = IsAscii-nil; is = (λ _. refl, λ _. refl) }

pub lower_more : (bs : List ℕ) (i : ℕ) (lower next : Bool) → i < length bs → get_or bs i 0 ≤ 127
    → next ≡ (lower && not (is_ascii_uppercase (get_or bs i 0))) → IsLowerSoFar bs i lower → IsLowerSoFar bs (i + 1) next
lower_more bs i lower next lt low e so = record {
  ascii = IsAscii-more bs i lt so.ascii (omega arith);
  is = (to, from);
}
  where
    split : map to_ascii_lowercase (take (i + 1) bs) ≡ map to_ascii_lowercase (take i bs) ++ to_ascii_lowercase (get_or bs i 0) ∷ []
    split = ap (map to_ascii_lowercase) (take_more bs i 0 lt) ∙ map-append to_ascii_lowercase (take i bs) (get_or bs i 0 ∷ [])

    to : next ≡ true → map to_ascii_lowercase (take (i + 1) bs) ≡ take (i + 1) bs
    to n =
        let parts = and_parts lower (not (is_ascii_uppercase (get_or bs i 0))) (sym e ∙ n) in
        let front = so.is.0 parts.0 in
        let last = lower_is (get_or bs i 0) (not-true _ parts.1) in
        split ∙ (λ j. front j ++ last j ∷ []) ∙ sym (take_more bs i 0 lt)

    from : map to_ascii_lowercase (take (i + 1) bs) ≡ take (i + 1) bs → next ≡ true
    from same =
        let both = same_from_push (map to_ascii_lowercase (take i bs)) (take i bs) (to_ascii_lowercase (get_or bs i 0)) (get_or bs i 0)
        (sym split ∙ same ∙ take_more bs i 0 lt) in
        e ∙ and_from lower (not (is_ascii_uppercase (get_or bs i 0))) (so.is.1 both.0)
        (elim (cases_Bool (is_ascii_uppercase (get_or bs i 0)))
        [ inl up ↦ absurd (lower_not (get_or bs i 0) up both.1) | inr down ↦ ap not down ])

pub lower_all : (bs : List ℕ) (i : ℕ) (lower : Bool) → length bs ≤ i → IsLowerSoFar bs i lower → (lower ≡ true) ↔ (folding bs ≡ bs)
lower_all bs i lower le so =
    let all = take_all i bs le in
    let ascii = subst IsAscii all so.ascii in
    let fold = folding-ascii bs ascii in
    let is : (lower ≡ true) ↔ (map to_ascii_lowercase bs ≡ bs) = rw all at so.is in
    (λ h. fold ∙ is.0 h, λ h. is.1 (sym fold ∙ h))

-- a text is its own folding where its characters are
pub folded_text : (t : List ℕ) → IsUtf8 t → (default_case_fold (chars t) ≡ chars t) ↔ (folding t ≡ t)
folded_text t text = (λ e. ap encode_utf8_all e ∙ encodes-chars t text, λ e. chars_from_encodes (default_case_fold (chars t)) t text e)
