-- A tail is found, behind the white space that it begins with.
use Rattle.std.proofs.Common.{◌≡◌, ◌⊎◌, inl, inr, ℕ, true, List, [], ◌∷◌, ◌++◌, take, refl, sym, ap, ◌∙◌, subst}
use Rattle.std.proofs.lemmas.List.{append-nil, take-append-drop}
use Rattle.hm_marks_tokens.specs.Bytes.{is_white}
use Rattle.hm_marks_tokens.specs.Tokens.{Token, tag, text, IsNext}
use Rattle.hm_marks_tokens.specs.Symbols.{paragraph, symbol_of}
use Rattle.hm_marks_tokens.specs.Attributes.{white_len}
use Rattle.hm_netscape_files.specs.Heads.{behind_white}
use Rattle.hm_netscape_files.specs.Tails.{IsTail, blank, with_paragraph}
use Rattle.hm_netscape_files.proofs.Whites.{white_front, past_white, all_white}

module _ (bytes rest : List ℕ) (are : rest ≡ behind_white bytes) where
  whole : bytes ≡ take (white_len bytes) bytes ++ rest
  whole = sym (take-append-drop (white_len bytes) bytes) ∙ ap (λ l. take (white_len bytes) bytes ++ l) (sym are)

  pub tail_found : (t : Token) (behind : List ℕ) → IsNext rest t behind → symbol_of t ≡ paragraph → is_white behind ≡ true → IsTail bytes
  tail_found t behind next is white = with_paragraph (take (white_len bytes) bytes) rest t behind whole (white_front bytes) next is white

  pub tail_blank : rest ≡ [] → IsTail bytes
  tail_blank none =
      let same : bytes ≡ take (white_len bytes) bytes = whole ∙ ap (λ l. take (white_len bytes) bytes ++ l) none ∙ append-nil (take (white_len bytes) bytes) in
      blank (ap is_white same ∙ white_front bytes)

  -- what a tail has behind its white space: nothing, or a `<p>` and more white space
  pub record IsParagraph : Type 0 where
    pub token : Token
    pub behind : List ℕ
    pub next : IsNext rest token behind
    pub is : symbol_of token ≡ paragraph
    pub white : is_white behind ≡ true

  no_white : (l : List ℕ) (t : Token) (behind : List ℕ) → IsNext l t behind → symbol_of t ≡ paragraph → white_len l ≡ 0
  no_white l (tag inside) behind next is = ap white_len next.are
  no_white l (text w) behind next is = let bad : ⊥ = cc in absurd bad

  pub tail_read : IsTail bytes → (rest ≡ []) ⊎ IsParagraph
  tail_read (blank white) = inl (are ∙ all_white bytes white)
  tail_read (with_paragraph front l t behind e white next is last) =
      let same : rest ≡ l = are ∙ ap behind_white e ∙ past_white front l white (no_white l t behind next is) in
      inr (record { token = t; behind = behind; next = subst (λ k. IsNext k t behind) (sym same) next; is = is; white = last })

pub no_next : (l behind : List ℕ) (t : Token) → IsNext l t behind → l ≡ [] → ⊥
no_next l behind (tag inside) next e = let no_bytes = sym next.are ∙ e in let bad : ⊥ = cc in bad
no_next l behind (text []) next e = next.may.0 refl
no_next l behind (text (b ∷ w)) next e = let no_bytes = sym next.are ∙ e in let bad : ⊥ = cc in bad
