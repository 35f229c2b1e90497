-- The next symbol: it is found behind what is skipped, and there is at most one.
use Rattle.std.proofs.Common.{◌≡◌, ℕ, Bool, true, false, not, ◌&&◌, List, sym, ap, ◌∙◌, subst}
use Rattle.hm_marks_tokens.specs.Tokens.{Token, IsNext}
use Rattle.hm_marks_tokens.specs.Symbols.{Symbol, symbol_of, is_skipped, IsNextSymbol, here, behind, HasNoSymbol}
use Rattle.hm_marks_tokens.proofs.NextTokens.{next_once}

module _ (titled : Bool) (rest back : List ℕ) (p : Token) (next : IsNext rest p back) where
  pub is_here : (m : Symbol) → m ≡ symbol_of p → (not titled && is_skipped m) ≡ false → IsNextSymbol titled rest m back
  is_here m is stays = here next (sym is) stays

  module _ (skipped : (not titled && is_skipped (symbol_of p)) ≡ true) where
    pub is_behind : (m : Symbol) (end : List ℕ) → IsNextSymbol titled back m end → IsNextSymbol titled rest m end
    is_behind m end more = behind next skipped more

    pub none_behind : HasNoSymbol titled back → HasNoSymbol titled rest
    none_behind none m end (here {p = q} other is stays) =
        let one = next_once rest p q back end next other in
        let no : true ≡ false = sym skipped ∙ ap (λ r. not titled && is_skipped (symbol_of r)) one.token ∙ ap (λ k. not titled && is_skipped k) is ∙ stays in
        let bad : ⊥ = cc in bad
    none_behind none m end (behind {more = more} {p = q} other s symbols) =
        let one = next_once rest p q back more next other in
        none m end (subst (λ b. IsNextSymbol titled b m end) (sym one.rest) symbols)

-- a symbol that bytes have next is one, and so is what stands behind it
pub record IsOneSymbol (m n : Symbol) (r s : List ℕ) : Type 0 where
  pub symbol : m ≡ n
  pub rest : r ≡ s

pub symbol_once : (titled : Bool) (bytes : List ℕ) (m n : Symbol) (r s : List ℕ) → IsNextSymbol titled bytes m r → IsNextSymbol titled bytes n s → IsOneSymbol m n r s
symbol_once titled bytes m n r s (here {p = p} next is stays) (here {p = q} other sm keeps) =
    let one = next_once bytes p q r s next other in
    record { symbol = sym is ∙ ap symbol_of one.token ∙ sm; rest = one.rest }
symbol_once titled bytes m n r s (here {p = p} next is stays) (behind {more = more} {p = q} other skipped symbols) =
    let one = next_once bytes p q r more next other in
    let no : true ≡ false = sym skipped ∙ ap (λ t. not titled && is_skipped (symbol_of t)) (sym one.token) ∙ ap (λ k. not titled && is_skipped k) is ∙ stays in
    let bad : ⊥ = cc in absurd bad
symbol_once titled bytes m n r s (behind {more = more} {p = p} next skipped symbols) (here {p = q} other is stays) =
    let one = next_once bytes p q more s next other in
    let no : true ≡ false = sym skipped ∙ ap (λ t. not titled && is_skipped (symbol_of t)) one.token ∙ ap (λ k. not titled && is_skipped k) is ∙ stays in
    let bad : ⊥ = cc in absurd bad
symbol_once titled bytes m n r s (behind {more = more} {p = p} next skipped symbols) (behind {more = less} {p = q} other passed others) =
    let one = next_once bytes p q more less next other in
    symbol_once titled less m n r s (subst (λ b. IsNextSymbol titled b m r) one.rest symbols) others
