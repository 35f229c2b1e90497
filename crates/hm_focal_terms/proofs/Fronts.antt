-- What the readers of a front find.
use Rattle.std.proofs.Common.{◌≡◌, ℕ, true, false, List, [], ◌∷◌, ◌++◌, take, drop, Option, Some, None, Result, Ok, Err, IfOk, IsUtf8, refl, sym, ap, ◌∙◌, arith}
use Rattle.std.proofs.lemmas.List.{take-append-drop}
use mathlib.Core.Bool.{true≢false}
use Rattle.std.proofs.lemmas.Bool.{and_parts}
use Rattle.hm_tree.specs.Names.{Name}
use Rattle.hm_tree_spelling.specs.Spelling.{spelled}
use Rattle.hm_schema_lines.specs.declared.token.Token.{Token}
use Rattle.hm_schema_lines.specs.declared.token.Token.TheVariants.{Word, Quoted, Question, Plus}
use Rattle.hm_schema_lines.specs.Tokens.{is_word_byte, begins_word, token_text, IsToken, Stops}
use Rattle.hm_schema_lines.specs.Reading.{IsFirstQuoted}
use Rattle.hm_schema_lines.specs.NodeLines.{edge_name}
use Rattle.hm_focal_terms.specs.Fronts.{unspaced, IsFront, IsWord, IsEdge}
use Rattle.hm_focal_terms.specs.FrontLaws.{front_once}
use Rattle.hm_focal_terms.specs.Reading.{IsFirstEdge}
use Rattle.hm_facts.proofs.Booleans.{is_true}

-- a word begins with one of its bytes
word_begins : (w : Name) (rest : List ℕ) → IsToken (Word w) → begins_word (w ++ rest) ≡ true
word_begins [] rest h = absurd (omega (arith, h.0))
word_begins (c ∷ w) rest h = (and_parts (is_word_byte c) _ (is_true _ h.1)).0

no_edge_token : (bytes : List ℕ) → begins_word bytes ≡ false → ((name : Name) (rest : List ℕ) → IsUtf8 name → bytes ≡ spelled name ++ rest → ⊥)
    → (t : Token) (n : Name) (rest : List ℕ) → edge_name t ≡ Some n → IsToken t → bytes ≡ token_text t ++ rest → ⊥
no_edge_token bytes none quoted (Word w) n rest named h e = true≢false (sym (word_begins w rest h) ∙ ap begins_word (sym e) ∙ none)
no_edge_token bytes none quoted (Quoted k) n rest named h e = quoted k rest h e
no_edge_token bytes none quoted Question n rest named h e = let f : ⊥ = cc in f
no_edge_token bytes none quoted Plus n rest named h e = let f : ⊥ = cc in f

pub quoted_edge : {E : Type 0} (bytes : List ℕ) → begins_word bytes ≡ false → (r : Result (Option (Token × ℕ)) E) → IfOk r (IsFirstQuoted bytes)
    → IfOk r (IsFirstEdge bytes)
quoted_edge bytes none (Ok None) q = no_edge_token bytes none q
quoted_edge bytes none (Ok (Some found)) q = q
quoted_edge bytes none (Err x) q = tt

module _ (text front : List ℕ) (is : front ≡ unspaced text) where
  -- no word stands there
  pub no_word : begins_word front ≡ false → (w : Name) (rest : List ℕ) → IsWord text w rest → ⊥
  no_word none w rest h = true≢false (sym (word_begins w rest h.token) ∙ ap begins_word (sym h.is ∙ sym is) ∙ none)

  pub no_edge : ((t : Token) (n : Name) (rest : List ℕ) → edge_name t ≡ Some n → IsToken t → front ≡ token_text t ++ rest → ⊥) → (n : Name)
      (rest : List ℕ) → IsEdge text n rest → ⊥
  no_edge none n rest h = none h.token n rest h.names h.front.token (is ∙ h.front.is)

  module _ (t : Token) (n : ℕ) (token : IsToken t) (at : take n front ≡ token_text t) (stops : Stops t (drop n front)) where
    -- this token stands there
    pub here : IsFront text t (drop n front)
    here = record {
      token = token;
      is = sym is ∙ sym (take-append-drop n front) ∙ ap (λ l. l ++ drop n front) at;
      stops = stops;
    }

    pub word_here : (w : Name) → t ≡ Word w → (rest : List ℕ) → rest ≡ drop n front → IsWord text w rest
    word_here w e rest r = rw (r, ← e) here

    pub other_word : ((w : Name) → t ≡ Word w → ⊥) → (w : Name) (rest : List ℕ) → IsWord text w rest → ⊥
    other_word none w rest h = none w (front_once text text t (Word w) (drop n front) rest refl here h).0

    pub edge_here : (k : Name) → Some k ≡ edge_name t → (rest : List ℕ) → rest ≡ drop n front → IsEdge text k rest
    edge_here k e rest r = record { token = t; names = sym e; front = rw r here }

    pub other_edge : None ≡ edge_name t → (k : Name) (rest : List ℕ) → IsEdge text k rest → ⊥
    other_edge none k rest h =
        let same = (front_once text text t h.token (drop n front) rest refl here h.front).0 in
        let f : None ≡ Some k = none ∙ ap edge_name same ∙ h.names in
        let no : ⊥ = cc in no
