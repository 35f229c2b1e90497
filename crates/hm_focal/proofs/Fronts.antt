-- What stands at the front of bytes is determined by them.
use Rattle.std.proofs.Common.{◌≡◌, ◌≢◌, ℕ, ◌<◌, ◌≤◌, true, false, T, List, [], ◌∷◌, ◌++◌, length, take, drop, Option, Some, None, Result, Ok, Err, sym, ap, ◌∙◌, subst, arith}
use Rattle.std.specs.Prelude.{◌==◌, IsUtf8, IfOk}
use Rattle.std.specs.List.{prefix_len, list_all}
use Rattle.std.proofs.lemmas.List.{take-append-drop, length-take, length-append}
use Rattle.std.proofs.lemmas.List.Sums.{prefix_len-le-length}
use Rattle.std.proofs.lemmas.Bool.{and_parts}
use mathlib.Core.Bool.{true≢false}
use Rattle.hm_tree.specs.Names.{Name}
use Rattle.hm_tree_spelling.specs.Spelling.{spelled}
use Rattle.hm_schema_lines.specs.declared.token.Token.{Token}
use Rattle.hm_schema_lines.specs.declared.token.Token.TheVariants.{Word, Quoted, Question, Plus}
use Rattle.hm_schema_lines.specs.Tokens.{is_word_byte, is_word, begins_word, token_text, IsToken, Stops}
use Rattle.hm_schema_lines.specs.Reading.{IsFirstQuoted}
use Rattle.hm_schema_lines.specs.NodeLines.{edge_name}
use Rattle.hm_schema_lines.proofs.Laws.{one_token, gaps_one, no_space, run_passes, run_stops, spaces_are, spaces_some}
use Rattle.hm_focal.specs.Front.{IsFront, IsFrontWord, IsFrontEdge, IsGap, IsWordBefore, IsFirstEdge}
use Rattle.hm_facts.proofs.Booleans.{is_true}

-- ---- tokens

pub one_front : (bytes : List ℕ) (t u : Token) (r s : List ℕ) → IsFront bytes t r → IsFront bytes u s → (t ≡ u) × (r ≡ s)
one_front bytes t u r s f g = one_token t u r s f.sound g.sound f.stops g.stops (sym f.is ∙ g.is)

pub one_word : (bytes : List ℕ) (w v : Name) (r s : List ℕ) → IsFrontWord bytes w r → IsFrontWord bytes v s → (w ≡ v) × (r ≡ s)
one_word bytes w v r s f g =
    let same = one_front bytes (Word w) (Word v) r s f g in
    let words = same.0 in
    let word : w ≡ v = cc in
    (word, same.1)

pub one_edge : (bytes : List ℕ) (k j : Name) (r s : List ℕ) → IsFrontEdge bytes k r → IsFrontEdge bytes j s → (k ≡ j) × (r ≡ s)
one_edge bytes k j r s f g =
    let same = one_front bytes f.0 g.0 r s f.2 g.2 in
    let both : Some k ≡ Some j = sym f.1 ∙ ap edge_name same.0 ∙ g.1 in
    let name : k ≡ j = cc in
    (name, same.1)

-- bytes that begin with a word begin with a byte of one
pub word_begins : (bytes : List ℕ) (w : Name) (rest : List ℕ) → IsFrontWord bytes w rest → begins_word bytes ≡ true
word_begins bytes w rest f = go w f.sound.0 f.sound.1 f.is
  where
    go : (w : Name) → 0 < length w → T (is_word w) → bytes ≡ w ++ rest → begins_word bytes ≡ true
    go [] l h e = absurd (omega arith)
    go (c ∷ w) l h e = ap begins_word e ∙ (and_parts (is_word_byte c) _ (is_true _ h)).0

pub no_edge_token : (bytes : List ℕ) → begins_word bytes ≡ false → ((name : Name) (rest : List ℕ) → IsUtf8 name → bytes ≢ spelled name ++ rest)
    → (t : Token) (k : Name) (rest : List ℕ) → edge_name t ≡ Some k → ¬ (IsFront bytes t rest)
no_edge_token bytes none quoted (Word w) k rest e f = true≢false (sym (word_begins bytes w rest f) ∙ none)
no_edge_token bytes none quoted (Quoted n) k rest e f = quoted n rest f.sound f.is
no_edge_token bytes none quoted Question k rest e f = let no : ⊥ = cc in no
no_edge_token bytes none quoted Plus k rest e f = let no : ⊥ = cc in no

pub token_found : (bytes : List ℕ) (t : Token) (n : ℕ)
    → IsToken t × (n ≤ length bytes) × (take n bytes ≡ token_text t) × Stops t (drop n bytes) → IsFirstEdge bytes (Some (t, n))
token_found bytes t n f = (
  f.1,
  record {
    sound = f.0;
    is = sym (take-append-drop n bytes) ∙ ap (λ (z : List ℕ). z ++ drop n bytes) f.2;
    stops = f.3;
  },
)

pub quoted_found : {E : Type 0} (bytes : List ℕ) → begins_word bytes ≡ false → (r : Result (Option (Token × ℕ)) E)
    → IfOk r (IsFirstQuoted bytes) → IfOk r (IsFirstEdge bytes)
quoted_found bytes none (Ok None) h = no_edge_token bytes none h
quoted_found bytes none (Ok (Some f)) h = token_found bytes f.0 f.1 h
quoted_found bytes none (Err e) h = tt

-- a token that is no name of an edge, or no word
pub no_edge : (bytes : List ℕ) (t : Token) (rest : List ℕ) → IsFront bytes t rest → edge_name t ≡ None → (k : Name) (r : List ℕ)
    → ¬ (IsFrontEdge bytes k r)
no_edge bytes t rest f none k r e =
    let same = one_front bytes e.0 t r rest e.2 f in
    let both : Some k ≡ None = sym e.1 ∙ ap edge_name same.0 ∙ none in
    let no : ⊥ = cc in no

pub no_word : (bytes : List ℕ) (t : Token) (rest : List ℕ) → IsFront bytes t rest → ((w : Name) → t ≢ Word w) → (k : Name) (r : List ℕ)
    → ¬ (IsFrontWord bytes k r)
no_word bytes t rest f none k r e = none k (one_front bytes t (Word k) rest r f e).0

-- ---- spaces

pub gap_is : (bytes : List ℕ) (n : ℕ) → n ≡ prefix_len (λ b. b == 32) bytes → (n ≡ 0 → ⊥) → (rest : List ℕ) → rest ≡ drop n bytes
    → IsGap bytes rest
gap_is bytes n is some rest e = record {
  gap = take n bytes;
  spaces = spaces_are (take n bytes) (omega (arith, length-take n bytes, prefix_len-le-length (λ b. b == 32) bytes, some))
      (subst (λ (z : ℕ). list_all (λ b. b == 32) (take z bytes) ≡ true) (sym is) (run_passes (λ b. b == 32) bytes));
  is = sym (take-append-drop n bytes) ∙ ap (λ (z : List ℕ). take n bytes ++ z) (sym e);
  stops = λ r q. true≢false (run_stops (λ b. b == 32) bytes 32 r (ap (λ (z : ℕ). drop z bytes) (sym is) ∙ sym e ∙ q));
}

pub gap_front : (bytes rest : List ℕ) → IsGap bytes rest → (r : List ℕ) × (bytes ≡ 32 ∷ r)
gap_front bytes rest g = let at = spaces_some g.gap g.spaces in (at.0 ++ rest, g.is ∙ ap (λ (z : List ℕ). z ++ rest) at.1)

pub no_gap : (bytes : List ℕ) (n : ℕ) → n ≡ prefix_len (λ b. b == 32) bytes → n ≡ 0 → (rest : List ℕ) → ¬ (IsGap bytes rest)
no_gap bytes n is none rest g = let at = gap_front bytes rest g in no_space bytes (sym is ∙ none) at.0 at.1

pub one_gap : (bytes r s : List ℕ) → IsGap bytes r → IsGap bytes s → r ≡ s
one_gap bytes r s f g = gaps_one f.gap g.gap r s f.spaces g.spaces f.stops g.stops (sym f.is ∙ g.is)

pub gap_shorter : (bytes rest : List ℕ) → IsGap bytes rest → length rest < length bytes
gap_shorter bytes rest g =
    let at = spaces_some g.gap g.spaces in
    let whole : bytes ≡ (32 ∷ at.0) ++ rest = g.is ∙ ap (λ (z : List ℕ). z ++ rest) at.1 in
    let l = ap length whole in
    omega (arith, length-append at.0 rest)

-- ---- a word, and the spaces behind it

pub one_word_before : (bytes : List ℕ) (w v : Name) (r s : List ℕ) → IsWordBefore bytes w r → IsWordBefore bytes v s → (w ≡ v) × (r ≡ s)
one_word_before bytes w v r s f g =
    let same = one_word bytes w v f.0 g.0 f.1 g.1 in
    (same.0, one_gap g.0 r s (subst (λ (z : List ℕ). IsGap z r) same.1 f.2) g.2)

pub no_word_before : (bytes : List ℕ) (w : Name) (behind : List ℕ) → IsFrontWord bytes w behind → ((rest : List ℕ) → ¬ (IsGap behind rest))
    → (k : Name) (rest : List ℕ) → ¬ (IsWordBefore bytes k rest)
no_word_before bytes w behind f none k rest e =
    none rest (subst (λ (z : List ℕ). IsGap z rest) ((one_word bytes k w e.0 behind e.1 f).1) e.2)

pub front_within : (bytes : List ℕ) (t : Token) (rest : List ℕ) → IsFront bytes t rest → length rest ≤ length bytes
front_within bytes t rest f = let l = ap length f.is in omega (arith, length-append (token_text t) rest)

pub word_shorter : (bytes : List ℕ) (w : Name) (rest : List ℕ) → IsWordBefore bytes w rest → length rest < length bytes
word_shorter bytes w rest e = omega (arith, front_within bytes (Word w) e.0 e.1, gap_shorter e.0 rest e.2)
