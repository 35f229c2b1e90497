-- A line that was written is read as what it says.
use Rattle.std.proofs.Common.{◌≡◌, ℕ, zero, suc, ◌<◌, ◌^◌, true, ◌&&◌, T, length, arith, List, [], ◌∷◌, ◌++◌, codes, decimal, Option, Some, None, refl, sym, ap, subst, ◌∙◌}
use Rattle.std.specs.Prelude.{IsUtf8}
use Rattle.std.specs.List.{list_all}
use Rattle.std.proofs.lemmas.Bool.{and_parts, or_left, or_right}
use Rattle.std.proofs.lemmas.Fmt.{digits_decimal}
use Rattle.hm_tree.specs.declared.class.Class.{Class}
use Rattle.hm_tree.specs.declared.class.Class.TheVariants.{Any, Clean, Filled, Trimmed, Folded}
use Rattle.hm_tree.specs.Names.{Name}
use Rattle.hm_schema_lines.specs.declared.token.Token.{Token}
use Rattle.hm_schema_lines.specs.declared.token.Token.TheVariants.{Word, Quoted, Plus}
use Rattle.hm_schema_lines.specs.declared.count.Count.{Count}
use Rattle.hm_schema_lines.specs.Tokens.{token_text, is_word_byte, IsToken, Spaced, alone, before, one}
use Rattle.hm_schema_lines.specs.NodeLines.{NodeLineValue, class_word, node, edge, other, shape, AreNames, AreOptional, IsTail, AreItsTokens, IsNodeLine}
use Rattle.hm_schema_lines.specs.Counts.{is_digit, IsMost, IsCount}
use Rattle.hm_schema_lines.proofs.Laws.{own}
use Rattle.hm_schema_writer.specs.Writing.{quoted, optional_tokens, most_text, count_word, counted, count_tokens, tokens_of, behind_spaces, line_text}

-- a count of which both numbers are below 2 ^ 64
pub record Fits64 (c : Count) : Type 0 where
  pub least : c.least < 2 ^ 64
  pub most : (n : ℕ) → c.most ≡ Some n → n < 2 ^ 64

names_are : (ks : List Name) → AreNames (quoted ks) ks
names_are [] = tt
names_are (k ∷ ks) = (refl, names_are ks)

optional_are : (ks : List Name) → AreOptional (optional_tokens ks) ks
optional_are [] = refl
optional_are (k ∷ ks) = (refl, names_are (k ∷ ks))

most_is : (m : Option ℕ) → ((n : ℕ) → m ≡ Some n → n < 2 ^ 64) → IsMost (most_text m) m
most_is None f = refl
most_is (Some n) f = record { fits = f n refl; text = refl }

count_is : (c : Count) → Fits64 c → IsCount (count_word c) c
count_is c f = record {
  front = decimal c.least;
  rest = most_text c.most;
  is = refl;
  least = record { fits = f.least; text = refl };
  most = most_is c.most f.most;
}

tail_is : (c : Count) → Fits64 c → IsTail (count_tokens c) c
tail_is c f = go c.least c.most refl refl
  where
    go : (l : ℕ) (m : Option ℕ) → c.least ≡ l → c.most ≡ m → IsTail (counted l m (Plus ∷ Word (count_word c) ∷ [])) c
    go zero (Some zero) e g = (e, g)
    go zero (Some (suc n)) e g = (count_word c, refl, count_is c f)
    go zero None e g = (count_word c, refl, count_is c f)
    go (suc n) m e g = (count_word c, refl, count_is c f)

-- its numbers fit
pub FitsLine : NodeLineValue → Type 0
FitsLine (shape s) = Fits64 s.count
FitsLine (node w) = Unit {0}
FitsLine (edge k w) = Unit {0}
FitsLine (other c w) = Unit {0}

pub tokens_are : (i : NodeLineValue) → FitsLine i → AreItsTokens (tokens_of i) i
unfolding FitsLine
tokens_are (node w) f = refl
tokens_are (edge k w) f = (Quoted k, refl, refl)
tokens_are (other c w) f = refl
tokens_are (shape s) f = (
  _,
  refl,
  record {
    front = quoted s.required;
    middle = optional_tokens s.optional;
    tail = count_tokens s.count;
    is = refl;
    required = names_are s.required;
    optional = optional_are s.optional;
    count = tail_is s.count f;
  },
)

-- ---- the text of tokens

abbrev pub AreSound : List Token → Type 0
AreSound [] = Unit {0}
AreSound (t ∷ ts) = IsToken t × AreSound ts

spaced : (t : Token) (ts : List Token) → IsToken t → AreSound ts → Spaced (t ∷ ts) (token_text t ++ behind_spaces ts)
spaced t [] h rest = subst (Spaced (t ∷ [])) (nil (token_text t)) (alone h)
  where
    nil : (xs : List ℕ) → xs ≡ xs ++ []
    nil [] = refl
    nil (x ∷ xs) = ap (λ l. x ∷ l) (nil xs)
spaced t (u ∷ ts) h rest = before h one (spaced u ts rest.0 rest.1)

sound_both : (ts us : List Token) → AreSound ts → AreSound us → AreSound (ts ++ us)
sound_both [] us h g = g
sound_both (t ∷ ts) us h g = (h.0, sound_both ts us h.1 g)

abbrev pub AreTexts : List Name → Type 0
AreTexts [] = Unit {0}
AreTexts (k ∷ ks) = IsUtf8 k × AreTexts ks

sound_quoted : (ks : List Name) → AreTexts ks → AreSound (quoted ks)
sound_quoted [] h = tt
sound_quoted (k ∷ ks) h = (h.0, sound_quoted ks h.1)

sound_optional : (ks : List Name) → AreTexts ks → AreSound (optional_tokens ks)
sound_optional [] h = tt
sound_optional (k ∷ ks) h = (tt, sound_quoted (k ∷ ks) h)

-- ---- the word of a count

word_both : (xs ys : List ℕ) → list_all is_word_byte xs ≡ true → list_all is_word_byte ys ≡ true → list_all is_word_byte (xs ++ ys) ≡ true
word_both [] ys h g = g
word_both (x ∷ xs) ys h g =
    let parts = and_parts (is_word_byte x) (list_all is_word_byte xs) h in
    ap (λ b. b && list_all is_word_byte (xs ++ ys)) parts.0 ∙ word_both xs ys parts.1 g

digit_word : (b : ℕ) → is_digit b ≡ true → is_word_byte b ≡ true
digit_word b h = or_left _ _ (or_left _ _ (or_left _ _ (or_left _ _ (or_right _ _ h))))

digits_word : (xs : List ℕ) → list_all is_digit xs ≡ true → list_all is_word_byte xs ≡ true
digits_word [] h = h
digits_word (x ∷ xs) h =
    let parts = and_parts (is_digit x) (list_all is_digit xs) h in
    ap (λ b. b && list_all is_word_byte xs) (digit_word x parts.0) ∙ digits_word xs parts.1

pub decimal_word : (n : ℕ) → n < 2 ^ 64 → list_all is_word_byte (decimal n) ≡ true
decimal_word n fits = digits_word (decimal n) (digits_decimal own n fits)

most_word : (m : Option ℕ) → ((n : ℕ) → m ≡ Some n → n < 2 ^ 64) → list_all is_word_byte (most_text m) ≡ true
most_word None f = refl
most_word (Some n) f = decimal_word n (f n refl)

count_sound : (c : Count) → Fits64 c → IsToken (Word (count_word c))
count_sound c f =
    let all = word_both (decimal c.least) (codes ".." ++ most_text c.most) (decimal_word c.least f.least) (most_word c.most f.most) in
    (some (decimal c.least) (most_text c.most), subst T (sym all) tt)
  where
    some : (xs ys : List ℕ) → 0 < length (xs ++ (codes ".." ++ ys))
    some [] ys = omega arith
    some (x ∷ xs) ys = omega arith

counted_sound : (c : Count) → Fits64 c → AreSound (count_tokens c)
counted_sound c f = go c.least c.most
  where
    go : (l : ℕ) (m : Option ℕ) → AreSound (counted l m (Plus ∷ Word (count_word c) ∷ []))
    go zero (Some zero) = tt
    go zero (Some (suc n)) = (tt, (count_sound c f, tt))
    go zero None = (tt, (count_sound c f, tt))
    go (suc n) m = (tt, (count_sound c f, tt))

-- ---- a line

-- its words are words, its names are texts, and its numbers fit
unfoldable pub IsSound : NodeLineValue → Type 0
IsSound (node w) = IsToken (Word w)
IsSound (edge k w) = IsUtf8 k × IsToken (Word w)
IsSound (other c w) = IsToken (Word w)
IsSound (shape s) = AreTexts s.required × AreTexts s.optional × Fits64 s.count

class_sound : (c : Class) → IsToken (Word (class_word c))
class_sound Any = (omega arith, tt)
class_sound Clean = (omega arith, tt)
class_sound Filled = (omega arith, tt)
class_sound Trimmed = (omega arith, tt)
class_sound Folded = (omega arith, tt)

pub line_reads : (i : NodeLineValue) → IsSound i → IsNodeLine (line_text i) i
unfolding IsSound FitsLine
line_reads (node w) h = record {
  tokens = _;
  text = _;
  is = refl;
  spaced = spaced (Word (codes "node")) _ (omega arith, tt) (h, tt);
  says = tokens_are
      (node w) tt;
}
line_reads (edge k w) h = record {
  tokens = _;
  text = _;
  is = refl;
  spaced = spaced (Word (codes "edge")) _ (omega arith, tt)
      (h.0, (h.1, tt));
  says = tokens_are (edge k w) tt;
}
line_reads (other c w) h = record {
  tokens = _;
  text = _;
  is = refl;
  spaced = spaced (Word (codes "other")) _ (omega arith, tt)
      (class_sound c, (h, tt));
  says = tokens_are (other c w) tt;
}
line_reads (shape s) h = record {
  tokens = _;
  text = _;
  is = refl;
  spaced = spaced (Word (codes "shape")) _ (omega arith, tt)
      (sound_both (quoted s.required) _ (sound_quoted s.required h.0)
      (sound_both (optional_tokens s.optional) _ (sound_optional s.optional h.1) (counted_sound s.count h.2)));
  says = tokens_are (shape s) h.2;
}
