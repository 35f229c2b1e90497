-- What a line says is determined by its tokens.
use Rattle.std.proofs.Common.{◌≡◌, ◌≢◌, ℕ, Bool, true, false, cond, List, [], ◌∷◌, ◌++◌, take, drop, Option, Some, None, Result, Ok, Err, refl, sym, ap, ◌∙◌, subst, arith}
use Rattle.std.specs.Prelude.{codes, IfOk}
use Rattle.std.proofs.lemmas.List.{take-append-drop}
use Rattle.std.proofs.lemmas.Result.{IfOk-weaker}
use lib.Pointwise.{pointwise, bytes_decides}
use lib.Dec.{eqb}
use mathlib.Core.Bool.{true≢false}
use Rattle.hm_tree.specs.Names.{Name}
use Rattle.hm_schema_lines.specs.declared.count.Count.{Count}
use Rattle.hm_schema_lines.specs.declared.node_line.NodeLine.{NodeLine}
use Rattle.hm_schema_lines.specs.declared.token.Token.{Token}
use Rattle.hm_schema_lines.specs.declared.token.Token.TheVariants.{Word, Plus}
use Rattle.hm_schema_lines.specs.Tokens.{Spaced}
use Rattle.hm_schema_lines.specs.Counts.{IsCount, IsReadCount}
use Rattle.hm_schema_lines.specs.NodeLines.{NodeLineValue, ShapeValue, node, edge, other, shape, node_line_value, is_inside, indent, AreItsTokens, IsNodeLine, IsTail, IsShape, IsReadTail, IsReadLine, IsFlushLine, IsIndentedLine}
use Rattle.hm_schema_lines.proofs.Tokens.{spaced_one, spaced_no_space}

pub tail_counted : {E : Type 0} (rest : List Token) (word : Name) (r : Result (Option Count) E) → rest ≡ Word word ∷ []
    → IfOk r (IsReadCount word) → IfOk r (IsReadTail (Plus ∷ rest))
tail_counted rest word (Ok None) is h = λ c t. let same : word ≡ t.0 = cc in h c (subst (λ (w : Name). IsCount w c) (sym same) t.2)
tail_counted rest word (Ok (Some c)) is h = (word, ap (λ (z : List Token). Plus ∷ z) is, h)
tail_counted rest word (Err e) is h = tt

pub tail_none : (rest : List Token) → ((word : Name) → rest ≢ Word word ∷ []) → (c : Count) → ¬ (IsTail (Plus ∷ rest) c)
tail_none rest none c t = let is : rest ≡ Word t.0 ∷ [] = cc in none t.0 is

pub no_shape_line : (rest : List Token) → ((s : ShapeValue) → ¬ (IsShape rest s)) → (i : NodeLineValue)
    → ¬ (IsIndentedLine (Word (codes "shape") ∷ rest) i)
no_shape_line rest none (node w) h = let no : ⊥ = cc in no
no_shape_line rest none (edge k w) h = let no : ⊥ = cc in no
no_shape_line rest none (other c w) h = grind arith
no_shape_line rest none (shape s) h = let same : rest ≡ h.1.0 = cc in none s (subst (λ (z : List Token). IsShape z s) (sym same) h.1.2)

two_spaces : (i : NodeLineValue) → is_inside i ≡ true → indent i ≡ 32 ∷ 32 ∷ []
two_spaces i e = ap (λ (b : Bool). cond b (codes "  ") []) e

no_spaces : (i : NodeLineValue) → is_inside i ≡ false → indent i ≡ []
no_spaces i e = ap (λ (b : Bool). cond b (codes "  ") []) e

-- a line that begins with two spaces
module _ (line text : List ℕ) (ts : List Token) (front : line ≡ 32 ∷ 32 ∷ text) (s : Spaced ts text) where
  indented_line : (i : NodeLineValue) → IsIndentedLine ts i → IsNodeLine line i
  indented_line i h = record {
    tokens = ts;
    text = text;
    is = front ∙ ap (λ (z : List ℕ). z ++ text) (sym (two_spaces i h.0));
    spaced = s;
    says = h.1;
  }

  line_indented : (i : NodeLineValue) → IsNodeLine line i → IsIndentedLine ts i
  line_indented i l = go (is_inside i) refl
    where
      go : (b : Bool) → is_inside i ≡ b → IsIndentedLine ts i
      go false e = absurd (spaced_no_space l.tokens l.text (32 ∷ text) l.spaced
          (ap (λ (z : List ℕ). z ++ l.text) (sym (no_spaces i e)) ∙ sym l.is ∙ front))
      go true e =
          let both : 32 ∷ 32 ∷ text ≡ 32 ∷ 32 ∷ l.text = sym front ∙ l.is ∙ ap (λ (z : List ℕ). z ++ l.text) (two_spaces i e) in
          let same : l.text ≡ text = cc in
          (e, subst (λ (z : List Token). AreItsTokens z i) (spaced_one l.tokens ts l.text text same l.spaced s) l.says)

-- a line of tokens
module _ (line : List ℕ) (ts : List Token) (s : Spaced ts line) where
  flush_line : (i : NodeLineValue) → IsFlushLine ts i → IsNodeLine line i
  flush_line i h = record {
    tokens = ts;
    text = line;
    is = ap (λ (z : List ℕ). z ++ line) (sym (no_spaces i h.0));
    spaced = s;
    says = h.1;
  }

  line_flush : (i : NodeLineValue) → IsNodeLine line i → IsFlushLine ts i
  line_flush i l = go (is_inside i) refl
    where
      go : (b : Bool) → is_inside i ≡ b → IsFlushLine ts i
      go false e = (
        e,
        subst (λ (z : List Token). AreItsTokens z i)
            (spaced_one l.tokens ts l.text line (sym (l.is ∙ ap (λ (z : List ℕ). z ++ l.text) (no_spaces i e))) l.spaced s) l.says,
      )
      go true e = absurd (spaced_no_space ts line (32 ∷ l.text) s (l.is ∙ ap (λ (z : List ℕ). z ++ l.text) (two_spaces i e)))

read_as : (P Q : NodeLineValue → Type 0) → ((i : NodeLineValue) → P i → Q i) → ((i : NodeLineValue) → Q i → P i) → (o : Option NodeLine)
    → IsReadLine P o → IsReadLine Q o
read_as P Q to from None h = λ i q. h i (from i q)
read_as P Q to from (Some i) h = to (node_line_value i) h

front_two : (line text : List ℕ) → pointwise eqb (take 2 line) (32 ∷ 32 ∷ []) ≡ true → text ≡ drop 2 line → line ≡ 32 ∷ 32 ∷ text
front_two line text same is =
    sym (take-append-drop 2 line) ∙ ap (λ (z : List ℕ). z ++ drop 2 line) ((bytes_decides (take 2 line) (32 ∷ 32 ∷ [])).0 same)
    ∙ ap (λ (z : List ℕ). 32 ∷ 32 ∷ z) (sym is)

pub indented_reads : {E : Type 0} (line text : List ℕ) (ts : List Token) (r : Result (Option NodeLine) E)
    → pointwise eqb (take 2 line) (32 ∷ 32 ∷ []) ≡ true → text ≡ drop 2 line → Spaced ts text → IfOk r (IsReadLine (IsIndentedLine ts))
    → IfOk r (IsReadLine (IsNodeLine line))
indented_reads line text ts r same is s h =
    let front = front_two line text same is in
    IfOk-weaker r (IsReadLine (IsIndentedLine ts)) (IsReadLine (IsNodeLine line))
    (read_as (IsIndentedLine ts) (IsNodeLine line) (indented_line line text ts front s) (line_indented line text ts front s)) h

pub flush_reads : (line : List ℕ) (ts : List Token) (o : Option NodeLine) → Spaced ts line → IsReadLine (IsFlushLine ts) o
    → IsReadLine (IsNodeLine line) o
flush_reads line ts o s h = read_as (IsFlushLine ts) (IsNodeLine line) (flush_line line ts s) (line_flush line ts s) o h

-- what else a line says is of the same tokens
pub line_tokens : (line : List ℕ) (i j : NodeLineValue) → IsNodeLine line i → (l : IsNodeLine line j) → AreItsTokens l.tokens i
line_tokens line i j h l = go (is_inside j) refl
  where
    go : (b : Bool) → is_inside j ≡ b → AreItsTokens l.tokens i
    go false e =
        let flush : line ≡ l.text = l.is ∙ ap (λ (z : List ℕ). z ++ l.text) (no_spaces j e) in
        (line_flush line l.tokens (subst (Spaced l.tokens) (sym flush) l.spaced) i h).1
    go true e =
        let indented : line ≡ 32 ∷ 32 ∷ l.text = l.is ∙ ap (λ (z : List ℕ). z ++ l.text) (two_spaces j e) in
        (line_indented line l.text l.tokens indented l.spaced i h).1

-- tokens that are a line of a node without spaces in front begin one
pub begins : (line : List ℕ) (ts : List Token) → Spaced ts line → (i : NodeLineValue) → IsNodeLine line i
    → (w : Name) × (ts ≡ Word (codes "node") ∷ Word w ∷ [])
begins line ts s i l = go i (line_flush line ts s i l)
  where
    go : (i : NodeLineValue) → IsFlushLine ts i → (w : Name) × (ts ≡ Word (codes "node") ∷ Word w ∷ [])
    go (node w) f = (w, f.1)
    go (edge k w) f = absurd (true≢false f.0)
    go (other c w) f = absurd (true≢false f.0)
    go (shape t) f = absurd (true≢false f.0)
