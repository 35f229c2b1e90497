-- Lines that are written, compared with those from before.
use Rattle.std.proofs.Common.{◌≡◌, ◌≢◌, ℕ, ◌+◌, ◌<◌, List, [], ◌∷◌, ◌++◌, length, get_or, map, take, refl, sym, ap, ◌∙◌, subst, arith}
use Rattle.std.specs.Prelude.{Result, Ok, Err, OnOk}
use Rattle.std.specs.List.{flat_map}
use Rattle.std.proofs.lemmas.List.{append_assoc, append-nil, map-append, take_more, flat_map_more, length-append}
use Rattle.std.proofs.lemmas.List.Prefix.{front_rest}
use Rattle.hm_lines.specs.Folding.{IsFolded, AreFolded, Appends}
use Rattle.hm_lines_cards.specs.declared.line.Line.{Line}
use Rattle.hm_lines_cards.specs.Lent.{lent, plain}
use Rattle.hm_lines_files.specs.Components.{Bytes}
use Rattle.hm_lines_files.specs.declared.writer.Writer.{Writer}
use Rattle.hm_lines_files.specs.WrittenLines.{HasWritten, Extends}

module _ {X : Type 0} (before lines : List X) (line : X) where
  -- the next line from before is the one that is written
  pub same_next : (rest : List X) (first : X) (others : List X) → rest ≡ first ∷ others → first ≡ line → before ≡ lines ++ rest → before ≡ (lines ++ line ∷ []) ++ others
  same_next rest first others parts same is =
      is ∙ ap (λ r. lines ++ r) (parts ∙ ap (λ x. x ∷ others) same) ∙ sym (append_assoc lines (line ∷ []) others)

  behind_is : (rest more : List X) → before ≡ lines ++ rest → before ≡ (lines ++ line ∷ []) ++ more → rest ≡ line ∷ more
  behind_is rest more is e =
      sym (front_rest before lines rest is) ∙ front_rest before lines (line ∷ more) (e ∙ append_assoc lines (line ∷ []) more)

  -- it's another one, or there is none
  pub other_next : (rest : List X) (first : X) (others : List X) → rest ≡ first ∷ others → (first ≡ line → ⊥) → before ≡ lines ++ rest
      → (more : List X) → before ≢ (lines ++ line ∷ []) ++ more
  other_next rest first others parts differ is more e =
      let same = sym parts ∙ behind_is rest more is e in differ (let first_is : first ≡ line = cc in first_is)

  pub none_next : before ≡ lines ++ [] → (more : List X) → before ≢ (lines ++ line ∷ []) ++ more
  none_next is more e = let bad = behind_is [] more is e in let no : ⊥ = cc in no

  -- lines that aren't those from before don't become them
  pub never_same : ((rest : List X) → before ≢ lines ++ rest) → (more : List X) → before ≢ (lines ++ line ∷ []) ++ more
  never_same differ more e = differ (line ∷ more) (e ∙ append_assoc lines (line ∷ []) more)

-- where some lines stand behind, those that are written aren't all from before
pub some_left : {X : Type 0} (before lines rest : List X) → before ≡ lines ++ rest → 0 < length rest → lines ≢ before
some_left before lines rest is some same =
    let long = ap length (same ∙ is) ∙ length-append lines rest in omega (arith, long, some)

-- ---- a writer

one_folded : (lines : List Bytes) (line bytes more : Bytes) → AreFolded lines bytes → IsFolded line more → AreFolded (lines ++ line ∷ []) (bytes ++ more)
one_folded [] line bytes more none is = (more, [], is, refl, ap (λ l. l ++ more) none ∙ sym (append-nil more))
one_folded (l ∷ lines) line bytes more (first, rest, folded, others, parts) is =
    (first, rest ++ more, folded, one_folded lines line rest more others is, ap (λ b. b ++ more) parts ∙ append_assoc first rest more)

pub folded_more : (lines : List Bytes) (line bytes new : Bytes) → AreFolded lines bytes → Appends bytes new (IsFolded line) → AreFolded (lines ++ line ∷ []) new
folded_more lines line bytes new are (more, (e, is)) = subst (AreFolded (lines ++ line ∷ [])) (sym e) (one_folded lines line bytes more are is)

pub extends_none : (w : Writer) → Extends w w []
extends_none w before lines h = subst (HasWritten w before) (sym (append-nil lines)) h

pub extends_more : (a b c : Writer) (xs ys : List Bytes) → Extends a b xs → Extends b c ys → Extends a c (xs ++ ys)
extends_more a b c xs ys f g before lines h = subst (HasWritten c before) (append_assoc lines xs ys) (g before (lines ++ xs) (f before lines h))

pub extends_as : (a b : Writer) (xs ys : List Bytes) → xs ≡ ys → Extends a b xs → Extends a b ys
extends_as a b xs ys e f = subst (Extends a b) e f

-- ---- calls that may fail

pub ok_too : {E P : Type 0} (result : Result Unit E) → P → OnOk result P
ok_too (Ok u) p = p
ok_too (Err e) p = tt

pub ok_then : {E P Q : Type 0} (result : Result Unit E) → OnOk result P → (P → Q) → OnOk result Q
ok_then (Ok u) p f = f p
ok_then (Err e) p f = tt

pub extends_behind : {E : Type 0} (a b c : Writer) (result : Result Unit E) (xs ys : List Bytes) → Extends a b xs → OnOk result (Extends b c ys)
    → OnOk result (Extends a c (xs ++ ys))
extends_behind a b c (Ok u) xs ys f g = extends_more a b c xs ys f g
extends_behind a b c (Err e) xs ys f g = tt

-- ---- lines as they are

abbrev pub text_in : Line → Bytes
text_in l = l.text.now

abbrev pub texts_in : List Line → List Bytes
texts_in lines = map text_in lines

pub texts_plain : (lines : List Line) → plain (lent lines) ≡ texts_in lines
texts_plain [] = refl
texts_plain (l ∷ lines) = ap (λ texts. l.text.now ∷ texts) (texts_plain lines)

-- ---- one element after another

module _ {X : Type 0} (a b c : Writer) (xs : List X) (i : ℕ) (d x : X) (lt : i < length xs) (is : x ≡ get_or xs i d) where
  pub taken : take (i + 1) xs ≡ take i xs ++ x ∷ []
  taken = take_more xs i d lt ∙ ap (λ y. take i xs ++ y ∷ []) (sym is)

  pub lines_more : (f : X → Bytes) → Extends a b (map f (take i xs)) → Extends b c (f x ∷ []) → Extends a c (map f (take (i + 1) xs))
  lines_more f so_far one =
      extends_as a c (map f (take i xs) ++ f x ∷ []) (map f (take (i + 1) xs)) (sym (map-append f (take i xs) (x ∷ [])) ∙ ap (map f) (sym taken))
      (extends_more a b c (map f (take i xs)) (f x ∷ []) so_far one)

  pub all_more : (F : X → List Bytes) → Extends a b (flat_map F (take i xs)) → Extends b c (F x) → Extends a c (flat_map F (take (i + 1) xs))
  all_more F so_far one =
      extends_as a c (flat_map F (take i xs) ++ F x) (flat_map F (take (i + 1) xs)) (flat_map_more F [] (take i xs) x ∙ ap (flat_map F) (sym taken))
      (extends_more a b c (flat_map F (take i xs)) (F x) so_far one)
