-- A line says one thing alone, and a file has one list of entries.
use Rattle.std.proofs.Common.{◌≡◌, ℕ, cond, List, [], ◌∷◌, Option, Some, None, refl, sym, ap, subst, ◌∙◌, arith, get_or}
use Rattle.std.specs.Prelude.{◌==◌}
use Rattle.std.specs.List.{prefix_len, AllZip}
use Rattle.std.proofs.lemmas.Fmt.{decimal_injective}
use Rattle.hm_tree.specs.Names.{Name}
use Rattle.hm_tree.specs.declared.class.Class.{Class}
use Rattle.hm_tree.specs.declared.class.Class.TheVariants.{Any, Clean, Filled, Trimmed, Folded}
use Rattle.hm_schema_lines.specs.declared.count.Count.{Count}
use Rattle.hm_schema_lines.specs.declared.token.Token.{Token}
use Rattle.hm_schema_lines.specs.declared.token.Token.TheVariants.{Word, Quoted, Question, Plus}
use Rattle.hm_schema_lines.specs.Counts.{is_digit, IsMost, IsCount}
use Rattle.hm_schema_lines.specs.NodeLines.{NodeLineValue, ShapeValue, node, edge, other, shape, edge_name, IsTail, IsShape, AreItsTokens, IsNodeLine, class_word}
use Rattle.hm_schema_lines.specs.Entries.{EntryValue, skipped, unknown, says, IsEntry, texts_of, AreEntries}
use Rattle.hm_schema_lines.proofs.Counts.{front_is, behind_is, some_digit}
use Rattle.hm_schema_lines.proofs.NodeLines.{line_tokens}
use Rattle.hm_schema_lines.proofs.Shapes.{has_parts}

-- ---- counts

most_once : (bytes : List ℕ) (m n : Option ℕ) → IsMost bytes m → IsMost bytes n → m ≡ n
most_once bytes None None h k = refl
most_once bytes None (Some n) h k = absurd (some_digit n k.fits (sym k.text ∙ h))
most_once bytes (Some m) None h k = absurd (some_digit m h.fits (sym h.text ∙ k))
most_once bytes (Some m) (Some n) h k = ap Some (decimal_injective m n h.fits k.fits (sym h.text ∙ k.text))

same_count : (c d : Count) → c.least ≡ d.least → c.most ≡ d.most → c ≡ d
same_count c d e f = ap (λ l. record { least = l; most = c.most }) e ∙ ap (λ m. record { least = d.least; most = m }) f

count_once : (word : List ℕ) (c d : Count) → IsCount word c → IsCount word d → c ≡ d
count_once word c d h k =
    let n = prefix_len is_digit word in
    let fronts : h.front ≡ k.front = sym (front_is word n refl c h) ∙ front_is word n refl d k in
    let behind : 46 ∷ 46 ∷ h.rest ≡ 46 ∷ 46 ∷ k.rest = sym (behind_is word n refl c h) ∙ behind_is word n refl d k in
    let rests : h.rest ≡ k.rest = cc in
    same_count c d
    (decimal_injective c.least d.least h.least.fits k.least.fits (sym h.least.text ∙ fronts ∙ k.least.text))
    (most_once k.rest c.most d.most (subst (λ (z : List ℕ). IsMost z c.most) rests h.most) k.most)

-- ---- shapes

tail_once : (ts : List Token) (c d : Count) → IsTail ts c → IsTail ts d → c ≡ d
tail_once [] c d h k = same_count c d (h.0 ∙ sym k.0) (h.1 ∙ sym k.1)
tail_once (t ∷ ts) c d h k =
    let words : h.0 ≡ k.0 = cc in
    count_once k.0 c d (subst (λ (w : Name). IsCount w c) words h.2) k.2

shape_once : (ts : List Token) (s t : ShapeValue) → IsShape ts s → IsShape ts t → s ≡ t
shape_once ts s t h k =
    let x = has_parts ts s h in
    let y = has_parts ts t k in
    ap (λ r. record { required = r; optional = s.optional; count = s.count }) (x.required ∙ sym y.required)
    ∙ ap (λ o. record { required = t.required; optional = o; count = s.count }) (x.optional ∙ sym y.optional)
    ∙ ap (λ c. record { required = t.required; optional = t.optional; count = c }) (tail_once _ s.count t.count x.count y.count)

-- the second letter of a class's word tells it
abbrev second : List ℕ → ℕ
second w = get_or w 1 0

abbrev class_told : ℕ → Class
class_told b = cond (b == 110) Any (cond (b == 108) Clean (cond (b == 105) Filled (cond (b == 114) Trimmed Folded)))

told : (c : Class) → class_told (second (class_word c)) ≡ c
told Any = refl
told Clean = refl
told Filled = refl
told Trimmed = refl
told Folded = refl

class_once : (c d : Class) → class_word c ≡ class_word d → c ≡ d
class_once c d h = sym (told c) ∙ ap (λ (w : List ℕ). class_told (second w)) h ∙ told d

-- ---- kinds of lines

-- the first letter of the first word tells the kind of a line
abbrev pub first_letter : List Token → ℕ
first_letter [] = 0
first_letter (Word w ∷ ts) = get_or w 0 0
first_letter (Quoted k ∷ ts) = 0
first_letter (Question ∷ ts) = 0
first_letter (Plus ∷ ts) = 0

abbrev letter : NodeLineValue → ℕ
letter (node w) = 110
letter (edge k w) = 101
letter (other c w) = 111
letter (shape s) = 115

first_is : (ts : List Token) (i : NodeLineValue) → AreItsTokens ts i → first_letter ts ≡ letter i
first_is ts (node w) h = ap first_letter h
first_is ts (edge k w) h = ap first_letter h.2
first_is ts (other c w) h = ap first_letter h
first_is ts (shape s) h = ap first_letter h.1

edge_once : (ts : List Token) (x y w v : Name) → AreItsTokens ts (edge x w) → AreItsTokens ts (edge y v) → edge x w ≡ edge y v
edge_once ts x y w v h k =
    let token : h.0 ≡ k.0 = cc in
    let node : w ≡ v = cc in
    let name : Some x ≡ Some y = sym h.1 ∙ ap edge_name token ∙ k.1 in
    let same : x ≡ y = cc in
    ap (λ z. edge z w) same ∙ ap (edge y) node

same_kind : (ts : List Token) (i j : NodeLineValue) → letter i ≡ letter j → AreItsTokens ts i → AreItsTokens ts j → i ≡ j
same_kind ts (node x) (node y) e h k = let f : x ≡ y = cc in ap node f
same_kind ts (node x) (edge y v) e h k = absurd (omega arith)
same_kind ts (node x) (other y v) e h k = absurd (omega arith)
same_kind ts (node x) (shape y) e h k = absurd (omega arith)
same_kind ts (edge x w) (node y) e h k = absurd (omega arith)
same_kind ts (edge x w) (edge y v) e h k = edge_once ts x y w v h k
same_kind ts (edge x w) (other y v) e h k = absurd (omega arith)
same_kind ts (edge x w) (shape y) e h k = absurd (omega arith)
same_kind ts (other x w) (node y) e h k = absurd (omega arith)
same_kind ts (other x w) (edge y v) e h k = absurd (omega arith)
same_kind ts (other x w) (other y v) e h k = let c : class_word x ≡ class_word y = cc in let f : w ≡ v = cc in
    ap (λ z. other z w) (class_once x y c) ∙ ap (other y) f
same_kind ts (other x w) (shape y) e h k = absurd (omega arith)
same_kind ts (shape x) (node y) e h k = absurd (omega arith)
same_kind ts (shape x) (edge y v) e h k = absurd (omega arith)
same_kind ts (shape x) (other y v) e h k = absurd (omega arith)
same_kind ts (shape x) (shape y) e h k = let r : h.0 ≡ k.0 = cc in ap shape (shape_once k.0 x y (subst (λ (z : List Token). IsShape z x) r h.2) k.2)

kind_once : (ts : List Token) (i j : NodeLineValue) → AreItsTokens ts i → AreItsTokens ts j → i ≡ j
kind_once ts i j h k = same_kind ts i j (sym (first_is ts i h) ∙ first_is ts j k) h k

-- ---- lines

pub line_once : (line : List ℕ) (i j : NodeLineValue) → IsNodeLine line i → IsNodeLine line j → i ≡ j
line_once line i j h k = kind_once k.tokens i j (line_tokens line i j h k) k.says

entry_once : (line : List ℕ) (d e : EntryValue) → IsEntry line d → IsEntry line e → d ≡ e
entry_once line skipped skipped h k = refl
entry_once line skipped unknown h k = absurd (k.0 h)
entry_once line skipped (says j) h k = absurd (k.0 h)
entry_once line unknown skipped h k = absurd (h.0 k)
entry_once line unknown unknown h k = refl
entry_once line unknown (says j) h k = absurd (h.1 j k.1)
entry_once line (says i) skipped h k = absurd (h.0 k)
entry_once line (says i) unknown h k = absurd (k.1 i h.1)
entry_once line (says i) (says j) h k = ap says (line_once line i j h.1 k.1)

pub zip_once : {A B : Type 0} (R : A → B → Type 0) → ((x : A) (y z : B) → R x y → R x z → y ≡ z) → (xs : List A) (ys zs : List B) → AllZip R xs ys
    → AllZip R xs zs → ys ≡ zs
zip_once R one [] [] [] h k = refl
zip_once R one [] [] (z ∷ zs) h k = absurd k
zip_once R one [] (y ∷ ys) zs h k = absurd h
zip_once R one (x ∷ xs) [] zs h k = absurd h
zip_once R one (x ∷ xs) (y ∷ ys) [] h k = absurd k
zip_once R one (x ∷ xs) (y ∷ ys) (z ∷ zs) h k =
    let first : y ≡ z = one x y z h.0 k.0 in
    let more : ys ≡ zs = zip_once R one xs ys zs h.1 k.1 in
    cc

pub entries_once : (bytes : List ℕ) (ds es : List EntryValue) → AreEntries bytes ds → AreEntries bytes es → ds ≡ es
entries_once bytes ds es h k = zip_once IsEntry entry_once (texts_of bytes) ds es h k
