-- The tokens of lines that are written are those of the lines, but for white space at the end of a note.
use Rattle.std.proofs.Common.{◌≡◌, inl, inr, ℕ, zero, suc, ◌-◌, ◌*◌, Bool, true, false, not, ◌&&◌, ◌||◌, List, [], ◌∷◌, ◌++◌, codes, replicate, refl, sym, ap, ◌∙◌, subst}
use Rattle.std.specs.Bool.{◌==◌}
use Rattle.std.specs.Char.{is_ascii_whitespace}
use Rattle.std.specs.List.{AllByRecursion}
use Rattle.std.proofs.lemmas.Bool.{and_parts, eqb-true}
use Rattle.std.proofs.lemmas.List.{append_assoc}
use Rattle.std.proofs.lemmas.List.Folds.{list_all-append, list_any-append}
use Rattle.hm_marks_tokens.specs.Bytes.{less, greater, has_less, is_white, begins_white}
use Rattle.hm_marks_tokens.specs.Tokens.{is_inside, begins_tag, Token, tag, text, IsNext}
use Rattle.hm_marks_tokens.specs.Symbols.{Symbol, list, list_end, entry, link, link_end, heading, heading_end, note, rule, words, words_of, symbol_of, is_skipped, is_titled_behind, here, behind, HasSymbols}
use Rattle.hm_marks_tokens.specs.Lines.{Line, opens, closes, links, heads, notes, rules, symbols_in, symbols_of, core, depth_at, depth_behind, indent, laid, open_behind, laid_list, IsNote, IsLine, longer, AreRead}

-- ---- one token more in front

ahead : (bytes more rest : List ℕ) (ms : List Symbol) (titled : Bool) (p : Token) (m : Symbol) → symbol_of p ≡ m → IsNext bytes p more
    → (not titled && is_skipped m) ≡ false → HasSymbols (is_titled_behind titled m) more ms rest → HasSymbols titled bytes (m ∷ ms) rest
ahead bytes more rest ms titled p m is next stays has = (more, (here next is stays, has))

-- there is a first one
abbrev IsSome : List Symbol → Type 0
IsSome [] = ⊥
IsSome (m ∷ ms) = Unit {0}

passed : (bytes more rest : List ℕ) (ms : List Symbol) (p : Token) → IsNext bytes p more → is_skipped (symbol_of p) ≡ true → IsSome ms
    → HasSymbols false more ms rest → HasSymbols false bytes ms rest
passed bytes more rest [] p next skipped some has = absurd some
passed bytes more rest (m ∷ ms) p next skipped some has = (has.0, (behind next skipped has.1.0, has.1.1))

-- ---- white space

white_other : (b : ℕ) → is_ascii_whitespace b ≡ true → (b == less) ≡ false
white_other b white = go (b == less) refl
  where
    go : (t : Bool) → (b == less) ≡ t → t ≡ false
    go true e = let no : false ≡ true = ap is_ascii_whitespace (sym (eqb-true b less e)) ∙ white in let bad : ⊥ = cc in absurd bad
    go false e = refl

pub white_plain : (bytes : List ℕ) → is_white bytes ≡ true → has_less bytes ≡ false
white_plain [] white = refl
white_plain (b ∷ bytes) white =
    let parts = and_parts (is_ascii_whitespace b) (is_white bytes) white in
    rw (white_other b parts.0) (white_plain bytes parts.1)

pub plain_append : (xs ys : List ℕ) → has_less xs ≡ false → has_less ys ≡ false → has_less (xs ++ ys) ≡ false
plain_append xs ys hx hy = list_any-append (λ b. b == less) xs ys ∙ (λ i. hx i || hy i)

pub black_append : (xs ys : List ℕ) → is_white xs ≡ false → is_white (xs ++ ys) ≡ false
black_append xs ys hx = list_all-append is_ascii_whitespace xs ys ∙ ap (λ t. t && is_white ys) hx

spaces_white : (n : ℕ) → is_white (replicate n 32) ≡ true
spaces_white zero = refl
spaces_white (suc n) = spaces_white n

-- white space before a tag is skipped
white_passed : (white bytes rest : List ℕ) (ms : List Symbol) → is_white white ≡ true → begins_tag bytes ≡ true → IsSome ms
    → HasSymbols false bytes ms rest → HasSymbols false (white ++ bytes) ms rest
white_passed [] bytes rest ms is tag_next some has = has
white_passed (b ∷ white) bytes rest ms is tag_next some has =
    passed ((b ∷ white) ++ bytes) bytes rest ms (text (b ∷ white))
    (record { are = refl; may = ((λ e. let bad : ⊥ = cc in bad), white_plain (b ∷ white) is, tag_next) }) is some has

-- ---- the lines, with what stands behind each

-- a line in front of bytes
before : Line → List ℕ → List ℕ
before opens rest = codes "<DL><p>" ++ rest
before closes rest = codes "</DL><p>" ++ rest
before (links attributes title) rest = codes "<DT><A" ++ (attributes ++ greater ∷ (title ++ (codes "</A>" ++ rest)))
before (heads attributes title) rest = codes "<DT><H3" ++ (attributes ++ greater ∷ (title ++ (codes "</H3>" ++ rest)))
before (notes bytes) rest = codes "<DD>" ++ (bytes ++ rest)
before (rules attributes) rest = codes "<HR" ++ (attributes ++ greater ∷ rest)

core_before : (l : Line) (rest : List ℕ) → core l ++ rest ≡ before l rest
unfolding before
core_before opens rest = refl
core_before closes rest = refl
core_before (links attributes title) rest =
    ap (λ l. codes "<DT><A" ++ l) (append_assoc attributes (greater ∷ (title ++ codes "</A>")) rest
    ∙ ap (λ l. attributes ++ greater ∷ l) (append_assoc title (codes "</A>") rest))
core_before (heads attributes title) rest =
    ap (λ l. codes "<DT><H3" ++ l) (append_assoc attributes (greater ∷ (title ++ codes "</H3>")) rest
    ∙ ap (λ l. attributes ++ greater ∷ l) (append_assoc title (codes "</H3>") rest))
core_before (notes bytes) rest = refl
core_before (rules attributes) rest = ap (λ l. codes "<HR" ++ l) (append_assoc attributes (greater ∷ []) rest)

-- what is left of lines behind the spaces of the first, where a line behind them closes their list
first_depth : ℕ → List Line → ℕ
first_depth n [] = n - 1
first_depth n (l ∷ ls) = depth_at n l

headless : ℕ → List Line → List ℕ → List ℕ
headless n [] rest = codes "</DL>" ++ rest
headless n (l ∷ ls) rest = before l (10 ∷ (indent (first_depth (depth_behind n l) ls) ++ headless (depth_behind n l) ls rest))

laid_before : (n : ℕ) (ls : List Line) (rest : List ℕ) → laid_list n ls ++ rest ≡ indent (first_depth n ls) ++ headless n ls rest
unfolding headless first_depth
laid_before n [] rest = append_assoc (indent (n - 1)) (codes "</DL>") rest
laid_before n (l ∷ ls) rest =
    let spaces = indent (depth_at n l) in
    let lines = laid (depth_behind n l) ls in
    let last = indent (open_behind (depth_behind n l) ls - 1) ++ codes "</DL>" in
    ap (λ k. k ++ rest) (append_assoc spaces (core l ++ 10 ∷ lines) last ∙ ap (λ k. spaces ++ k) (append_assoc (core l) (10 ∷ lines) last))
    ∙ append_assoc spaces (core l ++ 10 ∷ (lines ++ last)) rest
    ∙ ap (λ k. spaces ++ k)
    (append_assoc (core l) (10 ∷ (lines ++ last)) rest ∙ core_before l (10 ∷ ((lines ++ last) ++ rest))
    ∙ ap (λ k. before l (10 ∷ k)) (laid_before (depth_behind n l) ls rest))

begins : (n : ℕ) (ls : List Line) (rest : List ℕ) → begins_tag (headless n ls rest) ≡ true
unfolding headless before
begins n [] rest = refl
begins n (opens ∷ ls) rest = refl
begins n (closes ∷ ls) rest = refl
begins n (links attributes title ∷ ls) rest = refl
begins n (heads attributes title ∷ ls) rest = refl
begins n (notes bytes ∷ ls) rest = refl
begins n (rules attributes ∷ ls) rest = refl

-- ---- tags with bytes behind their names

named_link : (attributes : List ℕ) → begins_white attributes ≡ true → symbol_of (tag (codes "A" ++ attributes)) ≡ link attributes
named_link [] white = refl
named_link (b ∷ rest) white = rw white refl

named_heading : (attributes : List ℕ) → begins_white attributes ≡ true → symbol_of (tag (codes "H3" ++ attributes)) ≡ heading attributes
named_heading [] white = refl
named_heading (b ∷ rest) white = rw white refl

named_rule : (attributes : List ℕ) → begins_white attributes ≡ true → symbol_of (tag (codes "HR" ++ attributes)) ≡ rule attributes
named_rule [] white = refl
named_rule (b ∷ rest) white = rw white refl

-- ---- the tokens of one line in front of those of what stands behind it

module _ (rest : List ℕ) (ms : List Symbol) where
  -- a tag of a name alone
  alone : (titled : Bool) (inside : List ℕ) (m : Symbol) (bytes : List ℕ) → symbol_of (tag inside) ≡ m → is_inside false inside ≡ true
      → (not titled && is_skipped m) ≡ false
      → HasSymbols (is_titled_behind titled m) bytes ms rest → HasSymbols titled (less ∷ (inside ++ greater ∷ bytes)) (m ∷ ms) rest
  alone titled inside m bytes is sound stays has =
      ahead (less ∷ (inside ++ greater ∷ bytes)) bytes rest ms titled (tag inside) m is
      (record { are = ap (λ l. less ∷ l) (sym (append_assoc inside (greater ∷ []) bytes)); may = sound }) stays has

  paragraph_passed : (bytes : List ℕ) → IsSome ms → HasSymbols false bytes ms rest → HasSymbols false (codes "<p>" ++ bytes) ms rest
  paragraph_passed bytes some has = passed (codes "<p>" ++ bytes) bytes rest ms (tag (codes "p")) (record { are = refl; may = refl }) refl some has

  titled_words : (title inside bytes : List ℕ) → has_less title ≡ false → HasSymbols true (less ∷ bytes) ms rest
      → HasSymbols true (title ++ less ∷ bytes) (words_of title ++ ms) rest
  titled_words [] inside bytes plain has = has
  titled_words (b ∷ title) inside bytes plain has =
      ahead ((b ∷ title) ++ less ∷ bytes) (less ∷ bytes) rest ms true (text (b ∷ title)) (words (b ∷ title)) refl
      (record { are = refl; may = ((λ e. let bad : ⊥ = cc in bad), plain, refl) }) refl has

  noted_words : (bytes white more : List ℕ) → IsNote bytes → is_white white ≡ true → begins_tag more ≡ true → HasSymbols false more ms rest
      → (b : ℕ) (tail : List ℕ) → bytes ≡ b ∷ tail → HasSymbols false (bytes ++ (white ++ more)) (words (bytes ++ white) ∷ ms) rest
  noted_words bytes white more is_note is_white begins has b tail is =
      ahead (bytes ++ (white ++ more)) more rest ms false (text (bytes ++ white)) (words (bytes ++ white)) refl
      (record {
        are = sym (append_assoc bytes white more);
        may = (
          (λ e. let no : b ∷ (tail ++ white) ≡ [] = ap (λ l. l ++ white) (sym is) ∙ e in let bad : ⊥ = cc in bad),
          plain_append bytes white is_note.0 (white_plain white is_white),
          begins,
        );
      })
      (black_append bytes white (elim is_note.1 [
        | inl none ↦ (let no : b ∷ tail ≡ [] = sym is ∙ none in let bad : ⊥ = cc in absurd bad)
        | inr black ↦ black
      ])) has

titled_end : (title : List ℕ) (m : Symbol) (ms : List Symbol) → words_of title ++ m ∷ ms ≡ (words_of title ++ m ∷ []) ++ ms
titled_end title m ms = sym (append_assoc (words_of title) (m ∷ []) ms)

module _ (white more rest : List ℕ) (ms : List Symbol) (is_white : is_white white ≡ true) (begins : begins_tag more ≡ true)
    (some : IsSome ms) (has : HasSymbols false more ms rest) where
  passes : HasSymbols false (white ++ more) ms rest
  passes = white_passed white more rest ms is_white begins some has

  line_symbols : (l : Line) → IsLine l → HasSymbols false (before l (white ++ more)) (symbols_in (longer white l) ++ ms) rest
  unfolding before
  line_symbols opens is = alone rest ms false (codes "DL") list (codes "<p>" ++ (white ++ more)) refl refl refl (paragraph_passed rest ms (white ++ more) some passes)
  line_symbols closes is = alone rest ms false (codes "/DL") list_end (codes "<p>" ++ (white ++ more)) refl refl refl (paragraph_passed rest ms (white ++ more) some passes)
  line_symbols (links attributes title) is =
      alone rest (link attributes ∷ ((words_of title ++ link_end ∷ []) ++ ms)) false (codes "DT") entry _ refl refl refl
      (alone rest ((words_of title ++ link_end ∷ []) ++ ms) false (codes "A" ++ attributes) (link attributes) (title ++ (codes "</A>" ++ (white ++ more)))
      (named_link attributes is.0.apart) is.0.inside refl
      (subst (λ ks. HasSymbols true (title ++ (codes "</A>" ++ (white ++ more))) ks rest) (titled_end title link_end ms)
      (titled_words rest (link_end ∷ ms) title [] (codes "/A>" ++ (white ++ more)) is.1
      (alone rest ms true (codes "/A") link_end (white ++ more) refl refl refl passes))))
  line_symbols (heads attributes title) is =
      alone rest (heading attributes ∷ ((words_of title ++ heading_end ∷ []) ++ ms)) false (codes "DT") entry _ refl refl refl
      (alone rest ((words_of title ++ heading_end ∷ []) ++ ms) false (codes "H3" ++ attributes) (heading attributes) (title ++ (codes "</H3>" ++ (white ++ more)))
      (named_heading attributes is.0.apart) is.0.inside refl
      (subst (λ ks. HasSymbols true (title ++ (codes "</H3>" ++ (white ++ more))) ks rest) (titled_end title heading_end ms)
      (titled_words rest (heading_end ∷ ms) title [] (codes "/H3>" ++ (white ++ more)) is.1
      (alone rest ms true (codes "/H3") heading_end (white ++ more) refl refl refl passes))))
  line_symbols (notes []) is = alone rest ms false (codes "DD") note (white ++ more) refl refl refl passes
  line_symbols (notes (b ∷ bytes)) is =
      alone rest (words ((b ∷ bytes) ++ white) ∷ ms) false (codes "DD") note ((b ∷ bytes) ++ (white ++ more)) refl refl refl
      (noted_words rest ms (b ∷ bytes) white more is is_white begins has b bytes refl)
  line_symbols (rules attributes) is =
      alone rest ms false (codes "HR" ++ attributes) (rule attributes) (white ++ more) (named_rule attributes is.apart) is.inside refl passes

-- ---- all lines

first_there : (ls : List Line) → IsSome (symbols_of (ls ++ closes ∷ []))
first_there [] = tt
first_there (opens ∷ ls) = tt
first_there (closes ∷ ls) = tt
first_there (links attributes title ∷ ls) = tt
first_there (heads attributes title ∷ ls) = tt
first_there (notes bytes ∷ ls) = tt
first_there (rules attributes ∷ ls) = tt

headless_read : (n : ℕ) (ls : List Line) (rest : List ℕ) → AllByRecursion IsLine ls → AreRead (headless n ls rest) ls rest
unfolding headless before
headless_read n [] rest are =
    record { found = []; alike = tt; symbols = alone rest [] false (codes "/DL") list_end rest refl refl refl refl }
headless_read n (l ∷ ls) rest are =
    let r = headless_read (depth_behind n l) ls rest are.1 in
    let spaces = indent (first_depth (depth_behind n l) ls) in
    let white : is_white (10 ∷ spaces) ≡ true = spaces_white (4 * first_depth (depth_behind n l) ls) in
    record {
      found = longer (10 ∷ spaces) l ∷ r.found;
      alike = ((10 ∷ spaces, (white, refl)), r.alike);
      symbols =
          line_symbols (10 ∷ spaces) (headless (depth_behind n l) ls rest) rest (symbols_of (r.found ++ closes ∷ [])) white
          (begins (depth_behind n l) ls rest) (first_there r.found) r.symbols l are.0;
    }

-- lines that are written, and the end of their list, are read again
pub laid_read : (n : ℕ) (ls : List Line) (rest : List ℕ) → AllByRecursion IsLine ls
    → AreRead (laid_list n ls ++ rest) ls rest
laid_read n ls rest are =
    let r = headless_read n ls rest are in
    record {
      found = r.found;
      alike = r.alike;
      symbols =
          subst (λ bytes. HasSymbols false bytes (symbols_of (r.found ++ closes ∷ [])) rest) (sym (laid_before n ls rest))
          (white_passed (indent (first_depth n ls)) (headless n ls rest) rest (symbols_of (r.found ++ closes ∷ []))
          (spaces_white (4 * first_depth n ls)) (begins n ls rest) (first_there r.found) r.symbols);
    }
