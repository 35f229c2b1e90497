-- The lines that are rewritten are lines again, of UTF-8 and without line feeds.
use Rattle.std.proofs.Common.{◌≡◌, ℕ, ◌+◌, ◌<◌, Bool, true, false, cond, T, List, [], ◌∷◌, ◌++◌, get_or, take, map, slice_get, Option, Some, None, refl, ap, subst, arith}
use Rattle.std.specs.Prelude.{All}
use Rattle.std.specs.Bool.{◌==◌}
use Rattle.std.specs.Option.{is_none}
use Rattle.std.specs.List.{flat_map}
use Rattle.std.specs.Str.{IsUtf8}
use Rattle.std.proofs.lemmas.Bool.{ne_eqb, both_ways}
use Rattle.std.proofs.lemmas.List.Elements.{All-nil, All-cons, All-head, All-tail, All-append, All-take, All-filter}
use Rattle.std.proofs.lemmas.Str.{IsUtf8-append, IsUtf8-take, IsUtf8-from_ascii}
use Rattle.std.proofs.lemmas.Str.Ascii.{IsAscii-from_all}
use Rattle.hm_tree.specs.Names.{Name}
use Rattle.hm_tree.specs.Nodes.{Tree, are_edges, edges_head, edges_tail}
use Rattle.hm_tree.specs.Sets.{ascending}
use Rattle.hm_tree.proofs.Texts.{text_tested}
use Rattle.hm_lines.specs.declared.content.LineParts.{LineParts}
use Rattle.hm_lines.specs.Content.{colon, is_of_word, IsWord}
use Rattle.hm_lines.specs.Unfolding.{feed}
use Rattle.hm_lines.specs.Values.{escaped}
use Rattle.hm_lines.specs.Folding.{IsPlain, HasNone}
use Rattle.hm_lines.proofs.Laws.{escaped_utf8, escaped_no_feed, content_no_blank}
use Rattle.hm_tree.specs.Sets.{new_names}
use Rattle.hm_book_cards.specs.Cards.{Shown, texts_at}
use Rattle.hm_lines_cards.specs.Lines.{Line, AreProperties, HasParts, IsLine, text_shown, set_of}
use Rattle.hm_lines_cards.specs.Rewriting.{Property, stays, if_stays, with_value, is_same, one_line, first_in, target, line_for, is_at, property_of, line_in, line_at, rewritten_from, new_line, new_texts, lines_for, rewritten}
use Rattle.hm_lines_cards.proofs.Parts.{value_boundary}
use Rattle.hm_lines_cards.proofs.MadeLines.{parts_of, made_new, made_line, made_is_line}

-- what holds of lines from before, of those with new values and of new ones holds of all
module _ (P : Line → Type 0) (Good : Name → Type 0) (made : (l : Line) → IsLine l → P l → (t : Name) → Good t → P (with_value l.0 l.1 t)) (card : Tree)
    (good : (k : Name) → All Good (ascending (texts_at k card))) where
  one : (l : Line) → P l → All P (l ∷ [])
  one l h = All-cons P l [] h (All-nil P)

  in_one : (l : Line) → IsLine l → P l → (new old : Option Name) → ((t : Name) → new ≡ Some t → Good t) → All P (one_line new old l)
  in_one l is h None None good = one l h
  in_one l is h None (Some k) good = All-nil P
  in_one l is h (Some t) old good = go (is_same old t)
    where
      go : (b : Bool) → All P (cond b l (with_value l.0 l.1 t) ∷ [])
      go true = one l h
      go false = one (with_value l.0 l.1 t) (made l is h t (good t refl))

  first_good : (k : Name) (names : List Name) → All Good names → (t : Name) → slice_get names 0 ≡ Some t → Good t
  first_good k [] all t e = let bad : ⊥ = cc in absurd bad
  first_good k (n ∷ names) all t e = subst Good (let same : n ≡ t = cc in same) (All-head Good n names all)

  in_line : (l : Line) → IsLine l → P l → (o : Option Property) (all : List Line) (place : ℕ) → All P (line_in o card all place l)
  in_line l is h None all place = one l h
  in_line l is h (Some p) all place = go p.1 (is_at place (target p.0 all))
    where
      stay : (b : Bool) → All P (if_stays b l)
      stay true = one l h
      stay false = All-nil P

      go : (many at : Bool) → All P (line_for (p.0, many) (texts_at p.0 card) at l)
      go true at = stay (stays (texts_at p.0 card) (text_shown p.0 l))
      go false true =
          in_one l is h (first_in (texts_at p.0 card)) (text_shown p.0 l) (λ t e. first_good p.0 (ascending (texts_at p.0 card)) (good p.0) t e)
      go false false = one l h

  pub in_kept : (properties : Shown) (all : List Line) (place : ℕ) (ls : List Line) → All IsLine ls → All P ls → All P (rewritten_from properties card all place ls)
  in_kept properties all place [] lines h = All-nil P
  in_kept properties all place (l ∷ ls) lines h =
      All-append P (line_at properties card all place l) (rewritten_from properties card all (place + 1) ls)
      (in_line l (All-head IsLine l ls lines) (All-head P l ls h) (property_of properties l) all place)
      (in_kept properties all (place + 1) ls (All-tail IsLine l ls lines) (All-tail P l ls h))

  new_good : (all : List Line) (p : Property) → All Good (new_texts card all p)
  new_good all p = go p.1 (is_none (target p.0 all))
    where
      go : (many none : Bool) → All Good (cond many (new_names (set_of p.0 all) (texts_at p.0 card)) (cond none (ascending (texts_at p.0 card)) []))
      go true none = All-filter _ Good (ascending (texts_at p.0 card)) (good p.0)
      go false true = good p.0
      go false false = All-nil Good

  -- new lines are of properties of which something is known
  module _ (Named : Property → Type 0) (new : (p : Property) → Named p → (t : Name) → Good t → P (new_line p.0 t)) where
    all_new : (p : Property) → Named p → (ts : List Name) → All Good ts → All P (map (new_line p.0) ts)
    all_new p named [] h = All-nil P
    all_new p named (t ∷ ts) h =
        All-cons P (new_line p.0 t) (map (new_line p.0) ts) (new p named t (All-head Good t ts h)) (all_new p named ts (All-tail Good t ts h))

    pub in_new : (all : List Line) (ps : Shown) → All Named ps → All P (flat_map (lines_for card all) ps)
    in_new all [] named = All-nil P
    in_new all (p ∷ ps) named =
        All-append P (lines_for card all p) (flat_map (lines_for card all) ps)
        (all_new p (All-head Named p ps named) (new_texts card all p) (new_good all p))
        (in_new all ps (All-tail Named p ps named))

    in_all : (properties : Shown) → All Named properties → (lines : List Line) → All IsLine lines → All P lines → All P (rewritten properties card lines)
    in_all properties named lines is h =
        All-append P (rewritten_from properties card lines 0 lines) (flat_map (lines_for card lines) properties) (in_kept properties lines 0 lines is h)
        (in_new lines properties named)

-- names of properties are words of UTF-8
abbrev IsTextWord : Property → Type 0
IsTextWord p = IsWord p.0 × IsUtf8 p.0

text_words : (ps : Shown) → T (are_edges ps) → All (λ (p : Property). IsWord p.0) ps → All IsTextWord ps
text_words [] names words = All-nil IsTextWord
text_words (p ∷ ps) names words =
    All-cons IsTextWord p ps (All-head (λ (p : Property). IsWord p.0) p ps words, text_tested p.0 (edges_head p ps names))
    (text_words ps (edges_tail p ps names) (All-tail (λ (p : Property). IsWord p.0) p ps words))

-- ---- lines

colon_utf8 : IsUtf8 (colon ∷ [])
colon_utf8 = IsUtf8-from_ascii (colon ∷ []) (IsAscii-from_all (colon ∷ []) (All-cons (λ x. x < 128) colon [] (omega arith) (All-nil (λ x. x < 128))))

word_no_feed : (name : Name) → IsWord name → HasNone feed name
word_no_feed name word i b lt = ne_eqb (get_or name i b) feed (λ is. both_ways (is_of_word (get_or name i b)) (ap is_of_word is) (word.all i b lt))

module _ (properties : Shown) (are : AreProperties properties) (card : Tree) (lines : List Line) (is : All IsLine lines) where
  named : All IsTextWord properties
  named = text_words properties are.names are.words

  pub rewritten_lines : All IsLine (rewritten properties card lines)
  rewritten_lines =
      in_all IsLine (λ t. Unit {0}) (λ l is h t good. made_is_line l is t) card (λ k i d lt. tt) IsTextWord (λ p named t good. made_new p.0 named.0 t) properties named lines is is

  pub utf8_again : All (λ (l : Line). IsUtf8 l.0) lines → ((k : Name) → All IsUtf8 (ascending (texts_at k card)))
      → All (λ (l : Line). IsUtf8 l.0) (rewritten properties card lines)
  utf8_again text sound =
      in_all (λ (l : Line). IsUtf8 l.0) IsUtf8 made card sound IsTextWord new properties named lines is text
    where
      made : (l : Line) → IsLine l → IsUtf8 l.0 → (t : Name) → IsUtf8 t → IsUtf8 (with_value l.0 l.1 t).0
      made l is text t good = go l.1 is
        where
          go : (o : Option LineParts) → HasParts l.0 o → IsUtf8 (with_value l.0 o t).0
          go None is = text
          go (Some parts) is =
              IsUtf8-append (take parts.value_from l.0) (escaped t) (IsUtf8-take l.0 parts.value_from text (value_boundary l.0 parts is text)) (escaped_utf8 t good)

      new : (p : Property) → IsTextWord p → (t : Name) → IsUtf8 t → IsUtf8 (new_line p.0 t).0
      new p named t good = IsUtf8-append p.0 (colon ∷ escaped t) named.1 (IsUtf8-append (colon ∷ []) (escaped t) colon_utf8 (escaped_utf8 t good))

  -- so that they can be folded and unfolded
  pub rewritten_plain : All (λ (l : Line). IsPlain l.0) lines → All (λ (l : Line). IsPlain l.0) (rewritten properties card lines)
  rewritten_plain plain =
      in_all (λ (l : Line). IsPlain l.0) (λ t. Unit {0}) made card (λ k i d lt. tt) IsTextWord new properties named lines is plain
    where
      made : (l : Line) → IsLine l → IsPlain l.0 → (t : Name) → Unit {0} → IsPlain (with_value l.0 l.1 t).0
      made l is plain t good = go l.1 is
        where
          go : (o : Option LineParts) → HasParts l.0 o → IsPlain (with_value l.0 o t).0
          go None is = plain
          go (Some parts) is = record {
            no_feed = All-append (λ b. (b == feed) ≡ false) (take parts.value_from l.0) (escaped t)
                (All-take (λ b. (b == feed) ≡ false) parts.value_from l.0 plain.no_feed) (escaped_no_feed t);
            no_blank = content_no_blank (take parts.value_from l.0 ++ escaped t) parts (made_line l.0 parts is t);
          }

      new : (p : Property) → IsTextWord p → (t : Name) → Unit {0} → IsPlain (new_line p.0 t).0
      new p named t good = record {
        no_feed = All-append (λ b. (b == feed) ≡ false) p.0 (colon ∷ escaped t) (word_no_feed p.0 named.0)
            (All-cons (λ b. (b == feed) ≡ false) colon (escaped t) refl (escaped_no_feed t));
        no_blank = content_no_blank (p.0 ++ colon ∷ escaped t) (parts_of p.0) (made_new p.0 named.0 t);
      }
