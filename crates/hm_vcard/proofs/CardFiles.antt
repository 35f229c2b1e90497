-- Files of cards: their lines are those of one list of cards, and a file that is renewed is one still.
use Rattle.std.proofs.Common.{◌≡◌, ◌≢◌, ℕ, true, false, List, [], ◌∷◌, ◌++◌, map, refl, sym, ap, ◌∙◌}
use Rattle.std.specs.Prelude.{All, codes}
use Rattle.std.specs.Bool.{◌==◌}
use Rattle.std.specs.Char.{to_ascii_lowercase}
use Rattle.std.proofs.lemmas.Slice.Eq.{bytes_eq-Decides}
use Rattle.std.proofs.lemmas.Bool.{ne_eqb, or_from}
use Rattle.std.proofs.lemmas.List.{append_assoc}
use Rattle.std.proofs.lemmas.List.Elements.{All-nil, All-cons, All-head, All-tail, All-append}
use Rattle.hm_lines.specs.Unfolding.{is_blank, begins_with_blank}
use Rattle.hm_lines.proofs.Laws.{content_no_blank}
use Rattle.hm_lines_cards.specs.Lines.{Line}
use Rattle.hm_lines_cards.specs.Lent.{plain}
use Rattle.hm_lines_files.specs.Components.{Bytes, Component, Piece, item, components_of}
use Rattle.hm_lines_files.specs.Renewed.{AreRenewed, behind, stays, goes, exchanged}
use Rattle.hm_lines_files.specs.Forms.{is_full}
use Rattle.hm_vcard.specs.Cards as cards
use Rattle.hm_vcard.specs.Cards.{CardLines, IsProperty, IsCard, begin_line, version_line, end_line, frame_names, is_frame, is_line, birthday, single, component_with, pieces_with, IsCardComponent, IsFileOfCards, vcards}
use Rattle.hm_vcard.specs.Opening.{IsOther}
use Rattle.hm_vcard.proofs.Frames.{end_other}
use Rattle.hm_vcard.proofs.Fronts.{one_line}
use Rattle.hm_vcard.proofs.CardLists.{card_full, property_at}

-- ---- files of cards

-- the cards of pieces that are cards, renewed
pub record AreCards (ps : List Piece) : Type 0 where
  pub cards : List CardLines
  pub each : All IsCard cards
  pub same : ps ≡ pieces_with cards

cards_from : (cs : List Component) → All IsCardComponent cs → AreCards (map item cs)
cards_from [] each = record { cards = []; each = All-nil IsCard; same = refl }
cards_from (c ∷ cs) each =
    let one = All-head IsCardComponent c cs each in
    let rest = cards_from cs (All-tail IsCardComponent c cs each) in
    record {
      cards = one.card ∷ rest.cards;
      each = All-cons IsCard one.card rest.cards one.is rest.each;
      same = λ i. item (one.same i) ∷ rest.same i;
    }

pub renewed_cards : (ps qs : List Piece) → AreRenewed IsCardComponent ps qs → (cards : List CardLines) → ps ≡ pieces_with cards → All IsCard cards → AreCards qs
renewed_cards ps qs (behind cs fits) cards e each = cards_from cs fits
renewed_cards ps qs (stays r) [] e each = let bad : ⊥ = cc in absurd bad
renewed_cards ps qs (stays r) (c ∷ cards) e each = let bad : ⊥ = cc in absurd bad
renewed_cards ps qs (goes d r) [] e each = let bad : ⊥ = cc in absurd bad
renewed_cards ps qs (goes d r) (c ∷ cards) e each = renewed_cards _ qs r cards (let same = e in cc) (All-tail IsCard c cards each)
renewed_cards ps qs (exchanged fit r) [] e each = let bad : ⊥ = cc in absurd bad
renewed_cards ps qs (exchanged fit r) (c ∷ cards) e each =
    let rest = renewed_cards _ _ r cards (let same = e in cc) (All-tail IsCard c cards each) in
    record {
      cards = fit.card ∷ rest.cards;
      each = All-cons IsCard fit.card rest.cards fit.is rest.each;
      same = λ i. item (fit.same i) ∷ rest.same i;
    }

pub components_fit : (cards : List CardLines) → All IsCard cards → All IsCardComponent (components_of (pieces_with cards))
components_fit [] each = All-nil IsCardComponent
components_fit (c ∷ cards) each =
    All-cons IsCardComponent (component_with c) (components_of (pieces_with cards))
    (record { card = c; is = All-head IsCard c cards each; same = refl }) (components_fit cards (All-tail IsCard c cards each))

abbrev pub IsFull : Bytes → Type 0
IsFull line = is_full line ≡ true

pub all_full : (cs : List CardLines) → All IsCard cs → All IsFull (cards.all_lines cs)
all_full [] each = All-nil IsFull
all_full (c ∷ cs) each =
    All-append IsFull (cards.lines_of c) (cards.all_lines cs) (card_full c (All-head IsCard c cs each)) (all_full cs (All-tail IsCard c cs each))

-- ---- lines are those of one list of cards

abbrev AreSame : List Line → List Line → Bytes → Bytes → List Bytes → List Bytes → Type 0
AreSame ps qs e f X Y = (ps ≡ qs) × ((e ≡ f) × (X ≡ Y))

properties_once : (ps qs : List Line) (e f : Bytes) (X Y : List Bytes) → All IsProperty ps → All IsProperty qs → IsOther e → IsOther f
    → plain ps ++ e ∷ X ≡ plain qs ++ f ∷ Y → AreSame ps qs e f X Y
properties_once [] [] e f X Y one two oe of same = (refl, (let s = same in cc, let s = same in cc))
properties_once [] (q ∷ qs) e f X Y one two oe of same =
    let here : e ≡ q.0 = cc in absurd (property_at q e (All-head IsProperty q qs two) oe here)
properties_once (p ∷ ps) [] e f X Y one two oe of same =
    let here : f ≡ p.0 = cc in absurd (property_at p f (All-head IsProperty p ps one) of here)
properties_once (p ∷ ps) (q ∷ qs) e f X Y one two oe of same =
    let here : p.0 ≡ q.0 = cc in
    let later : plain ps ++ e ∷ X ≡ plain qs ++ f ∷ Y = cc in
    let rest = properties_once ps qs e f X Y (All-tail IsProperty p ps one) (All-tail IsProperty q qs two) oe of later in
    (λ i. one_line p q (All-head IsProperty p ps one) (All-head IsProperty q qs two) here i ∷ rest.0 i, rest.1)

card_once : (c d : CardLines) (X Y : List Bytes) → IsCard c → IsCard d → cards.lines_of c ++ X ≡ cards.lines_of d ++ Y → (c ≡ d) × (X ≡ Y)
card_once c d X Y one two same =
    let begin : c.begin ≡ d.begin = cc in
    let version : c.version ≡ d.version = cc in
    let later : (plain c.properties ++ c.end ∷ []) ++ X ≡ (plain d.properties ++ d.end ∷ []) ++ Y = cc in
    let rest = properties_once c.properties d.properties c.end d.end X Y one.properties two.properties (end_other c.end one.ends) (end_other d.end two.ends)
    (sym (append_assoc (plain c.properties) (c.end ∷ []) X) ∙ later ∙ append_assoc (plain d.properties) (d.end ∷ []) Y) in
    (λ i. record { begin = begin i; version = version i; properties = rest.0 i; end = rest.1.0 i }, rest.1.1)

pub cards_once : (cs ds : List CardLines) → All IsCard cs → All IsCard ds → cards.all_lines cs ≡ cards.all_lines ds → cs ≡ ds
cards_once [] [] one two same = refl
cards_once [] (d ∷ ds) one two same = let bad : ⊥ = cc in absurd bad
cards_once (c ∷ cs) [] one two same = let bad : ⊥ = cc in absurd bad
cards_once (c ∷ cs) (d ∷ ds) one two same =
    let head = card_once c d (cards.all_lines cs) (cards.all_lines ds) (All-head IsCard c cs one) (All-head IsCard d ds two) same in
    let rest = cards_once cs ds (All-tail IsCard c cs one) (All-tail IsCard d ds two) head.1 in
    λ i. head.0 i ∷ rest i

-- ---- no line begins with a blank

not_blank : (b x : ℕ) → to_ascii_lowercase b ≡ x → x ≢ 32 → x ≢ 9 → is_blank b ≡ false
not_blank b x e space tab =
    or_from (b == 32) (b == 9) (ne_eqb b 32 (λ is. space (sym e ∙ ap to_ascii_lowercase is))) (ne_eqb b 9 (λ is. tab (sym e ∙ ap to_ascii_lowercase is)))

abbrev pub HasNoBlank : Bytes → Type 0
HasNoBlank line = begins_with_blank line ≡ false

-- a line that is a certain one, whose first byte is x
frame_no_blank : (x : ℕ) (rest line : Bytes) → to_ascii_lowercase x ≢ 32 → to_ascii_lowercase x ≢ 9 → is_line (x ∷ rest) line ≡ true → HasNoBlank line
frame_no_blank x rest [] space tab e = refl
frame_no_blank x rest (b ∷ line) space tab e =
    let same = (bytes_eq-Decides (map to_ascii_lowercase (b ∷ line)) (map to_ascii_lowercase (x ∷ rest))).0 e in
    let first : to_ascii_lowercase b ≡ to_ascii_lowercase x = cc in
    not_blank b (to_ascii_lowercase x) first space tab

properties_no_blank : (ps : List Line) → All IsProperty ps → All HasNoBlank (plain ps)
properties_no_blank [] each = All-nil HasNoBlank
properties_no_blank (p ∷ ps) each =
    let one = All-head IsProperty p ps each in
    All-cons HasNoBlank p.0 (plain ps) (content_no_blank p.0 one.parts one.content) (properties_no_blank ps (All-tail IsProperty p ps each))

card_no_blank : (c : CardLines) → IsCard c → All HasNoBlank (cards.lines_of c)
card_no_blank c is =
    All-cons HasNoBlank c.begin (c.version ∷ (plain c.properties ++ c.end ∷ []))
    (frame_no_blank 66 (codes "EGIN:VCARD") c.begin (λ e. let bad : ⊥ = cc in bad) (λ e. let bad : ⊥ = cc in bad) is.begins)
    (All-cons HasNoBlank c.version (plain c.properties ++ c.end ∷ [])
    (frame_no_blank 86 (codes "ERSION:4.0") c.version (λ e. let bad : ⊥ = cc in bad) (λ e. let bad : ⊥ = cc in bad) is.versioned)
    (All-append HasNoBlank (plain c.properties) (c.end ∷ []) (properties_no_blank c.properties is.properties)
    (All-cons HasNoBlank c.end [] (frame_no_blank 69 (codes "ND:VCARD") c.end (λ e. let bad : ⊥ = cc in bad) (λ e. let bad : ⊥ = cc in bad) is.ends) (All-nil HasNoBlank))))

pub all_no_blank : (cs : List CardLines) → All IsCard cs → All HasNoBlank (cards.all_lines cs)
all_no_blank [] each = All-nil HasNoBlank
all_no_blank (c ∷ cs) each =
    All-append HasNoBlank (cards.lines_of c) (cards.all_lines cs) (card_no_blank c (All-head IsCard c cs each)) (all_no_blank cs (All-tail IsCard c cs each))
