-- Cards one behind another.
use Rattle.std.proofs.Common.{◌≡◌, ℕ, ◌+◌, ◌<◌, ◌≤◌, true, List, [], ◌∷◌, ◌++◌, length, drop, refl, sym, ap, ◌∙◌, subst, arith}
use Rattle.std.specs.Prelude.{All}
use Rattle.std.proofs.lemmas.List.{append_assoc, append-nil, length-append, map-append, drop_at, drop_all}
use Rattle.std.proofs.lemmas.List.Elements.{All-head, All-tail, All-cons, All-nil, All-append, All-push}
use Rattle.std.proofs.lemmas.Grind.{flat_map-append}
use Rattle.hm_lines_cards.specs.Lines.{Line}
use Rattle.hm_lines_cards.specs.Lent.{plain}
use Rattle.hm_vcard.specs.Cards.{CardLines, IsProperty, IsCard, is_line, begin_line, version_line, end_line, lines_of, all_lines, component_with}
use Rattle.hm_lines_files.specs.Components.{Bytes, Piece, item}
use Rattle.hm_lines_files.specs.Forms.{is_full}
use Rattle.hm_vcard.specs.Opening.{IsStopBehind, IsStop, IsInFront, IsOther, AreFront, AreAll}
use Rattle.hm_lines_files.specs.declared.layout_fault.LayoutFault.{LayoutFault}
use Rattle.hm_lines_files.specs.declared.layout_fault.LayoutFault.TheVariants as stop
use Rattle.hm_vcard.proofs.Frames.{end_other}
use Rattle.hm_lines_files.proofs.ContentLines.{content_full}

-- ---- what stands behind a card is known

pub property_at : (p : Line) (e : Bytes) → IsProperty p → IsOther e → e ≡ p.0 → ⊥
property_at p e is other same = other p.1 (subst (λ (x : Bytes). IsProperty (x, p.1)) (sym same) is)

tails : (ps qs : List Line) (e f : Bytes) (X Y : List Bytes) → All IsProperty ps → All IsProperty qs → IsOther e → IsOther f
    → plain ps ++ e ∷ X ≡ plain qs ++ f ∷ Y → X ≡ Y
tails [] [] e f X Y one two oe of same = cc
tails [] (q ∷ qs) e f X Y one two oe of same =
    let here : e ≡ q.0 = cc in absurd (property_at q e (All-head IsProperty q qs two) oe here)
tails (p ∷ ps) [] e f X Y one two oe of same =
    let here : f ≡ p.0 = cc in absurd (property_at p f (All-head IsProperty p ps one) of here)
tails (p ∷ ps) (q ∷ qs) e f X Y one two oe of same =
    let later : plain ps ++ e ∷ X ≡ plain qs ++ f ∷ Y = cc in
    tails ps qs e f X Y (All-tail IsProperty p ps one) (All-tail IsProperty q qs two) oe of later

rest_same : (c d : CardLines) (X Y : List Bytes) → IsCard c → IsCard d → lines_of c ++ X ≡ lines_of d ++ Y → X ≡ Y
rest_same c d X Y one two same =
    let later : (plain c.properties ++ c.end ∷ []) ++ X ≡ (plain d.properties ++ d.end ∷ []) ++ Y = cc in
    tails c.properties d.properties c.end d.end X Y one.properties two.properties (end_other c.end one.ends) (end_other d.end two.ends)
    (sym (append_assoc (plain c.properties) (c.end ∷ []) X) ∙ later ∙ append_assoc (plain d.properties) (d.end ∷ []) Y)

-- what stands behind cards, in front of which lines are those of cards, are cards
pub record AreOthers (X : List Bytes) : Type 0 where
  pub cards : List CardLines
  pub each : All IsCard cards
  pub are : X ≡ all_lines cards

pub others : (cards cs : List CardLines) (X : List Bytes) → All IsCard cards → All IsCard cs → all_lines cards ++ X ≡ all_lines cs → AreOthers X
others [] cs X one two same = record { cards = cs; each = two; are = same }
others (c ∷ cards) [] X one two same = let bad : ⊥ = cc in absurd bad
others (c ∷ cards) (d ∷ cs) X one two same =
    others cards cs X (All-tail IsCard c cards one) (All-tail IsCard d cs two)
    (rest_same c d (all_lines cards ++ X) (all_lines cs) (All-head IsCard c cards one) (All-head IsCard d cs two)
    (sym (append_assoc (lines_of c) (all_lines cards) X) ∙ same))

-- ---- no line of a card is empty

abbrev Full : List Bytes → Type 0
Full lines = All (λ l. is_full l ≡ true) lines

properties_full : (ps : List Line) → All IsProperty ps → Full (plain ps)
properties_full [] all = All-nil (λ l. is_full l ≡ true)
properties_full (p ∷ ps) all =
    let one = All-head IsProperty p ps all in
    All-cons (λ l. is_full l ≡ true) p.0 (plain ps) (content_full p.0 one.parts one.content) (properties_full ps (All-tail IsProperty p ps all))

begin_full : (l : Bytes) → is_line begin_line l ≡ true → is_full l ≡ true
begin_full [] e = let bad : ⊥ = cc in absurd bad
begin_full (b ∷ l) e = refl

version_full : (l : Bytes) → is_line version_line l ≡ true → is_full l ≡ true
version_full [] e = let bad : ⊥ = cc in absurd bad
version_full (b ∷ l) e = refl

end_full : (l : Bytes) → is_line end_line l ≡ true → is_full l ≡ true
end_full [] e = let bad : ⊥ = cc in absurd bad
end_full (b ∷ l) e = refl

pub card_full : (c : CardLines) → IsCard c → Full (lines_of c)
card_full c is =
    let P = λ (l : Bytes). is_full l ≡ true in
    All-cons P c.begin (c.version ∷ (plain c.properties ++ c.end ∷ [])) (begin_full c.begin is.begins)
    (All-cons P c.version (plain c.properties ++ c.end ∷ []) (version_full c.version is.versioned)
    (All-append P (plain c.properties) (c.end ∷ []) (properties_full c.properties is.properties)
    (All-cons P c.end [] (end_full c.end is.ends) (All-nil P))))

-- ---- card by card, as the code goes over them

pub all_more : (cards : List CardLines) (card : CardLines) → all_lines (cards ++ card ∷ []) ≡ all_lines cards ++ lines_of card
all_more cards card = flat_map-append lines_of cards (card ∷ []) ∙ ap (λ (ls : List Bytes). all_lines cards ++ ls) (append-nil (lines_of card))

module _ (L : List Bytes) (from : ℕ) (pieces : List Piece) (done : AreFront L from pieces) where
  module _ (card : CardLines) (front : IsInFront (drop from L) card) where
    abbrev cards : List CardLines
    cards = done.cards ++ card ∷ []

    more : L ≡ all_lines cards ++ front.rest
    more =
        done.are ∙ ap (λ (ls : List Bytes). all_lines done.cards ++ ls) front.are ∙ sym (append_assoc (all_lines done.cards) (lines_of card) front.rest)
        ∙ ap (λ (ls : List Bytes). ls ++ front.rest) (sym (all_more done.cards card))

    counted_more : from + length (lines_of card) ≡ length (all_lines cards)
    counted_more =
        let counted = done.counted in
        let long = ap length (all_more done.cards card) ∙ length-append (all_lines done.cards) (lines_of card) in
        omega (arith, counted, long)

    pub front_more : (new : List Piece) → new ≡ pieces ++ item (component_with card) ∷ [] → AreFront L (from + length (lines_of card)) new
    front_more new pushed = record {
      cards = cards;
      each = All-push IsCard done.cards card done.each front.is;
      are =
          more
          ∙ ap (λ (ls : List Bytes). all_lines cards ++ ls)
          (sym (ap (drop (from + length (lines_of card))) more ∙ drop_at (all_lines cards) front.rest (from + length (lines_of card)) (sym counted_more)));
      counted = counted_more;
      same = pushed ∙ ap (λ (ps : List Piece). ps ++ item (component_with card) ∷ []) done.same
          ∙ sym (map-append (λ (c : CardLines). item (component_with c)) done.cards (card ∷ []));
    }

    pub within_more : from + length (lines_of card) ≤ length L
    within_more =
        let long = ap length more ∙ length-append (all_lines cards) front.rest in
        let same = counted_more in
        omega (arith, long, same)

  pub stops_behind : from < length L → (s : LayoutFault) → IsStopBehind L from s → IsStop L s
  stops_behind lt (stop.At place) why = record {
    cards = done.cards;
    each = done.each;
    rest = drop from L;
    are = done.are;
    some = λ e.
        let counted = done.counted in
        let long = ap length done.are ∙ ap (λ (ls : List Bytes). length (all_lines done.cards ++ ls)) e ∙ length-append (all_lines done.cards) [] in
        omega (arith, lt, counted, long);
    at = why.0;
    stops = why.1.1;
    place_is = why.1.0 ∙ ap (λ n. n + why.0) done.counted;
  }
  stops_behind lt stop.Memory why = tt

  pub are_all : length L ≤ from → AreAll L pieces
  are_all end = record {
    cards = done.cards;
    each = done.each;
    are = done.are ∙ ap (λ (ls : List Bytes). all_lines done.cards ++ ls) (drop_all from L end) ∙ append-nil (all_lines done.cards);
    same = done.same;
  }
