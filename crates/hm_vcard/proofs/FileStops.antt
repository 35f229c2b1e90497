-- Where cards stop, the lines of a file stop.
use Rattle.std.proofs.Common.{◌≡◌, ◌≢◌, ℕ, ◌+◌, ◌<◌, ◌≤◌, List, [], ◌∷◌, ◌++◌, length, take, sym, ap, ◌∙◌, refl, arith}
use Rattle.std.specs.Prelude.{All}
use Rattle.std.proofs.lemmas.List.{append_assoc, append-nil, length-append, length-take-le}
use Rattle.std.proofs.lemmas.List.Elements.{All-push, All-head}
use Rattle.std.proofs.Math.Seq.{take-append-add}
use Rattle.std.specs.List.{flat_map}
use Rattle.hm_schema.specs.Values.{OptionsValue}
use Rattle.hm_lines_files.specs.Components.{Bytes, piece_lines, Layout, all_lines as layout_lines}
use Rattle.hm_lines_files.specs.Stops.{Opens, StopsAtLine, AreOf, IsStop as IsFileStop}
use Rattle.hm_lines_files.specs.declared.layout_fault.LayoutFault.{LayoutFault}
use Rattle.hm_lines_files.specs.declared.layout_fault.LayoutFault.TheVariants as stop
use Rattle.hm_vcard.specs.Cards.{CardLines, IsCard, lines_of, all_lines, pieces_with, IsFileOfCards, vcards}
use Rattle.hm_vcard.specs.Opening.{StopsCards, AreAll, IsStop}
use Rattle.hm_vcard.proofs.CardLists.{AreOthers, others, all_more}

-- the lines of a file of cards are those of the cards
lines_with : (cards : List CardLines) → flat_map piece_lines (pieces_with cards) ≡ all_lines cards
lines_with [] = refl
lines_with (c ∷ cards) = ap (λ (ls : List Bytes). lines_of c ++ ls) (lines_with cards)

abbrev pub layout_with : List CardLines → Layout
layout_with cards = record { pieces = pieces_with cards; end = [] }

pub file_lines : (cards : List CardLines) → layout_lines (layout_with cards) ≡ all_lines cards
file_lines cards = append-nil (flat_map piece_lines (pieces_with cards)) ∙ lines_with cards

pub lines_are : (l : Layout) (is : IsFileOfCards l) → layout_lines l ≡ all_lines is.cards
lines_are l is = ap layout_lines is.same ∙ file_lines is.cards

pub file_with : (cards : List CardLines) → All IsCard cards → IsFileOfCards (layout_with cards)
file_with cards each = record { cards = cards; each = each; same = refl }

module _ (o : OptionsValue) (L : List Bytes) (place : ℕ) (stops : StopsCards L place) where
  abbrev done : List Bytes
  done = all_lines stops.cards

  -- the lines up to some place behind the cards
  front_of : (n : ℕ) → take (length done + n) L ≡ done ++ take n stops.rest
  front_of n = ap (take (length done + n)) stops.are ∙ take-append-add done stops.rest n

  -- lines that go on from there aren't those of cards
  no_card : (X : List Bytes) → X ≢ [] → ((card : CardLines) (rest : List Bytes) → IsCard card → X ≢ lines_of card ++ rest) → AreOthers X → ⊥
  no_card X some none cards = go cards.cards cards.each cards.are
    where
      go : (cs : List CardLines) → All IsCard cs → X ≡ all_lines cs → ⊥
      go [] each e = some e
      go (c ∷ cs) each e = none c (all_lines cs) (All-head IsCard c cs each) e

  not_empty : (n : ℕ) (xs ys : List Bytes) → n < length xs → take (n + 1) xs ++ ys ≢ []
  not_empty n xs ys lt e =
      let one = length-take-le (n + 1) xs (omega (arith, lt)) in
      let two = sym (length-append (take (n + 1) xs) ys) ∙ ap length e in
      omega (arith, one, two)

  long : length L ≡ length done + length stops.rest
  long = ap length stops.are ∙ length-append done stops.rest

  within : place ≤ length L
  within = let is = stops.place_is in let w = stops.stops.within in let l = long in omega (arith, is, w, l)

  opens : Opens vcards o (take place L)
  opens =
      let fits = stops.stops.fits in
      let cards = stops.cards ++ fits.card ∷ [] in
      record {
        more = fits.more;
        layout = layout_with cards;
        has = file_with cards (All-push IsCard stops.cards fits.card stops.each fits.is);
        are =
            ap (λ (ls : List Bytes). ls ++ fits.more) (ap (λ n. take n L) stops.place_is ∙ front_of stops.at)
            ∙ append_assoc done (take stops.at stops.rest) fits.more
            ∙ ap (λ (ls : List Bytes). done ++ ls) fits.are
            ∙ sym (all_more stops.cards fits.card) ∙ sym (file_lines cards);
      }

  next : place < length L → Opens vcards o (take (place + 1) L) → ⊥
  next lt may =
      let is = stops.place_is in
      let l = long in
      let at_within : stops.at < length stops.rest = omega (arith, lt, is, l) in
      let later : place + 1 ≡ length done + (stops.at + 1) = omega (arith, is) in
      let X = take (stops.at + 1) stops.rest ++ may.more in
      let same : done ++ X ≡ all_lines may.has.cards
      = sym (append_assoc done (take (stops.at + 1) stops.rest) may.more)
      ∙ ap (λ (ls : List Bytes). ls ++ may.more) (sym (ap (λ n. take n L) later ∙ front_of (stops.at + 1)))
      ∙ may.are ∙ lines_are may.layout may.has in
      no_card X (not_empty stops.at stops.rest may.more at_within) (λ card rest c. stops.stops.next at_within card rest may.more c)
      (others stops.cards may.has.cards X stops.each may.has.each same)

  none : (l : Layout) → IsFileOfCards l → ¬ (L ≡ layout_lines l)
  none l is e =
      no_card stops.rest stops.some (λ card rest c. stops.stops.end card rest c)
      (others stops.cards is.cards stops.rest stops.each is.each (sym stops.are ∙ e ∙ lines_are l is))

  pub file_stops : StopsAtLine vcards o L place
  file_stops = record { within = within; opens = opens; next = next; none = none }

pub stop_told : (o : OptionsValue) (L : List Bytes) (s : LayoutFault) → IsStop L s → IsFileStop vcards o L s
stop_told o L (stop.At place) why = file_stops o L place why
stop_told o L stop.Memory why = tt

pub layout_told : (o : OptionsValue) (L : List Bytes) (l : Layout) → AreAll L l.pieces → l.end ≡ [] → AreOf vcards o L l
layout_told o L l all end =
    let same : l ≡ layout_with all.cards = λ i. record { pieces = all.same i; end = end i } in
    (record { cards = all.cards; each = all.each; same = same }, all.are ∙ sym (ap layout_lines same ∙ file_lines all.cards))
