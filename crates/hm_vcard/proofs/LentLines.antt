-- Lines one by one, as the code goes over them.
use Rattle.std.proofs.Common.{◌≡◌, ℕ, ◌+◌, ◌<◌, ◌≤◌, List, [], ◌∷◌, ◌++◌, length, get_or, take, slice_get, Some, sym, ap, ◌∙◌, subst, arith}
use Rattle.std.specs.Prelude.{All}
use Rattle.std.specs.Borrow.{Bor}
use Rattle.std.proofs.lemmas.List.{length-append, length-map, get_or-map, map-append, take_more}
use Rattle.std.proofs.lemmas.List.Elements.{All-push}
use Rattle.std.proofs.lemmas.Option.{slice_get-get_or, get_or_from_slice_get}
use Rattle.hm_lines_cards.specs.declared.line.Line.{Line}
use Rattle.hm_lines_cards.specs.Lines.{Line as PlainLine, HasParts, IsLine}
use Rattle.hm_lines_cards.specs.Lent.{AreLines, line_of, lent, plain}
use Rattle.hm_vcard.specs.Cards.{IsProperty}
use Rattle.hm_lines_files.specs.Components.{Bytes}
use Rattle.hm_vcard.specs.Opening.{IsOther, IsPropertyOf, EndsAt}
use Rattle.hm_lines_files.specs.Lent.{texts}
use Rattle.hm_vcard.proofs.LentTexts.{read_text, same_at, past_none}

-- ---- properties

-- they have the parts that they say
pub are_lines : (ls : List Line) → All IsProperty (lent ls) → AreLines ls
are_lines ls all = λ i d lt.
    let long = length-map ls line_of in
    let p = all i (line_of d) (omega (arith, lt, long)) in
    one (line_of (get_or ls i d)) (subst IsProperty (get_or-map line_of ls i d (line_of d) lt) p)
  where
    one : (l : PlainLine) → IsProperty l → IsLine l
    one l p = subst (HasParts l.0) (sym p.are) p.content

module _ (lines : List (Bor Bytes)) (i : ℕ) (d : Bor Bytes) (lt : i < length lines) where
  here : slice_get (texts lines) i ≡ Some (get_or lines i d).now
  here = read_text lines i (get_or lines i d) (slice_get-get_or lines i d lt)

  pub other_at : (n : ℕ) → n ≡ i → IsOther (get_or lines i d).now → EndsAt (texts lines) n
  other_at n e other = λ line at.
      subst IsOther (same_at (texts lines) i (get_or lines i d).now line here (ap (slice_get (texts lines)) (sym e) ∙ at)) other

  module _ (found new : List Line) (line : Line) (pushed : new ≡ found ++ line ∷ []) (is : IsPropertyOf (get_or lines i d).now (line_of line)) where
    pub counted_more : length found ≡ i → length new ≡ i + 1
    counted_more e = ap length pushed ∙ length-append found (line ∷ []) ∙ ap (λ n. n + 1) e

    pub front_more : plain (lent found) ≡ take i (texts lines) → plain (lent new) ≡ take (i + 1) (texts lines)
    front_more so_far =
        let long = length-map lines (λ (l : Bor Bytes). l.now) in
        ap (λ (ls : List Line). plain (lent ls)) pushed
        ∙ ap plain (map-append line_of found (line ∷ []))
        ∙ map-append (λ (l : PlainLine). l.0) (lent found) (line_of line ∷ [])
        ∙ (λ j. so_far j ++ is.text_is j ∷ [])
        ∙ ap (λ (t : Bytes). take i (texts lines) ++ t ∷ []) (sym (get_or_from_slice_get (texts lines) i (get_or lines i d).now [] here))
        ∙ sym (take_more (texts lines) i [] (omega (arith, lt, long)))

    pub each_more : All IsProperty (lent found) → All IsProperty (lent new)
    each_more so_far =
        subst (λ (ls : List Line). All IsProperty (lent ls)) (sym pushed)
        (subst (All IsProperty) (sym (map-append line_of found (line ∷ []))) (All-push IsProperty (lent found) (line_of line) so_far is.is))

pub ends_past : (lines : List (Bor Bytes)) (i n : ℕ) → n ≡ i → length lines ≤ i → EndsAt (texts lines) n
ends_past lines i n e end = λ line at. past_none lines n (omega (arith, e, end)) line at
