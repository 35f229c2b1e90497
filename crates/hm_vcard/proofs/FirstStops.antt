-- The card in front of lines, as the code looks for it.
use Rattle.std.proofs.Common.{◌≡◌, ℕ, suc, ◌+◌, ◌≤◌, List, [], ◌∷◌, length, take, drop, slice_get, Some, sym, ap, ◌∙◌, subst, arith}
use Rattle.std.specs.Prelude.{All}
use Rattle.std.specs.Borrow.{Bor}
use Rattle.std.proofs.lemmas.List.{length-map, length-take, drop-map}
use Rattle.std.proofs.lemmas.Option.{same_Some, none-some}
use Rattle.hm_lines_cards.specs.Lines.{Line, AreFew, IsFirstSecond}
use Rattle.hm_lines_cards.specs.declared.line.Line.{Line as Found}
use Rattle.hm_lines_cards.specs.Lent.{plain, lent, line_of}
use Rattle.hm_vcard.specs.Cards.{IsProperty, begin_line, version_line, end_line, single}
use Rattle.hm_lines_files.specs.Components.{Bytes}
use Rattle.hm_vcard.specs.Opening.{StopsCard, IsCardStop, IsInFront, IsLineAt, IsNoLineAt, EndsAt}
use Rattle.hm_lines_files.specs.Lent.{texts}
use Rattle.hm_lines_files.specs.declared.layout_fault.LayoutFault.{LayoutFault}
use Rattle.hm_lines_files.specs.declared.layout_fault.LayoutFault.TheVariants as stop
use Rattle.hm_vcard.proofs.FirstCard.{ended, stops_at_begin, stops_at_version, stops_at_second, stops_at_end, is_first}

one_front : (L : List Bytes) (b : Bytes) → slice_get L 0 ≡ Some b → L ≡ b ∷ drop 1 L
one_front [] b e = absurd (none-some b e)
one_front (x ∷ L) b e = ap (λ y. y ∷ L) (same_Some x b e)

two_front : (L : List Bytes) (b v : Bytes) → slice_get L 0 ≡ Some b → slice_get L 1 ≡ Some v → L ≡ b ∷ v ∷ drop 2 L
two_front [] b v e f = absurd (none-some b e)
two_front (x ∷ []) b v e f = absurd (none-some v f)
two_front (x ∷ y ∷ L) b v e f = λ i. same_Some x b e i ∷ same_Some y v f i ∷ L

pub begin_stop : (L : List Bytes) (s : LayoutFault) → IsNoLineAt L 0 begin_line s → IsCardStop L s
begin_stop L (stop.At place) none = subst (StopsCard L) (sym none.0) (stops_at_begin L none.1)
begin_stop L stop.Memory none = tt

module _ (L : List Bytes) (b : Bytes) (begin : IsLineAt L 0 begin_line b) where
  pub version_stop : (s : LayoutFault) → IsNoLineAt L 1 version_line s → IsCardStop L s
  version_stop (stop.At place) none =
      let is = one_front L b begin.stands in
      subst (λ (l : List Bytes). StopsCard l place) (sym is)
      (subst (StopsCard (b ∷ drop 1 L)) (sym none.0)
      (stops_at_version b (drop 1 L) begin.is (λ line at. none.1 line (ap (λ (l : List Bytes). slice_get l 1) is ∙ at))))
  version_stop stop.Memory none = tt

  module _ (v : Bytes) (version : IsLineAt L 1 version_line v) where
    is : L ≡ b ∷ v ∷ drop 2 L
    is = two_front L b v begin.stands version.stands

    pub two_there : 2 ≤ length L
    two_there = let long = ap length is in omega (arith, long)

    module _ (ps : List Line) (front : plain ps ≡ take (length ps) (drop 2 L)) (all : All IsProperty ps) where
      short : length ps ≤ length (drop 2 L)
      short =
          let one = length-map ps (λ (l : Line). l.0) in
          let two = ap length front ∙ length-take (length ps) (drop 2 L) in
          omega (arith, one, two)

      pub second_stop : (k : ℕ) → IsFirstSecond single ps k → StopsCard L (k + 2)
      second_stop k second =
          subst (λ (l : List Bytes). StopsCard l (k + 2)) (sym is) (stops_at_second b v (drop 2 L) begin.is version.is ps all front short k second)

      two_later : slice_get L (length ps + 2) ≡ slice_get (drop 2 L) (length ps)
      two_later =
          let e : length ps + 2 ≡ suc (suc (length ps)) = omega arith in
          ap (slice_get L) e ∙ ap (λ (l : List Bytes). slice_get l (suc (suc (length ps)))) is

      module _ (few : AreFew single ps) where
        pub end_stop : EndsAt (drop 2 L) (length ps) → (s : LayoutFault) → IsNoLineAt L (length ps + 2) end_line s → IsCardStop L s
        end_stop ends (stop.At place) none =
            subst (StopsCard L) (sym none.0)
            (subst (λ (l : List Bytes). StopsCard l (length ps + 2)) (sym is)
            (stops_at_end b v (drop 2 L) begin.is version.is ps all front short few ends (λ line at. none.1 line (two_later ∙ at))))
        end_stop ends stop.Memory none = tt

        pub front_card : (e : Bytes) → IsLineAt L (length ps + 2) end_line e → IsInFront L (ended b v ps e)
        front_card e end =
            subst (λ (l : List Bytes). IsInFront l (ended b v ps e)) (sym is)
            (is_first b v (drop 2 L) begin.is version.is ps all front short e few (sym two_later ∙ end.stands) end.is)

-- ---- as the code has them

module _ (lines others : List (Bor Bytes)) (behind : others ≡ drop 2 lines) (found : List Found) where
  same : texts others ≡ drop 2 (texts lines)
  same = ap texts behind ∙ sym (drop-map (λ (l : Bor Bytes). l.now) 2 lines)

  long : length (lent found) ≡ length found
  long = length-map found line_of

  pub front_there : plain (lent found) ≡ take (length found) (texts others) → plain (lent found) ≡ take (length (lent found)) (drop 2 (texts lines))
  front_there front = front ∙ ap (λ n. take n (texts others)) (sym long) ∙ ap (take (length (lent found))) same

  pub ends_there : EndsAt (texts others) (length found) → EndsAt (drop 2 (texts lines)) (length (lent found))
  ends_there ends = subst (λ n. EndsAt (drop 2 (texts lines)) n) (sym long) (subst (λ (ls : List Bytes). EndsAt ls (length found)) same ends)
