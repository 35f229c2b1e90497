use Rattle.std.proofs.Common.{◌≡◌, ◌+◌, ◌++◌, ◌∷◌, [], ap, sym, subst, ◌∙◌, arith}
use Rattle.std.specs.Borrow.{Bor}
use Rattle.std.proofs.lemmas.List.{length-map, map-append}
use Rattle.std.proofs.lemmas.List.Elements.{All-push}
use Rattle.hm_lines_files.specs.Components.{Bytes, item}
use Rattle.hm_lines_files.specs.Lent.{texts, piece_of, pieces_of, HasLines, HaveLines}
use Rattle.hm_lines_files.specs.declared.component.Piece.TheVariants.{Item}
use Rattle.hm_vcard.specs.Cards.{component_with}
use Rattle.hm_vcard.specs.Opening.{AreFront}
use Rattle.hm_vcard.specs.Lent.{card_lines}
use Rattle.hm_vcard.proofs.LentLines.{are_lines}
use Rattle.hm_vcard.proofs.CardLists.{front_more, within_more}
use Rattle.hm_vcard.proofs.opening.all_of.Goals as goal

pub into_component-requires : goal.into_component-requires
into_component-requires c = are_lines c.in_ok-card.card.properties.items c.in_ok-card.ensures.card.is.properties

pub loop-from-preserved : goal.loop-from-preserved
loop-from-preserved c =
    let L = texts c.args.lines.now in
    let inv = c.loop-from.invariant in
    let from = c.loop-from.from in
    let pieces = c.loop-from.pieces.items in
    let card = card_lines c.in_ok-card.card in
    let front = c.in_ok-card.ensures.card in
    let made = c.in_ok-into_component.field-0 in
    let pushed : pieces_of c.push.new.self.items ≡ pieces_of pieces ++ item (component_with card) ∷ []
    = ap pieces_of c.in_ok-push.ensures.items ∙ map-append piece_of pieces (Item made ∷ [])
    ∙ ap (λ m. pieces_of pieces ++ item m ∷ []) c.in_ok-into_component.ensures.component in
    let count = c.count.ensures in
    record {
      single = inv.single;
      front = subst (λ n. AreFront L (from + n) (pieces_of c.push.new.self.items)) (sym count)
          (front_more L from (pieces_of pieces) inv.front card front (pieces_of c.push.new.self.items) pushed);
      lines = subst HaveLines (sym c.in_ok-push.ensures.items) (All-push HasLines pieces (Item made) inv.lines c.in_ok-into_component.ensures.lines);
      within =
          let w = within_more L from (pieces_of pieces) inv.front card front in
          let long = length-map c.args.lines.now (λ (l : Bor Bytes). l.now) in
          omega (arith, w, long, count);
    }
