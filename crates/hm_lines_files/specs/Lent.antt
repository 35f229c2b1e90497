-- What contracts see of components and pieces whose lines are lent.
use Rattle.std.specs.Prelude.{List, map, All}
use Rattle.std.specs.Borrow.{Bor}
use Rattle.hm_lines_cards.specs.Lent.{lent, AreLines}
use Rattle.hm_lines_files.specs.Components as plain
use Rattle.hm_lines_files.specs.Rewriting as plain_rewriting
use Rattle.hm_lines_files.specs.declared.component.Component.{Component}
use Rattle.hm_lines_files.specs.declared.component.Template.{Template}
use Rattle.hm_lines_files.specs.declared.component.Layout.{Layout}
use Rattle.hm_lines_files.specs.declared.component.Piece.{Piece}
use Rattle.hm_lines_files.specs.declared.component.Piece.TheVariants.{Other, Item}

abbrev pub texts : List (Bor plain.Bytes) → List plain.Bytes
texts lines = map (λ l. l.now) lines

abbrev pub component_of : Component → plain.Component
component_of c = record { lines = lent c.lines.items; end = c.end.now }

abbrev pub piece_of : Piece → plain.Piece
piece_of (Other line) = plain.other line.now
piece_of (Item c) = plain.item (component_of c)

abbrev pub pieces_of : List Piece → List plain.Piece
pieces_of ps = map piece_of ps

abbrev pub layout_of : Layout → plain.Layout
layout_of l = record { pieces = pieces_of l.pieces.items; end = texts l.end.items }

abbrev pub template_of : Template → plain_rewriting.Template
template_of k = record { key = k.key; front = lent k.front.items; more = lent k.more.items; end = k.end.now }

-- the lines of components have the parts that they say
abbrev pub HasLines : Piece → Type 0
HasLines (Other line) = Unit {0}
HasLines (Item c) = AreLines c.lines.items

abbrev pub HaveLines : List Piece → Type 0
HaveLines ps = All HasLines ps
