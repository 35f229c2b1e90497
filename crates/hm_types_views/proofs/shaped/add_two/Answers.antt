use Rattle.std.proofs.Common.{sym, subst, ◌∙◌, arith}
use Rattle.hm_schema.specs.Shapes.{shaped}
use Rattle.hm_types_table.specs.Tables.{Extends, seat}
use Rattle.hm_types_table.proofs.Grown.{extends_at}
use Rattle.hm_types_views.proofs.TwoAdded.{add_grows, add_length, still_at, still_well, both_extend, first_form, second_form}
use Rattle.hm_types_views.proofs.shaped.add_two.Goals as goal

pub add_shaped-requires-2-clause-in_range : goal.add_shaped-requires-2-clause-in_range
add_shaped-requires-2-clause-in_range c =
    let n = seat c.at.result.0.now c.at.result.1.now in
    omega (
      arith,
      c.requires.in_range,
      add_length c.args.table.now c.add_shaped.new.table (shaped n c.args.first.0.items c.args.first.1.items)
          (c.in_ok-one.ensures.node n c.at.ensures.node),
    )

pub add_shaped-requires-2-clause-well : goal.add_shaped-requires-2-clause-well
add_shaped-requires-2-clause-well c m e =
    let n = seat c.at.result.0.now c.at.result.1.now in
    let old = c.args.table.now in
    let x = shaped n c.args.first.0.items c.args.first.1.items in
    let is = c.in_ok-one.ensures.node n c.at.ensures.node in
    still_well old c.add_shaped.new.table x is c.args.id c.requires.in_range (shaped m c.args.second.0.items c.args.second.1.items)
    (c.requires.second m (still_at old c.add_shaped.new.table x is c.args.id c.requires.in_range m e))

pub returns-in_err-two-clause-extends : goal.returns-in_err-two-clause-extends
returns-in_err-two-clause-extends c =
    let n = seat c.at.result.0.now c.at.result.1.now in
    subst (Extends c.args.table.now) (sym c.in_err-two.ensures.err)
    (add_grows c.args.table.now c.add_shaped.new.table (shaped n c.args.first.0.items c.args.first.1.items) (c.in_ok-one.ensures.node n c.at.ensures.node))

pub returns-clause-extends : goal.returns-clause-extends
returns-clause-extends c =
    let n = seat c.at.result.0.now c.at.result.1.now in
    let old = c.args.table.now in
    let mid = c.add_shaped.new.table in
    let x = shaped n c.args.first.0.items c.args.first.1.items in
    let y = shaped n c.args.second.0.items c.args.second.1.items in
    let is = c.in_ok-one.ensures.node n c.at.ensures.node in
    let at = extends_at old mid c.args.id.place (add_grows old mid x is) c.requires.in_range ∙ c.at.ensures.node in
    both_extend old mid c.add_shaped-2.new.table c.at.ensures.formed c.in_ok-one.ensures.formed x y (c.requires.first n c.at.ensures.node)
    (c.requires.second n c.at.ensures.node) is (c.in_ok-two.ensures.node n at)

pub returns-clause-in_range : goal.returns-clause-in_range
returns-clause-in_range c =
    let n = seat c.at.result.0.now c.at.result.1.now in
    let old = c.args.table.now in
    let mid = c.add_shaped.new.table in
    let x = shaped n c.args.first.0.items c.args.first.1.items in
    let is = c.in_ok-one.ensures.node n c.at.ensures.node in
    let at = extends_at old mid c.args.id.place (add_grows old mid x is) c.requires.in_range ∙ c.at.ensures.node in
    let one = add_length old mid x is in
    let two = add_length mid c.add_shaped-2.new.table (shaped n c.args.second.0.items c.args.second.1.items) (c.in_ok-two.ensures.node n at) in
    (omega (arith, one, two, c.in_ok-one.ensures.place), omega (arith, two, c.in_ok-two.ensures.place))

pub returns-clause-first : goal.returns-clause-first
returns-clause-first c n e =
    let old = c.args.table.now in
    let mid = c.add_shaped.new.table in
    let x = shaped n c.args.first.0.items c.args.first.1.items in
    let y = shaped n c.args.second.0.items c.args.second.1.items in
    let is = c.in_ok-one.ensures.node n e in
    let at = extends_at old mid c.args.id.place (add_grows old mid x is) c.requires.in_range ∙ e in
    first_form old mid c.add_shaped-2.new.table c.at.ensures.formed c.in_ok-one.ensures.formed x y (c.requires.first n e)
    (c.requires.second n e) is (c.in_ok-two.ensures.node n at) c.in_ok-one.one c.in_ok-one.ensures.place

pub returns-clause-second : goal.returns-clause-second
returns-clause-second c n e =
    let old = c.args.table.now in
    let mid = c.add_shaped.new.table in
    let x = shaped n c.args.first.0.items c.args.first.1.items in
    let y = shaped n c.args.second.0.items c.args.second.1.items in
    let is = c.in_ok-one.ensures.node n e in
    let at = extends_at old mid c.args.id.place (add_grows old mid x is) c.requires.in_range ∙ e in
    second_form old mid c.add_shaped-2.new.table c.at.ensures.formed c.in_ok-one.ensures.formed x y (c.requires.first n e)
    (c.requires.second n e) is (c.in_ok-two.ensures.node n at) c.in_ok-two.two c.in_ok-two.ensures.place
