use Rattle.std.proofs.Common.{◌≡◌, suc, List, sym, ◌∙◌}
use Rattle.hm_tree.specs.Names.{Name}
use Rattle.hm_schema_lines.specs.Entries.{EntryValue}
use Rattle.hm_schema_lines.specs.Judging.{lines_of}
use Rattle.hm_schema_lines.specs.Firsts.{place_in, edge_names}
use Rattle.hm_schema_lines.specs.BadLines.{around}
use Rattle.hm_schema_lines.proofs.Judging.{lists, is_listed, found, findable}
use Rattle.hm_schema_lines.proofs.judge.is_listed.Goals as goal

pub returns : goal.returns
returns c = (
  λ some. lists lines name (found c.first_place.result name (edge_names lines) table (sym c.is_some.ensures ∙ some)),
  λ listed. c.is_some.ensures ∙ findable c.first_place.result name (edge_names lines) table (is_listed lines name listed),
)
  where
    lines : List EntryValue
    lines = around (lines_of c.args.line.now) (suc c.args.line.now.place)

    name : Name
    name = c.args.name.now

    table : c.first_place.result ≡ place_in name (edge_names lines)
    table = c.first_place.ensures ∙ c.requires.section.listed name
