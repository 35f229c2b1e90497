use Rattle.std.proofs.Common.{rules, ◌+◌, ◌≤◌, length}
use Rattle.hm_lines.proofs.ContentLines.{name_fits, no_name, no_parameters, found_line}
use Rattle.hm_lines.proofs.content.parts_of.Goals as goal

pub overflow_add-name_to : goal.overflow_add-name_to
overflow_add-name_to c =
    let fits : c.name_at-name_from.result.0 + c.name_at-name_from.result.1 ≤ length c.args.line.now =
    name_fits c.args.line.now c.name_at-name_from.result.0 c.name_at-name_from.result.1 c.name_at-name_from.ensures.from c.name_at-name_from.ensures.len in
    search rules

pub returns-then-name_len-eq0 : goal.returns-then-name_len-eq0
returns-then-name_len-eq0 c parts is =
    no_name c.args.line.now c.name_at-name_from.result.0 c.name_at-name_from.result.1 c.name_at-name_from.ensures.from c.name_at-name_from.ensures.len parts is
    c.if-name_len-eq0.true

pub slice_bounds-parameters_len-count : goal.slice_bounds-parameters_len-count
slice_bounds-parameters_len-count c =
    name_fits c.args.line.now c.name_at-name_from.result.0 c.name_at-name_from.result.1 c.name_at-name_from.ensures.from c.name_at-name_from.ensures.len

pub slice_bounds-parameters_len-start : goal.slice_bounds-parameters_len-start
slice_bounds-parameters_len-start c = slice_bounds-parameters_len-count c

pub returns-in_default : goal.returns-in_default
returns-in_default c parts is =
    no_parameters c.args.line.now c.name_at-name_from.result.0 c.name_at-name_from.result.1 c.name_at-name_from.ensures.from c.name_at-name_from.ensures.len parts is
    c.in_default.ensures

pub returns : goal.returns
returns c =
    found_line c.args.line.now c.name_at-name_from.result.0 c.name_at-name_from.result.1 c.name_at-name_from.ensures.from c.name_at-name_from.ensures.len c.in-Some.parameters
    c.if-name_len-eq0.false c.in-Some.ensures
