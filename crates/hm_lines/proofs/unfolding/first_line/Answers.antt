use Rattle.std.proofs.Common.{ap, length}
use Rattle.hm_lines.proofs.FirstLines.{ended_line, ended_characters, last_line, last_characters}
use Rattle.hm_lines.proofs.unfolding.first_line.Goals as goal

pub returns-in-Some-clause-line : goal.returns-in-Some-clause-line
returns-in-Some-clause-line c =
    ended_line c.args.bytes.now c.in-Some.at (c.in-Some.ensures) (length c.without_return.result.now) (ap length c.without_return.ensures)

pub returns-in-Some-clause-characters : goal.returns-in-Some-clause-characters
returns-in-Some-clause-characters c u =
    ended_characters c.args.bytes.now c.in-Some.at (c.in-Some.ensures) u (length c.without_return.result.now) (ap length c.without_return.ensures)

pub returns-in-None-clause-line : goal.returns-in-None-clause-line
returns-in-None-clause-line c =
    last_line c.args.bytes.now c.requires (c.in-None.ensures) (length c.without_return-in-None.result.now) (ap length c.without_return-in-None.ensures)

pub returns-in-None-clause-characters : goal.returns-in-None-clause-characters
returns-in-None-clause-characters c u =
    last_characters c.args.bytes.now c.requires (c.in-None.ensures) (length c.without_return-in-None.result.now) (ap length c.without_return-in-None.ensures)
