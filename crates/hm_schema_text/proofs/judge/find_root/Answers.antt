use Rattle.hm_schema_lines.specs.Entries.{entry_values}
use Rattle.hm_schema_text.proofs.Judging.{root_told}
use Rattle.hm_schema_text.proofs.judge.find_root.Goals as goal

pub returns-in-Some : goal.returns-in-Some
returns-in-Some c = root_told c.args.bytes.now (entry_values c.args.entries.now) c.requires c.in-Some.place c.in-Some.ensures c.root_at.result
    c.root_at.ensures
