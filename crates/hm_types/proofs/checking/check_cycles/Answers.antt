use Rattle.std.proofs.Common.{sym, ◌∙◌}
use Rattle.hm_types.proofs.Beginning.{name_at}
use Rattle.hm_types.proofs.checking.check_cycles.Goals as goal

pub returns-in_ok-copy-in-Some-clause-fault : goal.returns-in_ok-copy-in-Some-clause-fault
returns-in_ok-copy-in-Some-clause-fault c =
    let f = rw c.in-Some.is at c.in_ok-first_in_bad_cycle.ensures in
    record {
      place = c.in-Some.place;
      first = f;
      is = name_at c.args.program.now.definitions.items c.in-Some.place c.index.result.now f.name c.index.ensures f.there ∙ sym c.in_ok-copy-in-Some.ensures.value;
    }
