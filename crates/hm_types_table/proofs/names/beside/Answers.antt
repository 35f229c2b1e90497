use Rattle.std.proofs.Common.{get_or, sym, arith}
use Rattle.std.proofs.lemmas.Option.{slice_get-get_or, slice_get_within}
use Rattle.hm_types_table.proofs.BesideNames.{find_beside, none_beside}
use Rattle.hm_types_table.proofs.names.beside.Goals as goal

pub returns-in-Some : goal.returns-in-Some
returns-in-Some c =
    let names = c.args.names.now in
    let next = c.args.next.now in
    let i = c.in-Some.place in
    let at = slice_get_within names i c.args.name.now c.in-Some.ensures in
    sym (find_beside names next i c.args.name.now (get_or next i (record { place = 0 })) c.requires.rises c.in-Some.ensures
    (slice_get-get_or next i (record { place = 0 }) (omega (arith, at, c.requires.count))))

pub returns-in-None : goal.returns-in-None
returns-in-None c = sym (none_beside c.args.names.now c.args.next.now c.args.name.now c.requires.count c.in-None.ensures)
