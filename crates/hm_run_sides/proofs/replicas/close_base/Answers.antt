use Rattle.std.proofs.Common.{map}
use Rattle.std.proofs.lemmas.Option.{slice_get_within}
use Rattle.hm_run_files.specs.Files.{bytes_of}
use Rattle.hm_run_handed.specs.Handed.{handed_in}
use Rattle.hm_run_sides.specs.Sides.{side_value, seen}
use Rattle.hm_run_sides.proofs.OpenedReplicas.{closes_on, of_side}
use Rattle.hm_run_sides.proofs.replicas.close_base.Goals as goal

pub close_base_by-requires-clause-replica : goal.close_base_by-requires-clause-replica
close_base_by-requires-clause-replica g c =
    let one = c.requires.replica in (
      one.0,
      one.1.base,
      of_side (handed_in c.args.given (λ o. (goal.Format-dyn g o).means o.1) (λ o. (goal.TextLens-dyn g o).meaning o.1)) (side_value c.args.side.now)
          c.index-formats-side.result (slice_get_within c.args.given.formats.now c.args.side.now.place c.requires.side.format c.requires.side.is) c.index-formats-side.is one.1.on_side,
    )

pub returns : goal.returns
returns g c = λ r base.
    closes_on (handed_in c.args.given (λ o. (goal.Format-dyn g o).means o.1) (λ o. (goal.TextLens-dyn g o).meaning o.1)) (side_value c.args.side.now)
    c.index-formats-side.result (slice_get_within c.args.given.formats.now c.args.side.now.place c.requires.side.format c.requires.side.is) c.index-formats-side.is
    r c.args.view c.args.slot (seen bytes_of c.close_base_by.result)
    (c.close_base_by.ensures r base.base (of_side (handed_in c.args.given (λ o. (goal.Format-dyn g o).means o.1) (λ o. (goal.TextLens-dyn g o).meaning o.1)) (side_value c.args.side.now)
    c.index-formats-side.result (slice_get_within c.args.given.formats.now c.args.side.now.place c.requires.side.format c.requires.side.is) c.index-formats-side.is base.on_side))
