use Rattle.std.proofs.lemmas.Option.{slice_get_within}
use Rattle.hm_schema.specs.Values.{options_value}
use Rattle.hm_run_sides.proofs.OpenedSides.{gives, source_plain}
use Rattle.hm_run_sides.proofs.opening.source_of.Goals as goal

pub returns-clause-gives : goal.returns-clause-gives
returns-clause-gives g c =
    gives (λ b. (goal.Format-dyn g (b.vtable, b.value)).means b.value) c.args.formats.now c.args.slot c.args.place (options_value c.args.options.now)
    c.index-formats-place.result (slice_get_within c.args.formats.now c.args.place c.requires.format.box c.requires.format.is) c.index-formats-place.is
    c.source_by.result c.source_by.ensures

pub returns-clause-no_twins : goal.returns-clause-no_twins
returns-clause-no_twins g c =
    source_plain (λ b. (goal.Format-dyn g (b.vtable, b.value)).means b.value) c.args.formats.now c.args.slot c.args.place (options_value c.args.options.now)
    c.requires.format c.requires.options c.source_by.result
    (gives (λ b. (goal.Format-dyn g (b.vtable, b.value)).means b.value) c.args.formats.now c.args.slot c.args.place (options_value c.args.options.now)
    c.index-formats-place.result (slice_get_within c.args.formats.now c.args.place c.requires.format.box c.requires.format.is) c.index-formats-place.is
    c.source_by.result c.source_by.ensures)
