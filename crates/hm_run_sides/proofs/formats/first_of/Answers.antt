use Rattle.std.proofs.Common.{length, refl}
use Rattle.std.proofs.lemmas.Option.{slice_get_read}
use Rattle.hm_run_sides.proofs.formats.first_of.Goals as goal

pub returns-then-has_tag-clause-lawful : goal.returns-then-has_tag-clause-lawful
returns-then-has_tag-clause-lawful g c = record {
  box = c.index-formats-place.result;
  is = slice_get_read c.args.formats.now (length c.args.formats.now) c.loop-place.place c.index-formats-place.result refl c.loop-place-test.true
      c.index-formats-place.is;
  holds = c.has_tag.ensures.lawful;
}
