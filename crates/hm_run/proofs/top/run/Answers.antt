use Rattle.std.proofs.Common.{map}
use Rattle.hm_run_words.specs.declared.ending.Ending.{Ending}
use Rattle.hm_run_handed.specs.Handed.{Handed, handed}
use Rattle.hm_run.specs.Endings.{Outside, EndsAs}
use Rattle.hm_run.proofs.Relied.{relied, relied_untouched}
use Rattle.hm_run.proofs.StopStates.{may_go_on}
use Rattle.hm_run.proofs.top.run.Goals as goal

pub returns : goal.returns
returns g c =
    let hand : Handed = (handed (λ b. (goal.Format-dyn g (b.vtable, b.value)).means b.value) c.args.formats.now
    (map (λ b. (goal.TextLens-dyn g (b.vtable, b.value)).meaning b.value) c.args.texts.now)) in
    let before : Outside = record {
      contents = g.S.Store.contents c.args.store.now;
      failed = g.S.Store.failed c.args.store.now;
      written = g.K.Sink.written c.args.out.now;
      faults = g.K.Sink.faults c.args.out.now;
    } in
    let after : Outside = record {
      contents = g.S.Store.contents c.carry_out-work.new.store;
      failed = g.S.Store.failed c.carry_out-work.new.store;
      written = g.K.Sink.written c.put_output-put.new.out;
      faults = g.K.Sink.faults c.put_output-put.new.out;
    } in
    let ending : Ending = record { work = c.carry_out-work.result; put = c.put_output-put.result } in
    let so : EndsAs hand ending c.args.words.now before after = record { works = c.carry_out-work.ensures; puts = c.put_output-put.ensures } in
    let all = relied hand ending c.args.words.now before after c.status_of.result c.status_of.ensures so in record {
      ends = (ending, c.status_of.ensures, so);
      synchronised = all.synchronised;
      reported = all.reported;
      shown = all.shown;
      refused = all.refused;
      untouched = relied_untouched hand ending c.args.words.now before after so;
      complete = all.complete;
      again = may_go_on hand c.args.words.now before.contents after.contents before.failed after.failed ending.work so.works;
    }
