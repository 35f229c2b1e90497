use Rattle.std.proofs.Common.{◌≡◌, ◌++◌, ◌+◌, rules, arith, take, drop, sym, ap, ◌∙◌, subst}
use Rattle.std.proofs.lemmas.Grind.{common_steps}
use Rattle.std.proofs.lemmas.List.{take-append-le}
use Rattle.std.specs.Io.KnownBytes.{Consumes}
use Rattle.std.proofs.KnownBytes.{Consumes-trans, Consumes-kept}
use Rattle.hm_outside.proofs.file.read_all.Goals.{in-Ok+else-count-limit+else-is_err, in-Err+else-ne}
use Rattle.hm_outside.proofs.file.read_all.Goals as goal

pub loop-preserved : goal.loop-preserved
loop-preserved g c = elim c.match-read.branch [
  | in-Ok+else-count-limit+else-is_err w ↦
      let appended : w.extend_from_slice.new.self.items ≡ c.loop.bytes.items ++ take w.in-Ok.count
      (c.read.new.buf ++ drop (c.min-asked.result + 1) c.loop.buffer) = search rules in
      let given : take w.in-Ok.count (c.read.new.buf ++ drop (c.min-asked.result + 1) c.loop.buffer) ≡ take w.in-Ok.count c.read.new.buf =
      take-append-le _ _ _ w.in-Ok.ensures.bound.0 in
      record {
        within = rw w.bytes-is (grind (arith, common_steps));
        given = rw w.bytes-is (subst (Consumes _ _) (sym (appended ∙ ap (λ l. c.loop.bytes.items ++ l) given))
            (Consumes-trans _ _ _ _ _ c.loop.invariant.given w.in-Ok.ensures.bytes.0));
      }
  | in-Err+else-ne w ↦ record {
    within = rw w.bytes-is (search rules);
    given = rw w.bytes-is (Consumes-kept _ _ _ _ c.loop.invariant.given w.in-Err.ensures.bytes);
  }
]
