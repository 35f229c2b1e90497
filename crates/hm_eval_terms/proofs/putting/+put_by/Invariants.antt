use Rattle.std.proofs.Common.{map, length}
use Rattle.hm_tree.specs.Nodes.{Tree}
use Rattle.hm_terms.specs.Programs.{lens_of}
use Rattle.hm_terms.specs.Put.{Puts}
use Rattle.hm_eval_terms.specs.Terms.{setting_in}
use Rattle.hm_eval_terms.specs.Stages.{PutsBack}
use Rattle.hm_eval_terms.proofs.PutItems as list
use Rattle.hm_eval_terms.proofs.PutChildren as tree
use Rattle.hm_eval_terms.proofs.putting.+put_by.Given as goal

-- one level less for each lens inside a lens
abbrev pub decreases-put_by : goal.decreases-put_by
decreases-put_by g l = l.levels

abbrev pub invariant-loop-stage : goal.invariant-loop-stage
invariant-loop-stage g l =
    (c : Tree) → Puts (setting_in (map (λ b. (g.dyn-1.0.entry b.vtable).1.meaning b.value) l.run.texts.now) l.run.definitions.now) (lens_of l.term) l.fn.shown l.fn.before c
    → PutsBack (setting_in (map (λ b. (g.dyn-1.0.entry b.vtable).1.meaning b.value) l.run.texts.now) l.run.definitions.now) l.stages.items l.made c

abbrev pub decreases-loop-stage : goal.decreases-loop-stage
decreases-loop-stage g l = length l.stages.items

abbrev pub invariant-loop-item : goal.invariant-loop-item
invariant-loop-item g l =
    list.IsPutSoFar (setting_in (map (λ b. (g.dyn-1.0.entry b.vtable).1.meaning b.value) l.run.texts.now) l.run.definitions.now) (lens_of l.inner.value) l.fn.before l.yielded l.made.items l.old

abbrev pub invariant-loop-name : goal.invariant-loop-name
invariant-loop-name g l = tree.IsPutSoFar (setting_in (map (λ b. (g.dyn-1.0.entry b.vtable).1.meaning b.value) l.run.texts.now) l.run.definitions.now) l.fn.before l.yielded l.edges.items l.rest.items
