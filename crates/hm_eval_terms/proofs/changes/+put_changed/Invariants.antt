use Rattle.std.proofs.Common.{map}
use Rattle.hm_terms.specs.Lenses.{items}
use Rattle.hm_terms.specs.Programs.{lens_of}
use Rattle.hm_eval_terms.specs.Conditions.{GivesBack}
use Rattle.hm_eval_terms.specs.Terms.{setting_in}
use Rattle.hm_eval_terms.proofs.PutItems as list
use Rattle.hm_eval_terms.proofs.PutChildren as tree
use Rattle.hm_eval_terms.proofs.changes.+put_changed.Given as goal

-- one level less for each lens inside a lens
abbrev pub decreases-put_changed : goal.decreases-put_changed
decreases-put_changed g l = l.levels

abbrev pub invariant-loop-item : goal.invariant-loop-item
invariant-loop-item g l = record {
  put : list.IsPutSoFar (setting_in (map (λ b. (g.dyn-1.0.entry b.vtable).1.meaning b.value) l.run.texts.now) l.run.definitions.now) (lens_of l.inner.value) l.fn.before l.yielded l.made.items l.rest;
  back : GivesBack (setting_in (map (λ b. (g.dyn-1.0.entry b.vtable).1.meaning b.value) l.run.texts.now) l.run.definitions.now) (items (lens_of l.inner.value)) l.views l.rest;
}

abbrev pub invariant-loop-name : goal.invariant-loop-name
invariant-loop-name g l = record {
  put : tree.IsPutSoFar (setting_in (map (λ b. (g.dyn-1.0.entry b.vtable).1.meaning b.value) l.run.texts.now) l.run.definitions.now) l.fn.before l.yielded l.edges.items l.rest.items;
  views : tree.IsLeft l.fn.old l.yielded l.views.items;
}
