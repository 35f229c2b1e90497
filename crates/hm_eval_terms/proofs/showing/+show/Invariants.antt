use Rattle.std.proofs.Common.{map}
use Rattle.hm_terms.specs.Programs.{lens_of}
use Rattle.hm_terms.specs.Shown.{Shows}
use Rattle.hm_eval_terms.specs.Terms.{setting_in}
use Rattle.hm_eval_terms.proofs.Paired.{Paired}
use Rattle.hm_eval_terms.proofs.OnChildren.{IsShownChild}
use Rattle.hm_eval_terms.proofs.showing.+show.Given as goal

-- one level less for each lens inside a lens
abbrev pub decreases-show : goal.decreases-show
decreases-show g l = l.levels

abbrev pub invariant-loop-item : goal.invariant-loop-item
invariant-loop-item g l = Paired (Shows (setting_in (map (λ b. (g.dyn-1.0.entry b.vtable).1.meaning b.value) l.run.texts.now) l.run.definitions.now) (lens_of l.inner.value)) l.yielded l.views.items

abbrev pub invariant-loop-name : goal.invariant-loop-name
invariant-loop-name g l = Paired (IsShownChild (setting_in (map (λ b. (g.dyn-1.0.entry b.vtable).1.meaning b.value) l.run.texts.now) l.run.definitions.now)) l.yielded l.edges.items
