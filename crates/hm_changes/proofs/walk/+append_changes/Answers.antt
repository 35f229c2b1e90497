use Rattle.std.proofs.Common.{◌++◌, [], ◌∷◌, refl, sym, ◌∙◌, append-nil, rules}
use Rattle.std.proofs.lemmas.Result.{on_ok_weaker}
use Rattle.hm_changes.proofs.Adding.{adds_goes, adds_comes, adds_nothing, adds_all, begun, lower, more_listed, over_listed, popped}
use Rattle.hm_changes.proofs.walk.+append_changes.Goals as goal

pub returns-in-Some-None-clause-appended : goal.returns-in-Some-None-clause-appended
returns-in-Some-None-clause-appended t c = on_ok_weaker c.append_change.result (adds_goes _ _ _ c.args.old c.args.new c.in-Some-None.field-0-0 (search rules) (search rules)) c.append_change.ensures

pub returns-in-None-Some-clause-appended : goal.returns-in-None-Some-clause-appended
returns-in-None-Some-clause-appended t c =
    on_ok_weaker c.append_change-in-None-Some.result (adds_comes _ _ _ c.args.old c.args.new c.in-None-Some.field-0-1 (search rules) (search rules)) c.append_change-in-None-Some.ensures

pub returns-in-None-None-clause-appended : goal.returns-in-None-None-clause-appended
returns-in-None-None-clause-appended t c = adds_nothing _ _ _ _ _ (search rules) (search rules) refl

pub loop-taken-init : goal.loop-taken-init
loop-taken-init t c = record {
  same_path = refl;
  listed = ([], sym (append-nil c.args.changes.now.items), begun _ _ c.in-Some-Some.tree c.in-Some-Some.other _ _ (search rules) (search rules) c.edges-olds.ensures c.edges-news.ensures);
}

pub append_changes-requires : goal.append_changes-requires
append_changes-requires t c =
    (rw (← c.decreases) (lower _ _ c.in-Some-Some.tree _ _ _ c.in-Some.taken.old c.in-Some.taken.new _ _ _ (search rules) c.loop-taken.invariant.listed.2 c.in-Some.ensures), tt)

pub loop-taken-preserved : goal.loop-taken-preserved
loop-taken-preserved t c = record {
  same_path = c.pop.ensures.rest ∙ popped c.loop-taken.here.items c.append_changes.new.here.items _ _
      (c.in_ok-append_changes.ensures.same_path ∙ c.in_ok-push.ensures.items) c.append_changes.new.here.ok.0 ∙ c.loop-taken.invariant.same_path;
  listed = more_listed _ _ _ _ c.in-Some.taken.name c.in-Some.taken.old c.in-Some.taken.new _ _ c.args.here.now.items c.push.new.self.items _ _ _
      c.loop-taken.invariant.listed c.in-Some.ensures (c.in_ok-push.ensures.items ∙ (λ i. c.loop-taken.invariant.same_path i ++ c.in-Some.taken.name ∷ []))
      c.in_ok-append_changes.ensures.appended;
}

pub returns-clause-appended : goal.returns-clause-appended
returns-clause-appended t c =
    let so_far = c.loop-taken.invariant.listed in
    adds_all _ _ _ _ _ c.in-Some-Some.tree c.in-Some-Some.other (search rules) (search rules) so_far.0 so_far.1
    (over_listed _ _ _ _ so_far.0 c.in_default.ensures so_far.2)
