use Rattle.std.proofs.Common.{rules, ◌∷◌, [], ◌++◌, ◌∙◌, ◌<◌, length, filter, not, sym, ap, subst, List, ℕ}
use Rattle.std.specs.Prelude.{Vec}
use Rattle.std.specs.Borrow.{Bor}
use Rattle.std.specs.declared.alloc.Global.{Global}
use Rattle.std.specs.FinSet.{contains}
use Rattle.std.proofs.lemmas.List.{take_all, map-append}
use Rattle.hm_tree.specs.Names.{Name}
use Rattle.hm_tree.proofs.Ascending.{ascending_is}
use Rattle.hm_csv_fields.specs.Cutting.{lent, AreLentUtf8}
use Rattle.hm_csv_fields.proofs.Items.{pushed_utf8}
use Rattle.hm_csv_fields.proofs.Filtered.{comes, goes}
use Rattle.hm_csv_fields.proofs.showing.append_new.Goals as goal
use Rattle.hm_csv_fields.proofs.showing.append_new.Goals.{then-not-has+in_ok-push, else-not-has}

pub loop-name-preserved : goal.loop-name-preserved
loop-name-preserved c =
    let lt : c.loop-name.name-index < length c.names-name-items.result.now = search rules in
    elim c.if-not-has.branch [
      | then-not-has+in_ok-push w ↦ record {
        added = comes (λ k. not (contains c.args.old.now k)) c.names-name-items.result.now c.loop-name.name-index c.name-item.result lt c.name-item.is
            (lent c.args.new.now.items) (lent c.loop-name.new.items) (lent c.if-not-has.new.items) c.loop-name.invariant.added (search rules)
            (ap (λ (v : Vec (Bor (List ℕ)) Global). lent v.items) w.new-is ∙ ap lent w.in_ok-push.ensures.items
            ∙ map-append (λ b. b.now) c.loop-name.new.items (w.bytes.result ∷ [])
            ∙ ap (λ (n : Name). lent c.loop-name.new.items ++ n ∷ []) w.bytes.ensures.value);
        utf8 = subst (λ (v : Vec (Bor (List ℕ)) Global). AreLentUtf8 v.items) (sym w.new-is)
            (pushed_utf8 c.loop-name.new.items w.push.new.self.items w.bytes.result c.loop-name.invariant.utf8 w.in_ok-push.ensures.items
            (search rules));
      }
      | else-not-has w ↦ record {
        added = goes (λ k. not (contains c.args.old.now k)) c.names-name-items.result.now c.loop-name.name-index c.name-item.result lt c.name-item.is
            (lent c.args.new.now.items) (lent c.loop-name.new.items) (lent c.if-not-has.new.items) c.loop-name.invariant.added (search rules)
            (ap (λ (v : Vec (Bor (List ℕ)) Global). lent v.items) w.new-is);
        utf8 = subst (λ (v : Vec (Bor (List ℕ)) Global). AreLentUtf8 v.items) (sym w.new-is) c.loop-name.invariant.utf8;
      }
    ]

pub returns-clause-new : goal.returns-clause-new
returns-clause-new c =
    c.loop-name.invariant.added
    ∙ ap (λ (l : List Name). lent c.args.new.now.items ++ filter (λ k. not (contains c.args.old.now k)) l)
    (take_all c.loop-name.name-index c.names-name-items.result.now (search rules)
    ∙ sym (ascending_is c.names-name-items.result.now c.args.set.now c.names-name-items.ensures.ascending c.names-name-items.ensures.same))
