use Rattle.std.proofs.Common.{◌≡◌, ℕ, cond, Some, refl, sym, ap, ◌∙◌}
use Rattle.std.specs.declared.cmp.Ordering.{Ordering}
use Rattle.std.specs.declared.cmp.Ordering.TheVariants.{Less, Equal, Greater}
use Rattle.std.specs.Ordering.{is_eq}
use Rattle.std.specs.BTreeMap.{BTreeMap, get}
use Rattle.hm_graph_classes.specs.Indexed.{Key, key_cmp}
use Rattle.hm_graph_classes.proofs.Rounds.{tied_gets}
use Rattle.hm_graph_classes.proofs.partition.first.Goals as goal

found_stays : (m : BTreeMap Key ℕ) (k : Key) (r : ℕ) → get key_cmp m k ≡ Some r → (q : Key)
    → get key_cmp m q ≡ cond (is_eq (key_cmp k q)) (Some r) (get key_cmp m q)
found_stays m k r at q = go (key_cmp k q) refl
  where
    go : (o : Ordering) → key_cmp k q ≡ o → get key_cmp m q ≡ cond (is_eq (key_cmp k q)) (Some r) (get key_cmp m q)
    go Less e = sym (ap (λ o. cond (is_eq o) (Some r) (get key_cmp m q)) e)
    go Greater e = sym (ap (λ o. cond (is_eq o) (Some r) (get key_cmp m q)) e)
    go Equal e = sym (tied_gets m k q e) ∙ at ∙ sym (ap (λ o. cond (is_eq o) (Some r) (get key_cmp m q)) e)

pub returns-in-Some-clause-known : goal.returns-in-Some-clause-known
returns-in-Some-clause-known c = found_stays c.args.known.now c.args.key c.in-Some.first.now (sym c.in-Some.ensures.value)
