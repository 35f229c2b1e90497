-- Keys tie exactly where they are equal, but for the room of their lists.
use Rattle.std.proofs.Common.{◌≡◌, ℕ, refl, ap, ◌∙◌}
use Rattle.std.specs.declared.cmp.Ordering.{Ordering}
use Rattle.std.specs.declared.cmp.Ordering.TheVariants.{Less, Equal, Greater}
use Rattle.std.specs.Ordering.{ordering_then, nat_cmp}
use Rattle.std.specs.Cmp.{IsTotalOrder, then_total, on_total, nat_cmp_total}
use Rattle.std.specs.Cmp.Lexicographic.{slice_cmp, lists_total}
use Rattle.std.proofs.lemmas.Cmp.{tied_itself}
use Rattle.std.proofs.lemmas.Map.Lookups.{exact_unsigned, exact_bytes}
use Rattle.hm_graph_classes.specs.Indexed.{Key, key_cmp, Loop, loop_cmp}

both_tie : (a b : Ordering) → ordering_then a b ≡ Equal → (a ≡ Equal) × (b ≡ Equal)
both_tie Less b e = cc
both_tie Equal b e = (refl, e)
both_tie Greater b e = cc

then_tie : (a b : Ordering) → a ≡ Equal → b ≡ Equal → ordering_then a b ≡ Equal
then_tie a b e f = ap (λ o. ordering_then o b) e ∙ f

nats_tie : (m n : ℕ) → m ≡ n → nat_cmp m n ≡ Equal
nats_tie m n e = ap (λ k. nat_cmp k n) e ∙ tied_itself nat_cmp_total n

pub key_total : IsTotalOrder key_cmp
key_total = then_total (on_total (λ (q : Key). q.0) nat_cmp_total) (on_total (λ (q : Key). q.1.items) (lists_total nat_cmp_total))

pub record AreEqual (a b : Key) : Type 0 where
  pub label : a.0 ≡ b.0
  pub items : a.1.items ≡ b.1.items

pub key_equal : (a b : Key) → key_cmp a b ≡ Equal → AreEqual a b
key_equal a b e =
    let parts = both_tie (nat_cmp a.0 b.0) (slice_cmp nat_cmp a.1.items b.1.items) e in
    record { label = exact_unsigned a.0 b.0 parts.0; items = exact_bytes a.1.items b.1.items parts.1 }

pub key_ties : (a b : Key) → a.0 ≡ b.0 → a.1.items ≡ b.1.items → key_cmp a b ≡ Equal
key_ties a b e f = then_tie _ _ (nats_tie a.0 b.0 e)
    (ap (λ l. slice_cmp nat_cmp l b.1.items) f ∙ tied_itself (lists_total nat_cmp_total) b.1.items)

pub loop_equal : (a b : Loop) → loop_cmp a b ≡ Equal → a ≡ b
loop_equal a b e =
    let parts = both_tie (nat_cmp a.0 b.0) (nat_cmp a.1 b.1) e in
    let first = exact_unsigned a.0 b.0 parts.0 in
    let second = exact_unsigned a.1 b.1 parts.1 in
    λ t. (first t, second t)

pub loop_ties : (a b : Loop) → a.0 ≡ b.0 → a.1 ≡ b.1 → loop_cmp a b ≡ Equal
loop_ties a b e f = then_tie _ _ (nats_tie a.0 b.0 e) (nats_tie a.1 b.1 f)
