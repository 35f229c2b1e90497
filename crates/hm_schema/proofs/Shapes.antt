-- Which names fit a shape: how many of them are unlisted, and that they fit it at another node.
use Rattle.std.proofs.Common.{◌≡◌, ◌↔◌, ◌≤◌, ℕ, Bool, true, false, not, IsTrue, IfSome, List, refl, sym, ap, subst, ◌∙◌, arith}
use Rattle.std.proofs.lemmas.Bool.{true≢false, or_left, not-true}
use Rattle.std.specs.FinSet.{contains, retain, len}
use Rattle.hm_tree.specs.Names.{Name}
use Rattle.hm_tree.proofs.NameSets.{same_bool}
use Rattle.hm_schema.specs.declared.node.Shape.{Shape}
use Rattle.hm_schema.specs.Values.{Names, NodeOver, is_listed}
use Rattle.hm_schema.specs.Permitted.{Fits, Takes, unlisted, IsWithin}
use Rattle.hm_schema.specs.Tidied.{has_name}
use Rattle.hm_schema.proofs.NamesOf.{same_names}
use Rattle.hm_schema.specs.Shapes.{IsShut, Requires, shaped}
use Rattle.hm_schema.proofs.NameSets.{kept_parts, kept_from, none_len, len_none}

-- ---- the names of a shape

pub required_has : (a : Shape) (k : Name) → Requires k a → IsTrue (has_name a k)
required_has a k h = or_left (contains a.required k) (contains a.optional k) h

-- ---- how many names are unlisted

module _ {I : Type 0} (n : NodeOver I) (names : Names) where
  abbrev off : Name → Bool
  off k = not (is_listed n k)

  -- none is, where each is listed, and back
  pub zero_count : ((k : Name) → IsTrue (contains names k) → IsTrue (is_listed n k)) → unlisted n names ≡ 0
  zero_count all = none_len (retain names off) (λ k h.
      let parts = kept_parts off names k h in
      true≢false (sym (all k parts.0) ∙ not-true (is_listed n k) parts.1))

  pub no_unlisted : unlisted n names ≡ 0 → (k : Name) → IsTrue (contains names k) → IsTrue (is_listed n k)
  no_unlisted e k h = go (is_listed n k) refl
    where
      go : (b : Bool) → is_listed n k ≡ b → is_listed n k ≡ true
      go true l = l
      go false l = absurd (len_none (retain names off) e k (kept_from off names k h (ap not l)))

  -- a number that is within the bounds of a shut shape is 0
  pub within_none : (a : Shape) → IsShut a → (u : ℕ) → IsWithin a u → u ≡ 0
  within_none a shut u w = let le : u ≤ 0 = subst (λ m. IfSome m (λ most. u ≤ most)) shut w.most in omega arith

  -- names that fit a shut shape are listed
  pub all_listed : (a : Shape) → IsShut a → Fits n a names → (k : Name) → IsTrue (contains names k) → IsTrue (is_listed n k)
  all_listed a shut f = no_unlisted (within_none a shut (unlisted n names) f.number)

-- two sets of names have as many unlisted ones, at two nodes, where these are the same
pub same_count : {I J : Type 0} (n : NodeOver I) (m : NodeOver J) (names others : Names)
    → ((k : Name) → IsTrue (contains names k) → is_listed n k ≡ false → IsTrue (contains others k) × (is_listed m k ≡ false))
    → ((k : Name) → IsTrue (contains others k) → is_listed m k ≡ false → IsTrue (contains names k) × (is_listed n k ≡ false))
    → unlisted n names ≡ unlisted m others
same_count n m names others to from = ap len (same_names _ _ (λ k. same_bool _ _
    (λ h. let x = kept_parts (λ k. not (is_listed n k)) names k h in
    let y = to k x.0 (not-true (is_listed n k) x.1) in
    kept_from (λ k. not (is_listed m k)) others k y.0 (ap not y.1))
    (λ h. let x = kept_parts (λ k. not (is_listed m k)) others k h in
    let y = from k x.0 (not-true (is_listed m k) x.1) in
    kept_from (λ k. not (is_listed n k)) names k y.0 (ap not y.1))))

-- ---- a shape of two nodes

-- the same names fit a shape at two nodes: it lets no unlisted name in and its names are listed at both, or both list the same
-- names and take the same other ones
pub data Sits {I J : Type 0} (n : NodeOver I) (m : NodeOver J) (a : Shape) : Type 0 where
  shut : IsShut a → ((k : Name) → IsTrue (has_name a k) → IsTrue (is_listed n k) × IsTrue (is_listed m k)) → Sits n m a
  alike : ((k : Name) → is_listed n k ≡ is_listed m k) → ((k : Name) → Takes n k ↔ Takes m k) → Sits n m a

-- a name is listed at both of two nodes, or at neither, and may stand there among all other names
pub data IsAtBoth {I J : Type 0} (n : NodeOver I) (m : NodeOver J) (k : Name) : Type 0 where
  listed_both : IsTrue (is_listed n k) → IsTrue (is_listed m k) → IsAtBoth n m k
  other_both : is_listed n k ≡ false → is_listed m k ≡ false → Takes n k → Takes m k → IsAtBoth n m k

pub at_both_back : {I J : Type 0} {n : NodeOver I} {m : NodeOver J} {k : Name} → IsAtBoth n m k → IsAtBoth m n k
at_both_back (listed_both l p) = listed_both p l
at_both_back (other_both l p h g) = other_both p l g h

module _ {I J : Type 0} (n : NodeOver I) (m : NodeOver J) (a : Shape) where
  pub sits_back : Sits n m a → Sits m n a
  sits_back (shut s both) = shut s (λ k h. let x = both k h in (x.1, x.0))
  sits_back (alike same takes) = alike (λ k. sym (same k)) (λ k. let t = takes k in (t.1, t.0))

  pub fits_across : (names : Names) → Sits n m a → Fits n a names → Fits m a names
  fits_across names (shut s both) f =
      let in_shape = λ (k : Name) (h : IsTrue (contains names k)). f.listed.allowed k h (all_listed n names a s f k h) in
      let here = λ (k : Name) (h : IsTrue (contains names k)). (both k (in_shape k h)).1 in
      record {
        listed = record { required = f.listed.required; allowed = λ k h l. in_shape k h };
        others = λ k h off. absurd (true≢false (sym (here k h) ∙ off));
        number = subst (IsWithin a) (zero_count n names (all_listed n names a s f) ∙ sym (zero_count m names here)) f.number;
      }
  fits_across names (alike same takes) f = record {
    listed = record { required = f.listed.required; allowed = λ k h l. f.listed.allowed k h (same k ∙ l) };
    others = λ k h off. (takes k).0 (f.others k h (same k ∙ off));
    number = subst (IsWithin a) (same_count n m names names (λ k h off. (h, sym (same k) ∙ off)) (λ k h off. (h, same k ∙ off))) f.number;
  }

  -- where a name of a set that fits the shape stands at both
  pub at_both : (names : Names) → Sits n m a → Fits n a names → (k : Name) → IsTrue (contains names k) → IsAtBoth n m k
  at_both names (shut s both) f k h =
      let x = both k (f.listed.allowed k h (all_listed n names a s f k h)) in
      listed_both x.0 x.1
  at_both names (alike same takes) f k h = go (is_listed n k) refl
    where
      go : (b : Bool) → is_listed n k ≡ b → IsAtBoth n m k
      go true l = listed_both l (sym (same k) ∙ l)
      go false off = let t = f.others k h off in other_both off (sym (same k) ∙ off) t ((takes k).0 t)

-- a shape sits at a node and at the same node with other shapes and other twins
pub sits_shaped : {I : Type 0} (n : NodeOver I) (shapes : List Shape) (twins : List (Name × Name)) (a : Shape) → Sits n (shaped n shapes twins) a
sits_shaped n shapes twins a = alike (λ k. refl) (λ k. (λ h. h, λ h. h))
