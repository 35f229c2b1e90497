-- A set of names fits a shape where its names that pass a test fit one part of the shape, and its other names the other part.
use Rattle.std.proofs.Common.{◌≡◌, ℕ, Bool, true, false, not, ◌&&◌, ◌||◌, IsTrue, Option, Some, refl, sym, ap, subst, ◌∙◌, arith}
use Rattle.std.proofs.lemmas.Bool.{true≢false, and_parts, and_from}
use Rattle.std.specs.FinSet.{contains, retain}
use Rattle.hm_tree.specs.Names.{Name}
use Rattle.hm_schema.specs.declared.node.Shape.{Shape}
use Rattle.hm_schema.specs.Values.{Names, NodeOver, is_listed}
use Rattle.hm_schema.specs.Permitted.{FitsListed, TakesUnlisted, Fits, Takes, unlisted, IsWithin}
use Rattle.hm_schema.specs.Tidied.{has_name}
use Rattle.hm_schema.proofs.NamesOf.{kept}
use Rattle.hm_types_nodes.specs.Parting.{shape_in, shape_out, Parts, listed, shut}
use Rattle.hm_schema.proofs.NameSets.{kept_parts, kept_from}
use Rattle.hm_schema.proofs.Shapes.{zero_count, all_listed, same_count}

-- ---- a part of a shape

-- the names of a shape that pass a test, with a count
abbrev pub part_shape : (Name → Bool) → Shape → ℕ → Option ℕ → Shape
part_shape q a least most = record { required = retain a.required q; optional = retain a.optional q; least = least; most = most }

pub has_part : (q : Name → Bool) (a : Shape) (k : Name)
    → (contains (retain a.required q) k || contains (retain a.optional q) k) ≡ (has_name a k && q k)
has_part q a k = ap (λ b. b || contains (retain a.optional q) k) (kept q a.required k) ∙ ap (λ b. (contains a.required k && q k) || b) (kept q a.optional k)
    ∙ go (contains a.required k) (contains a.optional k) (q k)
  where
    go : (r o b : Bool) → ((r && b) || (o && b)) ≡ ((r || o) && b)
    go true true true = refl
    go true true false = refl
    go true false true = refl
    go true false false = refl
    go false o b = refl

module _ (q : Name → Bool) (a : Shape) (k : Name) where
  pub part_has : IsTrue (contains (retain a.required q) k || contains (retain a.optional q) k) → IsTrue (has_name a k) × IsTrue (q k)
  part_has h = and_parts (has_name a k) (q k) (sym (has_part q a k) ∙ h)

  pub has_from : IsTrue (has_name a k) → IsTrue (q k) → IsTrue (contains (retain a.required q) k || contains (retain a.optional q) k)
  has_from h g = has_part q a k ∙ and_from (has_name a k) (q k) h g

module _ {I : Type 0} (n : NodeOver I) (p : Name → Bool) (a : Shape) (names : Names) where
  abbrev out : Name → Bool
  out k = not (p k)

  part_listed : (q : Name → Bool) (least : ℕ) (most : Option ℕ) → FitsListed n a names → FitsListed n (part_shape q a least most) (retain names q)
  part_listed q least most f = record {
    required = λ k h. let parts = kept_parts q a.required k h in kept_from q names k (f.required k parts.0) parts.1;
    allowed = λ k h l. let parts = kept_parts q names k h in has_from q a k (f.allowed k parts.0 l) parts.1;
  }

  part_takes : (q : Name → Bool) → TakesUnlisted n names → TakesUnlisted n (retain names q)
  part_takes q f k h off = f k (kept_parts q names k h).0 off

  -- each name that passes is listed
  abbrev AreListed : Type 0
  AreListed = (k : Name) → IsTrue (contains names k) → IsTrue (p k) → IsTrue (is_listed n k)

  passed_listed : Parts n a p → Fits n a names → AreListed
  passed_listed (listed all) f k h g = all k g
  passed_listed (shut s) f k h g = all_listed n names a s f k h

  -- so the other names have all unlisted ones
  out_count : AreListed → unlisted n names ≡ unlisted n (retain names out)
  out_count all = same_count n n names (retain names out)
      (λ k h off. (kept_from out names k h (ap not (not_passed k h off (p k) refl)), off))
      (λ k h off. ((kept_parts out names k h).0, off))
    where
      not_passed : (k : Name) → IsTrue (contains names k) → is_listed n k ≡ false → (b : Bool) → p k ≡ b → p k ≡ false
      not_passed k h off true e = absurd (true≢false (sym (all k h e) ∙ off))
      not_passed k h off false e = e

  pub fits_parts : Parts n a p → Fits n a names → Fits n (shape_in p a) (retain names p) × Fits n (shape_out p a) (retain names out)
  fits_parts parts f = (
    record {
      listed = part_listed p 0 (Some 0) f.listed;
      others = part_takes p f.others;
      number = let e = zero_count n (retain names p) (λ k h. let x = kept_parts p names k h in passed_listed parts f k x.0 x.1) in
          record { least = omega arith; most = omega arith };
    },
    record {
      listed = part_listed out a.least a.most f.listed;
      others = part_takes out f.others;
      number = subst (IsWithin (shape_out p a)) (out_count (passed_listed parts f)) (record { least = f.number.least; most = f.number.most });
    },
  )

  pub parts_fit : Fits n (shape_in p a) (retain names p) → Fits n (shape_out p a) (retain names out) → Fits n a names
  parts_fit f g = record {
    listed = record { required = λ k h. required k h (p k) refl; allowed = λ k h l. allowed k h l (p k) refl };
    others = λ k h off. others k h off (p k) refl;
    number = let w = subst (IsWithin (shape_out p a))
        (sym (out_count (λ k h e. all_listed n (retain names p) (shape_in p a) refl f k (kept_from p names k h e)))) g.number in
        record { least = w.least; most = w.most };
  }
    where
      required : (k : Name) → IsTrue (contains a.required k) → (b : Bool) → p k ≡ b → IsTrue (contains names k)
      required k h true e = (kept_parts p names k (f.listed.required k (kept_from p a.required k h e))).0
      required k h false e = (kept_parts out names k (g.listed.required k (kept_from out a.required k h (ap not e)))).0

      allowed : (k : Name) → IsTrue (contains names k) → IsTrue (is_listed n k) → (b : Bool) → p k ≡ b → IsTrue (has_name a k)
      allowed k h l true e = (part_has p a k (f.listed.allowed k (kept_from p names k h e) l)).0
      allowed k h l false e = (part_has out a k (g.listed.allowed k (kept_from out names k h (ap not e)) l)).0

      others : (k : Name) → IsTrue (contains names k) → is_listed n k ≡ false → (b : Bool) → p k ≡ b → Takes n k
      others k h off true e = f.others k (kept_from p names k h e) off
      others k h off false e = g.others k (kept_from out names k h (ap not e)) off
