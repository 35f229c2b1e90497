-- What stands in a folder nests less deep than it.
use Rattle.std.proofs.Common.{◌≡◌, ℕ, ◌+◌, ◌<◌, ◌≤◌, ◌*◌, zero, suc, List, [], ◌∷◌, length, get_or, drop, Option, Some, None, refl, sym, ap, ◌∙◌, subst, arith}
use Rattle.std.specs.Prelude.{option_and_then}
use Rattle.serde_json.specs.Data.{Data, null, boolean, number, string, array, object, Items, no_items, item, Members, depth, items_depth}
use Rattle.serde_json.specs.Find.{get_member, as_array}
use Rattle.serde_json.specs.View.{view, items_view}
use Rattle.serde_json.specs.declared.value.Value.{Value}
use Rattle.hm_json_documents.proofs.Members.{found_depth}
use Rattle.hm_json_nodes.specs.Nodes.{children_key, children_of}
use Rattle.hm_json_nodes.proofs.Seen.{IsAFolder}

pub array_there : (o : Option Data) (ds : Items) → option_and_then as_array o ≡ Some ds → o ≡ Some (array ds)
array_there None ds e = absurd cc
array_there (Some null) ds e = absurd cc
array_there (Some (boolean b)) ds e = absurd cc
array_there (Some (number n)) ds e = absurd cc
array_there (Some (string s)) ds e = absurd cc
array_there (Some (array es)) ds e = let same : es ≡ ds = cc in ap (λ ds. Some (array ds)) same
array_there (Some (object ms)) ds e = absurd cc

pub children_found : (ms : Members) (ds : Items) → children_of (object ms) ≡ Some ds → get_member children_key ms ≡ Some (array ds)
children_found ms ds e = array_there (get_member children_key ms) ds e

pub children_deep : (d : Data) (n : List ℕ) (ds : Items) → IsAFolder d n ds → suc (2 * items_depth ds) < 2 * depth d
children_deep d n ds h =
    let inner = found_depth children_key (array ds) h.members (children_found h.members ds h.children_are) in
    subst (λ d. suc (2 * items_depth ds) < 2 * depth d) (sym h.is) (omega (arith, inner))

-- ---- values one after another

-- the value at a place, in front of those behind it
pub next_value : (vs : List Value) (i : ℕ) (v : Value) → i < length vs → v ≡ get_or vs i v → items_view (drop i vs) ≡ item (view v) (items_view (drop (i + 1) vs))
next_value [] i v lt e = absurd (omega (arith, lt))
next_value (x ∷ vs) zero v lt e = ap (λ (x : Value). item (view x) (items_view vs)) (sym e)
next_value (x ∷ vs) (suc i) v lt e =
    next_value vs i v (omega (arith, lt)) e ∙ ap (λ n. item (view v) (items_view (drop n (x ∷ vs)))) (let same : suc (i + 1) ≡ suc i + 1 = omega arith in same)

pub value_deep : (vs : List Value) (i : ℕ) (v : Value) → i < length vs → v ≡ get_or vs i v → 2 * depth (view v) < suc (2 * items_depth (items_view vs))
value_deep [] i v lt e = absurd (omega (arith, lt))
value_deep (x ∷ vs) zero v lt e = let same : depth (view v) ≡ depth (view x) = ap (λ v. depth (view v)) e in omega (arith, same)
value_deep (x ∷ vs) (suc i) v lt e = let h = value_deep vs i v (omega (arith, lt)) e in omega (arith, h)

-- and no items behind all
pub no_more : (vs : List Value) (i : ℕ) → length vs ≤ i → no_items ≡ items_view (drop i vs)
no_more [] zero le = refl
no_more [] (suc i) le = refl
no_more (x ∷ vs) zero le = absurd (omega (arith, le))
no_more (x ∷ vs) (suc i) le = no_more vs i (omega (arith, le))
