-- What a lens puts of the items of a list.
use Rattle.std.proofs.Common.{◌≡◌, List, [], ◌∷◌, ◌++◌, Option, IfSome, sym, ap, subst, ◌∙◌, refl}
use Rattle.hm_tree.specs.Nodes.{Tree}
use Rattle.hm_tree.specs.Archives.{under}
use Rattle.hm_terms.specs.Lenses.{Lens, items, Setting}
use Rattle.hm_tree_parts.specs.Lists.{IsList, no_items, an_item, HasItems, none_left, and_then, head, tail}
use Rattle.hm_terms.specs.Put.{Puts, put_items_none, put_items_more}
use Rattle.hm_tree_parts.proofs.OneList.{one_head, one_tail, nil_item}
use Rattle.hm_eval_terms.specs.Conditions.{IsPut}

-- item by item, with the item at its place in a list from before
pub data PutsItems (S : Setting) (l : Lens) : List Tree → Option Tree → List Tree → Type 0 where
  puts_none : {b : Option Tree} → IfSome b IsList → PutsItems S l [] b []
  puts_more : {b : Option Tree} {x y : Tree} {xs ys : List Tree} → IfSome b IsList → Puts S l x (under head b) y → PutsItems S l xs (under tail b) ys
      → PutsItems S l (x ∷ xs) b (y ∷ ys)

-- what is left of a list from before, behind as many items as there are in another list
abbrev pub behind : List Tree → Option Tree → Option Tree
behind [] b = b
behind (x ∷ xs) b = behind xs (under tail b)

behind_last : (xs : List Tree) (x : Tree) (b : Option Tree) → behind (xs ++ x ∷ []) b ≡ under tail (behind xs b)
behind_last [] x b = refl
behind_last (y ∷ xs) x b = behind_last xs x (under tail b)

module _ (S : Setting) (l : Lens) where
  puts_of : (v : Tree) (b : Option Tree) (c : Tree) → Puts S (items l) v b c → IfSome b IsList
  puts_of v b c (put_items_none is e f) = is
  puts_of v b c (put_items_more is e p q f) = is

  pub view_list : (v : Tree) (b : Option Tree) (c : Tree) → Puts S (items l) v b c → IsList v
  view_list v b c (put_items_none is none f) = no_items none
  view_list v b c (put_items_more {r = r} {t = t} is e p q f) = an_item e tt (view_list r (under tail b) t q)

  items_put : (v : Tree) (b : Option Tree) (c : Tree) (xs : List Tree) → HasItems v xs → Puts S (items l) v b c → (ys : List Tree) × PutsItems S l xs b ys
  items_put v b c xs (none_left none) (put_items_none is e f) = ([], puts_none is)
  items_put v b c xs (none_left none) (put_items_more {x = x} {r = r} is e p q f) = absurd (nil_item x r v none e)
  items_put v b c xs (and_then {x = x} {r = r} e rest) (put_items_none is none f) = absurd (nil_item x r v none e)
  items_put v b c xs (and_then {x = x} {r = r} {xs = us} e rest) (put_items_more {x = y} {r = s} {h = h} {t = t} is f p q g) =
      let more = items_put r (under tail b) t us rest (subst (λ r. Puts S (items l) r (under tail b) t) (one_tail y s x r v f e) q) in
      (h ∷ more.0, puts_more is (subst (λ x. Puts S l x (under head b) h) (one_head y s x r v f e) p) more.1)

  items_of : (v : Tree) (b : Option Tree) (c : Tree) (xs ys : List Tree) → HasItems v xs → PutsItems S l xs b ys → HasItems c ys → Puts S (items l) v b c
  items_of v b c xs ys (none_left none) (puts_none is) (none_left nil) = put_items_none is none nil
  items_of v b c xs ys (and_then {r = r} {xs = us} e rest) (puts_more {ys = ws} is p more) (and_then {r = s} f made) =
      put_items_more is e p (items_of r (under tail b) s us ws rest more made) f

  -- at a place
  record IsPutHere (xs : List Tree) (x : Tree) (b : Option Tree) : Type 0 where
    put : IsPut S l x (under head (behind xs b))
    here : IfSome (behind xs b) IsList
    next : IfSome (under tail (behind xs b)) IsList

  first_list : (b : Option Tree) (xs ys : List Tree) → PutsItems S l xs b ys → IfSome b IsList
  first_list b xs ys (puts_none is) = is
  first_list b xs ys (puts_more is p more) = is

  put_here : (xs us : List Tree) (x : Tree) (b : Option Tree) (ys : List Tree) → PutsItems S l (xs ++ x ∷ us) b ys → IsPutHere xs x b
  put_here [] us x b ys (puts_more {y = y} {ys = ws} is p more) = record {
    put = record { tree = y; is = p };
    here = is;
    next = first_list (under tail b) us ws more;
  }
  put_here (w ∷ xs) us x b ys (puts_more {ys = ws} is p more) =
      let rest = put_here xs us x (under tail b) ws more in
      record { put = rest.put; here = rest.here; next = rest.next }

  put_last : (xs ys : List Tree) (x y : Tree) (b : Option Tree) → PutsItems S l xs b ys → Puts S l x (under head (behind xs b)) y
      → IfSome (under tail (behind xs b)) IsList → PutsItems S l (xs ++ x ∷ []) b (ys ++ y ∷ [])
  put_last xs ys x y b (puts_none is) p next = puts_more is p (puts_none next)
  put_last xs ys x y b (puts_more {xs = us} {ys = ws} is q more) p next = puts_more is q (put_last us ws x y (under tail b) more p next)

  -- how far a loop has come: what was put of the items so far, and what is left of the list from before
  pub record IsPutSoFar (b : Option Tree) (xs ys : List Tree) (old : Option Tree) : Type 0 where
    pub left : old ≡ behind xs b
    pub puts : PutsItems S l xs b ys

  module _ (v : Tree) (b : Option Tree) (h : IsPut S (items l) v b) where
    pub items_list : IsList v
    items_list = view_list v b h.tree h.is

    pub none_put : (ys : List Tree) → ys ≡ [] → IsPutSoFar b [] ys b
    none_put ys none = record { left = refl; puts = subst (PutsItems S l [] b) (sym none) (puts_none (puts_of v b h.tree h.is)) }

    module _ (all : List Tree) (has : HasItems v all) (xs us : List Tree) (x : Tree) (cut : all ≡ xs ++ x ∷ us) (ys : List Tree) (old : Option Tree)
        (so : IsPutSoFar b xs ys old) where
      place : IsPutHere xs x b
      place = let made = items_put v b h.tree all has h.is in put_here xs us x b made.0 (subst (λ l2. PutsItems S l l2 b made.0) cut made.1)

      pub old_list : IfSome old IsList
      old_list = subst (λ o. IfSome o IsList) (sym so.left) place.here

      pub item_put : (o : Option Tree) → o ≡ under head old → IsPut S l x o
      item_put o is = subst (IsPut S l x) (sym (is ∙ ap (under head) so.left)) place.put

      pub one_put_more : (o next : Option Tree) (y : Tree) (zs : List Tree) → o ≡ under head old → next ≡ under tail old → Puts S l x o y → zs ≡ ys ++ y ∷ []
          → IsPutSoFar b (xs ++ x ∷ []) zs next
      one_put_more o next y zs is f p more = record {
        left = f ∙ ap (under tail) so.left ∙ sym (behind_last xs x b);
        puts = subst (PutsItems S l (xs ++ x ∷ []) b) (sym more)
            (put_last xs ys x y b so.puts (subst (λ o. Puts S l x o y) (is ∙ ap (under head) so.left) p) place.next);
      }

    pub items_puts : (all xs ys : List Tree) (old : Option Tree) (c : Tree) → HasItems v all → xs ≡ all → IsPutSoFar b xs ys old → HasItems c ys
        → Puts S (items l) v b c
    items_puts all xs ys old c has taken so made =
        items_of v b c all ys has (subst (λ l2. PutsItems S l l2 b ys) taken so.puts) made
