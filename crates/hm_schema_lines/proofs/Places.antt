-- The first place of each name.
use Rattle.std.proofs.Common.{◌≡◌, ℕ, zero, suc, ◌+◌, ◌<◌, ◌≤◌, Bool, true, false, cond, List, [], ◌∷◌, ◌++◌, length, take, Option, Some, None, refl, sym, ap, ◌∙◌, subst, get_or, slice_get, arith}
use Rattle.indexmap.specs.IndexMap.{get_by_text}
use Rattle.std.specs.List.{Contains, cons_option}
use Rattle.std.specs.Option.{option_map}
use Rattle.std.specs.Str.{bytes_eq}
use Rattle.std.proofs.lemmas.List.{length_push, map-append, length-map, length-take, take_all}
use Rattle.std.proofs.lemmas.List.Elements.{filter_map-append}
use mathlib.Core.Bool.{true≢false}
use mathlib.Core.List.{append-nil}
use lib.Pointwise.{bytes_decides}
use Rattle.hm_tree.specs.Names.{Name}
use Rattle.hm_schema_lines.proofs.Made.{at_place, from_place}
use Rattle.std.proofs.Math.Seq.{take-suc}
use Rattle.hm_schema_lines.specs.declared.firsts.Naming.{Naming}
use Rattle.hm_schema_lines.specs.declared.entry.Entry.{Entry}
use Rattle.hm_schema_lines.specs.Entries.{EntryValue, entry_value, entry_values}
use Rattle.hm_schema_lines.specs.Firsts.{place_in, name_by, names_by, kept_first, AreFirsts, FirstPlaces}

-- one more name has the place behind the others, unless it has one
pub place_next : (q n : Name) (ns : List Name) → place_in q (ns ++ n ∷ []) ≡ kept_first (place_in q ns) q n (length ns)
place_next q n [] = go (bytes_eq q n) refl
  where
    go : (b : Bool) → bytes_eq q n ≡ b → place_in q (n ∷ []) ≡ kept_first None q n 0
    go true e = ap (λ c. cond c (Some 0) None) e ∙ sym (ap (λ c. cond c (Some 0) None) e)
    go false e = ap (λ c. cond c (Some 0) None) e ∙ sym (ap (λ c. cond c (Some 0) None) e)
place_next q n (m ∷ ns) = go (bytes_eq q m) (place_in q ns) (place_next q n ns)
  where
    go : (b : Bool) (old : Option ℕ) → place_in q (ns ++ n ∷ []) ≡ kept_first old q n (length ns)
        → cond b (Some 0) (option_map suc (place_in q (ns ++ n ∷ []))) ≡ kept_first (cond b (Some 0) (option_map suc old)) q n (length (m ∷ ns))
    go true old h = refl
    go false (Some p) h = ap (option_map suc) h
    go false None h = ap (option_map suc) h ∙ more (bytes_eq q n)
      where
        more : (b : Bool) → option_map suc (cond b (Some (length ns)) None) ≡ cond b (Some (length (m ∷ ns))) None
        more true = refl
        more false = refl

-- a table and the place behind its names, after some lines
pub record ArePlaced (n : Naming) (es : List EntryValue) (table : FirstPlaces) (place : ℕ) : Type 0 where
  pub firsts : AreFirsts table (names_by n es)
  pub behind : place ≡ length (names_by n es)
  pub bound : place ≤ length es

names_more : (n : Naming) (es : List EntryValue) (e : EntryValue) → names_by n (es ++ e ∷ []) ≡ names_by n es ++ cons_option (name_by n e) []
names_more n es e = filter_map-append (name_by n) es (e ∷ [])

module _ (n : Naming) (es : List EntryValue) (e : EntryValue) (old : FirstPlaces) (p : ℕ) (h : ArePlaced n es old p) where
  pub placed_name : (name : Name) → name_by n e ≡ Some name → (new : FirstPlaces)
      → ((q : Name) → get_by_text new q ≡ kept_first (get_by_text old q) q name p) → ArePlaced n (es ++ e ∷ []) new (p + 1)
  placed_name name is new kept =
      let names : names_by n (es ++ e ∷ []) ≡ names_by n es ++ name ∷ [] = names_more n es e ∙ ap (λ z. names_by n es ++ cons_option z []) is in
      record {
        firsts = λ q.
            kept q
            ∙ ap (λ z. kept_first z q name p) (h.firsts q)
            ∙ ap (kept_first (place_in q (names_by n es)) q name) h.behind
            ∙ sym (place_next q name (names_by n es))
            ∙ ap (place_in q) (sym names);
        behind = let l = length_push (names_by n es) name in let m = ap length names in let b = h.behind in omega arith;
        bound = let l = length_push es e in let b = h.bound in omega arith;
      }

  pub placed_none : name_by n e ≡ None → ArePlaced n (es ++ e ∷ []) old p
  placed_none is =
      let names : names_by n (es ++ e ∷ []) ≡ names_by n es = names_more n es e ∙ ap (λ z. names_by n es ++ cons_option z []) is
      ∙ append-nil (names_by n es) in
      record {
        firsts = λ q. h.firsts q ∙ ap (place_in q) (sym names);
        behind = h.behind ∙ ap length (sym names);
        bound = let l = length_push es e in let b = h.bound in omega arith;
      }

-- one line more
pub one_more : (es : List Entry) (i : ℕ) (e : Entry) → i < length es → e ≡ get_or es i e
    → entry_values (take (i + 1) es) ≡ entry_values (take i es) ++ entry_value e ∷ []
one_more es i e below is =
    ap (λ z. entry_values (take z es)) (suc_is i)
    ∙ ap entry_values (take-suc es i e below)
    ∙ ap (λ z. entry_values (take i es ++ z ∷ [])) (sym is)
    ∙ map-append entry_value (take i es) (e ∷ [])
  where
    suc_is : (n : ℕ) → n + 1 ≡ suc n
    suc_is n = omega arith

pub at_most : (es : List Entry) (i : ℕ) → length (entry_values (take i es)) ≤ i
at_most es i = let m = length-map (take i es) entry_value in let t = length-take i es in omega arith

pub places_end : (n : Naming) (es : List Entry) (i : ℕ) (table : FirstPlaces) (p : ℕ)
    → ArePlaced n (entry_values (take i es)) table p → length es ≤ i → AreFirsts table (names_by n (entry_values es))
places_end n es i table p h past = subst (λ z. AreFirsts table (names_by n (entry_values z))) (take_all i es past) h.firsts

-- ---- the place of a name that is there

-- a name stands at its place
pub name_at : (q : Name) (ns : List Name) (p : ℕ) → place_in q ns ≡ Some p → slice_get ns p ≡ Some q
name_at q [] p is = let f : ⊥ = cc in absurd f
name_at q (n ∷ ns) p is = go (bytes_eq q n) refl (place_in q ns) (name_at q ns) p is
  where
    go : (b : Bool) → bytes_eq q n ≡ b → (o : Option ℕ) → ((p : ℕ) → o ≡ Some p → slice_get ns p ≡ Some q) → (p : ℕ)
        → cond b (Some 0) (option_map suc o) ≡ Some p → slice_get (n ∷ ns) p ≡ Some q
    go true same o more zero is = ap Some (sym ((bytes_decides q n).0 same))
    go true same o more (suc p) is = let f : ⊥ = cc in absurd f
    go false differ None more p is = let f : ⊥ = cc in absurd f
    go false differ (Some m) more zero is = let f : ⊥ = cc in absurd f
    go false differ (Some m) more (suc p) is = more p (let same : Some m ≡ Some p = cc in same)

-- a name without a place stands nowhere
pub name_nowhere : (q : Name) (ns : List Name) → place_in q ns ≡ None → (p : ℕ) → slice_get ns p ≡ Some q → ⊥
name_nowhere q [] none p is = let f : ⊥ = cc in f
name_nowhere q (n ∷ ns) none p is = go (bytes_eq q n) refl (place_in q ns) (name_nowhere q ns) none p is
  where
    go : (b : Bool) → bytes_eq q n ≡ b → (o : Option ℕ) → (o ≡ None → (p : ℕ) → slice_get ns p ≡ Some q → ⊥)
        → cond b (Some 0) (option_map suc o) ≡ None → (p : ℕ) → slice_get (n ∷ ns) p ≡ Some q → ⊥
    go true same o more none p is = let f : ⊥ = cc in f
    go false differ (Some m) more none p is = let f : ⊥ = cc in f
    go false differ None more none zero is = let same : q ≡ n = cc in true≢false (sym ((bytes_decides q n).1 same) ∙ differ)
    go false differ None more none (suc p) is = more refl p is

pub there : (q : Name) (ns : List Name) (p : ℕ) → place_in q ns ≡ Some p → Contains ns q
there q ns p h = from_place ns q (p, name_at q ns p h)

pub not_there : (q : Name) (ns : List Name) → place_in q ns ≡ None → Contains ns q → ⊥
not_there q ns h c = let a = at_place ns q c in name_nowhere q ns h a.0 a.1

-- the name at a place has it for its first one just where it isn't among those before
pub first_at : (q : Name) (xs ys : List Name) → (Contains xs q → ⊥) → place_in q (xs ++ q ∷ ys) ≡ Some (length xs)
first_at q [] ys h = ap (λ b. cond b (Some 0) (option_map suc (place_in q ys))) ((bytes_decides q q).1 refl)
first_at q (m ∷ xs) ys h = go (bytes_eq q m) refl (first_at q xs ys (λ c. h (suc c.0, (let l = c.1 in omega arith), c.2)))
  where
    go : (b : Bool) → bytes_eq q m ≡ b → place_in q (xs ++ q ∷ ys) ≡ Some (length xs) → place_in q ((m ∷ xs) ++ q ∷ ys) ≡ Some (length (m ∷ xs))
    go true e more = absurd (h (0, omega arith, sym ((bytes_decides q m).0 e)))
    go false e more = ap (λ b. cond b (Some 0) (option_map suc (place_in q (xs ++ q ∷ ys)))) e ∙ ap (option_map suc) more

pub not_before : (q : Name) (xs ys : List Name) → place_in q (xs ++ q ∷ ys) ≡ Some (length xs) → Contains xs q → ⊥
not_before q [] ys h c = let l = c.1 in absurd (omega arith)
not_before q (m ∷ xs) ys h c = go (bytes_eq q m) refl (place_in q (xs ++ q ∷ ys)) refl (not_before q xs ys) c.0 c.1 c.2
  where
    rest : Option ℕ
    rest = place_in q (xs ++ q ∷ ys)

    go : (b : Bool) → bytes_eq q m ≡ b → (o : Option ℕ) → rest ≡ o → (rest ≡ Some (length xs) → Contains xs q → ⊥) → (k : ℕ)
        → k < length (m ∷ xs) → get_or (m ∷ xs) k q ≡ q → ⊥
    go true e o is more k l at = let first : Some 0 ≡ Some (suc (length xs)) = sym (ap (λ b. cond b (Some 0) (option_map suc rest)) e) ∙ h in
        let f : ⊥ = cc in f
    go false e o is more zero l at = true≢false (sym ((bytes_decides q m).1 (sym at)) ∙ e)
    go false e None is more (suc k) l at = let none : None ≡ Some (suc (length xs)) =
        sym (ap (λ b. cond b (Some 0) (option_map suc rest)) e ∙ ap (option_map suc) is) ∙ h in let f : ⊥ = cc in f
    go false e (Some r) is more (suc k) l at =
        let same : Some (suc r) ≡ Some (suc (length xs)) = sym (ap (λ b. cond b (Some 0) (option_map suc rest)) e ∙ ap (option_map suc) is) ∙ h in
        let place : r ≡ length xs = cc in
        more (is ∙ ap Some place) (k, omega arith, at)

-- ---- names and the lines that bring them

pub names_around : (n : Naming) (xs ys : List EntryValue) (e : EntryValue) (w : Name) → name_by n e ≡ Some w
    → names_by n (xs ++ e ∷ ys) ≡ names_by n xs ++ w ∷ names_by n ys
names_around n xs ys e w is = filter_map-append (name_by n) xs (e ∷ ys) ∙ ap (λ o. names_by n xs ++ cons_option o (names_by n ys)) is
