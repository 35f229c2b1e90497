-- A lens fits where its parts do.
use Rattle.std.proofs.Common.{◌≡◌, [], ◌∷◌, Option, Some, None, IfSome, refl, sym, ap, subst, ◌∙◌}
use Rattle.std.proofs.lemmas.Option.{same_Some}
use Rattle.hm_tree.specs.declared.class.Class.{Class}
use Rattle.hm_tree.specs.Names.{Name}
use Rattle.hm_tree.specs.Classes.{IsInClass}
use Rattle.std.specs.Prelude.{T}
use Rattle.std.specs.Str.{is_utf8}
use Rattle.hm_tree.specs.Nodes.{Tree, node, empty, edges_from, are_edges, edges_head, both}
use Rattle.hm_tree.specs.NodeLaws.{edges-node, edges_are}
use Rattle.hm_text_lens.specs.Meanings.{TextMeaning, IsTextIn, IsLawful, IsFrom, IsInto, IsBefore}
use Rattle.hm_terms.specs.Lenses.{Lens, identity, sequence, constant, hoist, plunge, text, Setting}
use Rattle.hm_text_lens.specs.Naming.{first_named}
use Rattle.hm_tree_parts.specs.Edges.{IsEdge, IsValue, ValueIn}
use Rattle.hm_terms.specs.Shown.{Shows, by_identity, by_sequence, by_constant, by_hoist, by_plunge, by_text}
use Rattle.hm_terms.specs.Put.{ShowsBefore, none_before, shown_before, before_or, Puts, put_identity, put_sequence, put_constant, put_hoist, put_plunge, ValueBefore, no_value_before, value_before, put_text}
use Rattle.hm_terms.specs.Kept.{Keeps, keeps_identity, keeps_sequence, keeps_constant, keeps_hoist, keeps_plunge, keeps_text}
use Rattle.hm_terms.specs.Fitting.{IsOne, Fits}
use Rattle.hm_terms.proofs.OneShown.{one_shown}
use Rattle.hm_terms.proofs.OnePut.{one_put}

-- the text of a value is UTF-8, as all names of trees
pub value_text : (k : Class) (v : Name) (t : Tree) → IsValue v t → IsInClass k v → IsTextIn k v
value_text k v t e h = record { text = edges_head {X = Tree} (v, empty) [] (subst (λ es. T (are_edges es)) e (edges_are t)); in_class = h }

module _ (S : Setting) where
  pub shown_one : {A : Tree → Type 0} (l : Lens) (c v : Tree) → A v → Shows S l c v → IsOne A (Shows S l c)
  shown_one l c v a s = record { tree = v; is = s; inside = a; only = λ other o. one_shown S o s }

  pub put_one : {C : Tree → Type 0} (l : Lens) (v : Tree) (b : Option Tree) (c : Tree) → C c → Puts S l v b c → IsOne C (Puts S l v b)
  put_one l v b c h p = record { tree = c; is = p; inside = h; only = λ other o. one_put S o p }

  -- what a lens that fits shows and puts is in its sets
  module _ (l : Lens) (C A : Tree → Type 0) where
    pub shown_inside : Fits S l C A → (c v : Tree) → C c → Shows S l c v → A v
    shown_inside f c v h s = let one = f.shows c h in subst A (sym (one.only v s)) one.inside

    pub put_inside : Fits S l C A → (v : Tree) (b : Option Tree) (c : Tree) → A v → IfSome b C → Puts S l v b c → C c
    put_inside f v b c h g p = let one = f.puts v b h g in subst C (sym (one.only c p)) one.inside

  -- ---- identity

  pub fits_identity : (C : Tree → Type 0) → Fits S identity C C
  fits_identity C = record {
    shows = λ c h. shown_one identity c c h by_identity;
    puts = λ v b h g. put_one identity v b v h put_identity;
    get_put = λ c v h s. back c v s;
    put_get = λ v b c h g p. forth v b c p;
    keeps = λ v b c h g p. keeps_identity;
  }
    where
      back : (c v : Tree) → Shows S identity c v → Puts S identity v (Some c) c
      back c v by_identity = put_identity

      forth : (v : Tree) (b : Option Tree) (c : Tree) → Puts S identity v b c → Shows S identity c v
      forth v b c put_identity = by_identity

  -- ---- sequences

  module _ (l k : Lens) (C B A : Tree → Type 0) (f : Fits S l C B) (g : Fits S k B A) where
    sequence_puts : (v : Tree) (b : Option Tree) → A v → IfSome b C → IsOne C (Puts S (sequence l k) v b)
    sequence_puts v None h _ =
        let two = g.puts v None h tt in
        let one = f.puts two.tree None two.inside tt in
        put_one (sequence l k) v None one.tree one.inside (put_sequence none_before two.is one.is)
    sequence_puts v (Some b) h c =
        let old = f.shows b c in
        let two = g.puts v (Some old.tree) h old.inside in
        let one = f.puts two.tree (Some b) two.inside c in
        put_one (sequence l k) v (Some b) one.tree one.inside (put_sequence (shown_before old.is) two.is one.is)

    before_inside : {b n : Option Tree} → ShowsBefore S l b n → IfSome b C → IfSome n B
    before_inside none_before c = tt
    before_inside (shown_before {b = b} {m = m} s) c = shown_inside l C B f b m c s

    pub fits_sequence : Fits S (sequence l k) C A
    fits_sequence = record {
      shows = λ c h.
          let one = f.shows c h in
          let two = g.shows one.tree one.inside in
          shown_one (sequence l k) c two.tree two.inside (by_sequence one.is two.is);
      puts = sequence_puts;
      get_put = back;
      put_get = forth;
      keeps = kept;
    }
      where
        back : (c v : Tree) → C c → Shows S (sequence l k) c v → Puts S (sequence l k) v (Some c) c
        back c v h (by_sequence {m = m} p q) = put_sequence (shown_before p) (g.get_put m v (shown_inside l C B f c m h p) q) (f.get_put c m h p)

        forth : (v : Tree) (b : Option Tree) (c : Tree) → A v → IfSome b C → Puts S (sequence l k) v b c → Shows S (sequence l k) c v
        forth v b c h i (put_sequence {m = m} {n = n} s p q) =
            let old = before_inside s i in
            by_sequence (f.put_get m b c (put_inside k B A g v n m h old p) i q) (g.put_get v n m h old p)

        kept : (v b c : Tree) → A v → C b → Puts S (sequence l k) v (Some b) c → Keeps S (sequence l k) b c
        kept v b c h i (put_sequence {m = m} (shown_before {m = n} s) p q) =
            let old = shown_inside l C B f b n i s in
            let new = put_inside k B A g v (Some n) m h old p in
            keeps_sequence (f.keeps m b c new i q) s (f.put_get m (Some b) c new i q) (g.keeps v n m h old p)

  -- ---- constants

  pub fits_constant : (t d : Tree) (C : Tree → Type 0) → C d → Fits S (constant t d) C (λ v. v ≡ t)
  fits_constant t d C h = record {
    shows = λ c g. shown_one {A = λ v. v ≡ t} (constant t d) c t refl by_constant;
    puts = λ v b is g. put_one (constant t d) v b (before_or d b) (inside b g) (put_constant refl);
    get_put = λ c v g s. put_constant refl;
    put_get = λ v b c is g p. subst (Shows S (constant t d) c) (sym is) by_constant;
    keeps = λ v b c is g p. kept v b c p;
  }
    where
      inside : (b : Option Tree) → IfSome b C → C (before_or d b)
      inside None _ = h
      inside (Some b) g = g

      kept : (v b c : Tree) → Puts S (constant t d) v (Some b) c → Keeps S (constant t d) b c
      kept v b c (put_constant e) = subst (Keeps S (constant t d) b) (sym e) keeps_constant

  -- ---- one edge

  edge_to : (n : Name) (x : Tree) → T (is_utf8 n) → (t : Tree) × IsEdge n x t
  edge_to n x utf8 = (node ((n, x) ∷ []), edges-node ((n, x) ∷ []) (edges_from ((n, x) ∷ []) tt (both _ _ utf8 tt)))

  module _ (n : Name) (utf8 : T (is_utf8 n)) (C A : Tree → Type 0) (down : (c : Tree) → C c → (x : Tree) × IsEdge n x c × A x)
      (up : (c x : Tree) → IsEdge n x c → A x → C c) where
    pub fits_hoist : Fits S (hoist n) C A
    fits_hoist = record {
      shows = λ c h. let x = down c h in shown_one (hoist n) c x.0 x.2 (by_hoist x.1);
      puts = λ v b h g. let t = edge_to n v utf8 in put_one (hoist n) v b t.0 (up t.0 v t.1 h) (put_hoist t.1);
      get_put = λ c v h s. back c v s;
      put_get = λ v b c h g p. forth v b c p;
      keeps = λ v b c h g p. keeps_hoist;
    }
      where
        back : (c v : Tree) → Shows S (hoist n) c v → Puts S (hoist n) v (Some c) c
        back c v (by_hoist e) = put_hoist e

        forth : (v : Tree) (b : Option Tree) (c : Tree) → Puts S (hoist n) v b c → Shows S (hoist n) c v
        forth v b c (put_hoist e) = by_hoist e

  module _ (n : Name) (utf8 : T (is_utf8 n)) (C A : Tree → Type 0) (down : (v : Tree) → A v → (x : Tree) × IsEdge n x v × C x)
      (up : (v x : Tree) → IsEdge n x v → C x → A v) where
    pub fits_plunge : Fits S (plunge n) C A
    fits_plunge = record {
      shows = λ c h. let t = edge_to n c utf8 in shown_one (plunge n) c t.0 (up t.0 c t.1 h) (by_plunge t.1);
      puts = λ v b h g. let x = down v h in put_one (plunge n) v b x.0 x.2 (put_plunge x.1);
      get_put = λ c v h s. back c v s;
      put_get = λ v b c h g p. forth v b c p;
      keeps = λ v b c h g p. keeps_plunge;
    }
      where
        back : (c v : Tree) → Shows S (plunge n) c v → Puts S (plunge n) v (Some c) c
        back c v (by_plunge e) = put_plunge e

        forth : (v : Tree) (b : Option Tree) (c : Tree) → Puts S (plunge n) v b c → Shows S (plunge n) c v
        forth v b c (put_plunge e) = by_plunge e

  -- ---- texts

  module _ (x : Name) (m : TextMeaning) (is : first_named x S.texts ≡ Some m) (law : IsLawful m) where
    value_to : (v : Name) → T (is_utf8 v) → (t : Tree) × IsValue v t
    value_to v utf8 = edge_to v empty utf8

    -- what stands before, as a text
    record Before (b : Option Tree) : Type 0 where
      text : Option Name
      stands : ValueBefore m b text
      inside : IsBefore m text

    inside_before : {b : Option Tree} {u : Option Name} → ValueBefore m b u → IsBefore m u
    inside_before no_value_before = tt
    inside_before (value_before {b = b} {u = u} e h) = value_text m.from_class u b e h

    text_before : (b : Option Tree) → IfSome b (ValueIn (IsInClass m.from_class)) → Before b
    text_before None h = record { text = None; stands = no_value_before; inside = tt }
    text_before (Some c) h = record { text = Some h.text; stands = value_before h.is h.inside; inside = value_text m.from_class h.text c h.is h.inside }

    pub fits_text : Fits S (text x) (ValueIn (IsInClass m.from_class)) (ValueIn (IsInClass m.into_class))
    fits_text = record {
      shows = λ c h.
          let shown = law.gets h.text (value_text m.from_class h.text c h.is h.inside) in
          let v = value_to (m.get_of h.text) shown.text in
          shown_one (text x) c v.0 (record { text = m.get_of h.text; is = v.1; inside = shown.in_class }) (by_text is h.inside h.is v.1);
      puts = λ v b h g.
          let old = text_before b g in
          let put = law.puts h.text old.text (value_text m.into_class h.text v h.is h.inside) old.inside in
          let c = value_to (m.put_of h.text old.text) put.text in
          put_one (text x) v b c.0 (record { text = m.put_of h.text old.text; is = c.1; inside = put.in_class })
          (put_text is h.inside h.is old.stands c.1);
      get_put = λ c v h s. back c v s;
      put_get = λ v b c h g p. forth v b c p;
      keeps = λ v b c h g p. kept v b c p;
    }
      where
        back : (c v : Tree) → Shows S (text x) c v → Puts S (text x) v (Some c) c
        back c v (by_text {v = t} {m = k} at h e f) =
            let one : k ≡ m = same_Some k m (sym at ∙ is) in
            let class : IsInClass m.from_class t = subst (λ k. IsInClass k.from_class t) one h in
            let inside : IsFrom m t = value_text m.from_class t c e class in
            let shown : IsValue (m.get_of t) v = subst (λ k. IsValue (k.get_of t) v) one f in
            put_text is (law.gets t inside).in_class shown (value_before e class) (subst (λ u. IsValue u c) (sym (law.get_put t inside)) e)

        forth : (v : Tree) (b : Option Tree) (c : Tree) → Puts S (text x) v b c → Shows S (text x) c v
        forth v b c (put_text {w = w} {m = k} {u = u} at h e p f) =
            let one : k ≡ m = same_Some k m (sym at ∙ is) in
            let inside : IsInto m w = value_text m.into_class w v e (subst (λ k. IsInClass k.into_class w) one h) in
            let old : IsBefore m u = inside_before (subst (λ k. ValueBefore k b u) one p) in
            let put : IsValue (m.put_of w u) c = subst (λ k. IsValue (k.put_of w u) c) one f in
            by_text is (law.puts w u inside old).in_class put (subst (λ t. IsValue t v) (sym (law.put_get w u inside old)) e)

        kept : (v b c : Tree) → Puts S (text x) v (Some b) c → Keeps S (text x) b c
        kept v b c (put_text {w = w} {m = k} at h e (value_before {u = u} g i) f) =
            let one : k ≡ m = same_Some k m (sym at ∙ is) in
            let inside : IsInto m w = value_text m.into_class w v e (subst (λ k. IsInClass k.into_class w) one h) in
            let old : IsFrom m u = value_text m.from_class u b g (subst (λ k. IsInClass k.from_class u) one i) in
            let put : IsValue (m.put_of w (Some u)) c = subst (λ k. IsValue (k.put_of w (Some u)) c) one f in
            keeps_text is g put (λ same.
            let shown : m.get_of u ≡ w = same ∙ law.put_get w (Some u) inside old in
            ap m.hidden_of (sym (law.get_put u old) ∙ ap (λ t. m.put_of t (Some u)) shown))
