-- A lens for the child of each of some names.
use Rattle.std.proofs.Common.{◌≡◌, ◌<◌, ◌+◌, ℕ, zero, suc, MatchOption, Bool, true, false, cond, IsTrue, IsSome, List, [], ◌∷◌, ◌++◌, take, drop, length, map, slice_get, slice_set, is_some, Option, Some, None, IfSome, Contains, refl, sym, ap, subst, ◌∙◌, arith}
use mathlib.Core.Bool.{false≢true, true≢false}
use Rattle.std.specs.Ordering.{eq_by_cmp}
use Rattle.std.specs.Option.{option_map, option_or}
use Rattle.std.specs.FinMap.{find}
use Rattle.std.proofs.lemmas.Option.{same_Some, none-some, slice_get_within}
use Rattle.std.proofs.lemmas.List.Elements.{Contains-append_right}
use Rattle.hm_tree.specs.declared.class.Class.{Class}
use Rattle.hm_tree.specs.Names.{Name, name_cmp}
use Rattle.hm_schema.specs.declared.node.NodeId.{NodeId}
use Rattle.hm_schema.specs.Values.{NodeValue, is_listed}
use Rattle.hm_schema.proofs.NamesOf.{tie_one}
use Rattle.hm_schema.proofs.Lists.{all_read}
use Rattle.hm_terms_laws.proofs.CallLists.{tied}
use Rattle.hm_schema.specs.WellFormed.{IsWellFormedNode}
use Rattle.hm_terms.specs.declared.term.Term.{Term}
use Rattle.hm_terms.specs.Lenses.{Lens, Lenses, among, none, also, lens_at}
use Rattle.hm_terms.specs.Programs.{lens_of, lenses_of}
use Rattle.hm_terms.specs.WellFormedPrograms.{HasOnce, row_names, IsAmong, here, further}
use Rattle.hm_types_forms.specs.Forms.{Label, Step, named, others, label_of, next_of, under, form}
use Rattle.hm_types_forms.specs.Sound.{IsSound}
use Rattle.hm_types_rules.specs.Typing.{Goes, goes_among, AreListed}
use Rattle.hm_types_rules.specs.Faults.{At, at, Faults, GoesOn, behind, size_of, size_of_all, fault_among, fault_named}
use Rattle.hm_types_forms.proofs.SoundForms.{under_sound}
use Rattle.hm_types_table.specs.Tables.{Nodes, AreFormed, Extends, replaced}
use Rattle.hm_types_table.proofs.Grown.{formed_at}
use Rattle.hm_types_table.proofs.Forms.{is_listed_over}
use Rattle.hm_types_terms.specs.declared.course.Course.{Course}
use Rattle.hm_types_terms.specs.declared.memo.Memo.{Memo}
use Rattle.hm_types_terms.specs.Numbers.{StandFrom, parts_of, parts_of_all}
use Rattle.hm_types_terms.specs.Courses.{scope_of, lenses_in, IsView, IsReady, IsGrown, IsAt}
use Rattle.hm_types_terms.specs.Below.{AreLed, AreOthersLed}
use Rattle.hm_types_terms.proofs.Standing.{count as size_count, stand_inside, stand_first, stand_second}
use Rattle.hm_types_terms.proofs.Named.{Terms, one_more, at_next, row_some}
use Rattle.hm_types_terms.proofs.Growing.{inside, same_form, view_before, types_grown, ready_at}
use Rattle.hm_types_terms.proofs.Entries.{found_at, at_found, there}
use Rattle.hm_types_terms.proofs.Led.{under_at, led_none, led_grown, led_set, view_label, step_goes, step_stays}

contains_there : {X : Type 0} (before : List X) (x : X) (after : List X) → Contains (before ++ (x ∷ after)) x
contains_there before x after = Contains-append_right before (x ∷ after) x (0, omega arith, refl)

-- ---- rows

lenses_append : (xs ys : Terms) → lenses_of (xs ++ ys) ≡ behind (lenses_of xs) (lenses_of ys)
lenses_append [] ys = refl
lenses_append (x ∷ xs) ys = ap (also x.0 (lens_of x.1)) (lenses_append xs ys)

split_at : (rows : Terms) (i : ℕ) (row : Name × Term) → slice_get rows i ≡ Some row → rows ≡ take i rows ++ (row ∷ drop (suc i) rows)
split_at [] i row e = absurd (none-some row e)
split_at (r ∷ rows) zero row e = ap (λ r. r ∷ rows) (same_Some r row e)
split_at (r ∷ rows) (suc i) row e = ap (λ l. r ∷ l) (split_at rows i row e)

drop_at : (rows : Terms) (i : ℕ) (row : Name × Term) → slice_get rows i ≡ Some row → drop i rows ≡ row ∷ drop (suc i) rows
drop_at [] i row e = absurd (none-some row e)
drop_at (r ∷ rows) zero row e = ap (λ r. r ∷ rows) (same_Some r row e)
drop_at (r ∷ rows) (suc i) row e = drop_at rows i row e

-- the name of a row isn't among those of the rows before it
fresh : (rows : Terms) (i : ℕ) (row : Name × Term) → slice_get rows i ≡ Some row → HasOnce (row_names (lenses_of rows))
    → lens_at row.0 (lenses_of (take i rows)) ≡ None
fresh rows i row e once = go (lens_at row.0 (lenses_of (take i rows))) refl
  where
    name_at : (rows : Terms) (i : ℕ) (row : Name × Term) → slice_get rows i ≡ Some row → slice_get (row_names (lenses_of rows)) i ≡ Some row.0
    name_at [] i row e = absurd (none-some row e)
    name_at (r ∷ rows) zero row e = ap (λ (r : Name × Term). Some r.0) (same_Some r row e)
    name_at (r ∷ rows) (suc i) row e = name_at rows i row e

    earlier : (rows : Terms) (i : ℕ) (k : Name) (l : Lens) → lens_at k (lenses_of (take i rows)) ≡ Some l
        → (p : ℕ) × ((p < i) × (slice_get (row_names (lenses_of rows)) p ≡ Some k))
    earlier rows zero k l e = absurd (none-some l e)
    earlier [] (suc i) k l e = absurd (none-some l e)
    earlier (r ∷ rows) (suc i) k l e = step (eq_by_cmp name_cmp k r.0) refl e (earlier rows i k l)
      where
        step : (b : Bool) → eq_by_cmp name_cmp k r.0 ≡ b → cond b (Some (lens_of r.1)) (lens_at k (lenses_of (take i rows))) ≡ Some l
            → (lens_at k (lenses_of (take i rows)) ≡ Some l → (p : ℕ) × ((p < i) × (slice_get (row_names (lenses_of rows)) p ≡ Some k)))
            → (p : ℕ) × ((p < suc i) × (slice_get (row_names (lenses_of (r ∷ rows))) p ≡ Some k))
        step true t e rest = (0, (omega arith, ap Some (sym (tie_one k r.0 t))))
        step false t e rest = let q = rest e in (suc q.0, (omega (arith, q.1.0), q.1.1))

    go : (o : Option Lens) → lens_at row.0 (lenses_of (take i rows)) ≡ o → lens_at row.0 (lenses_of (take i rows)) ≡ None
    go None f = f
    go (Some l) f =
        let p = earlier rows i row.0 l f in
        let same : p.0 ≡ i = once p.0 i row.0 p.1.1 (name_at rows i row e) in
        absurd (omega (arith, same, p.1.0))

named_at : (ls : Lenses) (m : Name) (l : Lens) → lens_at m ls ≡ Some l → (p : ℕ) × (slice_get (row_names ls) p ≡ Some m)
named_at none m l e = absurd (none-some l e)
named_at (also k x ls) m l e = go (eq_by_cmp name_cmp m k) refl e (named_at ls m l)
  where
    go : (b : Bool) → eq_by_cmp name_cmp m k ≡ b → cond b (Some x) (lens_at m ls) ≡ Some l → (lens_at m ls ≡ Some l → (p : ℕ) × (slice_get (row_names ls) p ≡ Some m))
        → (p : ℕ) × (slice_get (row_names (also k x ls)) p ≡ Some m)
    go true t e rest = (0, ap Some (sym (tie_one m k t)))
    go false t e rest = let q = rest e in (suc q.0, q.1)

-- each of some lenses with different names is the lens of its name
among_at : (ls : Lenses) → HasOnce (row_names ls) → (m : Name) (l : Lens) → IsAmong m l ls → lens_at m ls ≡ Some l
among_at none once m l a = elim a [ ]
among_at (also k x ls) once m l here = ap (λ b. cond b (Some x) (lens_at k ls)) (tied k)
among_at (also k x ls) once m l (further a) =
    go (eq_by_cmp name_cmp m k) refl (among_at ls (λ i j n e f. omega (arith, once (suc i) (suc j) n e f)) m l a)
  where
    go : (b : Bool) → eq_by_cmp name_cmp m k ≡ b → lens_at m ls ≡ Some l → cond b (Some x) (lens_at m ls) ≡ Some l
    go false t e = e
    go true t e =
        let p = named_at ls m l e in
        absurd (omega (arith, once 0 (suc p.0) m (ap Some (sym (tie_one m k t))) p.1))

once_first : (rows : Terms) (i : ℕ) → HasOnce (row_names (lenses_of rows)) → HasOnce (row_names (lenses_of (take i rows)))
once_first rows i once p q k e f = once p q k (whole rows i p k e) (whole rows i q k f)
  where
    whole : (rows : Terms) (i p : ℕ) (k : Name) → slice_get (row_names (lenses_of (take i rows))) p ≡ Some k → slice_get (row_names (lenses_of rows)) p ≡ Some k
    whole rows zero p k e = absurd (none-some k e)
    whole [] (suc i) p k e = absurd (none-some k e)
    whole (r ∷ rows) (suc i) zero k e = e
    whole (r ∷ rows) (suc i) (suc p) k e = whole rows i p k e

pub size_next : (rows : Terms) (i : ℕ) (row : Name × Term) → slice_get rows i ≡ Some row
    → size_of_all (lenses_of (take (i + 1) rows)) ≡ size_of_all (lenses_of (take i rows)) + size_of (lens_of row.1)
size_next rows i row e = ap (λ rows. size_of_all (lenses_of rows)) (one_more rows i row e) ∙ last (take i rows)
  where
    last : (rows : Terms) → size_of_all (lenses_of (rows ++ row ∷ [])) ≡ size_of_all (lenses_of rows) + size_of (lens_of row.1)
    last [] = omega arith
    last (r ∷ rows) = omega (arith, last rows)

-- the lens of a row is the lens of its name
lens_of_row : (rows : Terms) (i : ℕ) (row : Name × Term) → slice_get rows i ≡ Some row → HasOnce (row_names (lenses_of rows))
    → lens_at row.0 (lenses_of rows) ≡ Some (lens_of row.1)
lens_of_row rows i row e once = among_at (lenses_of rows) once row.0 (lens_of row.1) (go rows i e)
  where
    go : (rows : Terms) (i : ℕ) → slice_get rows i ≡ Some row → IsAmong row.0 (lens_of row.1) (lenses_of rows)
    go [] i e = absurd (none-some row e)
    go (r ∷ rows) zero e = subst (λ (q : Name × Term). IsAmong q.0 (lens_of q.1) (also r.0 (lens_of r.1) (lenses_of rows))) (same_Some r row e) here
    go (r ∷ rows) (suc i) e = further (go rows i e)

-- a name that has a lens among the first rows has one
first_whole : (rows : Terms) (i : ℕ) (m : Name) (l : Lens) → lens_at m (lenses_of (take i rows)) ≡ Some l → IsSome (lens_at m (lenses_of rows))
first_whole rows zero m l e = absurd (none-some l e)
first_whole [] (suc i) m l e = absurd (none-some l e)
first_whole (r ∷ rows) (suc i) m l e = go (eq_by_cmp name_cmp m r.0) e (first_whole rows i m l)
  where
    go : (b : Bool) → cond b (Some (lens_of r.1)) (lens_at m (lenses_of (take i rows))) ≡ Some l → (lens_at m (lenses_of (take i rows)) ≡ Some l → IsSome (lens_at m (lenses_of rows)))
        → IsSome (cond b (Some (lens_of r.1)) (lens_at m (lenses_of rows)))
    go true e rest = refl
    go false e rest = rest e

listed_child : (n : NodeValue) (m : Name) → IsTrue (is_listed (label_of n) m) → (x : NodeId) × (find name_cmp m n.children ≡ Some x)
listed_child n m h = go (find name_cmp m n.children) (sym (is_listed_over (λ s i. tt) n m) ∙ h)
  where
    go : (o : Option NodeId) → is_some o ≡ true → (x : NodeId) × (o ≡ Some x)
    go None e = absurd (false≢true e)
    go (Some x) e = (x, refl)

-- named children have the lenses of their names, and all others none
abbrev pub named_on : Lenses → Step → Option Lens
named_on ls (named k) = lens_at k ls
named_on ls others = None

-- ---- the lens

module _ (c : Course) (number : ℕ) (rows : Terms) (old : Nodes) (known : Memo) (i : NodeId)
    (r : IsReady c old known (parts_of (among (lenses_of rows))) number i) where
  once : HasOnce (row_names (lenses_of rows))
  once = r.rows (lenses_of rows) (contains_at r.stand)
    where
      contains_at : StandFrom (lenses_in c) number (among (lenses_of rows) ∷ parts_of_all (lenses_of rows)) → Contains (lenses_in c) (among (lenses_of rows))
      contains_at s = subst (λ all. Contains all (among (lenses_of rows))) (sym s.is) (contains_there s.before (among (lenses_of rows)) (parts_of_all (lenses_of rows) ++ s.after))

  pub named_stand : StandFrom (lenses_in c) (number + 1) (parts_of_all (lenses_of rows))
  named_stand = stand_inside (lenses_in c) number (among (lenses_of rows)) (parts_of_all (lenses_of rows)) r.stand

  module _ (n : NodeValue) (at_i : slice_get old i.place ≡ Some n) where
    abbrev pub first_on : ℕ → Name → Option Lens
    first_on idx k = lens_at k (lenses_of (take idx rows))

    well : IsWellFormedNode (length old) n
    well = formed_at old i n r.start.formed at_i

    label : form old i [] ≡ Some (label_of n)
    label = ap (option_map label_of) at_i

    pub named_refused : ((n.twins ≡ []) → AreListed (label_of n) (lenses_of rows) → ⊥) → IsAt (scope_of c) old (among (lenses_of rows)) number i (at number 8)
    named_refused f types t = fault_among (λ a p l.
        let same : label_of n ≡ a = same_Some (label_of n) a (sym label ∙ p.is) in
        f (ap (λ (a : Label). a.twins) same ∙ p.plain) (subst (λ a. AreListed a (lenses_of rows)) (sym same) l))

    pub named_start : AreLed (scope_of c) old old (first_on 0) n.children (map (λ c. c.1) n.children)
    named_start = led_none (scope_of c) old (first_on 0) n.children (λ k. refl) well.children

    -- ---- one row more

    module _ (mid : Nodes) (some : Memo) (g : IsGrown c old mid some) (idx : ℕ) (row : Name × Term) (at_row : slice_get rows idx ≡ Some row) (here : ℕ)
        (js : List NodeId) (led : AreLed (scope_of c) old mid (first_on idx) n.children js) (count : length js ≡ length n.children)
        (stand : StandFrom (lenses_in c) here (parts_of_all (lenses_of (drop idx rows)))) (p : ℕ) (x : NodeId) (at_p : slice_get n.children p ≡ Some (row.0, x)) where
      abbrev pub lens : Lens
      lens = lens_of row.1

      x_inside : x.place < length old
      x_inside = all_read (λ (c : Name × NodeId). c.1.place < length old) n.children p (row.0, x) at_p well.children

      pub place_inside : p < length js
      place_inside = omega (arith, count, slice_get_within n.children p (row.0, x) at_p)

      -- its edge leads to the child yet
      pub edge_is : (y : NodeId) → slice_get js p ≡ Some y → y ≡ x
      edge_is y at = (led.each p row.0 x y at_p at).stays (fresh rows idx row at_row once)

      stand_here : StandFrom (lenses_in c) here (parts_of lens ++ parts_of_all (lenses_of (drop (suc idx) rows)))
      stand_here = subst (λ l. StandFrom (lenses_in c) here (parts_of_all (lenses_of l))) (drop_at rows idx row at_row) stand

      pub row_stand : StandFrom (lenses_in c) here (parts_of lens)
      row_stand = stand_first (lenses_in c) here (parts_of lens) (parts_of_all (lenses_of (drop (suc idx) rows))) stand_here

      step_is : next_of n (named row.0) ≡ Some x
      step_is = at_found n.children well.ascending p row.0 x at_p

      pub row_ready : (y : NodeId) → y ≡ x → IsReady c mid some (parts_of lens) here y
      row_ready y e = ready_at c old known (parts_of (among (lenses_of rows))) number i r mid some (parts_of lens) here y g
          (subst (λ (y : NodeId). y.place < length mid) (sym e) (inside old mid r.start.formed g.extends x x_inside))
          (subst (λ y. IsSound (form mid y)) (sym e)
          (subst IsSound (sym (same_form old mid r.start.formed g.extends x x_inside))
          (subst IsSound (under_at old i n at_i (named row.0) x step_is) (under_sound (named row.0) (form old i) r.start.sound))))
          row_stand

      pub row_at : here ≡ number + 1 + size_of_all (lenses_of (take idx rows)) → n.twins ≡ [] → AreListed (label_of n) (lenses_of rows) → (y : NodeId) → y ≡ x
          → (a : At) → IsAt (scope_of c) mid lens here y a → IsAt (scope_of c) old (among (lenses_of rows)) number i a
      row_at is plain listed y e a f types t =
          let u : under (named row.0) (form old i) ≡ form mid y = under_at old i n at_i (named row.0) x step_is
          ∙ sym (same_form old mid r.start.formed g.extends x x_inside) ∙ ap (form mid) (sym e) in
          fault_named (lenses_of (take idx rows)) (lenses_of (drop (suc idx) rows)) (record { is = label; plain = plain }) listed
          (ap lenses_of (split_at rows idx row at_row) ∙ lenses_append (take idx rows) (row ∷ drop (suc idx) rows))
          (lens_of_row rows idx row at_row once)
          before
          (subst (λ h. Faults types lens h (under (named row.0) (form old i)) a) is
          (subst (λ u. Faults types lens here u a) (sym u) (f types (types_grown old mid r.start.formed g.extends (scope_of c) r.start.declared types t))))
        where
          before : (m : Name) (j : Lens) → IsAmong m j (lenses_of (take idx rows)) → GoesOn types j (under (named m) (form old i))
          before m j stands =
              let on = among_at (lenses_of (take idx rows)) (once_first rows idx once) m j stands in
              let child = listed_child n m (listed m (first_whole rows idx m j on)) in
              let s = found_at m child.0 n.children child.1 in
              let y = there js s.place (omega (arith, count, slice_get_within n.children s.place (m, child.0) s.is)) in
              let v = (led.each s.place m child.0 y.0 s.is y.1).view j on in
              record {
                view = form mid y.0;
                goes = subst (λ u. Goes types j u (form mid y.0)) (sym (under_at old i n at_i (named m) child.0 child.1)) (v.goes types t);
              }

      pub row_led : (new : Nodes) (more : Memo) (y j : NodeId) → y ≡ x → IsGrown c mid new more → IsView (scope_of c) mid new lens y j
          → AreLed (scope_of c) old new (first_on (idx + 1)) n.children (slice_set js p j)
      row_led new more y j e h v =
          led_set (scope_of c) old (first_on idx) (first_on (idx + 1)) n.children js new p row.0 x j well.ascending at_p
          (led_grown (scope_of c) old (first_on idx) n.children js mid new g.formed h.extends led)
          (λ m off. at_next rows idx row at_row m ∙ ap (λ b. option_or (first_on idx m) (cond b (Some lens) None)) off ∙ or_none (first_on idx m))
          (record {
            in_range = v.in_range;
            view = λ k is. subst (λ k. IsView (scope_of c) old new k x j) (same_Some lens k (sym on_row ∙ is))
                (view_before old mid r.start.formed g.extends (scope_of c) r.start.declared new lens x j x_inside
                (subst (λ y. IsView (scope_of c) mid new lens y j) e v));
            stays = λ is. absurd (none-some lens (sym is ∙ on_row));
          })
        where
          or_none : (o : Option Lens) → option_or o None ≡ o
          or_none None = refl
          or_none (Some l) = refl

          on_row : first_on (idx + 1) row.0 ≡ Some lens
          on_row = at_next rows idx row at_row row.0 ∙ (λ t. option_or (fresh rows idx row at_row once t) (cond (tied row.0 t) (Some lens) None))

      pub row_next : (next : ℕ) → next ≡ here + size_of lens → StandFrom (lenses_in c) next (parts_of_all (lenses_of (drop (idx + 1) rows)))
      row_next next e =
          let one : suc idx ≡ idx + 1 = omega arith in
          subst (λ k. StandFrom (lenses_in c) next (parts_of_all (lenses_of (drop k rows)))) one
          (subst (λ h. StandFrom (lenses_in c) h (parts_of_all (lenses_of (drop (suc idx) rows)))) (sym (e ∙ ap (λ m. here + m) (sym (size_count lens))))
          (stand_second (lenses_in c) here (parts_of lens) (parts_of_all (lenses_of (drop (suc idx) rows))) stand_here))

    -- ---- all rows

    abbrev pub on : Step → Option Lens
    on = named_on (lenses_of rows)

    pub none_led : (new : Nodes) → Extends old new → AreOthersLed (scope_of c) old new None n.other n.other
    none_led new e = go n.other well.other
      where
        go : (o : Option (Class × NodeId)) → IfSome o (λ o. o.1.place < length old) → AreOthersLed (scope_of c) old new None o o
        go None h = tt
        go (Some o) h = (refl, record { in_range = inside old new r.start.formed e o.1 h; view = λ l is. absurd (none-some l is); stays = λ e. refl })

    pub named_view : (mid new : Nodes) (e : Extends old mid) (js : List NodeId) (j : NodeId) → AreFormed mid → n.twins ≡ [] → AreListed (label_of n) (lenses_of rows)
        → AreLed (scope_of c) old mid (λ k. lens_at k (lenses_of rows)) n.children js → length js ≡ length n.children
        → Extends mid new → slice_get new j.place ≡ Some (replaced n js n.other) → IsView (scope_of c) old new (among (lenses_of rows)) i j
    named_view mid new e js j formed plain listed led count grows at_j = record {
      in_range = slice_get_within new j.place (replaced n js n.other) at_j;
      goes = λ types t. goes_among (record { is = label; plain = plain }) listed
          (view_label (scope_of c) old mid new on i j n js n.other r.start.formed e formed at_i led count (none_led mid e) grows at_j)
          (λ k l f. let x = listed_child n k (listed k (subst IsSome (sym f) refl)) in
          step_goes (scope_of c) old mid new on i j n js n.other r.start.formed e formed at_i led count (none_led mid e) grows at_j (named k) l f x.0 x.1 types t)
          (λ k f. step_stays (scope_of c) old mid new on i j n js n.other r.start.formed e formed at_i led count (none_led mid e) grows at_j (named k) f)
          (step_stays (scope_of c) old mid new on i j n js n.other r.start.formed e formed at_i led count (none_led mid e) grows at_j others refl);
    }

-- ---- the place of a row's name

-- where it stands among the listed names
pub record IsPlaced (n : NodeValue) (k : Name) (p : ℕ) : Type 0 where
  pub child : NodeId
  pub is : slice_get n.children p ≡ Some (k, child)

pub row_listed : (n : NodeValue) (rows : Terms) (i : ℕ) (row : Name × Term) → slice_get rows i ≡ Some row → AreListed (label_of n) (lenses_of rows)
    → is_listed n row.0 ≡ true
row_listed n rows i row at h = sym (is_listed_over (λ s i. tt) n row.0) ∙ h row.0 (row_some rows i row at)

module _ (n : NodeValue) (k : Name) (listed : is_listed n k ≡ true) where
  pub place_some : (o : Option ℕ) → MatchOption o (is_listed n k ≡ false) (λ p. (j : NodeId) × (slice_get n.children p ≡ Some (k, j))) → IsSome o
  place_some None h = absurd (true≢false (sym listed ∙ h))
  place_some (Some p) h = refl

  pub place_is : (o : Option ℕ) (p : ℕ) → MatchOption o (is_listed n k ≡ false) (λ p. (j : NodeId) × (slice_get n.children p ≡ Some (k, j))) → o ≡ Some p
      → IsPlaced n k p
  place_is None p h e = absurd (none-some p e)
  place_is (Some q) p h e = subst (IsPlaced n k) (same_Some q p e) (record { child = h.0; is = h.1 })
