-- A lens that goes from a form to a view fits their members, up to a depth, where the definitions that it calls do.
use Rattle.std.proofs.Common.{◌≡◌, ◌<◌, ◌||◌, ℕ, Bool, true, false, cond, Some, refl, sym, subst, arith}
use Rattle.std.specs.Ordering.{eq_by_cmp}
use Rattle.std.proofs.lemmas.Option.{none-some, same_Some}
use Rattle.hm_tree.specs.Names.{Name, name_cmp}
use Rattle.hm_terms.specs.Lenses.{Lens, Lenses, none, also, identity, sequence, constant, plunge, fork, each, among, items, copy, merge, on_concrete, on_view, text, call, lens_at, Setting}
use Rattle.hm_tree.specs.declared.class.Class.{Class}
use Rattle.hm_terms.specs.Calls.{Calls, calls_itself, calls_first, calls_second, calls_inside, calls_outside, calls_each, calls_among, calls_items, calls_where_it_has, calls_where_it_lacks, calls_where_it_showed, calls_where_it_did_not}
use Rattle.hm_terms.proofs.Laws.{fits_identity, fits_sequence}
use Rattle.hm_terms_laws.specs.Bounded.{FitsTo}
use Rattle.hm_terms_laws.specs.Falling.{Falls, AllFall, IsAsked}
use Rattle.hm_terms_laws.proofs.Bounded.{fits_to, fits_all}
use Rattle.hm_types_forms.specs.Forms.{Form, named}
use Rattle.hm_types_forms.specs.Members.{Member}
use Rattle.hm_types_rules.specs.Texts.{HasTexts, HaveTexts}
use Rattle.hm_types_forms.specs.Sound.{IsSound}
use Rattle.hm_types_rules.specs.Typing.{Types, Goes, goes_identity, goes_sequence, goes_constant, goes_hoist, goes_plunge, goes_fork, goes_each, goes_among, goes_list, goes_items, goes_copy, goes_merge, goes_concrete, goes_view, goes_text, goes_call}
use Rattle.hm_types_forms.proofs.SameMembers.{sound_same}
use Rattle.hm_types_forms.proofs.SoundForms.{under_sound}
use Rattle.hm_types_rules.proofs.SoundViews.{inside_sound, outside_sound, with_sound, without_sound}
use Rattle.hm_types_rules.proofs.ListForms.{list_first_sound, items_first_sound}
use Rattle.hm_types_rules.proofs.SoundGoes.{AreSoundTypes, goes_sound}
use Rattle.hm_types_sound.proofs.ForkFits.{fits_alike, fork_fits, concrete_fits, view_fits, constant_fits, hoist_fits, plunge_fits, copied_fits, hidden_fits}
use Rattle.hm_types_sound.proofs.TextFits.{IsTextBetween, text_fits}
use Rattle.hm_types_sound.proofs.ChildrenFits.{each_fits, among_fits, list_fits, some_items_fits}

-- a named lens has texts where all of them do
text_at : (ls : Lenses) → HaveTexts ls → (k : Name) (l : Lens) → lens_at k ls ≡ Some l → HasTexts l
text_at none h k l e = absurd (none-some l e)
text_at (also n j ls) h k l e = go (eq_by_cmp name_cmp k n) e (text_at ls h.1 k l)
  where
    go : (b : Bool) → cond b (Some j) (lens_at k ls) ≡ Some l → (lens_at k ls ≡ Some l → HasTexts l) → HasTexts l
    go true e rest = subst HasTexts (same_Some j l e) h.0
    go false e rest = rest e

or_true : (b : Bool) → (b || true) ≡ true
or_true true = refl
or_true false = refl

or_false : (b : Bool) → (b || false) ≡ b
or_false true = refl
or_false false = refl

-- what a lens on children or items asks of the lens inside, at a lesser depth
asked_below : (s c : Bool) (d m q : ℕ) → q < m → IsAsked s c d m → IsAsked s true d q
asked_below true c d m q lt a = tt
asked_below false true d m q lt a = omega arith
asked_below false false d m q lt a = omega arith

module _ (steps rank : Name → ℕ) (most low : ℕ) (s c : Bool) where
  -- the lenses inside a sequence, one inside a lens on children or items, and any other
  falls_inside : (l k : Lens) → ((t e : Bool) (n : Name) → Calls k t e n → Calls l t e n) → AllFall steps rank most low s c l
      → AllFall steps rank most low s c k
  falls_inside l k f a = record { each = λ t e n h. a.each t e n (f t e n h) }

  falls_in_sequence : (l k : Lens) → ((t e : Bool) (n : Name) → Calls k t e n → Calls l true e n) → AllFall steps rank most low s c l
      → AllFall steps rank most low true c k
  falls_in_sequence l k f a = record { each = λ t e n h. subst (λ b. Falls steps rank most low b (c || e) n) (or_true s) (a.each true e n (f t e n h)) }

  falls_below : (l k : Lens) → ((t e : Bool) (n : Name) → Calls k t e n → Calls l t true n) → AllFall steps rank most low s c l
      → AllFall steps rank most low s true k
  falls_below l k f a = record { each = λ t e n h. subst (λ b. Falls steps rank most low (s || t) b n) (or_true c) (a.each t true n (f t e n h)) }

  falls_itself : (n : Name) → AllFall steps rank most low s c (call n) → Falls steps rank most low s c n
  falls_itself n a = subst (λ b. Falls steps rank most low b c n) (or_false s)
      (subst (λ b. Falls steps rank most low (s || false) b n) (or_false c) (a.each false false n calls_itself))

module _ (T : Types) (S : Setting) (types : AreSoundTypes T) (texts : (x : Name) (c d : Class) → T.texts x ≡ Some (c, d) → IsTextBetween S x c d) where
  -- a call fits up to a depth, wherever it is declared
  abbrev pub CallFits : Name → ℕ → Type 0
  CallFits n m = (x v : Form) → T.declared n ≡ Some (x, v) → FitsTo m S (call n) (Member x) (Member v)

  module _ (steps rank : Name → ℕ) (most low d : ℕ)
      (calls : (s c : Bool) (m : ℕ) (k : Name) → IsAsked s c d m → Falls steps rank most low s c k → CallFits k m) where
    pub body_fits : {l : Lens} {u v : Form} → Goes T l u v → IsSound u → HasTexts l → (s c : Bool) → AllFall steps rank most low s c l → (m : ℕ)
        → IsAsked s c d m → FitsTo m S l (Member u) (Member v)
    body_fits (goes_identity {u = u}) h t s c a m r = fits_to S identity (Member u) (Member u) (fits_identity S (Member u)) m
    body_fits (goes_sequence {l = l} {k = k} {u = u} {m = o} {v = v} f g) h t s c a m r =
        fits_to S (sequence l k) (Member u) (Member v) (fits_sequence S l k (Member u) (Member o) (Member v)
        (fits_all S l (Member u) (Member o) (λ q.
        body_fits f h t.0 true c (falls_in_sequence steps rank most low s c (sequence l k) l (λ t e n i. calls_first i) a) q tt))
        (fits_all S k (Member o) (Member v) (λ q.
        body_fits g (goes_sound T types f h) t.1 true c (falls_in_sequence steps rank most low s c (sequence l k) k (λ t e n i. calls_second i) a) q tt))) m
    body_fits (goes_constant {t = t} {d = e} {u = u} is f) h i s c a m r =
        subst (λ v. FitsTo m S (constant t e) (Member u) (Member v)) (sym f) (constant_fits S m t e u is)
    body_fits (goes_hoist {m = k} {u = u} {v = v} {n = n} is one at) h t s c a m r = hoist_fits S m k t u v n is one at h
    body_fits (goes_plunge {m = k} {u = u} e) h t s c a m r =
        subst (λ v. FitsTo m S (plunge k) (Member u) (Member v)) (sym e) (plunge_fits S m k t u)
    body_fits (goes_fork {P = P} {Q = Q} {l = l} {k = k} {u = u} {x = x} {y = y} {n = n} {one = one} {two = two} {w = w} {a = b} i f g j is e) h t s c a m r =
        subst (λ v. FitsTo m S (fork P Q l k) (Member u) (Member v)) (sym e)
        (fork_fits S m P Q l k u x y n one two w b i j is h (goes_sound T types f (inside_sound P u n b i h)) (goes_sound T types g (outside_sound P u n b i h))
        (body_fits f (inside_sound P u n b i h) t.0 s c (falls_inside steps rank most low s c (fork P Q l k) l (λ t e n i. calls_inside i) a) m r)
        (body_fits g (outside_sound P u n b i h) t.1 s c (falls_inside steps rank most low s c (fork P Q l k) k (λ t e n i. calls_outside i) a) m r))
    body_fits (goes_each {l = l} {u = u} {v = v} {a = b} p e f g) h t s c a m r =
        each_fits S m u v b p (record { is = e; plain = p.plain }) l (λ q lt i can.
        body_fits (f i can) (under_sound i u h) t s true (falls_below steps rank most low s c (each l) l (λ t e n i. calls_each i) a) q
        (asked_below s c d m q lt r))
    body_fits (goes_among {ls = ls} {u = u} {v = v} {a = b} p o e f g i) h t s c a m r =
        among_fits S m u v b p (record { is = e; plain = p.plain }) ls o (λ k l at q lt.
        body_fits (f k l at) (under_sound (named k) u h) (text_at ls t k l at) s true
        (falls_below steps rank most low s c (among ls) l (λ t e n i. calls_among k at i) a) q (asked_below s c d m q lt r)) g i
    body_fits (goes_list {l = l} {u = u} {v = v} {x = x} {y = y} {empty_first = b} is f e) h t s c a m r =
        subst (λ v. FitsTo m S (items l) (Member u) (Member v)) (sym e) (list_fits S m l u x y b h (λ q lt.
        body_fits f (list_first_sound u x b is h) t s true (falls_below steps rank most low s c (items l) l (λ t e n i. calls_items i) a) q
        (asked_below s c d m q lt r)) is)
    body_fits (goes_items {l = l} {u = u} {v = v} {x = x} {y = y} {empty_first = b} is f e) h t s c a m r =
        subst (λ v. FitsTo m S (items l) (Member u) (Member v)) (sym e) (some_items_fits S m l u x y b h (λ q lt.
        body_fits f (items_first_sound u x b is h) t s true (falls_below steps rank most low s c (items l) l (λ t e n i. calls_items i) a) q
        (asked_below s c d m q lt r)) is)
    body_fits (goes_copy {m = k} {o = o} {u = u} {n = n} {w = w} is can copied e) h t s c a m r =
        subst (λ v. FitsTo m S (copy k o) (Member u) (Member v)) (sym e) (copied_fits S m k o t u n is h w can copied)
    body_fits (goes_merge {m = k} {o = o} {u = u} {n = n} is can e) h t s c a m r =
        subst (λ v. FitsTo m S (merge k o) (Member u) (Member v)) (sym e) (hidden_fits S m k o t u n is h can)
    body_fits (goes_concrete {m = k} {l = l} {k = j} {u = u} {v = v} {y = y} {n = n} b f g same) h t s c a m r =
        concrete_fits S m k u n b h l j v y (goes_sound T types f (with_sound k u n b h)) (goes_sound T types g (without_sound k u n b h)) same
        (body_fits f (with_sound k u n b h) t.0 s c (falls_inside steps rank most low s c (on_concrete k l j) l (λ t e n i. calls_where_it_has i) a) m r)
        (body_fits g (without_sound k u n b h) t.1 s c (falls_inside steps rank most low s c (on_concrete k l j) j (λ t e n i. calls_where_it_lacks i) a) m r)
    body_fits (goes_view {m = k} {o = o} {l = l} {k = j} {u = u} {x = x} {y = y} {n = n} {one = one} {two = two} {w = w} b f g i is e) h t s c a m r =
        subst (λ v. FitsTo m S (on_view k o l j) (Member u) (Member v)) (sym e)
        (view_fits S m k u n b h o l j x y one two w i is (goes_sound T types f (with_sound k u n b h)) (goes_sound T types g (without_sound k u n b h))
        (body_fits f (with_sound k u n b h) t.0 s c (falls_inside steps rank most low s c (on_view k o l j) l (λ t e n i. calls_where_it_showed i) a) m r)
        (body_fits g (without_sound k u n b h) t.1 s c (falls_inside steps rank most low s c (on_view k o l j) j (λ t e n i. calls_where_it_did_not i) a) m r))
    body_fits (goes_text {x = x} {c = i} {d = o} {u = u} {n = n} is a e) h t s c b m r =
        subst (λ v. FitsTo m S (text x) (Member u) (Member v)) (sym e) (text_fits S m x i o (texts x i o is) u n a h)
    body_fits (goes_call {n = n} {u = u} {v = v} {x = x} is same) h t s c a m r =
        fits_alike S m (call n) (Member x) (Member v) (Member u) (Member v)
        (sound_same u x (record { same = same; first = h; second = (types n x v is).0 })) (record { into = λ t h. h; from = λ t h. h })
        (calls s c m n r (falls_itself steps rank most low s c n a) x v is)
