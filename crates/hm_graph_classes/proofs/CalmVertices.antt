-- Which vertices are calm, and how it is found.
use Rattle.std.proofs.Common.{◌≡◌, ◌≢◌, ◌↔◌, ℕ, Bool, true, false, ◌+◌, ◌<◌, ◌≤◌, List, [], ◌∷◌, ◌++◌, length, take, Some, Vec, All, inl, inr, refl, sym, ap, subst, ◌∙◌, arith, slice_get}
use Rattle.std.specs.Prelude.{slice_index_or, slice_set}
use Rattle.std.specs.declared.alloc.Global.{Global}
use Rattle.std.proofs.lemmas.Bool.{true≢false, cases_eq, cases_lt}
use Rattle.std.proofs.lemmas.List.{take_more, get_or-set_same, get_or-set_other}
use Rattle.std.proofs.lemmas.List.Elements.{All-head, All-tail, All-nil, All-cons, All-push}
use Rattle.std.proofs.lemmas.Option.{same_Some, slice_get_within}
use Rattle.hm_graph.specs.declared.sameness.Vertex.{Vertex}
use Rattle.hm_graph.specs.Same.{Graph, next_at}
use Rattle.hm_graph_classes.specs.Reduced.{class_at}
use Rattle.hm_graph_classes.specs.Calm.{Lists, Lacks, ArePut, AreSources, AreCalmBelow, flag_at}
use Rattle.hm_graph_classes.proofs.Places.{there, all_read, next_is}

module _ {X : Type 0} (P : X → Type 0) where
  pub parted : (xs : List X) (x : X) → All P (xs ++ x ∷ []) → All P xs × P x
  parted [] x all = (All-nil P, All-head P x [] all)
  parted (y ∷ xs) x all =
      let rest = parted xs x (All-tail P y (xs ++ x ∷ []) all) in
      (All-cons P y xs (All-head P y (xs ++ x ∷ []) all) rest.0, rest.1)

  -- the first elements and one more
  pub all_more : (xs : List X) (n : ℕ) (d : X) → n < length xs → All P (take (n + 1) xs) ↔ (All P (take n xs) × P (slice_index_or xs n d))
  all_more xs n d lt = (
    (λ all. parted (take n xs) (slice_index_or xs n d) (subst (All P) (take_more xs n d lt) all)),
    (λ both. subst (All P) (sym (take_more xs n d lt)) (All-push P (take n xs) (slice_index_or xs n d) both.0 both.1)),
  )

all_so : {X : Type 0} (P Q : X → Type 0) (xs : List X) → ((x : X) → P x → Q x) → All P xs → All Q xs
all_so P Q [] f all = All-nil Q
all_so P Q (x ∷ xs) f all = All-cons Q x xs (f x (All-head P x xs all)) (all_so P Q xs f (All-tail P x xs all))

all_both : {X : Type 0} (P Q R : X → Type 0) (xs : List X) → ((x : X) → P x → Q x → R x) → All P xs → All Q xs → All R xs
all_both P Q R [] f p q = All-nil R
all_both P Q R (x ∷ xs) f p q =
    All-cons R x xs (f x (All-head P x xs p) (All-head Q x xs q)) (all_both P Q R xs f (All-tail P x xs p) (All-tail Q x xs q))

-- ---- lists of sources

pub put_nowhere : (lists : Lists) (number : ℕ) → ArePut lists lists [] number
put_nowhere lists number = record {
  size = refl;
  each = λ k one two is same i.
      let e : one ≡ two = same_Some one two (sym is ∙ same) in
      ((λ l. (subst (λ (v : Vec ℕ Global). Lacks v.items i) (sym e) l, λ t. All-nil (λ m. m ≢ k))), (λ both. subst (λ (v : Vec ℕ Global). Lacks v.items i) e both.0));
}

pub put_more : (old mid new : Lists) (places : List ℕ) (number n : ℕ) → n < length places → ArePut old mid (take n places) number
    → ArePut mid new (slice_index_or places n 0 ∷ []) number → ArePut old new (take (n + 1) places) number
put_more old mid new places number n lt a b = record {
  size = b.size ∙ a.size;
  each = λ k one three is same i.
      let found = there mid k (subst (λ s. k < s) b.size (slice_get_within new k three same)) in
      let first = a.each k one found.0 is found.1 i in
      let second = b.each k found.0 three found.1 same i in
      let more = all_more (λ m. m ≢ k) places n 0 lt in (
        (λ l. let two = second.0 l in let one = first.0 two.0 in
            (one.0, λ e. more.1 (one.1 e, All-head (λ m. m ≢ k) (slice_index_or places n 0) [] (two.1 e)))),
        (λ both. second.1 (
          first.1 (both.0, λ e. (more.0 (both.1 e)).0),
          λ e. All-cons (λ m. m ≢ k) (slice_index_or places n 0) [] (more.0 (both.1 e)).1 (All-nil (λ m. m ≢ k)),
        )),
      );
}

module _ (g : Graph) where
  pub no_sources : (lists : Lists) → length lists ≡ length g → All (λ (list : Vec ℕ Global). list.items ≡ []) lists → AreSources g 0 lists
  no_sources lists size empty = record {
    size = size;
    each = λ k list is i lt. absurd (omega (arith, lt));
    none = λ k list is i le.
        subst (λ ns. Lacks ns i) (sym (all_read (λ (list : Vec ℕ Global). list.items ≡ []) lists k list is empty)) (All-nil (λ m. m ≢ i));
  }

  pub sources_more : (lists new : Lists) (i : ℕ) (v : Vertex) → AreSources g i lists → slice_get g i ≡ Some v → ArePut lists new v.next.items i
      → AreSources g (i + 1) new
  sources_more lists new i v h at p = record {
    size = p.size ∙ h.size;
    each = λ k list is j lt.
        let old = there lists k (subst (λ s. k < s) p.size (slice_get_within new k list is)) in
        let put = p.each k old.0 list old.1 is j in
        elim (cases_lt j i) [
          | inl less ↦
              let known = h.each k old.0 old.1 j less in
              ((λ l. known.0 (put.0 l).0), (λ l. put.1 (known.1 l, λ e. absurd (omega (arith, less, e)))))
          | inr le ↦
              let e : j ≡ i = omega (arith, lt, le) in
              let next : next_at g j ≡ v.next.items = ap (next_at g) e ∙ next_is g i v at in (
                (λ l. subst (λ ns. Lacks ns k) (sym next) ((put.0 l).1 e)),
                (λ l. put.1 (h.none k old.0 old.1 j le, λ t. subst (λ ns. Lacks ns k) next l)),
              )
        ];
    none = λ k list is j le.
        let old = there lists k (subst (λ s. k < s) p.size (slice_get_within new k list is)) in
        (p.each k old.0 list old.1 is j).1 (h.none k old.0 old.1 j (omega (arith, le)), λ e. absurd (omega (arith, le, e)));
  }

  -- sources are vertices
  pub sources_within : (lists : Lists) (k : ℕ) (list : Vec ℕ Global) → AreSources g (length g) lists → slice_get lists k ≡ Some list
      → All (λ i. i < length g) list.items
  sources_within lists k list h is = go list.items (h.none k list is)
    where
      go : (ns : List ℕ) → ((i : ℕ) → length g ≤ i → Lacks ns i) → All (λ i. i < length g) ns
      go [] f = All-nil (λ i. i < length g)
      go (n ∷ ns) f =
          All-cons (λ i. i < length g) n ns
          (elim (cases_lt n (length g)) [ inl lt ↦ lt | inr le ↦ absurd (All-head (λ m. m ≢ n) n ns (f n le) refl) ])
          (go ns (λ i le. All-tail (λ m. m ≢ i) n ns (f i le)))

-- ---- flags

pub clear_more : (begin flags : List Bool) (places : List ℕ) (n : ℕ) → n < length places → slice_index_or places n 0 < length flags
    → ((i : ℕ) → (flag_at flags i ≡ true) ↔ ((flag_at begin i ≡ true) × Lacks (take n places) i))
    → (i : ℕ) → (flag_at (slice_set flags (slice_index_or places n 0) false) i ≡ true) ↔ ((flag_at begin i ≡ true) × Lacks (take (n + 1) places) i)
clear_more begin flags places n lt within h i = (gone, kept)
  where
    p : ℕ
    p = slice_index_or places n 0

    more : Lacks (take (n + 1) places) i ↔ (Lacks (take n places) i × (p ≢ i))
    more = all_more (λ m. m ≢ i) places n 0 lt

    gone : flag_at (slice_set flags p false) i ≡ true → (flag_at begin i ≡ true) × Lacks (take (n + 1) places) i
    gone t = elim (cases_eq i p) [
      | inl e ↦
          absurd (true≢false (sym t ∙ ap (flag_at (slice_set flags p false)) e ∙ get_or-set_same flags p false false within))
      | inr ne ↦
          let was = (h i).0 (sym (get_or-set_other flags p i false false ne) ∙ t) in
          (was.0, more.1 (was.1, λ e. ne (sym e)))
    ]

    kept : (flag_at begin i ≡ true) × Lacks (take (n + 1) places) i → flag_at (slice_set flags p false) i ≡ true
    kept both = let parts = more.0 both.1 in get_or-set_other flags p i false false (λ e. parts.1 (sym e)) ∙ (h i).1 (both.0, parts.0)

module _ (g : Graph) (old new : List ℕ) where
  abbrev Same : ℕ → Type 0
  Same k = class_at old k ≡ class_at new k

  abbrev Below : ℕ → ℕ → Type 0
  Below bound k = k < bound → Same k

  pub calm_same : (k : ℕ) (flags : List Bool) → AreCalmBelow g old new k flags → Same k → AreCalmBelow g old new (k + 1) flags
  calm_same k flags h e = record {
    size = h.size;
    each = λ i lt. (
      (λ t. all_so (Below k) (Below (k + 1)) (next_at g i) up ((h.each i lt).0 t)),
      (λ all. (h.each i lt).1 (all_so (Below (k + 1)) (Below k) (next_at g i) (λ m b less. b (omega (arith, less))) all)),
    );
  }
    where
      up : (m : ℕ) → Below k m → Below (k + 1) m
      up m b less = elim (cases_eq m k) [ inl is ↦ subst Same (sym is) e | inr ne ↦ b (omega (arith, less, ne)) ]

  pub calm_moved : (k : ℕ) (flags after : List Bool) (list : Vec ℕ Global) → AreCalmBelow g old new k flags → ¬ (Same k)
      → ((i : ℕ) → i < length g → Lacks list.items i ↔ Lacks (next_at g i) k) → length after ≡ length flags
      → ((i : ℕ) → (flag_at after i ≡ true) ↔ ((flag_at flags i ≡ true) × Lacks list.items i)) → AreCalmBelow g old new (k + 1) after
  calm_moved k flags after list h off sources size cleared = record {
    size = size ∙ h.size;
    each = λ i lt. (
      (λ t.
          let was = (cleared i).0 t in
          all_both (Below k) (λ m. m ≢ k) (Below (k + 1)) (next_at g i) (λ m b ne less. b (omega (arith, less, ne))) ((h.each i lt).0 was.0)
          ((sources i lt).0 was.1)),
      (λ all. (cleared i).1 (
        (h.each i lt).1 (all_so (Below (k + 1)) (Below k) (next_at g i) (λ m b less. b (omega (arith, less))) all),
        (sources i lt).1 (all_so (Below (k + 1)) (λ m. m ≢ k) (next_at g i) (λ m b e. off (subst Same e (b (omega (arith, e))))) all),
      )),
    );
  }
