-- The format line is read in one way alone.
use Rattle.std.proofs.Common.{◌≡◌, ◌≢◌, ℕ, ◌<◌, ◌≤◌, Bool, true, false, List, [], ◌∷◌, length, Option, Some, None, Vec, Result, Ok, Err, refl, sym, ap, ◌∙◌, subst, arith}
use Rattle.std.specs.Prelude.{codes, IfOk, ◌==◌}
use Rattle.std.proofs.lemmas.Bool.Decides.{nat_tests}
use Rattle.std.specs.Borrow.{Bor}
use Rattle.std.specs.declared.alloc.Global.{Global}
use Rattle.hm_tree.specs.Names.{Name}
use Rattle.hm_schema.specs.Values.{pair_value}
use Rattle.hm_schema_lines.specs.declared.token.Token.TheVariants.{Word}
use Rattle.hm_focal.specs.Front.{IsFrontWord, IsFrontEdge, IsGap, IsWordBefore, IsReadFront}
use Rattle.hm_focal.specs.OwnLines.{AreEdges, last, more, IsPair, IsOption, AreOptions, no_option, an_option, IsFormat}
use Rattle.hm_focal.proofs.Fronts.{one_word, one_edge, one_gap, one_word_before, front_within, gap_front, gap_shorter}

-- ---- names of edges

pub edges_on : (bytes : List ℕ) (k : Name) (rest : List ℕ) → IsFrontEdge bytes k (44 ∷ rest) → (ks : List Name) (end : List ℕ)
    → AreEdges bytes ks end → (js : List Name) × (ks ≡ k ∷ js) × AreEdges rest js end
edges_on bytes k rest f _ end (last {k = j} g stop) = absurd (stop rest (one_edge bytes j k end (44 ∷ rest) g f).1)
edges_on bytes k rest f _ end (more {k = j} {next = n} {ks} g h) =
    let same = one_edge bytes j k (44 ∷ n) (44 ∷ rest) g f in
    let on = same.1 in
    let tails : n ≡ rest = cc in
    (ks, (λ i. same.0 i ∷ ks), subst (λ (z : List ℕ). AreEdges z ks end) tails h)

pub no_edges : (bytes : List ℕ) → ((k : Name) (rest : List ℕ) → ¬ (IsFrontEdge bytes k rest)) → (ks : List Name) (end : List ℕ)
    → ¬ (AreEdges bytes ks end)
no_edges bytes none _ end (last {k} g stop) = none k end g
no_edges bytes none _ end (more {k} {next = n} g h) = none k (44 ∷ n) g

pub edge_shorter : (bytes : List ℕ) (k : Name) (rest : List ℕ) → IsFrontEdge bytes k (44 ∷ rest) → length rest < length bytes
edge_shorter bytes k rest f = omega (arith, front_within bytes f.0 (44 ∷ rest) f.2)

pub edges_once : (bytes : List ℕ) (ks js : List Name) (r s : List ℕ) → AreEdges bytes ks r → AreEdges bytes js s → (ks ≡ js) × (r ≡ s)
edges_once bytes _ js r s (last {k} f stop) h = go js h
  where
    go : (js : List Name) → AreEdges bytes js s → (k ∷ [] ≡ js) × (r ≡ s)
    go _ (last {k = j} g halt) = let same = one_edge bytes k j r s f g in ((λ i. same.0 i ∷ []), same.1)
    go _ (more {k = j} {next = n} g h) = absurd (stop n (one_edge bytes k j r (44 ∷ n) f g).1)
edges_once bytes _ js r s (more {k} {next = n} {ks} f h) g =
    let on = edges_on bytes k n f js s g in
    let rest = edges_once n ks on.0 r s h on.2 in
    ((λ i. k ∷ rest.0 i) ∙ sym on.1, rest.1)

pub edges_within : (bytes : List ℕ) (ks : List Name) (rest : List ℕ) → AreEdges bytes ks rest → length rest ≤ length bytes
edges_within bytes _ rest (last f stop) = front_within bytes f.0 rest f.2
edges_within bytes _ rest (more {next = n} {ks} f h) = omega (arith, front_within bytes f.0 (44 ∷ n) f.2, edges_within n ks rest h)

-- ---- options

pub no_sign : (text : List ℕ) (key : Name) (behind : List ℕ) → IsFrontWord text key behind → ((r : List ℕ) → behind ≢ 61 ∷ r)
    → (p : Name × List Name) (rest : List ℕ) → ¬ (IsPair text p rest)
no_sign text key behind f none p rest h = none h.edges (one_word text key p.0 behind (61 ∷ h.edges) f h.key).1

module _ (text : List ℕ) (key : Name) (behind edges : List ℕ) (f : IsFrontWord text key behind) (sign : behind ≡ 61 ∷ edges) where
  edges_are : (p : Name × List Name) (rest : List ℕ) (h : IsPair text p rest) → h.edges ≡ edges
  edges_are p rest h =
      let both : 61 ∷ h.edges ≡ 61 ∷ edges = (one_word text p.0 key (61 ∷ h.edges) behind h.key f).1 ∙ sign in
      let same : h.edges ≡ edges = cc in
      same

  pub no_values : ((ks : List Name) (rest : List ℕ) → ¬ (AreEdges edges ks rest)) → (p : Name × List Name) (rest : List ℕ)
      → ¬ (IsPair text p rest)
  no_values none p rest h = none p.1 rest (subst (λ (z : List ℕ). AreEdges z p.1 rest) (edges_are p rest h) h.values)

  pub pair_is : (ks : List Name) (rest : List ℕ) → AreEdges edges ks rest → IsPair text (key, ks) rest
  pair_is ks rest h = record { edges = edges; key = subst (IsFrontWord text key) sign f; values = h }

pub option_told : {E : Type 0} (bytes text : List ℕ) → IsGap bytes text → (r : Result (Option ((Name × Vec Name Global) × Bor (List ℕ))) E)
    → IfOk r (IsReadFront pair_value (IsPair text)) → IfOk r (IsReadFront pair_value (IsOption bytes))
option_told bytes text g (Ok None) h =
    λ p rest o. h p rest (subst (λ (z : List ℕ). IsPair z p rest) (one_gap bytes o.0 text o.1 g) o.2)
option_told bytes text g (Ok (Some f)) h = (text, g, h)
option_told bytes text g (Err e) h = tt

pub one_option : (bytes : List ℕ) (p q : Name × List Name) (r s : List ℕ) → IsOption bytes p r → IsOption bytes q s → (p ≡ q) × (r ≡ s)
one_option bytes p q r s f g =
    let text = one_gap bytes f.0 g.0 f.1 g.1 in
    let h = subst (λ (z : List ℕ). IsPair z p r) text f.2 in
    let k = g.2 in
    let keys = one_word g.0 p.0 q.0 (61 ∷ h.edges) (61 ∷ k.edges) h.key k.key in
    let on = keys.1 in
    let same : h.edges ≡ k.edges = cc in
    let values = edges_once k.edges p.1 q.1 r s (subst (λ (z : List ℕ). AreEdges z p.1 r) same h.values) k.values in
    ((λ i. (keys.0 i, values.0 i)), values.1)

pub option_shorter : (bytes : List ℕ) (p : Name × List Name) (rest : List ℕ) → IsOption bytes p rest → length rest < length bytes
option_shorter bytes p rest o =
    omega (arith, gap_shorter bytes o.0 o.1, front_within o.0 (Word p.0) (61 ∷ o.2.edges) o.2.key, edges_within o.2.edges p.1 rest o.2.values)

-- options, and nothing behind them
abbrev pub AreAllOptions : List ℕ → List (Name × List Name) → List ℕ → Type 0
AreAllOptions bytes ps end = AreOptions bytes ps

pub options_on : (bytes : List ℕ) (p : Name × List Name) (rest : List ℕ) → IsOption bytes p rest → (ps : List (Name × List Name)) (end : List ℕ)
    → AreAllOptions bytes ps end → (qs : List (Name × List Name)) × (ps ≡ p ∷ qs) × AreAllOptions rest qs end
options_on bytes p rest f ps end h = go bytes refl ps h
  where
    go : (z : List ℕ) → z ≡ bytes → (ps : List (Name × List Name)) → AreOptions z ps
        → (qs : List (Name × List Name)) × (ps ≡ p ∷ qs) × AreOptions rest qs
    go _ e _ no_option = let at = gap_front bytes f.0 f.1 in let both : [] ≡ 32 ∷ at.0 = e ∙ at.1 in let no : ⊥ = cc in absurd no
    go _ e _ (an_option {p = q} {rest = r} {ps} g h) =
        let same = one_option bytes q p r rest (subst (λ (z : List ℕ). IsOption z q r) e g) f in
        (ps, (λ i. same.0 i ∷ ps), subst (λ (z : List ℕ). AreOptions z ps) same.1 h)

pub no_options : (bytes : List ℕ) → (bytes ≢ []) → ((p : Name × List Name) (rest : List ℕ) → ¬ (IsOption bytes p rest))
    → (ps : List (Name × List Name)) (end : List ℕ) → ¬ (AreAllOptions bytes ps end)
no_options bytes some none_is ps end h = go bytes refl ps h
  where
    go : (z : List ℕ) → z ≡ bytes → (ps : List (Name × List Name)) → AreOptions z ps → ⊥
    go _ e _ no_option = some (sym e)
    go _ e _ (an_option {p = q} {rest = r} g h) = none_is q r (subst (λ (z : List ℕ). IsOption z q r) e g)

pub options_end : (bytes : List ℕ) → bytes ≡ [] → AreAllOptions bytes [] []
options_end bytes e = subst (λ (z : List ℕ). AreOptions z []) (sym e) no_option

pub options_once : (bytes : List ℕ) (ps qs : List (Name × List Name)) → AreOptions bytes ps → AreOptions bytes qs → ps ≡ qs
options_once _ _ qs no_option h = go [] refl qs h
  where
    go : (z : List ℕ) → z ≡ [] → (qs : List (Name × List Name)) → AreOptions z qs → [] ≡ qs
    go _ e _ no_option = refl
    go _ e _ (an_option {p = q} {rest = r} g h) = let at = gap_front _ g.0 g.1 in let both : [] ≡ 32 ∷ at.0 = sym e ∙ at.1 in let no : ⊥ = cc in absurd no
options_once bytes _ qs (an_option {p} {rest} {ps} f h) g =
    let on = options_on bytes p rest f qs [] g in
    (λ i. p ∷ options_once rest ps on.0 h on.2 i) ∙ sym on.1

-- ---- the format line

module _ (line text : List ℕ) (f : IsWordBefore line (codes "format") text) where
  text_is : (w : Name) (ps : List (Name × List Name)) (h : IsFormat line w ps) → h.text ≡ text
  text_is w ps h = (one_word_before line (codes "format") (codes "format") h.text text h.front f).1

  pub no_name : ((w : Name) (rest : List ℕ) → ¬ (IsFrontWord text w rest)) → (w : Name) (ps : List (Name × List Name)) → ¬ (IsFormat line w ps)
  no_name none w ps h = none w h.rest (subst (λ (z : List ℕ). IsFrontWord z w h.rest) (text_is w ps h) h.name)

  module _ (word : Name) (rest : List ℕ) (name : IsFrontWord text word rest) where
    pub no_good_options : ((ps : List (Name × List Name)) → ¬ (AreOptions rest ps)) → (w : Name) (ps : List (Name × List Name))
        → ¬ (IsFormat line w ps)
    no_good_options none w ps h =
        let same = one_word text w word h.rest rest (subst (λ (z : List ℕ). IsFrontWord z w h.rest) (text_is w ps h) h.name) name in
        none ps (subst (λ (z : List ℕ). AreOptions z ps) same.1 h.options)

    pub format_is : (ps : List (Name × List Name)) → AreOptions rest ps → IsFormat line word ps
    format_is ps h = record { text = text; rest = rest; front = f; name = name; options = h }

pub format_once : (line : List ℕ) (w v : Name) (ps qs : List (Name × List Name)) → IsFormat line w ps → IsFormat line v qs → (w ≡ v) × (ps ≡ qs)
format_once line w v ps qs h k =
    let text = text_is line k.text k.front w ps h in
    let same = one_word k.text w v h.rest k.rest (subst (λ (z : List ℕ). IsFrontWord z w h.rest) text h.name) k.name in
    (same.0, options_once k.rest ps qs (subst (λ (z : List ℕ). AreOptions z ps) same.1 h.options) k.options)

-- ---- tests of the code

tested : (n : ℕ) (b : Bool) → b ≡ (n == 0) → b ≡ true → n ≡ 0
tested n b h e = grind (arith, nat_tests)

untested : (n : ℕ) (b : Bool) → b ≡ (n == 0) → b ≡ false → n ≡ 0 → ⊥
untested n b h e z = grind (arith, nat_tests)

pub empty_bytes : (bytes : List ℕ) (b : Bool) → b ≡ (length bytes == 0) → b ≡ true → bytes ≡ []
empty_bytes [] b h e = refl
empty_bytes (c ∷ bytes) b h e = let l = tested (length (c ∷ bytes)) b h e in absurd (omega arith)

pub some_bytes : (bytes : List ℕ) (b : Bool) → b ≡ (length bytes == 0) → b ≡ false → bytes ≢ []
some_bytes bytes b h e none = untested (length bytes) b h e (ap length none)
