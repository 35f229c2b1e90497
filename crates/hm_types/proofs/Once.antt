-- The check of a program comes to one thing alone.
use Rattle.std.proofs.Common.{◌≡◌, ◌≢◌, ℕ, ◌+◌, ◌<◌, is_some, IsSome, List, [], ◌∷◌, ◌++◌, map, length, slice_get, Some, None, Result, Ok, Err, refl, sym, ap, subst, ◌∙◌, arith}
use Rattle.std.proofs.lemmas.Bool.{true≢false}
use Rattle.std.proofs.lemmas.Option.{same_Some, slice_get_within}
use Rattle.std.proofs.lemmas.List.Elements.{All-head, All-tail}
use Rattle.hm_tree.specs.Names.{Name}
use Rattle.hm_schema.specs.Values.{SchemaValue}
use Rattle.hm_text_lens.specs.Meanings.{TextMeaning}
use Rattle.hm_terms.specs.Lenses.{Lens, DefinitionValue}
use Rattle.hm_terms.specs.Programs.{ProgramValue}
use Rattle.hm_terms.specs.WellFormedPrograms.{IsWellFormed}
use Rattle.hm_types_forms.specs.Forms.{form}
use Rattle.hm_types_rules.specs.Typing.{Classes}
use Rattle.hm_types_rules.specs.Faults.{At, at}
use Rattle.hm_types_rules.specs.Programs.{classes_in, types_of}
use Rattle.hm_types_rules.specs.TextNames.{program_text_names, AreKnown, IsFirstUnknown}
use Rattle.hm_types_rules.specs.Numbering.{IsNumbered}
use Rattle.hm_types_rules.proofs.Once.{goes_once}
use Rattle.hm_types_rules.proofs.NeverBoth.{never_both, fault_once}
use Rattle.hm_types_rules.proofs.NumberedOnce.{numbered_once}
use Rattle.hm_terms_cycles.specs.BadCycles.{IsFirstInBadCycle}
use Rattle.hm_types_terms.specs.declared.fault.TypeFault.{TypeFault}
use Rattle.hm_types_terms.specs.declared.fault.TypeFault.TheVariants.{Mistyped, UnknownLens, Unguarded, TwinLeft, Memory}
use Rattle.hm_types_terms.specs.Parts.{IsFirstCopy, copies_first, none_copies}
use Rattle.hm_types.specs.Checks.{IsUnguarded, AreTyped, IsMistypedDefinition, no_view, other_view, IsMistyped, in_definition, in_main, HasTwinsLeft, IsFault, Checks}
use Rattle.hm_types_terms.proofs.TextTypes.{known_names}
use Rattle.hm_types.proofs.Exactly.{mistyped_definition, told_of_none}

-- ---- each condition

-- the first name that isn't known
unknown_once : (texts : Classes) (names : List Name) (x y : Name) → IsFirstUnknown texts names x → IsFirstUnknown texts names y → x ≡ y
unknown_once texts names x y h k = go h.before k.before (sym h.names_are ∙ k.names_are) h.known k.known
  where
    never : (z : Name) → IsSome (texts z) → texts z ≡ None → ⊥
    never z some none = true≢false (sym some ∙ ap is_some none)

    go : (bs cs : List Name) → bs ++ x ∷ h.after ≡ cs ++ y ∷ k.after → AreKnown texts bs → AreKnown texts cs → x ≡ y
    go [] [] e known others = cc
    go [] (c ∷ cs) e known others =
        let same : c ≡ x = cc in
        absurd (never c (All-head (λ z. IsSome (texts z)) c cs others) (ap texts same ∙ h.unknown))
    go (b ∷ bs) [] e known others =
        let same : b ≡ y = cc in
        absurd (never b (All-head (λ z. IsSome (texts z)) b bs known) (ap texts same ∙ k.unknown))
    go (b ∷ bs) (c ∷ cs) e known others =
        let rest : bs ++ x ∷ h.after ≡ cs ++ y ∷ k.after = cc in
        go bs cs rest (All-tail (λ z. IsSome (texts z)) b bs known) (All-tail (λ z. IsSome (texts z)) c cs others)

-- the first lens that copies
copy_once : (l : Lens) (m n : ℕ) → IsFirstCopy l m → IsFirstCopy l n → m ≡ n
copy_once l _ _ (copies_first {i} {k} there is before) (copies_first {i = j} {k = o} to too earlier) =
    let left : ¬ (i < j) = λ lt. true≢false (sym is ∙ earlier i k lt there) in
    let right : ¬ (j < i) = λ lt. true≢false (sym too ∙ before j o lt to) in
    ap (λ z. z + 1) (omega (arith, left, right))
copy_once l _ _ (copies_first {i} {k} there is before) (none_copies none) = absurd (true≢false (sym is ∙ none i k there))
copy_once l _ _ (none_copies none) (copies_first {i} {k} there is before) = absurd (true≢false (sym is ∙ none i k there))
copy_once l _ _ (none_copies none) (none_copies also) = refl

module _ (texts : Classes) (p : ProgramValue) where
  -- the first definition in a bad cycle
  not_earlier : (i j : ℕ) → IsFirstInBadCycle p i → IsFirstInBadCycle p j → ¬ (i < j)
  not_earlier i j h k below = k.first i h.name below h.there h.bad

  unguarded_once : (a b : Name) → IsUnguarded p a → IsUnguarded p b → a ≡ b
  unguarded_once a b h k =
      let place : h.place ≡ k.place =
      omega (arith, not_earlier h.place k.place h.first k.first, not_earlier k.place h.place k.first h.first) in
      let name = same_Some h.first.name k.first.name
      (sym h.first.there ∙ ap (λ i. slice_get (map (λ (d : Name × DefinitionValue). d.0) p.definitions) i) place ∙ k.first.there) in
      sym h.is ∙ name ∙ k.is

  -- the first definition that isn't typed
  definition_once : (d : DefinitionValue) (a b : At) → IsMistypedDefinition texts p d a → IsMistypedDefinition texts p d b → a ≡ b
  definition_once d a b (no_view f) (no_view g) = fault_once (types_of texts p) d.body 1 (form p.options.types d.source) a b f g
  definition_once d a _ (no_view f) (other_view {v = v} g n) =
      absurd (never_both (types_of texts p) d.body 1 (form p.options.types d.source) v a g f)
  definition_once d _ b (other_view {v = v} g n) (no_view f) =
      absurd (never_both (types_of texts p) d.body 1 (form p.options.types d.source) v b g f)
  definition_once d _ _ (other_view g n) (other_view h m) = refl

  not_typed : (i j : ℕ) (n : Name) (d : DefinitionValue) (a : At) → slice_get p.definitions i ≡ Some (n, d) → IsMistypedDefinition texts p d a
      → AreTyped texts p j → ¬ (i < j)
  not_typed i j n d a there h typed below = mistyped_definition texts p d a (typed.each i n d below there) h

  module _ (s : SchemaValue) where
    -- all definitions are typed, so none isn't
    none_mistyped : (i : ℕ) (n : Name) (d : DefinitionValue) (a : At) → slice_get p.definitions i ≡ Some (n, d) → IsMistypedDefinition texts p d a
        → AreTyped texts p (length p.definitions) → ⊥
    none_mistyped i n d a there h typed = not_typed i (length p.definitions) n d a there h typed (slice_get_within p.definitions i (n, d) there)

    mistyped_once : (m n : ℕ) (a b : At) → IsMistyped texts p s m a → IsMistyped texts p s n b → (m ≡ n) × (a ≡ b)
    mistyped_once _ _ a b (in_definition {i = i} {n = x} {d = d} before there h) (in_definition {i = j} {n = y} {d = e} earlier to g) =
        let place : i ≡ j = omega (arith, not_typed i j x d a there h earlier, not_typed j i y e b to g before) in
        let both = same_Some (x, d) (y, e) (sym there ∙ ap (slice_get p.definitions) place ∙ to) in
        let same : e ≡ d = ap (λ (q : Name × DefinitionValue). q.1) (sym both) in
        (ap (λ z. z + 1) place, definition_once d a b h (subst (λ (z : DefinitionValue). IsMistypedDefinition texts p z b) same g))
    mistyped_once _ _ a b (in_definition {i = i} {n = x} {d = d} before there h) (in_main typed f) = absurd (none_mistyped i x d a there h typed)
    mistyped_once _ _ a b (in_main typed f) (in_definition {i = i} {n = x} {d = d} before there h) = absurd (none_mistyped i x d b there h typed)
    mistyped_once _ _ a b (in_main typed f) (in_main also g) = (refl, fault_once (types_of texts p) p.main 1 (form s.nodes s.root) a b f g)

    -- where everything goes, nothing is mistyped
    twins_alone : (n : ℕ) (a : At) → HasTwinsLeft texts p s → IsMistyped texts p s n a → ⊥
    twins_alone _ a t (in_definition {i = i} {n = x} {d = d} before there h) = none_mistyped i x d a there h t.definitions
    twins_alone _ a t (in_main typed f) = never_both (types_of texts p) p.main 1 (form s.nodes s.root) t.shown a t.main f

    -- ---- what is told

    told_once : (e f : TypeFault) → IsFault texts p s e → IsFault texts p s f → e ≢ Memory → f ≢ Memory → e ≡ f
    told_once Memory f h k other also = absurd (other refl)
    told_once e Memory h k other also = absurd (also refl)
    told_once (UnknownLens x) (UnknownLens y) h k other also = ap UnknownLens (unknown_once texts (program_text_names p) x y h k)
    told_once (UnknownLens x) (Unguarded y) h k other also = absurd (known_names texts (program_text_names p) x k.0 h)
    told_once (UnknownLens x) (Mistyped n t r) h k other also = absurd (known_names texts (program_text_names p) x k.0.known h)
    told_once (UnknownLens x) (TwinLeft n t) h k other also = absurd (known_names texts (program_text_names p) x k.0.known h)
    told_once (Unguarded x) (UnknownLens y) h k other also = absurd (known_names texts (program_text_names p) y h.0 k)
    told_once (Unguarded x) (Unguarded y) h k other also = ap Unguarded (unguarded_once x y h.1 k.1)
    told_once (Unguarded x) (Mistyped n t r) h k other also = absurd (k.0.guarded h.1.first.name h.1.first.bad)
    told_once (Unguarded x) (TwinLeft n t) h k other also = absurd (k.0.guarded h.1.first.name h.1.first.bad)
    told_once (Mistyped n t r) (UnknownLens y) h k other also = absurd (known_names texts (program_text_names p) y h.0.known k)
    told_once (Mistyped n t r) (Unguarded y) h k other also = absurd (h.0.guarded k.1.first.name k.1.first.bad)
    told_once (Mistyped n t r) (Mistyped m u q) h k other also =
        let same = mistyped_once n m (at t r) (at u q) h.1 k.1 in
        λ i. Mistyped (same.0 i) (same.1 i).term (same.1 i).rule
    told_once (Mistyped n t r) (TwinLeft m u) h k other also = absurd (twins_alone n (at t r) k.1.0 h.1)
    told_once (TwinLeft n t) (UnknownLens y) h k other also = absurd (known_names texts (program_text_names p) y h.0.known k)
    told_once (TwinLeft n t) (Unguarded y) h k other also = absurd (h.0.guarded k.1.first.name k.1.first.bad)
    told_once (TwinLeft n t) (Mistyped m u q) h k other also = absurd (twins_alone m (at u q) h.1.0 k.1)
    told_once (TwinLeft n t) (TwinLeft m u) h k other also =
        let number = h.1.1.0 ∙ sym k.1.1.0 in
        let first = copy_once p.main t u h.1.1.1 k.1.1.1 in
        λ i. TwinLeft (number i) (first i)

-- what is told is the fault of the program, and no want of memory
told : (texts : List TextMeaning) (p : ProgramValue) (s : SchemaValue) (f : TypeFault) → Checks texts p s (Err f)
    → IsFault (classes_in texts) p s f × (f ≢ Memory)
told texts p s (UnknownLens x) h = (h, λ e. let no : ⊥ = cc in no)
told texts p s (Unguarded x) h = (h, λ e. let no : ⊥ = cc in no)
told texts p s (Mistyped n t r) h = (h, λ e. let no : ⊥ = cc in no)
told texts p s (TwinLeft n t) h = (h, λ e. let no : ⊥ = cc in no)
told texts p s Memory h = absurd h

module _ (texts : List TextMeaning) (p : ProgramValue) (s : SchemaValue) (well : IsWellFormed p) where
  view_or_fault : (view : SchemaValue) (f : TypeFault) → Checks texts p s (Ok view) → Checks texts p s (Err f) → ⊥
  view_or_fault view f h k = let t = told texts p s f k in t.1 (told_of_none (classes_in texts) p s well h.0 h.1 f t.0)

  -- a well formed program has one view or one fault
  pub check_once : (r q : Result SchemaValue TypeFault) → Checks texts p s r → Checks texts p s q → r ≡ q
  check_once (Ok v) (Ok w) h k =
      let same = goes_once (types_of (classes_in texts) p) k.1.main h.1.main in
      ap (λ (z : SchemaValue). Ok z) (numbered_once h.0 v w h.2 (subst (λ u. IsNumbered u w) same k.2))
  check_once (Ok v) (Err f) h k = absurd (view_or_fault v f h k)
  check_once (Err f) (Ok v) h k = absurd (view_or_fault v f k h)
  check_once (Err e) (Err f) h k =
      let a = told texts p s e h in
      let b = told texts p s f k in
      ap (λ (z : TypeFault). Err z) (told_once (classes_in texts) p s e f a.0 b.0 a.1 b.1)
