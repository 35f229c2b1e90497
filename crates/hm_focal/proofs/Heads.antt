-- Lens lines and the main line are read in one way alone.
use Rattle.std.proofs.Common.{◌≡◌, ◌≢◌, ℕ, List, [], ◌∷◌, refl, sym, ap, ◌∙◌, subst}
use Rattle.std.specs.Prelude.{codes}
use mathlib.Core.Bool.{true≢false}
use Rattle.hm_tree.specs.Names.{Name}
use Rattle.hm_schema_lines.specs.Tokens.{begins_word}
use Rattle.hm_focal.specs.Front.{IsGap, IsWordBefore}
use Rattle.hm_focal.specs.OwnLines.{BodyValue, LensValue, IsHeaded, equals, word, IsBody, IsLensLine, IsMainLine}
use Rattle.hm_focal.proofs.Fronts.{word_begins, one_gap, one_word_before}

-- no word begins with `=`
no_word : (bytes : List ℕ) (w : Name) (next behind : List ℕ) → IsWordBefore bytes w next → bytes ≡ 61 ∷ behind → ⊥
no_word bytes w next behind f e = true≢false (sym (word_begins bytes w f.0 f.1) ∙ ap begins_word e)

pub headed_on : (bytes : List ℕ) (w : Name) (next : List ℕ) → IsWordBefore bytes w next → (ws : List Name) (text : List ℕ)
    → IsHeaded bytes ws text → (vs : List Name) × (ws ≡ w ∷ vs) × IsHeaded next vs text
headed_on bytes w next f _ text (equals {behind} e g) = absurd (no_word bytes w next behind f e)
headed_on bytes w next f _ text (word {w = v} {next = n} {ws} g h) =
    let same = one_word_before bytes v w n next g f in
    (ws, (λ i. same.0 i ∷ ws), subst (λ (z : List ℕ). IsHeaded z ws text) same.1 h)

pub no_head : (bytes : List ℕ) → ((r : List ℕ) → bytes ≢ 61 ∷ r) → ((w : Name) (rest : List ℕ) → ¬ (IsWordBefore bytes w rest))
    → (ws : List Name) (text : List ℕ) → ¬ (IsHeaded bytes ws text)
no_head bytes sign none _ text (equals {behind} e g) = sign behind e
no_head bytes sign none _ text (word {w} {next} g h) = none w next g

pub no_text : (bytes behind : List ℕ) → bytes ≡ 61 ∷ behind → ((r : List ℕ) → ¬ (IsGap behind r)) → (ws : List Name) (text : List ℕ)
    → ¬ (IsHeaded bytes ws text)
no_text bytes behind is none _ text (equals {behind = b} e g) =
    let both : 61 ∷ b ≡ 61 ∷ behind = sym e ∙ is in
    let same : b ≡ behind = cc in
    none text (subst (λ (z : List ℕ). IsGap z text) same g)
no_text bytes behind is none _ text (word {w} {next} g h) = no_word bytes w next behind g is

pub headed_once : (line : List ℕ) (ws vs : List Name) (t u : List ℕ) → IsHeaded line ws t → IsHeaded line vs u → (ws ≡ vs) × (t ≡ u)
headed_once line _ vs t u (equals {behind} e g) h = go vs h
  where
    go : (vs : List Name) → IsHeaded line vs u → ([] ≡ vs) × (t ≡ u)
    go _ (equals {behind = b} q k) =
        let both : 61 ∷ behind ≡ 61 ∷ b = sym e ∙ q in
        let same : behind ≡ b = cc in
        (refl, one_gap b t u (subst (λ (z : List ℕ). IsGap z t) same g) k)
    go _ (word {w} {next} k h) = absurd (no_word line w next behind k e)
headed_once line _ vs t u (word {w} {next} {ws} g h) k =
    let on = headed_on line w next g vs u k in
    let rest = headed_once next ws on.0 t u h on.2 in
    ((λ i. w ∷ rest.0 i) ∙ sym on.1, rest.1)

module _ (line : List ℕ) (ws : List Name) (text : List ℕ) (h : IsHeaded line ws text) where
  pub other_words : ((n s v : Name) → ws ≢ codes "lens" ∷ n ∷ s ∷ v ∷ []) → (d : LensValue) → ¬ (IsLensLine line d)
  other_words none d k = none d.name d.source d.view (headed_once line ws _ text k.0 h k.1).0

  pub no_lens_body : ((b : BodyValue) → ¬ (IsBody text b)) → (d : LensValue) → ¬ (IsLensLine line d)
  no_lens_body none d k = none d.body (subst (λ (z : List ℕ). IsBody z d.body) (headed_once line _ ws k.0 text k.1 h).1 k.2)

  pub lens_is : (n s v : Name) → ws ≡ codes "lens" ∷ n ∷ s ∷ v ∷ [] → (b : BodyValue) → IsBody text b
      → IsLensLine line (record { name = n; source = s; view = v; body = b })
  lens_is n s v e b k = (text, subst (λ (z : List Name). IsHeaded line z text) e h, k)

  pub not_main : (ws ≡ codes "main" ∷ [] → ⊥) → (b : BodyValue) → ¬ (IsMainLine line b)
  not_main none b k = none (headed_once line ws _ text k.0 h k.1).0

  pub no_main_body : ((b : BodyValue) → ¬ (IsBody text b)) → (b : BodyValue) → ¬ (IsMainLine line b)
  no_main_body none b k = none b (subst (λ (z : List ℕ). IsBody z b) (headed_once line _ ws k.0 text k.1 h).1 k.2)

  pub main_is : ws ≡ codes "main" ∷ [] → (b : BodyValue) → IsBody text b → IsMainLine line b
  main_is e b k = (text, subst (λ (z : List Name). IsHeaded line z text) e h, k)
