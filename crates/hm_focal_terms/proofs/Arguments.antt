-- What stands between parentheses, and where it doesn't.
use Rattle.std.proofs.Common.{◌≡◌, ℕ, List, refl, sym, subst}
use Rattle.hm_schema_lines.specs.declared.token.Token.TheVariants.{Word}
use Rattle.hm_focal_terms.specs.Fronts.{IsSign, IsWord, Behind, One, Two}
use Rattle.hm_focal_terms.specs.FrontLaws.{sign_once, front_once}

-- at most one stands at the front of bytes
abbrev pub IsOnce : {X : Type 0} → (List ℕ → X → List ℕ → Type 0) → Type 0
IsOnce {X} F = (bytes : List ℕ) (x y : X) (r s : List ℕ) → F bytes x r → F bytes y s → (x ≡ y) × (r ≡ s)

pub word_once : IsOnce IsWord
word_once bytes v w r s p q =
    let one = front_once bytes bytes (Word v) (Word w) r s refl p q in
    let f : Word v ≡ Word w = one.0 in
    let same : v ≡ w = cc in
    (same, one.1)

no_sign_behind : (sign : ℕ) (b c s : List ℕ) → b ≡ c → ((rest : List ℕ) → IsSign sign b rest → ⊥) → IsSign sign c s → ⊥
no_sign_behind sign b c s e none p = none s (subst (λ z. IsSign sign z s) (sym e) p)

module _ {X : Type 0} (F : List ℕ → X → List ℕ → Type 0) where
  pub none_inside : (sign : ℕ) (bytes inner : List ℕ) → IsSign sign bytes inner → ((x : X) (rest : List ℕ) → F inner x rest → ⊥) → (x : X)
      (rest : List ℕ) → Behind sign F bytes x rest → ⊥
  none_inside sign bytes inner p none x rest h =
      none x rest (subst (λ z. F z x rest) (sign_once sign bytes bytes h.inner inner refl h.begins p) h.form)

  module _ (once : IsOnce F) where
    pub behind_once : (sign : ℕ) (b c : List ℕ) (x y : X) (r s : List ℕ) → b ≡ c → Behind sign F b x r → Behind sign F c y s → (x ≡ y) × (r ≡ s)
    behind_once sign b c x y r s e p q =
        once q.inner x y r s (subst (λ z. F z x r) (sign_once sign b c p.inner q.inner e p.begins q.begins) p.form) q.form

    pub one_once : (b c : List ℕ) (x y : X) (r s : List ℕ) → b ≡ c → One F b x r → One F c y s → (x ≡ y) × (r ≡ s)
    one_once b c x y r s e p q =
        let one = behind_once 40 b c x y p.inner q.inner e p.first q.first in
        (one.0, sign_once 41 p.inner q.inner r s one.1 p.closes q.closes)

    module _ (bytes : List ℕ) (x : X) (inner : List ℕ) (first : Behind 40 F bytes x inner) where
      pub not_closed : ((rest : List ℕ) → IsSign 41 inner rest → ⊥) → (y : X) (rest : List ℕ) → One F bytes y rest → ⊥
      not_closed none y rest h =
          no_sign_behind 41 inner h.inner rest (behind_once 40 bytes bytes x y inner h.inner refl first h.first).1 none h.closes

      module _ {Y : Type 0} (G : List ℕ → Y → List ℕ → Type 0) where
        pub no_second : ((y : Y) (rest : List ℕ) → Behind 44 G inner y rest → ⊥) → (z : X) (y : Y) (rest : List ℕ) → Two F G bytes z y rest → ⊥
        no_second none z y rest h =
            let one = behind_once 40 bytes bytes x z inner h.middle refl first h.first in
            none y h.inner (subst (λ b. Behind 44 G b y h.inner) (sym one.1) h.second)

module _ {X Y : Type 0} (F : List ℕ → X → List ℕ → Type 0) (G : List ℕ → Y → List ℕ → Type 0) (once : IsOnce F) (other : IsOnce G) where
  pub two_once : (b c : List ℕ) (x v : X) (y w : Y) (r s : List ℕ) → b ≡ c → Two F G b x y r → Two F G c v w s → (x ≡ v) × (y ≡ w) × (r ≡ s)
  two_once b c x v y w r s e p q =
      let one = behind_once F once 40 b c x v p.middle q.middle e p.first q.first in
      let two = behind_once G other 44 p.middle q.middle y w p.inner q.inner one.1 p.second q.second in
      (one.0, two.0, sign_once 41 p.inner q.inner r s two.1 p.closes q.closes)

  pub two_not_closed : (bytes : List ℕ) (x : X) (y : Y) (middle inner : List ℕ) → Behind 40 F bytes x middle → Behind 44 G middle y inner
      → ((rest : List ℕ) → IsSign 41 inner rest → ⊥) → (v : X) (w : Y) (rest : List ℕ) → Two F G bytes v w rest → ⊥
  two_not_closed bytes x y middle inner first second none v w rest h =
      let one = behind_once F once 40 bytes bytes x v middle h.middle refl first h.first in
      let two = behind_once G other 44 middle h.middle y w inner h.inner one.1 second h.second in
      no_sign_behind 41 inner h.inner rest two.1 none h.closes
