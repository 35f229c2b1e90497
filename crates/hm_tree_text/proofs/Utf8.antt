-- The first byte of a character, and what completes it (Unicode, table 3-7).
use Rattle.std.proofs.Common.{◌≡◌, ℕ, zero, suc, ◌+◌, ◌-◌, ◌*◌, ◌/◌, ◌<◌, ◌≤◌, ◌⊎◌, inl, inr, Bool, true, false, ◌&&◌, List, [], ◌∷◌, ◌++◌, refl, sym, ap, subst, ◌∙◌, arith, eq-eqb, ne_eqb, ◌==◌}
use lib.Utf8.{scalar, scalars, encode, encodes, next, scalar_cases, low_scalar}
use Rattle.std.specs.Str.{IsUtf8, continuation_len}
use Rattle.std.specs.Str.Lossy.{second_byte_min, second_byte_max}
use Rattle.std.proofs.lemmas.Bool.{cases_lt, lt-ltb, le-ltb, le-leb, cond-true, cond-false}
use Rattle.std.proofs.lemmas.Str.{IsUtf8-append, IsUtf8-encode, encode_ascii}
use Rattle.hm_tree_text.specs.Characters.{Continues}

is_or_not : (b n : ℕ) → (b ≡ n) ⊎ (b ≡ n → ⊥)
is_or_not b n = elim (cases_lt b n) [
  | inl l ↦ inr (λ e. omega arith)
  | inr g ↦ elim (cases_lt n b)
      [ inl l ↦ inr (λ e. omega arith) | inr h ↦ inl (omega arith) ]
]

-- ---- the bytes of a character

one : (c : ℕ) → c < 128 → encode c ≡ c ∷ []
one = encode_ascii

two : (c : ℕ) → 128 ≤ c → c < 2048 → encode c ≡ (192 + c / 64) ∷ next c ∷ []
unfolding encode
two c l h = cond-false _ _ _ (le-ltb c 128 l) ∙ cond-true _ _ _ (lt-ltb c 2048 h)

three : (c : ℕ) → 2048 ≤ c → c < 65536 → encode c ≡ (224 + c / 4096) ∷ next (c / 64) ∷ next c ∷ []
unfolding encode
three c l h = cond-false _ _ _ (le-ltb c 128 (omega arith)) ∙ cond-false _ _ _ (le-ltb c 2048 l) ∙ cond-true _ _ _ (lt-ltb c 65536 h)

four : (c : ℕ) → 65536 ≤ c → encode c ≡ (240 + c / 262144) ∷ next (c / 4096) ∷ next (c / 64) ∷ next c ∷ []
unfolding encode
four c l = cond-false _ _ _ (le-ltb c 128 (omega arith)) ∙ cond-false _ _ _ (le-ltb c 2048 (omega arith)) ∙ cond-false _ _ _ (le-ltb c 65536 l)

high_scalar : (c : ℕ) → 57344 ≤ c → c < 1114112 → scalar c ≡ true
high_scalar c l h = cond-false _ _ _ (le-ltb c 55296 (omega arith)) ∙ (λ i. le-leb 57344 c l i && lt-ltb c 1114112 h i)

-- bytes in their ranges are a character
utf8_1 : (b : ℕ) → b < 128 → IsUtf8 (b ∷ [])
utf8_1 b l = subst IsUtf8 (one b l) (IsUtf8-encode b (low_scalar b (omega arith)))

utf8_2 : (b d : ℕ) → 194 ≤ b → b < 224 → 128 ≤ d → d ≤ 191 → IsUtf8 (b ∷ d ∷ [])
utf8_2 b d l h dl dh =
    let c : ℕ = (b - 192) * 64 + (d - 128) in
    let p : 192 + c / 64 ≡ b = omega arith in
    let q : next c ≡ d = omega arith in
    subst IsUtf8 (two c (omega arith) (omega arith) ∙ (λ k. p k ∷ q k ∷ [])) (IsUtf8-encode c (low_scalar c (omega arith)))

utf8_3 : (b d e : ℕ) → 224 ≤ b → b < 240 → 128 ≤ d → d ≤ 191 → 128 ≤ e → e ≤ 191 → (b ≡ 224 → 160 ≤ d) → (b ≡ 237 → d ≤ 159) → IsUtf8 (b ∷ d ∷ e ∷ [])
utf8_3 b d e l h dl dh el eh e0 ed =
    let c : ℕ = (b - 224) * 4096 + (d - 128) * 64 + (e - 128) in
    let least : 2048 ≤ c = elim (is_or_not b 224) [ inl x ↦ (let y = e0 x in omega arith) | inr x ↦ omega arith ] in
    let p : 224 + c / 4096 ≡ b = omega arith in
    let q : next (c / 64) ≡ d = omega arith in
    let r : next c ≡ e = omega arith in
    let is : scalar c ≡ true = elim (cases_lt b 237) [
      | inl x ↦ low_scalar c (omega arith)
      | inr x ↦ elim (is_or_not b 237) [ inl y ↦ low_scalar c (let z = ed y in omega arith) | inr y ↦ high_scalar c (omega arith) (omega arith) ]
    ] in
    subst IsUtf8 (three c least (omega arith) ∙ (λ k. p k ∷ q k ∷ r k ∷ [])) (IsUtf8-encode c is)

utf8_4 : (b d e f : ℕ) → 240 ≤ b → b < 245 → 128 ≤ d → d ≤ 191 → 128 ≤ e → e ≤ 191 → 128 ≤ f → f ≤ 191 → (b ≡ 240 → 144 ≤ d)
    → (b ≡ 244 → d ≤ 143) → IsUtf8 (b ∷ d ∷ e ∷ f ∷ [])
utf8_4 b d e f l h dl dh el eh fl fh f0 f4 =
    let c : ℕ = (b - 240) * 262144 + (d - 128) * 4096 + (e - 128) * 64 + (f - 128) in
    let least : 65536 ≤ c = elim (is_or_not b 240) [ inl x ↦ (let y = f0 x in omega arith) | inr x ↦ omega arith ] in
    let most : c < 1114112 = elim (is_or_not b 244) [ inl x ↦ (let y = f4 x in omega arith) | inr x ↦ omega arith ] in
    let p : 240 + c / 262144 ≡ b = omega arith in
    let q : next (c / 4096) ≡ d = omega arith in
    let m : c / 64 ≡ (b - 240) * 4096 + (d - 128) * 64 + (e - 128) = omega arith in
    let r : next (c / 64) ≡ e = subst (λ (n : ℕ). next n ≡ e) (sym m) (omega arith) in
    let t : next c ≡ f = omega arith in
    subst IsUtf8 (four c least ∙ (λ k. p k ∷ q k ∷ r k ∷ t k ∷ [])) (IsUtf8-encode c (high_scalar c (omega arith) most))

pub utf8_nothing : IsUtf8 []
utf8_nothing = ([], (refl, refl))

-- ---- what the first byte says, by how many bytes follow

test : (b n : ℕ) → (b ≡ n → ⊥) → (b == n) ≡ false
test b n h = ne_eqb b n h

len_2 : (b : ℕ) → 194 ≤ b → b < 224 → continuation_len b ≡ 1
len_2 b l h = cond-false _ _ _ (le-ltb b 128 (omega arith)) ∙ cond-true _ _ _ (lt-ltb b 224 h)

len_3 : (b : ℕ) → 224 ≤ b → b < 240 → continuation_len b ≡ 2
len_3 b l h = cond-false _ _ _ (le-ltb b 128 (omega arith)) ∙ cond-false _ _ _ (le-ltb b 224 l) ∙ cond-true _ _ _ (lt-ltb b 240 h)

len_4 : (b : ℕ) → 240 ≤ b → continuation_len b ≡ 3
len_4 b l = cond-false _ _ _ (le-ltb b 128 (omega arith)) ∙ cond-false _ _ _ (le-ltb b 224 (omega arith)) ∙ cond-false _ _ _ (le-ltb b 240 l)

min_at : (b : ℕ) → (b ≡ 224 → ⊥) → (b ≡ 240 → ⊥) → second_byte_min b ≡ 128
min_at b p q = cond-false _ _ _ (test b 224 p) ∙ cond-false _ _ _ (test b 240 q)

min_e0 : (b : ℕ) → b ≡ 224 → second_byte_min b ≡ 160
min_e0 b e = cond-true _ _ _ (eq-eqb b 224 e)

min_f0 : (b : ℕ) → b ≡ 240 → second_byte_min b ≡ 144
min_f0 b e = cond-false _ _ _ (test b 224 (λ f. omega arith)) ∙ cond-true _ _ _ (eq-eqb b 240 e)

max_at : (b : ℕ) → (b ≡ 237 → ⊥) → (b ≡ 244 → ⊥) → second_byte_max b ≡ 191
max_at b p q = cond-false _ _ _ (test b 237 p) ∙ cond-false _ _ _ (test b 244 q)

max_ed : (b : ℕ) → b ≡ 237 → second_byte_max b ≡ 159
max_ed b e = cond-true _ _ _ (eq-eqb b 237 e)

max_f4 : (b : ℕ) → b ≡ 244 → second_byte_max b ≡ 143
max_f4 b e = cond-false _ _ _ (test b 237 (λ f. omega arith)) ∙ cond-true _ _ _ (eq-eqb b 244 e)

-- the range of the second byte
pub record IsSecond (b d : ℕ) : Type 0 where
  pub low : 128 ≤ d
  pub high : d ≤ 191
  pub e0 : b ≡ 224 → 160 ≤ d
  pub ed : b ≡ 237 → d ≤ 159
  pub f0 : b ≡ 240 → 144 ≤ d
  pub f4 : b ≡ 244 → d ≤ 143

second_min : (b d : ℕ) → IsSecond b d → second_byte_min b ≤ d
second_min b d s = elim (is_or_not b 224) [
  | inl e ↦ (let l = s.e0 e in let m = min_e0 b e in omega arith)
  | inr n ↦ elim (is_or_not b 240) [
    | inl e ↦ (let l = s.f0 e in let m = min_f0 b e in omega arith)
    | inr o ↦ (let l = s.low in let m = min_at b n o in omega arith)
  ]
]

second_max : (b d : ℕ) → IsSecond b d → d ≤ second_byte_max b
second_max b d s = elim (is_or_not b 237) [
  | inl e ↦ (let l = s.ed e in let m = max_ed b e in omega arith)
  | inr n ↦ elim (is_or_not b 244) [
    | inl e ↦ (let l = s.f4 e in let m = max_f4 b e in omega arith)
    | inr o ↦ (let l = s.high in let m = max_at b n o in omega arith)
  ]
]

pub min_bounds : (b : ℕ) → (128 ≤ second_byte_min b) × (second_byte_min b ≤ second_byte_max b) × (second_byte_max b ≤ 191)
min_bounds b = elim (is_or_not b 224) [
  | inl e ↦ (let l = min_e0 b e in let m = max_at b (λ f. omega arith) (λ f. omega arith) in (omega arith, omega arith, omega arith))
  | inr n ↦ elim (is_or_not b 240) [
    | inl e ↦ (let l = min_f0 b e in let m = max_at b (λ f. omega arith) (λ f. omega arith) in (omega arith, omega arith, omega arith))
    | inr o ↦
        let l = min_at b n o in
        elim (is_or_not b 237) [
          | inl e ↦ (let m = max_ed b e in (omega arith, omega arith, omega arith))
          | inr p ↦ elim (is_or_not b 244) [
            | inl e ↦ (let m = max_f4 b e in (omega arith, omega arith, omega arith))
            | inr q ↦ (let m = max_at b p q in (omega arith, omega arith, omega arith))
          ]
        ]
  ]
]

is_second : (b d : ℕ) → second_byte_min b ≤ d → d ≤ second_byte_max b → IsSecond b d
is_second b d l h = let m = min_bounds b in record {
  low = let a = m.0 in omega arith;
  high = let a = m.2 in omega arith;
  e0 = λ e. let a = min_e0 b e in omega arith;
  ed = λ e. let a = max_ed b e in omega arith;
  f0 = λ e. let a = min_f0 b e in omega arith;
  f4 = λ e. let a = max_f4 b e in omega arith;
}

-- ---- a text by its first byte

pub data IsLed (b : ℕ) (r : List ℕ) : Type 0 where
  led_1 : b < 128 → IsUtf8 r → IsLed b r
  led_2 : (d : ℕ) (s : List ℕ) → 194 ≤ b → b < 224 → IsSecond b d → r ≡ d ∷ s → IsUtf8 s → IsLed b r
  led_3 : (d e : ℕ) (s : List ℕ) → 224 ≤ b → b < 240 → IsSecond b d → 128 ≤ e → e ≤ 191 → r ≡ d ∷ e ∷ s → IsUtf8 s → IsLed b r
  led_4 : (d e f : ℕ) (s : List ℕ) → 240 ≤ b → b < 245 → IsSecond b d → 128 ≤ e → e ≤ 191 → 128 ≤ f → f ≤ 191 → r ≡ d ∷ e ∷ f ∷ s → IsUtf8 s
      → IsLed b r

both_true : (a b : Bool) → (a && b) ≡ true → (a ≡ true) × (b ≡ true)
both_true true b e = (refl, e)
both_true false b e = let no : ⊥ = cc in absurd no

pub utf8_led : (b : ℕ) (r : List ℕ) → IsUtf8 (b ∷ r) → IsLed b r
utf8_led b r ([], (s, e)) = let no : ⊥ = cc in absurd no
utf8_led b r (c ∷ cs, (s, e)) =
    let parts = both_true (scalar c) (scalars cs) s in
    let u : IsUtf8 (encodes cs) = (cs, (parts.1, refl)) in
    by (scalar_cases c parts.0) u (cases_lt c 128) (cases_lt c 2048) (cases_lt c 65536)
  where
    by : (c < 55296) ⊎ ((57344 ≤ c) × (c < 1114112)) → IsUtf8 (encodes cs) → (c < 128) ⊎ (128 ≤ c) → (c < 2048) ⊎ (2048 ≤ c)
        → (c < 65536) ⊎ (65536 ≤ c) → IsLed b r
    by range u (inl l) _ _ =
        let f : ◌≡◌ {A = List ℕ} (c ∷ encodes cs) (b ∷ r) = ap (λ l. l ++ encodes cs) (sym (one c l)) ∙ e in
        let h : c ≡ b = cc in
        let t : encodes cs ≡ r = cc in
        led_1 (omega arith) (subst IsUtf8 t u)
    by range u (inr g) (inl l) _ =
        let f : ◌≡◌ {A = List ℕ} ((192 + c / 64) ∷ next c ∷ encodes cs) (b ∷ r) = ap (λ l. l ++ encodes cs) (sym (two c g l)) ∙ e in
        let h : 192 + c / 64 ≡ b = cc in
        let t : next c ∷ encodes cs ≡ r = cc in
        led_2 (next c) (encodes cs) (omega arith) (omega arith)
        (record {
          low = omega arith;
          high = omega arith;
          e0 = λ e. omega arith;
          ed = λ e. omega arith;
          f0 = λ e. omega arith;
          f4 = λ e. omega arith;
        }) (sym t) u
    by range u (inr _) (inr g) (inl l) =
        let f : ◌≡◌ {A = List ℕ} ((224 + c / 4096) ∷ next (c / 64) ∷ next c ∷ encodes cs) (b ∷ r) =
        ap (λ l. l ++ encodes cs) (sym (three c g l)) ∙ e in
        let h : 224 + c / 4096 ≡ b = cc in
        let t : next (c / 64) ∷ next c ∷ encodes cs ≡ r = cc in
        led_3 (next (c / 64)) (next c) (encodes cs) (omega arith) (omega arith)
        (record {
          low = omega arith;
          high = omega arith;
          e0 = λ e. omega arith;
          ed = λ e. elim range [ inl x ↦ omega arith | inr x ↦ omega arith ];
          f0 = λ e. omega arith;
          f4 = λ e. omega arith;
        }) (omega arith)
        (omega arith) (sym t) u
    by range u (inr _) (inr _) (inr g) =
        let f : ◌≡◌ {A = List ℕ} ((240 + c / 262144) ∷ next (c / 4096) ∷ next (c / 64) ∷ next c ∷ encodes cs) (b ∷ r) =
        ap (λ l. l ++ encodes cs) (sym (four c g)) ∙ e in
        let h : 240 + c / 262144 ≡ b = cc in
        let t : next (c / 4096) ∷ next (c / 64) ∷ next c ∷ encodes cs ≡ r = cc in
        let top : c < 1114112 = elim range [ inl x ↦ omega arith | inr x ↦ x.1 ] in
        led_4 (next (c / 4096)) (next (c / 64)) (next c) (encodes cs) (omega arith) (omega arith)
        (record {
          low = omega arith;
          high = omega arith;
          e0 = λ e. omega arith;
          ed = λ e. omega arith;
          f0 = λ e. omega arith;
          f4 = λ e. omega arith;
        }) (omega arith) (omega arith) (omega arith) (omega arith) (sym t) u

pub led_utf8 : (b : ℕ) (r : List ℕ) → IsLed b r → IsUtf8 (b ∷ r)
led_utf8 b r (led_1 l u) = IsUtf8-append (b ∷ []) r (utf8_1 b l) u
led_utf8 b r (led_2 d s l h second is u) =
    subst (λ r. IsUtf8 (b ∷ r)) (sym is) (IsUtf8-append (b ∷ d ∷ []) s (utf8_2 b d l h second.low second.high) u)
led_utf8 b r (led_3 d e s l h second el eh is u) =
    subst (λ r. IsUtf8 (b ∷ r)) (sym is) (IsUtf8-append (b ∷ d ∷ e ∷ []) s (utf8_3 b d e l h second.low second.high el eh second.e0 second.ed) u)
led_utf8 b r (led_4 d e f s l h second el eh fl fh is u) =
    subst (λ r. IsUtf8 (b ∷ r)) (sym is) (IsUtf8-append (b ∷ d ∷ e ∷ f ∷ []) s
    (utf8_4 b d e f l h second.low second.high el eh fl fh second.f0 second.f4) u)

-- ---- how a text goes on behind its first byte

module _ (b : ℕ) where
  pub begun_complete : b < 128 → (rest : List ℕ) → (IsUtf8 (b ∷ rest) → IsUtf8 rest) × (IsUtf8 rest → IsUtf8 (b ∷ rest))
  begun_complete l rest = (λ h. by (utf8_led b rest h), λ u. led_utf8 b rest (led_1 l u))
    where
      by : IsLed b rest → IsUtf8 rest
      by (led_1 l u) = u
      by (led_2 d s m h second is u) = absurd (omega arith)
      by (led_3 d e s m h second el eh is u) = absurd (omega arith)
      by (led_4 d e f s m h second el eh fl fh is u) = absurd (omega arith)

  pub begun_none : 128 ≤ b → (b < 194) ⊎ (245 ≤ b) → (rest : List ℕ) → IsUtf8 (b ∷ rest) → ⊥
  begun_none l out rest h = by (utf8_led b rest h)
    where
      by : IsLed b rest → ⊥
      by (led_1 low u) = omega arith
      by (led_2 d s m h second is u) = elim out [ inl o ↦ omega arith | inr o ↦ omega arith ]
      by (led_3 d e s m h second el eh is u) = elim out [ inl o ↦ omega arith | inr o ↦ omega arith ]
      by (led_4 d e f s m h second el eh fl fh is u) = elim out [ inl o ↦ omega arith | inr o ↦ omega arith ]

  pub begun_more : 194 ≤ b → b < 245 → (rest : List ℕ)
      → (IsUtf8 (b ∷ rest) → Continues (continuation_len b) (second_byte_min b) (second_byte_max b) rest)
      × (Continues (continuation_len b) (second_byte_min b) (second_byte_max b) rest → IsUtf8 (b ∷ rest))
  begun_more l h rest = (λ u. to (utf8_led b rest u), λ c. led_utf8 b rest (from rest (cases_lt b 224) (cases_lt b 240) c))
    where
      to : IsLed b rest → Continues (continuation_len b) (second_byte_min b) (second_byte_max b) rest
      to (led_1 low u) = absurd (omega arith)
      to (led_2 d s m h second is u) = subst (λ n. Continues n (second_byte_min b) (second_byte_max b) rest) (sym (len_2 b m h))
          (subst (Continues 1 (second_byte_min b) (second_byte_max b)) (sym is) (second_min b d second, second_max b d second, u))
      to (led_3 d e s m h second el eh is u) = subst (λ n. Continues n (second_byte_min b) (second_byte_max b) rest) (sym (len_3 b m h))
          (subst (Continues 2 (second_byte_min b) (second_byte_max b)) (sym is) (second_min b d second, second_max b d second, (el, eh, u)))
      to (led_4 d e f s m h second el eh fl fh is u) = subst (λ n. Continues n (second_byte_min b) (second_byte_max b) rest) (sym (len_4 b m))
          (subst (Continues 3 (second_byte_min b) (second_byte_max b)) (sym is) (second_min b d second, second_max b d second, (el, eh, (fl, fh, u))))

      from_2 : b < 224 → (rest : List ℕ) → Continues 1 (second_byte_min b) (second_byte_max b) rest → IsLed b rest
      from_2 m [] c = absurd c
      from_2 m (d ∷ s) c = led_2 d s l m (is_second b d c.0 c.1) refl c.2

      from_3 : 224 ≤ b → b < 240 → (rest : List ℕ) → Continues 2 (second_byte_min b) (second_byte_max b) rest → IsLed b rest
      from_3 g m [] c = absurd c
      from_3 g m (d ∷ []) c = absurd c.2
      from_3 g m (d ∷ (e ∷ s)) c = led_3 d e s g m (is_second b d c.0 c.1) c.2.0 c.2.1 refl c.2.2

      from_4 : 240 ≤ b → (rest : List ℕ) → Continues 3 (second_byte_min b) (second_byte_max b) rest → IsLed b rest
      from_4 g [] c = absurd c
      from_4 g (d ∷ []) c = absurd c.2
      from_4 g (d ∷ (e ∷ [])) c = absurd c.2.2
      from_4 g (d ∷ (e ∷ (f ∷ s))) c = led_4 d e f s g h (is_second b d c.0 c.1) c.2.0 c.2.1 c.2.2.0 c.2.2.1 refl c.2.2.2

      from : (rest : List ℕ) → (b < 224) ⊎ (224 ≤ b) → (b < 240) ⊎ (240 ≤ b)
          → Continues (continuation_len b) (second_byte_min b) (second_byte_max b) rest → IsLed b rest
      from rest (inl m) _ c = from_2 m rest (subst (λ n. Continues n (second_byte_min b) (second_byte_max b) rest) (len_2 b l m) c)
      from rest (inr g) (inl m) c = from_3 g m rest (subst (λ n. Continues n (second_byte_min b) (second_byte_max b) rest) (len_3 b g m) c)
      from rest (inr _) (inr g) c = from_4 g rest (subst (λ n. Continues n (second_byte_min b) (second_byte_max b) rest) (len_4 b g) c)

-- some bytes go on so
pub continues_some : (n low high : ℕ) → low ≤ high → (rest : List ℕ) × Continues n low high rest
continues_some zero low high le = ([], utf8_nothing)
continues_some (suc n) low high le = let next = continues_some n 128 191 (omega arith) in (low ∷ next.0, (omega arith, le, next.1))

-- one byte on
pub continues_next : (n low high b : ℕ) → (n ≡ 0 → ⊥) → low ≤ b → b ≤ high → (rest : List ℕ)
    → (Continues n low high (b ∷ rest) → Continues (n - 1) 128 191 rest) × (Continues (n - 1) 128 191 rest → Continues n low high (b ∷ rest))
continues_next zero low high b some l h rest = absurd (some refl)
continues_next (suc n) low high b some l h rest =
    let same : suc n - 1 ≡ n = omega arith in
    (λ c. subst (λ k. Continues k 128 191 rest) (sym same) c.2, λ c. (l, h, subst (λ k. Continues k 128 191 rest) same c))

pub continues_not : (n low high b : ℕ) → (n ≡ 0 → ⊥) → (b < low) ⊎ (high < b) → (rest : List ℕ) → Continues n low high (b ∷ rest) → ⊥
continues_not zero low high b some out rest c = some refl
continues_not (suc n) low high b some out rest c = let l = c.0 in let h = c.1 in elim out [ inl o ↦ omega arith | inr o ↦ omega arith ]

-- and so does more text behind them
pub continues_more : (n low high : ℕ) (name more : List ℕ) → Continues n low high name → IsUtf8 more → Continues n low high (name ++ more)
continues_more zero low high name more c u = IsUtf8-append name more c u
continues_more (suc n) low high [] more c u = absurd c
continues_more (suc n) low high (b ∷ name) more c u = (c.0, c.1, continues_more n 128 191 name more c.2 u)

-- each next byte is below 245
pub next_byte_below : (n low high b : ℕ) (rest : List ℕ) → high ≤ 191 → Continues n low high (b ∷ rest) → b < 245
next_byte_below zero low high b rest le c = by (utf8_led b rest c)
  where
    by : IsLed b rest → b < 245
    by (led_1 l u) = omega arith
    by (led_2 d s m h second is u) = omega arith
    by (led_3 d e s m h second el eh is u) = omega arith
    by (led_4 d e f s m h second el eh fl fh is u) = omega arith
next_byte_below (suc n) low high b rest le c = let h = c.1 in omega arith

pub begun_at : (n low high b : ℕ) (rest : List ℕ) → n ≡ 0 → (IsUtf8 (b ∷ rest) → Continues n low high (b ∷ rest))
    × (Continues n low high (b ∷ rest) → IsUtf8 (b ∷ rest))
begun_at zero low high b rest e = (λ u. u, λ u. u)
begun_at (suc n) low high b rest e = absurd (omega arith)
