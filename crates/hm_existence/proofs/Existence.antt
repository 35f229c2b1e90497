-- How claims that something is there follow from one another.
use Rattle.std.proofs.Common.{◌≡◌, ℕ, zero, suc, ◌≤◌, List, [], ◌∷◌, ◌++◌, All, refl, ap, subst, arith}
use Rattle.std.proofs.lemmas.List.Elements.{All-nil, All-cons}
use Rattle.hm_existence.specs.Existence.{IsThere}

pub from_one : {X : Type 0} (P : X → Type 0) (x : X) → P x → IsThere P
from_one P x h none = none x h

-- nothing is there of a property that nothing has
pub none_there : {X : Type 0} (P : X → Type 0) → ((x : X) → ¬ (P x)) → ¬ (IsThere P)
none_there P none some = some none

-- from what is there to what is there then
pub from_there : {X Y : Type 0} (P : X → Type 0) (Q : Y → Type 0) → IsThere P → ((x : X) → P x → IsThere Q) → IsThere Q
from_there P Q some next none = some (λ x h. next x h none)

pub as_there : {X Y : Type 0} (P : X → Type 0) (Q : Y → Type 0) (f : X → Y) → IsThere P → ((x : X) → P x → Q (f x)) → IsThere Q
as_there P Q f some next none = some (λ x h. none (f x) (next x h))

-- it's there where a claim holds, and where it doesn't
pub by_cases : {Y : Type 0} (Q : Y → Type 0) (A : Type 0) → (A → IsThere Q) → (¬ A → IsThere Q) → IsThere Q
by_cases Q A holds fails none = fails (λ a. holds a none) none

-- ---- numbers

-- the greatest number with a property up to a bound
pub record IsGreatest (P : ℕ → Type 0) (bound n : ℕ) : Type 0 where
  pub within : n ≤ bound
  pub has : P n
  pub greatest : (m : ℕ) → m ≤ bound → P m → m ≤ n

up_to : (m b : ℕ) → m ≤ suc b → (m ≡ suc b → ⊥) → m ≤ b
up_to m b le not = omega (arith, not)

pub greatest_there : (P : ℕ → Type 0) (bound : ℕ) → P 0 → IsThere (IsGreatest P bound)
greatest_there P zero h = from_one (IsGreatest P 0) 0 (record { within = omega arith; has = h; greatest = λ m le k. le })
greatest_there P (suc b) h =
    by_cases (IsGreatest P (suc b)) (P (suc b))
    (λ k. from_one (IsGreatest P (suc b)) (suc b) (record { within = omega arith; has = k; greatest = λ m le l. le }))
    (λ none. as_there (IsGreatest P b) (IsGreatest P (suc b)) (λ n. n) (greatest_there P b h) (λ n g. record {
      within = omega (arith, g.within);
      has = g.has;
      greatest = λ m le k. g.greatest m (up_to m b le (λ e. none (subst P e k))) k;
    }))

-- ---- items of lists

-- all items of a list have a property, or it parts at a first one that hasn't
pub all_or_first : {X Y : Type 0} (Q : Y → Type 0) (P : X → Type 0) (xs : List X) → (All P xs → IsThere Q)
    → ((before : List X) (x : X) (after : List X) → xs ≡ before ++ x ∷ after → All P before → ¬ (P x) → IsThere Q) → IsThere Q
all_or_first Q P [] all first = all (All-nil P)
all_or_first Q P (x ∷ xs) all first =
    by_cases Q (P x)
    (λ h. all_or_first Q P xs (λ rest. all (All-cons P x xs h rest))
    (λ before y after e has fails. first (x ∷ before) y after (ap (λ l. x ∷ l) e) (All-cons P x before h has) fails))
    (λ fails. first [] x xs refl (All-nil P) fails)
