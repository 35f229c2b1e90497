-- One contact more.
use Rattle.std.proofs.Common.{◌≡◌, ℕ, ◌+◌, ◌<◌, zero, suc, List, [], ◌∷◌, ◌++◌, ap, sym, ◌∙◌, append_assoc, append-nil, arith}
use Rattle.std.specs.List.{range_with_len, flat_map, join_by}
use Rattle.std.proofs.lemmas.List.{flat_map_more}
use Rattle.hm_generator.specs.Generated.{contacts}

range_more : (a n : ℕ) → range_with_len a (n + 1) ≡ range_with_len a n ++ (a + n) ∷ []
range_more a zero = grind arith
range_more a (suc n) = grind (arith, range_more (a + 1) n)

contacts_more : (n : ℕ) → contacts (n + 1) ≡ contacts n ++ (n + 1) ∷ []
contacts_more n = grind (arith, range_more 1 n)

all_more : (say : ℕ → List ℕ) (n : ℕ) → flat_map say (contacts (n + 1)) ≡ flat_map say (contacts n) ++ say (n + 1)
all_more say n = ap (flat_map say) (contacts_more n) ∙ sym (flat_map_more say [] (contacts n) (n + 1))

-- behind one at least
joined_more : (say : ℕ → List ℕ) (separator : List ℕ) (n : ℕ) → 0 < n
    → join_by say separator (contacts (n + 1)) ≡ join_by say separator (contacts n) ++ (separator ++ say (n + 1))
joined_more say separator zero some = absurd (omega arith)
joined_more say separator (suc n) some =
    ap (join_by say separator) (contacts_more (suc n)) ∙ sym (flat_map_more (λ i. separator ++ say i) (say 1) (range_with_len 2 n) (suc n + 1))

-- ---- a file, where what is said of the next contact has been put behind it

pub all_put : (head file new : List ℕ) (say : ℕ → List ℕ) (n : ℕ) → file ≡ head ++ flat_map say (contacts n) → new ≡ file ++ say (n + 1)
    → new ≡ head ++ flat_map say (contacts (n + 1))
all_put head file new say n so_far put = grind (arith, append_assoc, all_more say n, so_far, put)

pub first_put : (head file new : List ℕ) (say : ℕ → List ℕ) (separator : List ℕ) (n : ℕ) → n ≡ 0
    → file ≡ head ++ join_by say separator (contacts n) → new ≡ file ++ say (n + 1)
    → new ≡ head ++ join_by say separator (contacts (n + 1))
first_put head file new say separator zero none so_far put = simp append-nil (simp (so_far, append-nil) at put)
first_put head file new say separator (suc n) none so_far put = absurd (omega arith)

pub next_put : (head file separated new : List ℕ) (say : ℕ → List ℕ) (separator : List ℕ) (n : ℕ) → 0 < n
    → file ≡ head ++ join_by say separator (contacts n) → separated ≡ file ++ separator → new ≡ separated ++ say (n + 1)
    → new ≡ head ++ join_by say separator (contacts (n + 1))
next_put head file separated new say separator n some so_far between put =
    grind (arith, append_assoc, joined_more say separator n some, so_far, between, put)
