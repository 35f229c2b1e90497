-- What names have once new files are written, which files are loaded then, and that what is written twice is as written once.
use Rattle.std.proofs.Common.{◌≡◌, ℕ, zero, suc, Bool, true, false, cond, List, [], ◌∷◌, ◌++◌, append-nil, append_assoc, length, take, drop, find, nat_lt, Option, Some, None, Result, Ok, Err, refl, sym, ap, subst, ◌∙◌}
use Rattle.std.specs.List.{fold}
use Rattle.std.specs.Option.{option_or, unwrap_or}
use Rattle.std.specs.Str.{bytes_eq}
use Rattle.std.proofs.lemmas.List.{take-append-drop}
use Rattle.std.proofs.lemmas.List.Folds.{fold_stays}
use Rattle.hm_tree.specs.Names.{Name}
use Rattle.hm_outside.specs.Contents.{Contents, held, replaced}
use Rattle.hm_outside.proofs.Contents.{held-replaced, same_contents}
use Rattle.hm_run_files.specs.declared.stop.Refusal.{Refusal}
use Rattle.hm_run_files.specs.Files.{File, New, limit, load, ◌>>=◌, load_next, loads, is_overgrown, overgrown, measures, written}
use Rattle.hm_run_files.proofs.Steps.{ok_is}

-- ---- what names have

-- the bytes that the last of some new files gives a name
abbrev pub new_bytes : List New → Name → Option (List ℕ)
new_bytes [] x = None
new_bytes (f ∷ fs) x = option_or (new_bytes fs x) (cond (bytes_eq x f.name) (Some f.bytes) None)

or_none : {X : Type 0} (p : Option X) → option_or p None ≡ p
or_none None = refl
or_none (Some x) = refl

or_assoc : {X : Type 0} (p q r : Option X) → option_or p (option_or q r) ≡ option_or (option_or p q) r
or_assoc None q r = refl
or_assoc (Some x) q r = refl

or_again : {X : Type 0} (p q r : Option X) → option_or (option_or p q) (option_or q r) ≡ option_or (option_or p q) r
or_again (Some x) q r = refl
or_again None (Some x) r = refl
or_again None None r = refl

or_cond : {X : Type 0} (b : Bool) (x : X) (o : Option X) → cond b (Some x) o ≡ option_or (cond b (Some x) None) o
or_cond true x o = refl
or_cond false x o = refl

pub held_written : (c : Contents) (news : List New) (x : Name) → held (written c news) x ≡ option_or (new_bytes news x) (held c x)
unfolding written
held_written c [] x = refl
held_written c (f ∷ fs) x = held_written (replaced c f.name f.bytes) fs x
    ∙ ap (option_or (new_bytes fs x)) (held-replaced c f.name f.bytes x ∙ or_cond (bytes_eq x f.name) f.bytes (held c x))
    ∙ or_assoc (new_bytes fs x) (cond (bytes_eq x f.name) (Some f.bytes) None) (held c x)

new_bytes-append : (xs ys : List New) (x : Name) → new_bytes (xs ++ ys) x ≡ option_or (new_bytes ys x) (new_bytes xs x)
new_bytes-append [] ys x = sym (or_none (new_bytes ys x))
new_bytes-append (f ∷ fs) ys x = ap (λ o. option_or o (cond (bytes_eq x f.name) (Some f.bytes) None)) (new_bytes-append fs ys x)
    ∙ sym (or_assoc (new_bytes ys x) (new_bytes fs x) (cond (bytes_eq x f.name) (Some f.bytes) None))

-- all files are written over contents that have some of them
written_over : (c : Contents) (some more : List New) → written (written c some) (some ++ more) ≡ written c (some ++ more)
written_over c some more = same_contents _ _ (λ x.
    let all = new_bytes-append some more x in
    held_written (written c some) (some ++ more) x
    ∙ (λ i. option_or (all i) (held_written c some x i))
    ∙ or_again (new_bytes more x) (new_bytes some x) (held c x)
    ∙ (λ i. option_or (sym all i) (held c x))
    ∙ sym (held_written c (some ++ more) x))

pub written_again : (c : Contents) (news : List New) (n : ℕ) → written (written c (take n news)) news ≡ written c news
written_again c news n =
    subst (λ (l : List New). written (written c (take n news)) l ≡ written c l) (take-append-drop n news) (written_over c (take n news) (drop n news))

-- ---- files one by one

-- these bytes are found of these files
abbrev pub AreFound : Contents → List File → List (List ℕ) → Type 0
AreFound c [] [] = Unit {0}
AreFound c [] (b ∷ bs) = ⊥
AreFound c (f ∷ fs) [] = ⊥
AreFound c (f ∷ fs) (b ∷ bs) = (load f.slot (held c f.name) ≡ Ok b) × AreFound c fs bs

found_behind : (c : Contents) (before : List (List ℕ)) (fs : List File) (all : List (List ℕ)) → fold (load_next c) (Ok before) fs ≡ Ok all
    → (bs : List (List ℕ)) × AreFound c fs bs × (all ≡ before ++ bs)
found_behind c before [] all e = ([], tt, sym (ok_is _ _ e) ∙ sym (append-nil before))
found_behind c before (f ∷ fs) all e = go (load f.slot (held c f.name)) refl e (λ b. found_behind c (before ++ b ∷ []) fs all)
  where
    go : (r : Result (List ℕ) Refusal) → load f.slot (held c f.name) ≡ r
        → fold (load_next c) (r >>= (λ bytes. Ok (before ++ bytes ∷ []))) fs ≡ Ok all
        → ((b : List ℕ) → fold (load_next c) (Ok (before ++ b ∷ [])) fs ≡ Ok all
        → (bs : List (List ℕ)) × AreFound c fs bs × (all ≡ (before ++ b ∷ []) ++ bs))
        → (bs : List (List ℕ)) × AreFound c (f ∷ fs) bs × (all ≡ before ++ bs)
    go (Err refusal) is e rest = absurd (let never = sym (fold_stays (load_next c) (Err refusal) (λ g. refl) fs) ∙ e in let no : ⊥ = cc in no)
    go (Ok b) is e rest = let k = rest b e in (b ∷ k.0, (is, k.1), k.2 ∙ append_assoc before (b ∷ []) k.0)

found_of : (c : Contents) (fs : List File) (all : List (List ℕ)) → loads c fs ≡ Ok all → AreFound c fs all
unfolding loads
found_of c fs all e = let k = found_behind c [] fs all e in subst (AreFound c fs) (sym k.2) k.1

loads_behind : (c : Contents) (before : List (List ℕ)) (fs : List File) (bs : List (List ℕ)) → AreFound c fs bs
    → fold (load_next c) (Ok before) fs ≡ Ok (before ++ bs)
loads_behind c before [] [] h = ap (λ (l : List (List ℕ)). Ok l) (sym (append-nil before))
loads_behind c before [] (b ∷ bs) h = absurd h
loads_behind c before (f ∷ fs) [] h = absurd h
loads_behind c before (f ∷ fs) (b ∷ bs) h =
    let next : load_next c (Ok before) f ≡ Ok (before ++ b ∷ []) = rw h.0 refl in
    ap (λ r. fold (load_next c) r fs) next ∙ loads_behind c (before ++ b ∷ []) fs bs h.1
    ∙ ap (λ (l : List (List ℕ)). Ok l) (append_assoc before (b ∷ []) bs)

loads_of : (c : Contents) (fs : List File) (bs : List (List ℕ)) → AreFound c fs bs → loads c fs ≡ Ok bs
unfolding loads
loads_of c fs bs h = loads_behind c [] fs bs h

-- ---- new files that aren't overgrown are loaded again

abbrev AllFit : List New → Type 0
AllFit [] = Unit {0}
AllFit (f ∷ fs) = (is_overgrown f ≡ false) × AllFit fs

all_fit : (news : List New) → ◌≡◌ {A = Result (Unit {0}) Refusal} (overgrown (find is_overgrown news)) (Ok tt) → AllFit news
all_fit [] e = tt
all_fit (f ∷ fs) e = go (is_overgrown f) refl e (all_fit fs)
  where
    go : (b : Bool) → is_overgrown f ≡ b → ◌≡◌ {A = Result (Unit {0}) Refusal} (overgrown (cond b (Some f) (find is_overgrown fs))) (Ok tt)
        → (◌≡◌ {A = Result (Unit {0}) Refusal} (overgrown (find is_overgrown fs)) (Ok tt) → AllFit fs) → AllFit (f ∷ fs)
    go true is e rest = absurd (let no : ⊥ = cc in no)
    go false is e rest = (is, rest e)

take_fits : (n : ℕ) (news : List New) → AllFit news → AllFit (take n news)
take_fits zero news h = tt
take_fits (suc n) [] h = tt
take_fits (suc n) (f ∷ fs) h = (h.0, take_fits n fs h.1)

new_fits : (news : List New) (x : Name) (bytes : List ℕ) → AllFit news → new_bytes news x ≡ Some bytes → nat_lt limit (length bytes) ≡ false
new_fits [] x bytes h e = absurd (let no : ⊥ = cc in no)
new_fits (f ∷ fs) x bytes h e = go (new_bytes fs x) (bytes_eq x f.name) (new_fits fs x bytes h.1) e
  where
    go : (o : Option (List ℕ)) (b : Bool) → (o ≡ Some bytes → nat_lt limit (length bytes) ≡ false)
        → option_or o (cond b (Some f.bytes) None) ≡ Some bytes → nat_lt limit (length bytes) ≡ false
    go (Some y) b rest e = rest e
    go None true rest e = let same : f.bytes ≡ bytes = cc in subst (λ (l : List ℕ). nat_lt limit (length l) ≡ false) same h.0
    go None false rest e = absurd (let no : ⊥ = cc in no)

-- the bytes of files once new ones are written
abbrev pub renewed : List New → List File → List (List ℕ) → List (List ℕ)
renewed news [] bs = []
renewed news (f ∷ fs) [] = []
renewed news (f ∷ fs) (b ∷ bs) = unwrap_or (new_bytes news f.name) b ∷ renewed news fs bs

found_again : (c : Contents) (news : List New) → AllFit news → (fs : List File) (bs : List (List ℕ)) → AreFound c fs bs
    → AreFound (written c news) fs (renewed news fs bs)
found_again c news fit [] [] h = tt
found_again c news fit [] (b ∷ bs) h = absurd h
found_again c news fit (f ∷ fs) [] h = absurd h
found_again c news fit (f ∷ fs) (b ∷ bs) h =
    (ap (load f.slot) (held_written c news f.name) ∙ go (new_bytes news f.name) refl, found_again c news fit fs bs h.1)
  where
    go : (o : Option (List ℕ)) → new_bytes news f.name ≡ o → load f.slot (option_or o (held c f.name)) ≡ Ok (unwrap_or o b)
    go None is = h.0
    go (Some new) is = rw (new_fits news f.name new fit is) refl

-- once the first n new files are written, where none of them is overgrown, the files are loaded again
pub loads_again : (c : Contents) (news : List New) (n : ℕ) (fs : List File) (all : List (List ℕ)) → measures news ≡ Ok tt → loads c fs ≡ Ok all
    → AreFound c fs all × (loads (written c (take n news)) fs ≡ Ok (renewed (take n news) fs all))
unfolding measures
loads_again c news n fs all sizes e =
    let found = found_of c fs all e in
    (found, loads_of (written c (take n news)) fs (renewed (take n news) fs all) (found_again c (take n news) (take_fits n news (all_fit news sizes)) fs all found))
