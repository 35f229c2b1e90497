-- Bytes begin with a folder, or they have a first symbol that doesn't fit.
use Rattle.std.proofs.Common.{◌≡◌, inl, inr, ℕ, ◌+◌, ◌<◌, zero, suc, Bool, List, [], ◌∷◌, ◌++◌, length, Option, Some, None, refl, ap, arith}
use Rattle.std.proofs.lemmas.List.{length-append}
use Rattle.hm_existence.specs.Existence.{IsThere}
use Rattle.hm_existence.proofs.Existence.{by_cases}
use Rattle.hm_marks_tokens.specs.Bytes.{greater}
use Rattle.hm_marks_tokens.specs.Tokens.{Token, tag, text, IsNext}
use Rattle.hm_marks_tokens.specs.Symbols.{Symbol, IsNextSymbol, here, behind}
use Rattle.hm_marks_tokens.specs.Reading.{State, over, in_title, step, start, IsFolder, IsStuck, IsMisfit}
use Rattle.hm_marks_tokens.proofs.Steps.{HasRead, has_more, has_folder}

-- ---- what stands behind a symbol is shorter

token_shorter : (bytes rest : List ℕ) (t : Token) → IsNext bytes t rest → length rest < length bytes
token_shorter bytes rest (tag inside) next =
    let all = ap length next.are in let more = length-append (inside ++ greater ∷ []) rest in omega (arith, all, more)
token_shorter bytes rest (text []) next = absurd (next.may.0 refl)
token_shorter bytes rest (text (b ∷ w)) next = let all = ap length next.are in let more = length-append w rest in omega (arith, all, more)

symbol_shorter : (titled : Bool) (bytes : List ℕ) (m : Symbol) (rest : List ℕ) → IsNextSymbol titled bytes m rest → length rest < length bytes
symbol_shorter titled bytes m rest (here {p = p} next is stays) = token_shorter bytes rest p next
symbol_shorter titled bytes m rest (behind {more = more} {p = p} next skipped symbol) =
    let first = token_shorter bytes more p next in let others = symbol_shorter titled more m rest symbol in omega (arith, first, others)

-- ---- a symbol after the other

module _ (bytes : List ℕ) {Y : Type 0} (Q : Y → Type 0) (folder : (rest : List ℕ) → IsFolder bytes rest → IsThere Q)
    (misfit : (number : ℕ) → IsMisfit bytes number → IsThere Q) where
  stuck_there : (number : ℕ) (s : State) (rest : List ℕ) → HasRead bytes number s rest → ¬ (s.place ≡ over) → IsStuck s rest → IsThere Q
  stuck_there number s rest read goes_on stuck =
      misfit (number + 1) (record {
        symbols = read.symbols;
        state = s;
        rest = rest;
        has = read.has;
        runs = read.runs;
        goes_on = goes_on;
        stuck = stuck;
        number_is = ap (λ n. n + 1) read.number_is;
      })

  -- a symbol that fits stands next
  next_there : (number : ℕ) (s : State) (rest : List ℕ) → HasRead bytes number s rest → ¬ (IsStuck s rest)
      → ((u : State) (more : List ℕ) → length more < length rest → HasRead bytes (number + 1) u more → IsThere Q) → IsThere Q
  next_there number s rest read loose further none =
      loose (inl (λ m more next. go m more next (step s m) refl))
    where
      go : (m : Symbol) (more : List ℕ) → IsNextSymbol (in_title s.place) rest m more → (o : Option State) → step s m ≡ o → ⊥
      go m more next None e = loose (inr (m, more, (next, e)))
      go m more next (Some u) e = further u more (symbol_shorter (in_title s.place) rest m more next) (has_more bytes number s rest read m more next u e) none

  -- behind symbols that fit
  behind_there : (room number : ℕ) (s : State) (rest : List ℕ) → length rest < room → HasRead bytes number s rest → IsThere Q
  behind_there zero number s rest lt read = absurd (omega arith)
  behind_there (suc room) number s rest lt read =
      by_cases Q (s.place ≡ over) (λ ends. folder rest (has_folder bytes number s rest read ends).folder)
      (λ goes_on. by_cases Q (IsStuck s rest) (stuck_there number s rest read goes_on)
      (λ loose. next_there number s rest read loose (λ u more less found. behind_there room (number + 1) u more (omega (arith, less, lt)) found)))

  pub folder_or_misfit : IsThere Q
  folder_or_misfit =
      behind_there (suc (length bytes)) 0 start bytes (omega arith) (record { symbols = []; has = refl; runs = refl; number_is = refl })
