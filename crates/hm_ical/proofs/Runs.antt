-- Lines lead to one place alone, with the same pieces behind them.
use Rattle.std.proofs.Common.{◌≡◌, List, [], ◌∷◌, ◌++◌, refl, sym, ap, ◌∙◌, subst}
use Rattle.std.specs.Prelude.{option_to_list}
use Rattle.std.proofs.lemmas.List.{append_assoc, append-nil}
use Rattle.std.proofs.lemmas.Option.{same_Some, none-some}
use Rattle.hm_book_cards.specs.Cards.{Shown}
use Rattle.hm_lines_files.specs.Components.{Bytes, Piece}
use Rattle.hm_ical.specs.Scanning.{Place, Step, next, Goes, IsStuck, Runs}
use Rattle.hm_ical.proofs.LineKinds.{kind_once}

module _ (singles : Shown) where
  pub goes_once : (from : Place) (line : Bytes) (a b : Step) → Goes singles from line a → Goes singles from line b → a ≡ b
  goes_once from line a b one two =
      same_Some a b (sym one.leads ∙ ap (next singles from line) (kind_once line one.kind two.kind one.is two.is) ∙ two.leads)

  stuck_goes : (from : Place) (line : Bytes) (step : Step) → IsStuck singles from line → Goes singles from line step → ⊥
  stuck_goes from line step stuck goes = none-some step (sym (stuck goes.kind goes.is) ∙ goes.leads)

  pub runs_append : (xs ys : List Bytes) (s m t : Place) (p q : List Piece) → Runs singles s xs p m → Runs singles m ys q t → Runs singles s (xs ++ ys) (p ++ q) t
  runs_append [] ys s m t p q one two =
      subst (λ (x : Place). Runs singles x ys (p ++ q) t) (sym one.0) (subst (λ (r : List Piece). Runs singles m ys (r ++ q) t) (sym one.1) two)
  runs_append (line ∷ xs) ys s m t p q (step, more, goes, rest, are) two = (
    step,
    more ++ q,
    goes,
    runs_append xs ys step.0 m t more q rest two,
    ap (λ (r : List Piece). r ++ q) are ∙ append_assoc (option_to_list step.1) more q,
  )

  pub runs_once : (xs : List Bytes) (s m n : Place) (p q : List Piece) → Runs singles s xs p m → Runs singles s xs q n → (p ≡ q) × (m ≡ n)
  runs_once [] s m n p q one two = (one.1 ∙ sym two.1, sym one.0 ∙ two.0)
  runs_once (line ∷ xs) s m n p q (a, more, goes, rest, are) (b, others, leads, then, have) =
      let same = goes_once s line a b goes leads in
      let later = runs_once xs b.0 m n more others (subst (λ (x : Step). Runs singles x.0 xs more m) same rest) then in
      (are ∙ (λ i. option_to_list (same i).1 ++ later.0 i) ∙ sym have, later.1)

  -- what lines lead through
  pub record IsThrough (s : Place) (xs ys : List Bytes) (r : List Piece) (t : Place) : Type 0 where
    pub at : Place
    pub front : List Piece
    pub back : List Piece
    pub first : Runs singles s xs front at
    pub then : Runs singles at ys back t
    pub are : r ≡ front ++ back

  pub runs_through : (xs ys : List Bytes) (s t : Place) (r : List Piece) → Runs singles s (xs ++ ys) r t → IsThrough s xs ys r t
  runs_through [] ys s t r run = record { at = s; front = []; back = r; first = (refl, refl); then = run; are = refl }
  runs_through (line ∷ xs) ys s t r (step, more, goes, rest, are) =
      let later = runs_through xs ys step.0 t more rest in
      record {
        at = later.at;
        front = option_to_list step.1 ++ later.front;
        back = later.back;
        first = (step, later.front, goes, later.first, refl);
        then = later.then;
        are = are ∙ ap (λ (l : List Piece). option_to_list step.1 ++ l) later.are
            ∙ sym (append_assoc (option_to_list step.1) later.front later.back);
      }

  -- behind a line that leads nowhere nothing follows
  pub stuck_no : (xs ys : List Bytes) (line : Bytes) (s m t : Place) (p r : List Piece) → Runs singles s xs p m → IsStuck singles m line
      → Runs singles s (xs ++ line ∷ ys) r t → ⊥
  stuck_no xs ys line s m t p r run stuck whole =
      let w = runs_through xs (line ∷ ys) s t r whole in
      let same = runs_once xs s w.at m w.front p w.first run in
      let next = subst (λ (x : Place). Runs singles x (line ∷ ys) w.back t) same.1 w.then in
      stuck_goes m line next.0 stuck next.2

  pub runs_one : (s : Place) (line : Bytes) (step : Step) → Goes singles s line step → Runs singles s (line ∷ []) (option_to_list step.1) step.0
  runs_one s line step goes = (step, [], goes, (refl, refl), sym (append-nil (option_to_list step.1)))
