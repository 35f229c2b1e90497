-- A reader knows what stands within an A or H3: it is in a title just behind the symbols that lead into one.
use Rattle.std.proofs.Common.{◌≡◌, ℕ, zero, suc, Bool, true, false, cond, List, [], ◌∷◌, Option, Some, None, refl, subst}
use Rattle.std.specs.Prelude.{IfSome}
use Rattle.hm_marks_tokens.specs.Attributes.{are_attributes, are_of_link}
use Rattle.hm_marks_tokens.specs.Symbols.{Symbol, list, list_end, entry, link, link_end, heading, heading_end, note, rule, words, is_titled_behind}
use Rattle.hm_marks_tokens.specs.Reading.{Place, State, before, inside, begun, linking, linked, noting, titling, titled, telling, told, over, at, in_title, closed, first_words, in_list, at_start, behind_entry, in_link, behind_link, in_link_note, in_heading, behind_heading, in_heading_note, step_at, step}

-- where a state is reached, it is in a title, or isn't
abbrev IsTitled : Bool → Option State → Type 0
IsTitled b o = IfSome o (λ u. b ≡ in_title u.place)

tested : (t b : Bool) (o : Option State) → IsTitled b o → IsTitled b (cond t o None)
tested true b o is = is
tested false b o is = tt

worded : (title bytes : List ℕ) (b : Bool) (o : Option State) → IsTitled b o → IsTitled b (first_words title bytes o)
worded [] [] b o is = tt
worded [] (c ∷ bytes) b o is = is
worded (c ∷ title) bytes b o is = tt

closed_titled : (n : ℕ) → IsTitled false (closed n)
closed_titled zero = tt
closed_titled (suc zero) = refl
closed_titled (suc (suc n)) = refl

in_list_titled : (n : ℕ) (m : Symbol) → IsTitled (is_titled_behind false m) (in_list n m)
in_list_titled n entry = refl
in_list_titled n (rule a) = tested (are_attributes a) false (at n inside) refl
in_list_titled n list_end = closed_titled n
in_list_titled n m = tt

at_start_titled : (n : ℕ) (m : Symbol) → IsTitled (is_titled_behind false m) (at_start n m)
at_start_titled n list = refl
at_start_titled n m = tt

behind_entry_titled : (n : ℕ) (m : Symbol) → IsTitled (is_titled_behind false m) (behind_entry n m)
behind_entry_titled n (link a) = tested (are_of_link a) true (at n (linking a [])) refl
behind_entry_titled n (heading a) = tested (are_attributes a) true (at n (titling a [])) refl
behind_entry_titled n m = tt

module _ (n : ℕ) (a t : List ℕ) where
  in_link_titled : (m : Symbol) → IsTitled (is_titled_behind true m) (in_link n a t m)
  in_link_titled (words bytes) = worded t bytes true (at n (linking a bytes)) refl
  in_link_titled link_end = refl
  in_link_titled m = tt

  behind_link_titled : (m : Symbol) → IsTitled (is_titled_behind false m) (behind_link n a t m)
  behind_link_titled note = refl
  behind_link_titled m = in_list_titled n m

  in_heading_titled : (m : Symbol) → IsTitled (is_titled_behind true m) (in_heading n a t m)
  in_heading_titled (words bytes) = worded t bytes true (at n (titling a bytes)) refl
  in_heading_titled heading_end = refl
  in_heading_titled m = tt

  behind_heading_titled : (m : Symbol) → IsTitled (is_titled_behind false m) (behind_heading n a t m)
  behind_heading_titled note = refl
  behind_heading_titled m = at_start_titled n m

  in_heading_note_titled : (m : Symbol) → IsTitled (is_titled_behind false m) (in_heading_note n a t m)
  in_heading_note_titled (words bytes) = worded [] bytes false (at n (told a t bytes)) refl
  in_heading_note_titled m = at_start_titled n m

in_link_note_titled : (n : ℕ) (m : Symbol) → IsTitled (is_titled_behind false m) (in_link_note n m)
in_link_note_titled n (words bytes) = worded [] bytes false (at n inside) refl
in_link_note_titled n m = in_list_titled n m

step_titled : (n : ℕ) (p : Place) (m : Symbol) → IsTitled (is_titled_behind (in_title p) m) (step_at n p m)
step_titled n before m = at_start_titled n m
step_titled n inside m = in_list_titled n m
step_titled n begun m = behind_entry_titled n m
step_titled n (linking a t) m = in_link_titled n a t m
step_titled n (linked a t) m = behind_link_titled n a t m
step_titled n (noting a t) m = in_link_note_titled n m
step_titled n (titling a t) m = in_heading_titled n a t m
step_titled n (titled a t) m = behind_heading_titled n a t m
step_titled n (telling a t) m = in_heading_note_titled n a t m
step_titled n (told a t b) m = at_start_titled n m
step_titled n over m = tt

pub titled_behind : (s : State) (m : Symbol) (u : State) → step s m ≡ Some u → is_titled_behind (in_title s.place) m ≡ in_title u.place
titled_behind s m u fits = subst (λ (o : Option State). IsTitled (is_titled_behind (in_title s.place) m) o) fits (step_titled s.lists s.place m)
