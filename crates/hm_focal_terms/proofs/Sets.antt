-- The names of a set, as they are read.
use Rattle.std.proofs.Common.{◌≡◌, ℕ, ◌<◌, ◌+◌, List, [], ◌∷◌, ◌++◌, length, refl, sym, ap, subst, ◌∙◌, append_assoc, arith, length-append, length-drop}
use Rattle.std.proofs.lemmas.List.{append-nil}
use Rattle.std.specs.List.{prefix_len}
use Rattle.std.specs.Prelude.{◌==◌}
use Rattle.std.specs.FinSet.{from_list}
use Rattle.hm_tree.specs.Names.{Name}
use Rattle.hm_schema.specs.Values.{Names}
use Rattle.hm_schema_lines.specs.declared.token.Token.{Token}
use Rattle.hm_schema_lines.specs.declared.token.Token.TheVariants.{Word, Quoted, Question, Plus}
use Rattle.hm_tree_spelling.specs.Spelling.{spelled}
use Rattle.hm_schema_lines.specs.Tokens.{token_text, IsToken}
use Rattle.hm_focal_terms.specs.Fronts.{unspaced, IsSign, IsEdge, AreNames, no_names, a_name, IsSet}
use Rattle.hm_focal_terms.specs.FrontLaws.{sign_once, edge_once, edge_no_sign, brace_not_quote}

-- the names of some bytes are those that were read and then those of the rest, both ways
pub record IsRead (bytes : List ℕ) (read : List Name) (rest : List ℕ) : Type 0 where
  pub whole : (ns : List Name) (end : List ℕ) → AreNames rest ns end → AreNames bytes (read ++ ns) end
  pub left : (ns : List Name) (end : List ℕ) → AreNames bytes ns end → (more : List Name) × (ns ≡ read ++ more) × AreNames rest more end

pub none_read : (bytes : List ℕ) (read : List Name) → read ≡ [] → IsRead bytes read bytes
none_read bytes read e = rw e (record { whole = λ ns end h. h; left = λ ns end h. (ns, refl, h) })

-- an edge in front of names
first_edge : (rest more : List ℕ) (n : Name) → IsEdge rest n more → (ns : List Name) (end : List ℕ) → AreNames rest ns end
    → (ms : List Name) × (ns ≡ n ∷ ms) × AreNames more ms end
first_edge rest more n e _ end (no_names q) = absurd (edge_no_sign 125 rest rest n more end refl brace_not_quote refl e q)
first_edge rest more n e _ end (a_name {inner} {n = m} {ns} q qs) =
    let one = edge_once rest rest n m more inner refl e q in
    (ns, (λ i. sym one.0 i ∷ ns), subst (λ b. AreNames b ns end) (sym one.1) qs)

module _ (bytes : List ℕ) (read : List Name) (rest : List ℕ) (h : IsRead bytes read rest) where
  pub read_more : (n : Name) (more : List ℕ) → IsEdge rest n more → (now : List Name) → now ≡ read ++ n ∷ [] → IsRead bytes now more
  read_more n more e now is = rw is (record {
    whole = λ ns end names. subst (λ z. AreNames bytes z end) (sym (append_assoc read (n ∷ []) ns)) (h.whole (n ∷ ns) end (a_name e names));
    left = λ ns end names.
        let l = h.left ns end names in
        let f = first_edge rest more n e l.0 end l.2 in
        (f.0, l.1 ∙ ap (λ z. read ++ z) f.1 ∙ sym (append_assoc read (n ∷ []) f.0), f.2);
  })

  module _ (text : List ℕ) (opens : IsSign 123 text bytes) where
    pub set_read : (end : List ℕ) → IsSign 125 rest end → (P : Names) → P ≡ from_list read → IsSet text P end
    set_read end closes P is = record {
      names = read;
      inner = bytes;
      opens = opens;
      listed = subst (λ z. AreNames bytes z end) (append-nil read) (h.whole [] end (no_names closes));
      is = is;
    }

    -- neither a brace nor an edge stands there
    pub no_set : ((end : List ℕ) → IsSign 125 rest end → ⊥) → ((n : Name) (more : List ℕ) → IsEdge rest n more → ⊥) → (P : Names) (end : List ℕ)
        → IsSet text P end → ⊥
    no_set brace edge P end s =
        let l = h.left s.names end (subst (λ b. AreNames b s.names end) (sign_once 123 text text s.inner bytes refl s.opens opens) s.listed) in
        nothing l.0 end l.2
      where
        nothing : (ns : List Name) (end : List ℕ) → AreNames rest ns end → ⊥
        nothing _ end (no_names q) = brace end q
        nothing _ end (a_name {inner} {n} q qs) = edge n inner q

-- ---- what is left is shorter

pub unspaced_length : (bytes : List ℕ) → length (unspaced bytes) < length bytes + 1
unspaced_length bytes = omega (arith, length-drop (prefix_len (λ b. b == 32) bytes) bytes)

pub sign_shorter : (sign : ℕ) (bytes rest : List ℕ) → IsSign sign bytes rest → length rest < length bytes
sign_shorter sign bytes rest h = let l = ap length h in let u = unspaced_length bytes in omega arith

token_some : (t : Token) → IsToken t → 0 < length (token_text t)
unfolding spelled
token_some (Word w) h = h.0
token_some (Quoted n) h = omega arith
token_some Question h = omega arith
token_some Plus h = omega arith

pub edge_shorter : (bytes : List ℕ) (n : Name) (rest : List ℕ) → IsEdge bytes n rest → length rest < length bytes
edge_shorter bytes n rest h =
    let l = ap length h.front.is in let u = unspaced_length bytes in let s = token_some h.token h.front.token in
    omega (arith, length-append (token_text h.token) rest)
