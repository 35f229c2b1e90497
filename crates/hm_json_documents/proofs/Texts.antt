-- The strings and keys of what is read of tokens are UTF-8.
use Rattle.std.proofs.Common.{ℕ, zero, suc, List, [], ◌∷◌, length, Option, Some, None, option_and_then}
use Rattle.std.specs.Prelude.{IfSome, ⊤}
use Rattle.std.specs.Str.{IsUtf8}
use Rattle.json.specs.Token.{Token}
use Rattle.json.specs.Lex.{tokens}
use Rattle.json.specs.Json as json
use Rattle.serde_json.specs.Read.{max_depth}
use Rattle.hm_json_documents.proofs.Tokens.{TokensAreTexts, tokens_texts}

-- ---- values as they stand in the tokens

abbrev mutual
  pub JsonIsText : json.Json → Type 0
  JsonIsText json.null = ⊤
  JsonIsText (json.boolean b) = ⊤
  JsonIsText (json.number s) = ⊤
  JsonIsText (json.string s) = IsUtf8 s
  JsonIsText (json.array js) = JsonItemsAreTexts js
  JsonIsText (json.object ms) = JsonMembersAreTexts ms

  pub JsonItemsAreTexts : json.Items → Type 0
  JsonItemsAreTexts json.no_items = ⊤
  JsonItemsAreTexts (json.item j js) = JsonIsText j × JsonItemsAreTexts js

  pub JsonMembersAreTexts : json.Members → Type 0
  JsonMembersAreTexts json.no_members = ⊤
  JsonMembersAreTexts (json.member k j ms) = IsUtf8 k × JsonIsText j × JsonMembersAreTexts ms

-- what is read is such, and the tokens behind it are texts
abbrev IsRead : {A : Type 0} → (A → Type 0) → Option (A × List Token) → Type 0
IsRead P o = IfSome o (λ p. P p.0 × TokensAreTexts p.1)

-- a reader reads such a thing from tokens that are texts
abbrev Reads : {A : Type 0} → (A → Type 0) → json.Parse A → Type 0
Reads P parse = (ts : List Token) → TokensAreTexts ts → IsRead P (parse ts)

mapped : {A B : Type 0} (P : A → Type 0) (Q : B → Type 0) (f : A → B) → ((a : A) → P a → Q (f a)) → (o : Option (A × List Token)) → IsRead P o
    → IsRead Q (json.parse_map f o)
mapped P Q f keeps None h = tt
mapped P Q f keeps (Some p) h = (keeps p.0 h.0, h.1)

-- a value, and more behind it
joined : {A : Type 0} (P : A → Type 0) (f : json.Json → A → A) → ((j : json.Json) (a : A) → JsonIsText j → P a → P (f j a))
    → (more : json.Parse A) → Reads P more → (o : Option (json.Json × List Token)) → IsRead JsonIsText o
    → IsRead P (option_and_then (λ p. json.parse_map (f p.0) (more p.1)) o)
joined P f keeps more reads None h = tt
joined P f keeps more reads (Some p) h = mapped P P (f p.0) (λ a. keeps p.0 a h.0) (more p.1) (reads p.1 h.1)

behind_bracket : (ts : List Token) → TokensAreTexts ts → IfSome (json.after_end_array ts) TokensAreTexts
behind_bracket [] texts = tt
behind_bracket (Token.begin_object ∷ ts) texts = tt
behind_bracket (Token.end_object ∷ ts) texts = tt
behind_bracket (Token.begin_array ∷ ts) texts = tt
behind_bracket (Token.end_array ∷ ts) texts = texts.1
behind_bracket (Token.key s ∷ ts) texts = tt
behind_bracket (Token.string s ∷ ts) texts = tt
behind_bracket (Token.number s ∷ ts) texts = tt
behind_bracket (Token.boolean b ∷ ts) texts = tt
behind_bracket (Token.null ∷ ts) texts = tt
behind_bracket (Token.bad ∷ ts) texts = tt

key_text : (ts : List Token) → TokensAreTexts ts → IsRead (λ k. IfSome k IsUtf8) (json.read_key ts)
key_text [] texts = tt
key_text (Token.begin_object ∷ ts) texts = tt
key_text (Token.end_object ∷ ts) texts = (tt, texts.1)
key_text (Token.begin_array ∷ ts) texts = tt
key_text (Token.end_array ∷ ts) texts = tt
key_text (Token.key s ∷ ts) texts = texts
key_text (Token.string s ∷ ts) texts = tt
key_text (Token.number s ∷ ts) texts = tt
key_text (Token.boolean b ∷ ts) texts = tt
key_text (Token.null ∷ ts) texts = tt
key_text (Token.bad ∷ ts) texts = tt

module _ (value : json.Parse json.Json) (reads : Reads JsonIsText value) where
  items_turn : (more : json.Parse json.Items) → Reads JsonItemsAreTexts more → (ts : List Token) → TokensAreTexts ts
      → (o : Option (List Token)) → IfSome o TokensAreTexts → IsRead JsonItemsAreTexts (json.items_step value more ts o)
  items_turn more again ts texts (Some rest) h = (tt, h)
  items_turn more again ts texts None h = joined JsonItemsAreTexts json.item (λ j js p q. (p, q)) more again (value ts) (reads ts texts)

  items_read : (n : ℕ) → Reads JsonItemsAreTexts (json.items value n)
  unfolding json.items
  items_read zero ts texts = tt
  items_read (suc n) ts texts = items_turn (json.items value n) (items_read n) ts texts (json.after_end_array ts) (behind_bracket ts texts)

  members_turn : (more : json.Parse json.Members) → Reads JsonMembersAreTexts more → (o : Option (Option (List ℕ) × List Token)) → IsRead (λ k. IfSome k IsUtf8) o
      → IsRead JsonMembersAreTexts (option_and_then (λ p. json.members_step value more p.0 p.1) o)
  members_turn more again None h = tt
  members_turn more again (Some (None, ts)) h = (tt, h.1)
  members_turn more again (Some (Some k, ts)) h =
      joined JsonMembersAreTexts (json.member k) (λ j ms p q. (h.0, p, q)) more again (value ts) (reads ts h.1)

  members_read : (n : ℕ) → Reads JsonMembersAreTexts (json.members value n)
  unfolding json.members
  members_read zero ts texts = tt
  members_read (suc n) ts texts = members_turn (json.members value n) (members_read n) (json.read_key ts) (key_text ts texts)

level_reads : (a : json.Parse json.Items) (o : json.Parse json.Members) → Reads JsonItemsAreTexts a → Reads JsonMembersAreTexts o
    → Reads JsonIsText (json.value_with a o)
level_reads a o items members [] texts = tt
level_reads a o items members (Token.begin_object ∷ ts) texts = mapped JsonMembersAreTexts JsonIsText json.object (λ ms h. h) (o ts) (members ts texts.1)
level_reads a o items members (Token.end_object ∷ ts) texts = tt
level_reads a o items members (Token.begin_array ∷ ts) texts = mapped JsonItemsAreTexts JsonIsText json.array (λ js h. h) (a ts) (items ts texts.1)
level_reads a o items members (Token.end_array ∷ ts) texts = tt
level_reads a o items members (Token.key s ∷ ts) texts = tt
level_reads a o items members (Token.string s ∷ ts) texts = texts
level_reads a o items members (Token.number s ∷ ts) texts = texts
level_reads a o items members (Token.boolean b ∷ ts) texts = texts
level_reads a o items members (Token.null ∷ ts) texts = texts
level_reads a o items members (Token.bad ∷ ts) texts = tt

value_reads : (n : ℕ) → Reads JsonIsText (json.value n)
unfolding json.value
value_reads zero = level_reads (λ ts. None) (λ ts. None) (λ ts texts. tt) (λ ts texts. tt)
value_reads (suc n) =
    level_reads (λ ts. json.items (json.value n) (length ts) ts) (λ ts. json.members (json.value n) (length ts) ts)
    (λ ts texts. items_read (json.value n) (value_reads n) (length ts) ts texts)
    (λ ts texts. members_read (json.value n) (value_reads n) (length ts) ts texts)

-- ---- the value of a text

abbrev pub parsed : List ℕ → Option json.Json
parsed bytes = option_and_then (λ p. json.if_last p.0 p.1) (json.value max_depth (tokens bytes))

last_text : (o : Option (json.Json × List Token)) → IsRead JsonIsText o → IfSome (option_and_then (λ p. json.if_last p.0 p.1) o) JsonIsText
last_text None h = tt
last_text (Some (j, [])) h = h.0
last_text (Some (j, t ∷ ts)) h = tt

pub parsed_texts : (bytes : List ℕ) → IsUtf8 bytes → IfSome (parsed bytes) JsonIsText
parsed_texts bytes utf8 = last_text (json.value max_depth (tokens bytes)) (value_reads max_depth (tokens bytes) (tokens_texts bytes utf8))
