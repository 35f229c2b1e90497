-- Made-up address books: an archive that knows all contacts with their numbers, and two files that have changed since.
use Rattle.std.specs.Prelude.{ℕ, ◌-◌, ◌%◌, ◌==◌, ◌||◌, Bool, if◌then◌else◌, List, [], ◌∷◌, ◌++◌, length, replicate, codes, decimal}
use Rattle.std.specs.List.{range_with_len, flat_map, join_by}
use Rattle.hm_generator.specs.declared.files.Generated.{Generated}

-- a contact is a number, and there are those from 1 on
abbrev pub contacts : ℕ → List ℕ
contacts number = range_with_len 1 number

-- a number in decimal digits, with zeros in front where it has fewer than width
unfoldable pub in_digits : ℕ → ℕ → List ℕ
in_digits width number = replicate (width - length (decimal number)) 48 ++ decimal number

-- ---- what has changed, as the remainder of a contact by 20 says
--
--    remainder   left file         right file
--    0           another number
--    5                             an EMAIL
--    10          no row
--    15          no row            an EMAIL
--    19          another number    another number, and not that of the left file

abbrev pub has_remainder : ℕ → ℕ → Bool
has_remainder remainder contact = contact % 20 == remainder

abbrev pub is_renumbered_left : ℕ → Bool
is_renumbered_left contact = has_remainder 0 contact || has_remainder 19 contact

abbrev pub is_renumbered_right : ℕ → Bool
is_renumbered_right contact = has_remainder 19 contact

abbrev pub is_deleted_left : ℕ → Bool
is_deleted_left contact = has_remainder 10 contact || has_remainder 15 contact

abbrev pub has_email_right : ℕ → Bool
has_email_right contact = has_remainder 5 contact || has_remainder 15 contact

-- ---- what is said of a contact

abbrev pub key : ℕ → List ℕ
key contact = codes "Person " ++ in_digits 5 contact

-- how its number begins in the left file, and in the right one; in the archive each begins with +1555
abbrev pub left_prefix : ℕ → List ℕ
left_prefix contact = if is_renumbered_left contact then codes "+1666" else codes "+1555"

abbrev pub right_prefix : ℕ → List ℕ
right_prefix contact = if is_renumbered_right contact then codes "+1777" else codes "+1555"

-- its edge in the archive: below its key a list of one card, with a TEL alone
abbrev pub entry : ℕ → List ℕ
entry contact = codes "\"" ++ (key contact ++ (codes "\":{\"*h\":{\"TEL\":{\"+1555" ++ (in_digits 7 contact ++ codes "\"}},\"*t\"}")))

-- its row in the left file: key, number and no EMAIL
abbrev pub row : ℕ → List ℕ
row contact = if is_deleted_left contact then []
    else key contact ++ (codes "," ++ (left_prefix contact ++ (in_digits 7 contact ++ codes ",\n")))

-- its card in the right file
abbrev pub email_line : ℕ → List ℕ
email_line contact = if has_email_right contact then codes "EMAIL:p" ++ (in_digits 5 contact ++ codes "@example.org\r\n") else []

abbrev pub card : ℕ → List ℕ
card contact = codes "BEGIN:VCARD\r\nVERSION:4.0\r\nFN:" ++ (key contact ++ (codes "\r\n" ++ (email_line contact
    ++ (codes "TEL:" ++ (right_prefix contact ++ (in_digits 7 contact ++ codes "\r\nEND:VCARD\r\n"))))))

-- ---- the six files

-- below each key of a book a list of cards, each with a TEL and maybe an EMAIL
unfoldable pub schema_bytes : List ℕ
schema_bytes =
    codes "harmony schema 1\n" ++ codes "root Book\n"
    ++ codes "node Book\n" ++ codes "  other filled Cards\n" ++ codes "  shape + 0..\n"
    ++ codes "node Cards\n" ++ codes "  edge *h Card\n" ++ codes "  edge *t More\n" ++ codes "  shape *h *t\n"
    ++ codes "node More\n" ++ codes "  edge *h Card\n" ++ codes "  edge *t More\n" ++ codes "  shape\n" ++ codes "  shape *h *t\n"
    ++ codes "node Card\n" ++ codes "  edge EMAIL Texts\n" ++ codes "  edge TEL Texts\n" ++ codes "  shape ? EMAIL TEL\n"
    ++ codes "node Texts\n" ++ codes "  other filled Empty\n" ++ codes "  shape + 1..\n"

-- the columns Email and Phone are the EMAIL and the TEL of a card, where a row has them
unfoldable pub left_lens : List ℕ
left_lens =
    codes "harmony lens 1\n" ++ codes "format csv key=Name many=Phone,Email\n"
    ++ codes "main = map(list(acond(Email,EMAIL,rename(Email,EMAIL),id);acond(Phone,TEL,rename(Phone,TEL),id)))\n"

unfoldable pub right_lens : List ℕ
right_lens = codes "harmony lens 1\n" ++ codes "format vcard show=EMAIL,TEL\n" ++ codes "main = id\n"

unfoldable pub archive_bytes : ℕ → List ℕ
archive_bytes number = codes "{" ++ (join_by entry (codes ",") (contacts number) ++ codes "}\n")

unfoldable pub left_bytes : ℕ → List ℕ
left_bytes number = codes "Name,Phone,Email\n" ++ flat_map row (contacts number)

unfoldable pub right_bytes : ℕ → List ℕ
right_bytes number = flat_map card (contacts number)

-- the bytes of the files of so many contacts: the schema, both lens files, the archive, the left and the right file
unfoldable pub generated : ℕ → List (List ℕ)
generated number =
    schema_bytes ∷ left_lens ∷ right_lens ∷ archive_bytes number ∷ left_bytes number ∷ right_bytes number ∷ []

-- what a contract sees of generated files: their bytes, in the same order
abbrev pub generated_value : Generated → List (List ℕ)
generated_value files =
    files.schema.items ∷ files.lens_a.items ∷ files.lens_b.items ∷ files.archive.items ∷ files.left.items ∷ files.right.items ∷ []
