-- A message behind its type byte (document 02, R-5; APRS 1.0.1, chapter 14): "nine addressee characters padded with spaces, `:`, up to
-- 67 bytes of text without `|`, `~` or `{`, and optionally `{` with an identifier of 1 to 5 bytes."
-- Assumes nothing.
use Rattle.std.specs.Prelude.{ℕ, ◌+◌, Bool, cond, not, ◌&&◌, ◌||◌, List, [], ◌∷◌, ◌++◌, length, take, drop, get_or, eqb, leb, ltb}
use Rattle.laws.specs.Bytes.{colon, brace, bar, tilde, within}
use Rattle.laws.specs.Lists.{index_of, every, pad_to}
use Rattle.message.specs.declared.MessageRead.{MessageRead}

-- ---- its parts

-- "nine addressee characters"
abbrev pub addressee_bytes : ℕ
addressee_bytes = 9

-- "without `|`, `~` or `{`"
unfoldable pub is_text_byte : ℕ → Bool
is_text_byte b = not (eqb b bar || (eqb b tilde || eqb b brace))

-- "up to 67 bytes of text"
unfoldable pub is_text : List ℕ → Bool
is_text text = leb (length text) 67 && every is_text_byte text

-- the most bytes of an identifier
abbrev pub most_identifier : ℕ
most_identifier = 5

-- "an identifier of 1 to 5 bytes"
unfoldable pub is_identifier : List ℕ → Bool
is_identifier identifier = within 1 most_identifier (length identifier)

-- ---- read

-- what stands behind the addressee and its `:`
abbrev pub behind_colon : List ℕ → List ℕ
behind_colon s = drop (addressee_bytes + 1) s

-- whether a `{` stands in it
unfoldable pub has_identifier : List ℕ → Bool
has_identifier l = ltb (index_of brace l) (length l)

-- what stands before its first `{`, or all of it
unfoldable pub text_in : List ℕ → List ℕ
text_in l = take (index_of brace l) l

-- what stands behind its first `{`, or nothing
unfoldable pub identifier_in : List ℕ → List ℕ
identifier_in l = drop (index_of brace l + 1) l

-- a text, "and optionally `{` with an identifier"
unfoldable pub is_addressed : List ℕ → Bool
is_addressed l = is_text (text_in l) && (not (has_identifier l) || is_identifier (identifier_in l))

-- "nine addressee characters .., `:`", and those
unfoldable pub is_message : List ℕ → Bool
is_message s = ltb addressee_bytes (length s) && (eqb (get_or s addressee_bytes 0) colon && is_addressed (behind_colon s))

-- no addressee: nine zeros
unfoldable pub no_addressee : List ℕ
no_addressee = pad_to addressee_bytes 0 []

-- an addressee, and how long a text and an identifier are
abbrev pub message_accepted : List ℕ → ℕ → ℕ → MessageRead
message_accepted addressee text identifier = record { text = text; identifier = identifier; addressee = addressee; refusal = 0 }

-- document 02's number, "18 for a malformed message or status", and nothing else
unfoldable pub message_refused : MessageRead
message_refused = record { text = 0; identifier = 0; addressee = no_addressee; refusal = 18 }

-- the nine bytes, and how long text and identifier are behind their `:`
unfoldable pub read_message : List ℕ → MessageRead
read_message s =
    cond (is_message s)
    (message_accepted (take addressee_bytes s) (length (text_in (behind_colon s))) (length (identifier_in (behind_colon s))))
    message_refused

-- ---- written

-- the addressee's nine bytes and `:`
unfoldable pub addressee_text : List ℕ → List ℕ
addressee_text addressee = addressee ++ colon ∷ []

-- `{` and the identifier; an empty one "means none and no `{`"
unfoldable pub identifier_text : List ℕ → List ℕ
identifier_text [] = []
identifier_text (b ∷ l) = brace ∷ b ∷ l

-- its parts joined
unfoldable pub message_text : List ℕ → List ℕ → List ℕ → List ℕ
message_text addressee text identifier = addressee_text addressee ++ (text ++ identifier_text identifier)

-- 18 for "an identifier over 5 bytes"
unfoldable pub identifier_refusal : List ℕ → ℕ
identifier_refusal identifier = cond (leb (length identifier) most_identifier) 0 18

-- and for "a text too long or with a byte it may not have"
unfoldable pub message_refusal : List ℕ → List ℕ → ℕ
message_refusal text identifier = cond (is_text text) (identifier_refusal identifier) 18
