-- A hop: a callsign, heard or not, or a Q element. Document 02, R-7: "The ten names are qAC, qAX, qAU, qAo, qAO, qAS, qAr, qAR, qAZ and
-- qAI, from the APRS-IS q construct page. Such an element counts among the eight, never has a star, and is passed over when stars are
-- carried back."
-- Assumes nothing.
use Rattle.std.specs.Prelude.{ℕ, Bool, not, cond, List, [], ◌∷◌, eqb}
use Rattle.laws.specs.Bytes.{capital_a, capital_c, capital_i, capital_o, capital_r, capital_s, capital_u, capital_x, capital_z, small_o, small_q, small_r}
use Rattle.laws.specs.Lists.{any_of, same_bytes}
use Rattle.callsign.specs.declared.Callsign.{Callsign}
use Rattle.callsign.specs.Text.{made}
use Rattle.header.specs.declared.Hop.{Hop}

-- ---- the ten names

abbrev pub qAC : List ℕ
qAC = small_q ∷ capital_a ∷ capital_c ∷ []

abbrev pub qAX : List ℕ
qAX = small_q ∷ capital_a ∷ capital_x ∷ []

abbrev pub qAU : List ℕ
qAU = small_q ∷ capital_a ∷ capital_u ∷ []

abbrev pub qAo : List ℕ
qAo = small_q ∷ capital_a ∷ small_o ∷ []

abbrev pub qAO : List ℕ
qAO = small_q ∷ capital_a ∷ capital_o ∷ []

abbrev pub qAS : List ℕ
qAS = small_q ∷ capital_a ∷ capital_s ∷ []

abbrev pub qAr : List ℕ
qAr = small_q ∷ capital_a ∷ small_r ∷ []

abbrev pub qAR : List ℕ
qAR = small_q ∷ capital_a ∷ capital_r ∷ []

abbrev pub qAZ : List ℕ
qAZ = small_q ∷ capital_a ∷ capital_z ∷ []

abbrev pub qAI : List ℕ
qAI = small_q ∷ capital_a ∷ capital_i ∷ []

-- "The ten names"
abbrev pub q_names : List (List ℕ)
q_names = qAC ∷ qAX ∷ qAU ∷ qAo ∷ qAO ∷ qAS ∷ qAr ∷ qAR ∷ qAZ ∷ qAI ∷ []

-- one of them, small and capital letters as given
unfoldable pub is_q_name : List ℕ → Bool
is_q_name t = any_of (same_bytes t) q_names

-- ---- what a hop is, by its number

abbrev pub not_heard : ℕ
not_heard = 0

abbrev pub was_heard : ℕ
was_heard = 1

abbrev pub q_element : ℕ
q_element = 2

-- the number of a callsign that was heard or not
unfoldable pub heard_as : Bool → ℕ
heard_as heard = cond heard was_heard not_heard

-- a callsign
unfoldable pub call_hop : Callsign → Bool → Hop
call_hop c heard = record { call = c; kind = heard_as heard }

-- a Q element, by its name
unfoldable pub q_hop : List ℕ → Hop
q_hop name = record { call = made name []; kind = q_element }

unfoldable pub is_heard : Hop → Bool
is_heard h = eqb h.kind was_heard

unfoldable pub is_q_element : Hop → Bool
is_q_element h = eqb h.kind q_element

abbrev pub is_call : Hop → Bool
is_call h = not (is_q_element h)

-- the callsigns alone
unfoldable pub calls_of : List Hop → List Hop
calls_of [] = []
calls_of (h ∷ l) = cond (is_q_element h) (calls_of l) (h ∷ calls_of l)

-- ---- who is heard

-- a callsign is heard or not, as is said; a Q element stays one, since it "never has a star"
unfoldable pub heard_if : Bool → Hop → Hop
heard_if heard h = record { call = h.call; kind = cond (is_q_element h) q_element (heard_as heard) }

abbrev pub any_heard : List Hop → Bool
any_heard = any_of is_heard
