-- The header of a line of text. Document 01, order: "1; `:`; `>`; source; destination; hops from the left; body. A hop: 5, 6,
-- 4, 3." Modules, 5: "In text a hop is heard if it or a later hop is starred; writing stars the last heard one only." Document 02, R-2:
-- "every header reader passes this on for source, destination and each hop", the mark of a dropped zero, which a callsign carries. R-7:
-- "In text it is written at its place .. 6 stays for any other three bytes that start `qA`."
-- Assumes nothing.
use Rattle.std.specs.Prelude.{ℕ, zero, suc, ◌+◌, ◌*◌, Bool, not, cond, ◌&&◌, ◌||◌, List, [], ◌∷◌, ◌++◌, length, take, drop, get_or, eqb, ltb, Result, Ok, Err}
use Rattle.laws.specs.Bytes.{comma, colon, greater, capital_a, small_q}
use Rattle.laws.specs.Lists.{index_of}
use Rattle.callsign.specs.declared.Callsign.{Callsign}
use Rattle.callsign.specs.declared.CallRead.{CallRead}
use Rattle.callsign.specs.Text.{read_text}
use Rattle.callsign.specs.Range.{text_of, with_star}
use Rattle.callsign.specs.Packed.{bit}
use Rattle.header.specs.declared.Hop.{Hop}
use Rattle.header.specs.declared.Fault.{Fault}
use Rattle.header.specs.declared.Fault.TheVariants.{Call, NinthHop, OddName}
use Rattle.header.specs.declared.Header.{Header}
use Rattle.header.specs.declared.HeaderRead.{HeaderRead}
use Rattle.header.specs.Hop.{is_q_name, call_hop, q_hop, is_heard, any_heard, heard_if}
use Rattle.header.specs.Header.{most_bytes, Hops, before, path_of, hops_of, header_refused, header_accepted, unless_refused, with_hops}

-- ---- the parts between commas

-- a byte in front of the first part
unfoldable pub on_first : ℕ → List (List ℕ) → List (List ℕ)
on_first x [] = []
on_first x (f ∷ fs) = (x ∷ f) ∷ fs

-- at least one part; empty ones are parts
unfoldable pub fields : List ℕ → List (List ℕ)
fields [] = [] ∷ []
fields (x ∷ l) = cond (eqb x comma) ([] ∷ fields l) (on_first x (fields l))

-- the first part
unfoldable pub first_of : List (List ℕ) → List ℕ
first_of [] = []
first_of (f ∷ fs) = f

-- the parts behind it
unfoldable pub others_of : List (List ℕ) → List (List ℕ)
others_of [] = []
others_of (f ∷ fs) = fs

-- ---- hops

-- "a textual hop of three bytes that starts `qA`"
unfoldable pub starts_q : List ℕ → Bool
starts_q t = eqb (length t) 3 && (eqb (get_or t 0 0) small_q && eqb (get_or t 1 0) capital_a)

-- a Q element
unfoldable pub hop_named : List ℕ → Result Hop Fault
hop_named name = Ok (q_hop name)

-- a hop by its callsign, marked or not, 4 and 3; its star
unfoldable pub hop_of : CallRead → Result Hop Fault
hop_of c = cond (eqb c.refusal 0) (Ok (call_hop c.call c.starred)) (Err (Call c.refusal))

-- "A hop: .. 6, 4, 3."; "6 stays for any other three bytes that start `qA`"
unfoldable pub read_hop : List ℕ → Result Hop Fault
read_hop t = cond (starts_q t) (cond (is_q_name t) (hop_named t) (Err OddName)) (hop_of (read_text t))

-- a hop in front of those that follow, or its fault
unfoldable pub hop_then : Result Hop Fault → Hops → Hops
hop_then (Err f) later = Err f
hop_then (Ok h) later = before h later

-- the hops of the parts, of which so many more may come; 5: "a ninth hop"
unfoldable pub text_hops : ℕ → List (List ℕ) → Hops
text_hops k [] = Ok []
text_hops zero (t ∷ ts) = Err NinthHop
text_hops (suc k) (t ∷ ts) = hop_then (read_hop t) (text_hops k ts)

-- ---- stars

-- the stars as typed, of hops before these are carried back: a bit for each hop, that of the first hop the lowest
unfoldable pub stars_of : List Hop → ℕ
stars_of [] = 0
stars_of (h ∷ l) = bit (is_heard h) + 2 * stars_of l

-- "heard if it or a later hop is starred"
unfoldable pub carried : List Hop → List Hop
carried [] = []
carried (h ∷ l) = heard_if (is_heard h || any_heard l) h ∷ carried l

-- ---- the header read

-- destination and hops, between commas, and the hops' stars
unfoldable pub read_route : Callsign → List ℕ → ℕ → HeaderRead
read_route from t body =
    let to = read_text (first_of (fields t)) in
    unless_refused to.refusal
    (with_hops (text_hops 8 (others_of (fields t))) (λ l. header_accepted from to.call (path_of (carried l)) body (stars_of l)))

-- what stands before `:`: source, `>`, and the route
unfoldable pub read_before : List ℕ → ℕ → HeaderRead
read_before t body =
    let g = index_of greater t in
    let from = read_text (take g t) in
    cond (eqb g (length t)) (header_refused 2)
    (unless_refused from.refusal (read_route from.call (drop (suc g) t) body))

-- `:`, and what stands before it, however long the line is
unfoldable pub read_header_text : List ℕ → HeaderRead
read_header_text s =
    let c = index_of colon s in
    cond (eqb c (length s)) (header_refused 2) (read_before (take c s) (c + 1))

-- 1, and then the header
unfoldable pub read_text_header : List ℕ → HeaderRead
read_text_header s = cond (ltb most_bytes (length s)) (header_refused 1) (read_header_text s)

-- ---- the header written

-- each hop after a comma, a Q element too; "the last heard one only" is starred
unfoldable pub hops_text : List Hop → List ℕ
hops_text [] = []
hops_text (h ∷ l) = comma ∷ (with_star (text_of h.call) (is_heard h && not (any_heard l)) ++ hops_text l)

-- all but the colon
unfoldable pub route_text : Header → List ℕ
route_text h = text_of h.from ++ greater ∷ (text_of h.to ++ hops_text (hops_of h.path))

-- with the colon
unfoldable pub header_text : Header → List ℕ
header_text h = route_text h ++ colon ∷ []
