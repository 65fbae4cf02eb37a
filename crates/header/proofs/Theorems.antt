-- What the definitions of a header amount to: what is read is in range, refusals are few and blank, stars carry over and pass over Q
-- elements, a line's bytes stand in what is read of it, its path reads back, marks move nothing that is written, and a frame that was
-- written reads back without Q elements.
-- Assumes nothing.
use mathlib.Core.Path.{◌≡◌, refl, ap, ◌∙◌}
use mathlib.Core.Logic.{◌⊎◌}
use mathlib.Core.Bool.{Bool, true, false}
use mathlib.Core.List.{List, [], ◌∷◌, ◌++◌, map}
use Prim.Native.Nat.{ℕ, ◌<◌, ◌≤◌}
use lib.ListN.{length, get_or}
use Rattle.std.specs.Prelude.{Ok}
use Rattle.laws.specs.Bytes.{within, star, comma}
use Rattle.laws.specs.Lists.{index_of, every, any_of, pad_to}
use Rattle.laws.proofs.Unique.{alike_without}
use Rattle.callsign.specs.Utf8.{after, characters, utf8}
use Rattle.callsign.specs.Text.{joined, made, is_zero, call_accepted, parted, read_unstarred, read_text}
use Rattle.callsign.specs.Packed.{bit}
use Rattle.callsign.specs.Range.{call_part, ssid_part, text_of, with_star}
use Rattle.callsign.proofs.AddressBack.{in_address}
use Rattle.header.specs.declared.Hop.{Hop}
use Rattle.header.specs.declared.Header.{Header}
use Rattle.header.specs.Hop.{heard_as, call_hop, is_heard, is_q_element, calls_of, heard_if}
use Rattle.header.specs.Header.{most_bytes, blank_hop, before, path_of, hops_of, blank_header, header_refused, header_accepted}
use Rattle.header.specs.Text.{on_first, fields, starts_q, hop_of, read_hop, hop_then, text_hops, stars_of, carried, read_header_text, read_text_header, hops_text, header_text}
use Rattle.header.specs.Frame.{read_frame_header, header_frame}
use Rattle.header.specs.Range.{header_in_range, text_refusal, frame_refusal}
use Rattle.header.proofs.Hops.{q_unheard}
use Rattle.header.proofs.Typed.{is_set, star_bit}
use Rattle.header.proofs.Stars.{starred_last, each_text, written_stars, carried_starred, carried_twice, carried_stays, calls_carried, calls_starred}
use Rattle.header.proofs.TextWritten as text
use Rattle.header.proofs.FrameWritten as frame
use Rattle.header.proofs.Walks.{InText, InLine, InFrame}
use Rattle.header.proofs.Answers.{text_answered, line_answered, frame_answered, answered_range, answered_body, answered_number, answered_blank, Starred, Starless, answered_heard, answered_set, answered_starless}
use Rattle.header.proofs.FrameBack.{in_frame, frame_back}
use Rattle.header.proofs.Kept.{Kept, text_kept, line_kept}
use Rattle.header.proofs.WithoutQ.{without_q, same_frame, same_refusal}
use Rattle.header.proofs.PathBack.{reads_alike, ReadsBack, path_back}
use Rattle.header.proofs.Marks.{unmarked, unmarked_text, unmarked_text_refusal, unmarked_frame, unmarked_frame_refusal, unmarked_read, unmarked_blank}

-- ---- what is read: of any text, any line and any frame, accepted or not

pub any_text_is_in_range : (s : List ℕ) → header_in_range (read_header_text s).header ≡ true
any_text_is_in_range s = answered_range InText Starred s (text_answered s)

pub text_is_in_range : (s : List ℕ) → header_in_range (read_text_header s).header ≡ true
text_is_in_range s = answered_range InLine Starred s (line_answered s)

pub frame_is_in_range : (s : List ℕ) → header_in_range (read_frame_header s).header ≡ true
frame_is_in_range s = answered_range InFrame Starless s (frame_answered s)

-- the body starts within the input, or just behind it
pub any_text_body_within : (s : List ℕ) → (read_header_text s).body ≤ length s
any_text_body_within s = answered_body InText Starred s (text_answered s)

pub text_body_within : (s : List ℕ) → (read_text_header s).body ≤ length s
text_body_within s = answered_body InLine Starred s (line_answered s)

pub frame_body_within : (s : List ℕ) → (read_frame_header s).body ≤ length s
frame_body_within s = answered_body InFrame Starless s (frame_answered s)

-- ---- refusals

-- a text, however long, is refused with 2 to 6
pub any_text_numbers : (s : List ℕ) → ((read_header_text s).refusal ≡ 0 → ⊥) → (2 ≤ (read_header_text s).refusal) × ((read_header_text s).refusal ≤ 6)
any_text_numbers s z = let p = answered_number InText Starred s (text_answered s) z in (p.low, p.high)

-- a line with 1 to 6
pub text_numbers : (s : List ℕ) → ((read_text_header s).refusal ≡ 0 → ⊥) → (read_text_header s).refusal ≤ 6
text_numbers s z = (answered_number InLine Starred s (line_answered s) z).high

-- a frame with 1, 2, 3 or 5
pub frame_numbers : (s : List ℕ) → ((read_frame_header s).refusal ≡ 0 → ⊥) → ((read_frame_header s).refusal ≤ 3) ⊎ ((read_frame_header s).refusal ≡ 5)
frame_numbers s z = (answered_number InFrame Starless s (frame_answered s) z).high

-- "A refused decode returns the blank record"
pub any_text_refused_blank : (s : List ℕ) → ((read_header_text s).refusal ≡ 0 → ⊥) → read_header_text s ≡ header_refused (read_header_text s).refusal
any_text_refused_blank s = answered_blank InText Starred s (text_answered s)

pub text_refused_blank : (s : List ℕ) → ((read_text_header s).refusal ≡ 0 → ⊥) → read_text_header s ≡ header_refused (read_text_header s).refusal
text_refused_blank s = answered_blank InLine Starred s (line_answered s)

pub frame_refused_blank : (s : List ℕ) → ((read_frame_header s).refusal ≡ 0 → ⊥) → read_frame_header s ≡ header_refused (read_frame_header s).refusal
frame_refused_blank s = answered_blank InFrame Starless s (frame_answered s)

-- ---- how long a written header is

pub text_at_most_178 : (h : Header) → header_in_range h ≡ true → length (header_text h) ≤ 178
text_at_most_178 = text.text_bound

pub frame_at_most_72 : (h : Header) → frame_refusal h ≡ 0 → length (header_frame h) ≤ 72
frame_at_most_72 = frame.frame_bound

-- ---- stars

-- bit j of the stars as typed is set exactly where hop j is starred
pub star_by_bit : (l : List Hop) (j : ℕ) → is_set (stars_of l) j ≡ is_heard (get_or l j blank_hop)
star_by_bit = star_bit

-- hop i of a text is heard exactly where it is a callsign and a bit j ≥ i of the stars as typed is set
pub heard_by_stars : (s : List ℕ) (i : ℕ) (d : Hop) → i < (read_header_text s).header.path.count
    → (is_heard (get_or (read_header_text s).header.path.hops i d) ≡ true → (j : ℕ) × ((i ≤ j) × (is_set (read_header_text s).stars j ≡ true)))
    × (is_q_element (get_or (read_header_text s).header.path.hops i d) ≡ false → (j : ℕ) → i ≤ j → is_set (read_header_text s).stars j ≡ true → is_heard (get_or (read_header_text s).header.path.hops i d) ≡ true)
heard_by_stars s i d h = (answered_heard InText s i d (text_answered s) h, answered_set InText s i d (text_answered s) h)

-- and so of a line
pub line_heard_by_stars : (s : List ℕ) (i : ℕ) (d : Hop) → i < (read_text_header s).header.path.count
    → (is_heard (get_or (read_text_header s).header.path.hops i d) ≡ true → (j : ℕ) × ((i ≤ j) × (is_set (read_text_header s).stars j ≡ true)))
    × (is_q_element (get_or (read_text_header s).header.path.hops i d) ≡ false → (j : ℕ) → i ≤ j → is_set (read_text_header s).stars j ≡ true → is_heard (get_or (read_text_header s).header.path.hops i d) ≡ true)
line_heard_by_stars s i d h = (answered_heard InLine s i d (line_answered s) h, answered_set InLine s i d (line_answered s) h)

-- a frame has none
pub frame_has_no_stars : (s : List ℕ) → (read_frame_header s).stars ≡ 0
frame_has_no_stars s = answered_starless InFrame s (frame_answered s)

-- a text's hops are written with one star, and carrying it back gives the same hops heard
pub stars_are_kept : (l : List Hop) → (hops_text (carried l) ≡ each_text text_of (starred_last (carried l))) × (carried (starred_last (carried l)) ≡ carried l)
stars_are_kept l = (written_stars (carried l), carried_starred (carried l) ∙ carried_twice l)

-- ---- document 02, R-7: Q elements

-- "never has a star": a Q element of a path as typed stays as it is, at its place, and so it is not heard
pub q_elements_stay : (l : List Hop) (i : ℕ) (d : Hop) → i < length l → is_q_element (get_or l i d) ≡ true → (get_or (carried l) i d ≡ get_or l i d) × (is_heard (get_or (carried l) i d) ≡ false)
q_elements_stay l i d h e = let s = carried_stays l i d h e in (s, ap is_heard s ∙ q_unheard (get_or l i d) e)

-- "is passed over when stars are carried back": the callsigns are heard, and starred again, as if there were no Q elements
pub stars_pass_over : (l : List Hop) → (calls_of (carried l) ≡ carried (calls_of l)) × (calls_of (starred_last l) ≡ starred_last (calls_of l))
stars_pass_over l = (calls_carried l, calls_starred l)

-- "of paths without a callsign so spelt it holds": the path of an accepted text, if no callsign is written like a Q element or ends in a
-- star, reads back from its text, without marks
pub any_text_path_reads_back : (s : List ℕ) → (read_header_text s).refusal ≡ 0 → every reads_alike (starred_last (hops_of (read_header_text s).header.path)) ≡ true
    → ReadsBack (hops_of (read_header_text s).header.path)
any_text_path_reads_back s z = path_back (read_header_text s).header (text_kept s z).hops

-- and so of a line
pub text_path_reads_back : (s : List ℕ) → (read_text_header s).refusal ≡ 0 → every reads_alike (starred_last (hops_of (read_text_header s).header.path)) ≡ true
    → ReadsBack (hops_of (read_text_header s).header.path)
text_path_reads_back s z = path_back (read_text_header s).header (line_kept s z).hops

-- "in a frame it is left out": the frame of a header is that of the header without its Q elements
pub q_elements_leave_frames : (h : Header) → header_in_range h ≡ true → (frame_refusal (without_q h) ≡ frame_refusal h) × (header_frame (without_q h) ≡ header_frame h)
q_elements_leave_frames h e = (same_refusal h e, same_frame h)

-- ---- document 02, R-2: "say when a zero SSID was dropped"

-- the bytes of an accepted text, up to its body, are its callsigns with `-0` where the mark is set, and with the stars that were typed: a
-- hop's by its bit, behind source and destination one or none
pub any_text_is_kept : (s : List ℕ) → (read_header_text s).refusal ≡ 0 → Kept s (read_header_text s)
any_text_is_kept = text_kept

-- and so of a line
pub text_is_kept : (s : List ℕ) → (read_text_header s).refusal ≡ 0 → Kept s (read_text_header s)
text_is_kept = line_kept

-- "In frames it is never set": a header without its marks is that header
pub frame_has_no_mark : (s : List ℕ) → unmarked (read_frame_header s).header ≡ (read_frame_header s).header
frame_has_no_mark = unmarked_read

-- nor by a refusal, which has the blank header
pub blank_has_no_mark : unmarked blank_header ≡ blank_header
blank_has_no_mark = unmarked_blank

-- "Writers ignore it": headers that differ in marks alone are refused alike, and written with the same bytes
pub marks_move_no_text : (h h' : Header) → unmarked h ≡ unmarked h' → (text_refusal h ≡ text_refusal h') × (header_text h ≡ header_text h')
marks_move_no_text h h' e = (alike_without unmarked text_refusal unmarked_text_refusal h h' e, alike_without unmarked header_text unmarked_text h h' e)

pub marks_move_no_frame : (h h' : Header) → unmarked h ≡ unmarked h' → (frame_refusal h ≡ frame_refusal h') × (header_frame h ≡ header_frame h')
marks_move_no_frame h h' e = (alike_without unmarked frame_refusal unmarked_frame_refusal h h' e, alike_without unmarked header_frame unmarked_frame h h' e)

-- ---- frames

-- a header that was written reads back from any frame that starts with it: its Q elements left out, calls raised, SSIDs as
-- numbers, each hop heard as it was
pub frame_reads_back : (h : Header) (body : List ℕ) → frame_refusal h ≡ 0 → length (header_frame h ++ body) ≤ most_bytes
    → read_frame_header (header_frame h ++ body) ≡ header_accepted (in_address h.from) (in_address h.to) (path_of (map in_frame (calls_of (hops_of h.path)))) (length (header_frame h)) 0
frame_reads_back = frame_back

-- ---- P11: hops A,B*,C: A and B heard, C not; written A,B*,C

abbrev hop : ℕ → Bool → Hop
hop letter heard = call_hop (made (letter ∷ []) []) heard

abbrev pub p11_text : List ℕ
p11_text = 65 ∷ comma ∷ 66 ∷ star ∷ comma ∷ 67 ∷ []

abbrev pub p11_hops : List Hop
p11_hops = hop 65 true ∷ hop 66 true ∷ hop 67 false ∷ []

abbrev p11_typed : List Hop
p11_typed = hop 65 false ∷ hop 66 true ∷ hop 67 false ∷ []

pub p11_read : (text_hops 8 (fields p11_text) ≡ Ok p11_typed) × ((carried p11_typed ≡ p11_hops) × (stars_of p11_typed ≡ 2))
unfolding fields on_first text_hops hop_then before read_hop starts_q hop_of read_text read_unstarred parted call_accepted index_of utf8 characters after within is_zero made joined pad_to carried any_of is_heard is_q_element heard_if heard_as call_hop stars_of bit
p11_read = (refl, (refl, refl))

p11_starred : starred_last p11_hops ≡ p11_typed
unfolding starred_last any_of is_heard is_q_element heard_if heard_as call_hop
p11_starred = refl

-- with Q elements anywhere
pub p11_anywhere : (l : List Hop) → calls_of l ≡ p11_typed → (calls_of (carried l) ≡ p11_hops) × (calls_of (starred_last (carried l)) ≡ p11_typed)
p11_anywhere l e =
    let heard : calls_of (carried l) ≡ p11_hops = calls_carried l ∙ ap carried e ∙ p11_read.1.0 in
    (heard, calls_starred (carried l) ∙ ap starred_last heard ∙ p11_starred)

pub p11_written : hops_text p11_hops ≡ comma ∷ p11_text
unfolding hops_text any_of is_heard call_hop heard_as text_of call_part ssid_part with_star made joined pad_to
p11_written = refl
