-- What each answer of the reader of messages must show.
-- Assumes nothing.
use mathlib.Core.Path.{◌≡◌, refl, sym, ap, ◌∙◌}
use mathlib.Core.Bool.{Bool, true, false, not}
use mathlib.Core.List.{List}
use Prim.Native.Nat.{ℕ, ◌+◌, ◌-◌, ◌<◌, ◌≤◌}
use native.Mathlib.Omega.{arith}
use lib.ListN.{length, take, drop, get_or, length-drop}
use lib.Seq.{length-take-le}
use borrow.Author.Rules.{part_to_end}
use borrow.Author.Tests.{eq-eqb, ne_eqb, lt-ltb, le-ltb, not-true}
use Rattle.laws.specs.Bytes.{colon, brace, within}
use Rattle.laws.specs.Lists.{index_of}
use Rattle.laws.proofs.Places.{index_le}
use Rattle.laws.proofs.Tests.{not_so, within_low, within_high, within_yes}
use Rattle.message.specs.declared.MessageRead.{MessageRead}
use Rattle.message.specs.Message.{is_text, is_identifier, has_identifier, text_in, identifier_in, is_addressed, is_message, message_accepted, message_refused, read_message}

-- ---- behind the colon: the first `{` of l stands at the place n, or n is l's length

module _ (l : List ℕ) (n : ℕ) (first : n ≡ index_of brace l) where
  within_rest : n ≤ length l
  within_rest = omega (arith, index_le brace l)

  text_of : text_in l ≡ take n l
  unfolding text_in
  text_of = rw (← first)

  pub text_size : length (text_in l) ≡ n
  text_size = ap length text_of ∙ length-take-le n l within_rest

  identifier_size : length (identifier_in l) ≡ length l - n - 1
  unfolding identifier_in
  identifier_size = rw (← first, length-drop (n + 1) l) (omega arith)

  no_text : is_text (take n l) ≡ false → is_addressed l ≡ false
  unfolding is_addressed
  no_text e = rw (text_of, e)

  module _ (text : is_text (take n l) ≡ true) where
    alone : length l - n ≡ 0 → is_addressed l ≡ true
    unfolding is_addressed has_identifier
    alone h = rw (text_of, text, ← first, le-ltb n (length l) (omega arith))

    -- whether what stands behind the `{` is an identifier decides
    module _ (some : length l - n ≡ 0 → ⊥) where
      by_identifier : is_addressed l ≡ within 1 5 (length l - n - 1)
      unfolding is_addressed has_identifier is_identifier
      by_identifier = rw (text_of, text, ← first, lt-ltb n (length l) (omega arith), identifier_size)

      empty : length l - n ≡ 1 → is_addressed l ≡ false
      empty h = by_identifier ∙ not_so (within 1 5 (length l - n - 1)) (λ t. omega (arith, within_low 1 5 (length l - n - 1) t))

      long : 6 < length l - n → is_addressed l ≡ false
      long h = by_identifier ∙ not_so (within 1 5 (length l - n - 1)) (λ t. omega (arith, within_high 1 5 (length l - n - 1) t))

      fits : (length l - n ≡ 1 → ⊥) → length l - n ≤ 6 → is_addressed l ≡ true
      fits h k = by_identifier ∙ within_yes 1 5 (length l - n - 1) (omega arith) (omega arith)

-- ---- the answers

-- what the code takes for what stands behind the colon
abbrev rest : List ℕ → List ℕ
rest s = take (length s - 10) (drop 10 s)

module _ (s : List ℕ) (r : MessageRead) where
  pub message_short : length s < 10 → r ≡ message_refused → r ≡ read_message s
  unfolding read_message is_message
  message_short h e = rw (le-ltb 9 (length s) (omega arith)) e

  module _ (ten : 10 ≤ length s) where
    pub message_no_colon : (get_or s 9 0 ≡ colon → ⊥) → r ≡ message_refused → r ≡ read_message s
    unfolding read_message is_message
    message_no_colon n e = rw (lt-ltb 9 (length s) (omega arith), ne_eqb (get_or s 9 0) colon n) e

    module _ (after : get_or s 9 0 ≡ colon) where
      refused : is_addressed (rest s) ≡ false → r ≡ message_refused → r ≡ read_message s
      unfolding read_message is_message
      refused f e = rw (lt-ltb 9 (length s) (omega arith), eq-eqb (get_or s 9 0) colon after, ← part_to_end s 10, f) e

      accepted : is_addressed (rest s) ≡ true → r ≡ message_accepted (take 9 s) (length (text_in (rest s))) (length (identifier_in (rest s))) → r ≡ read_message s
      unfolding read_message is_message
      accepted f e = rw (lt-ltb 9 (length s) (omega arith), eq-eqb (get_or s 9 0) colon after, ← part_to_end s 10, f) e

      -- u says whether what stands before the `{` is a text
      module _ (n : ℕ) (first : n ≡ index_of brace (rest s)) (u : Bool) (told : u ≡ is_text (take n (rest s))) where
        pub message_no_text : not u ≡ true → r ≡ message_refused → r ≡ read_message s
        message_no_text h e = refused (no_text (rest s) n first (sym told ∙ not-true u h)) e

        module _ (fine : u ≡ true) where
          text : is_text (take n (rest s)) ≡ true
          text = sym told ∙ fine

          parts : (k : ℕ) → k ≡ length (rest s) - n - 1 → r ≡ message_accepted (take 9 s) n k
              → r ≡ message_accepted (take 9 s) (length (text_in (rest s))) (length (identifier_in (rest s)))
          parts k q e = e ∙ rw (text_size (rest s) n first, identifier_size (rest s) n first, q)

          pub message_alone : length (rest s) - n ≡ 0 → r ≡ message_accepted (take 9 s) n 0 → r ≡ read_message s
          message_alone h e = accepted (alone (rest s) n first text h) (parts 0 (omega arith) e)

          module _ (some : length (rest s) - n ≡ 0 → ⊥) where
            pub identifier_empty : length (rest s) - n ≡ 1 → r ≡ message_refused → r ≡ read_message s
            identifier_empty h e = refused (empty (rest s) n first text some h) e

            module _ (more : length (rest s) - n ≡ 1 → ⊥) where
              pub identifier_long : 6 < length (rest s) - n → r ≡ message_refused → r ≡ read_message s
              identifier_long h e = refused (long (rest s) n first text some h) e

              pub message_whole : length (rest s) - n ≤ 6 → r ≡ message_accepted (take 9 s) n (length (rest s) - n - 1) → r ≡ read_message s
              message_whole h e = accepted (fits (rest s) n first text some more h) (parts (length (rest s) - n - 1) refl e)
