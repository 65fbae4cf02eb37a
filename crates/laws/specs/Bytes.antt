-- Bytes by name, and the classes of characters that the documents speak of.
-- Assumes nothing.
use Rattle.std.specs.Prelude.{ℕ, ◌-◌, Bool, cond, ◌&&◌, ◌||◌, nat_le}

-- ---- single bytes

abbrev pub space : ℕ
space = 0x20

abbrev pub bang : ℕ
bang = 0x21

abbrev pub apostrophe : ℕ
apostrophe = 0x27

abbrev pub star : ℕ
star = 0x2a

abbrev pub plus : ℕ
plus = 0x2b

abbrev pub comma : ℕ
comma = 0x2c

abbrev pub dash : ℕ
dash = 0x2d

abbrev pub point : ℕ
point = 0x2e

abbrev pub slash : ℕ
slash = 0x2f

abbrev pub digit0 : ℕ
digit0 = 0x30

abbrev pub digit9 : ℕ
digit9 = 0x39

abbrev pub colon : ℕ
colon = 0x3a

abbrev pub equals : ℕ
equals = 0x3d

abbrev pub greater : ℕ
greater = 0x3e

abbrev pub at_sign : ℕ
at_sign = 0x40

abbrev pub capital_a : ℕ
capital_a = 0x41

abbrev pub capital_b : ℕ
capital_b = 0x42

abbrev pub capital_c : ℕ
capital_c = 0x43

abbrev pub capital_e : ℕ
capital_e = 0x45

abbrev pub capital_i : ℕ
capital_i = 0x49

abbrev pub capital_j : ℕ
capital_j = 0x4a

abbrev pub capital_k : ℕ
capital_k = 0x4b

abbrev pub capital_l : ℕ
capital_l = 0x4c

abbrev pub capital_n : ℕ
capital_n = 0x4e

abbrev pub capital_o : ℕ
capital_o = 0x4f

abbrev pub capital_p : ℕ
capital_p = 0x50

abbrev pub capital_r : ℕ
capital_r = 0x52

abbrev pub capital_s : ℕ
capital_s = 0x53

abbrev pub capital_t : ℕ
capital_t = 0x54

abbrev pub capital_u : ℕ
capital_u = 0x55

abbrev pub capital_w : ℕ
capital_w = 0x57

abbrev pub capital_x : ℕ
capital_x = 0x58

abbrev pub capital_y : ℕ
capital_y = 0x59

abbrev pub capital_z : ℕ
capital_z = 0x5a

abbrev pub backslash : ℕ
backslash = 0x5c

abbrev pub backquote : ℕ
backquote = 0x60

abbrev pub small_a : ℕ
small_a = 0x61

abbrev pub small_h : ℕ
small_h = 0x68

abbrev pub small_o : ℕ
small_o = 0x6f

abbrev pub small_q : ℕ
small_q = 0x71

abbrev pub small_r : ℕ
small_r = 0x72

abbrev pub small_z : ℕ
small_z = 0x7a

abbrev pub brace : ℕ
brace = 0x7b

abbrev pub bar : ℕ
bar = 0x7c

abbrev pub closing_brace : ℕ
closing_brace = 0x7d

abbrev pub tilde : ℕ
tilde = 0x7e

abbrev pub carriage_return : ℕ
carriage_return = 0x0d

abbrev pub line_feed : ℕ
line_feed = 0x0a

-- ---- classes

-- from lo to hi, both included
unfoldable pub within : ℕ → ℕ → ℕ → Bool
within lo hi b = nat_le lo b && nat_le b hi

abbrev pub is_digit : ℕ → Bool
is_digit b = within digit0 digit9 b

abbrev pub is_capital : ℕ → Bool
is_capital b = within capital_a capital_z b

abbrev pub is_small : ℕ → Bool
is_small b = within small_a small_z b

abbrev pub is_letter_or_digit : ℕ → Bool
is_letter_or_digit b = is_digit b || is_capital b || is_small b

-- a small letter raised to its capital; any other byte as it is
unfoldable pub raised : ℕ → ℕ
raised b = cond (is_small b) (b - 32) b
