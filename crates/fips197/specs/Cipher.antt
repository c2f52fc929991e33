-- AES-128 after FIPS 197, section 5: the state, the four transformations, the key schedule and the cipher.
-- A state, a block, a key and a round key are lists of 16 octets, in[0] first. Assumes nothing.
use Rattle.std.specs.Prelude.{ℕ, zero, suc, ◌+◌, ◌-◌, ◌*◌, ◌/◌, ◌%◌, List, [], ◌∷◌, ◌++◌, eqb, get_or}
use Rattle.laws.specs.Tests.{pick}
use Rattle.fips197.specs.Field.{◌⊕◌, xtimes, ◌•◌, substitute}
use Rattle.fips197.specs.Words.{word, sums, rotated}

-- 3.4: s[r, c], in row r and column c of the state, is octet r + 4c
unfoldable pub cell : List ℕ → ℕ → ℕ → ℕ
cell s r c = get_or s (r + 4 * c) 0

-- 3.5: column c of a state is a word
unfoldable pub column : List ℕ → ℕ → List ℕ
column s c = word (λ r. cell s r c)

-- a state from its four columns, and from its octets by row and column
unfoldable pub columns : (ℕ → List ℕ) → List ℕ
columns g = g 0 ++ g 1 ++ g 2 ++ g 3

unfoldable pub state : (ℕ → ℕ → ℕ) → List ℕ
state f = columns (λ c. word (λ r. f r c))

-- 5.1.1, SUBBYTES: every octet by the substitution rule
unfoldable pub sub_bytes : List ℕ → List ℕ
sub_bytes s = state (λ r c. substitute (cell s r c))

-- 5.1.2, SHIFTROWS: row r moves r places to the left
unfoldable pub shift_rows : List ℕ → List ℕ
shift_rows s = state (λ r c. cell s r ((c + r) % 4))

-- 5.1.3: a column of octets s0 to s3, multiplied by the matrix of MIXCOLUMNS
unfoldable pub mix_column : ℕ → ℕ → ℕ → ℕ → List ℕ
mix_column s0 s1 s2 s3 =
    2 • s0 ⊕ 3 • s1 ⊕ s2 ⊕ s3
    ∷ s0 ⊕ 2 • s1 ⊕ 3 • s2 ⊕ s3
    ∷ s0 ⊕ s1 ⊕ 2 • s2 ⊕ 3 • s3
    ∷ 3 • s0 ⊕ s1 ⊕ s2 ⊕ 2 • s3
    ∷ []

-- 5.1.3, MIXCOLUMNS: every column
unfoldable pub mix_columns : List ℕ → List ℕ
mix_columns s = columns (λ c. mix_column (cell s 0 c) (cell s 1 c) (cell s 2 c) (cell s 3 c))

-- 5.1.4, ADDROUNDKEY: the sum of the state and a round key, whose words are its columns
unfoldable pub add_round_key : List ℕ → List ℕ → List ℕ
add_round_key s k = state (λ r c. cell s r c ⊕ cell k r c)

-- 5.2, ROTWORD: the octets of a word, moved one place to the left
unfoldable pub rot_word : List ℕ → List ℕ
rot_word w = rotated 1 w

-- 5.2, SUBWORD: every octet of a word by the substitution rule
unfoldable pub sub_word : List ℕ → List ℕ
sub_word w = word (λ r. substitute (get_or w r 0))

-- {02} to the power n
unfoldable pub power_of_x : ℕ → ℕ
power_of_x zero = 1
power_of_x (suc n) = xtimes (power_of_x n)

-- 5.2, table 5: Rcon[j] is {02} to the power j - 1, then three octets {00}
unfoldable pub rcon : ℕ → List ℕ
rcon j = power_of_x (j - 1) ∷ 0 ∷ 0 ∷ 0 ∷ []

-- 5.2, algorithm 2, lines 8 to 13, at Nk = 4: temp for word i, from the words i - 4 to i - 1, the columns of k
unfoldable pub temp : ℕ → List ℕ → List ℕ
temp i k = pick (eqb (i % 4) 0) (sums (sub_word (rot_word (column k 3))) (rcon (i / 4))) (column k 3)

-- line 14, w[i] = w[i - 4] ⊕ temp: the words i - 3 to i, from the words i - 4 to i - 1
unfoldable pub next_words : ℕ → List ℕ → List ℕ
next_words i k = column k 1 ++ column k 2 ++ column k 3 ++ sums (column k 0) (temp i k)

-- 5.2, KEYEXPANSION: the words w[i] to w[i + 3] of the key schedule
unfoldable pub key_expansion : List ℕ → ℕ → List ℕ
key_expansion key zero = key
key_expansion key (suc i) = next_words (i + 4) (key_expansion key i)

-- the round key of a round: w[4 * round] to w[4 * round + 3]
unfoldable pub round_key : List ℕ → ℕ → List ℕ
round_key key round = key_expansion key (4 * round)

-- 5.1, algorithm 1, lines 4 to 9: the state s after n rounds
unfoldable pub rounds : List ℕ → List ℕ → ℕ → List ℕ
rounds key s zero = s
rounds key s (suc n) = add_round_key (mix_columns (shift_rows (sub_bytes (rounds key s n)))) (round_key key (suc n))

-- 5.1, algorithm 1, CIPHER at Nr = 10
unfoldable pub cipher : List ℕ → List ℕ → List ℕ
cipher key block =
    let s = rounds key (add_round_key block (round_key key 0)) 9 in
    add_round_key (shift_rows (sub_bytes s)) (round_key key 10)
