-- Document 02, T-12, both sides of each edge, as rows that the checker computes: frames and additions one after
-- another, what each is answered, and the image's lines at the end. The expected octets follow from the documents by
-- hand. Assumes nothing.
use Rattle.std.specs.Prelude.{ℕ, zero, suc, ◌+◌, List, [], ◌∷◌, ◌++◌, replicate, length}
use Rattle.model.specs.Rows.{Reply, wrote, refusal, cmd, tck}

-- a frame as octets, or an addition: its number and prefix
pub data Given : Type 0 where
  frame : List ℕ → Given
  add : ℕ → List ℕ → Given

-- a row, and the state that it begins with: opcode 0xFC1E, prefix 4D 53
pub record Example : Type 0 where
  pub given : List Given
  pub replies : List Reply
  pub image : List (List ℕ)

-- done, with nothing written; what 00 returns with a prefix
unfoldable pub ok : Reply
ok = wrote []

unfoldable pub says_prefix : List ℕ → Reply
says_prefix p = wrote (0x0E ∷ (14 + length p) ∷ 0x01 ∷ 0x1E ∷ 0xFC ∷ 0 ∷ 0 ∷ 0x0C ∷ 4 ∷ 0 ∷ 0 ∷ 0 ∷ 0 ∷ 0 ∷ 0 ∷ length
    p ∷ p)

unfoldable pub asks : ℕ → Given
asks n = frame (cmd n (0x00 ∷ []))

-- a number equal to the position and one above; equal to the last edition's and one above; a refusal changes nothing:
-- A4 lines in order
unfoldable pub t12numbers : Example
t12numbers =
    record {
      given = add 0 [] ∷ frame (tck 1) ∷ frame (tck 2) ∷ add 2 [] ∷ add 3 (0x41 ∷ []) ∷ add 3 [] ∷ add 4 [] ∷ [];
      replies = refusal 14 ∷ ok ∷ ok ∷ refusal 14 ∷ ok ∷ refusal 14 ∷ ok ∷ [];
      image = (0xA0 ∷ 2 ∷ 0 ∷ 0 ∷ 0 ∷ 0 ∷ 0x1E ∷ 0xFC ∷ 2 ∷ 0x4D ∷ 0x53 ∷ [])
          ∷ (0xA4 ∷ 0 ∷ 0 ∷ 0 ∷ 0 ∷ 2 ∷ 0x4D ∷ 0x53 ∷ []) ∷ (0xA4 ∷ 3 ∷ 0 ∷ 0 ∷ 0 ∷ 1 ∷ 0x41 ∷ [])
          ∷ (0xA4 ∷ 4 ∷ 0 ∷ 0 ∷ 0 ∷ 0 ∷ []) ∷ (0xAF ∷ 0 ∷ 0 ∷ []) ∷ [];
    }

-- the frame before, at and after an edition's number; one whose number is not reached; A0 has the edition in force at
-- its position
unfoldable pub t12frames : Example
t12frames =
    record {
      given = add 2 (0x41 ∷ []) ∷ add 9 (0x42 ∷ []) ∷ asks 1 ∷ asks 2 ∷ asks 3 ∷ [];
      replies = ok ∷ ok ∷ says_prefix (0x4D ∷ 0x53 ∷ []) ∷ says_prefix (0x41 ∷ []) ∷ says_prefix (0x41 ∷ []) ∷ [];
      image = (0xA0 ∷ 3 ∷ 0 ∷ 0 ∷ 0 ∷ 0 ∷ 0x1E ∷ 0xFC ∷ 1 ∷ 0x41 ∷ []) ∷ (0xA4 ∷ 0 ∷ 0 ∷ 0 ∷ 0 ∷ 2 ∷ 0x4D ∷ 0x53 ∷ [])
          ∷ (0xA4 ∷ 2 ∷ 0 ∷ 0 ∷ 0 ∷ 1 ∷ 0x41 ∷ []) ∷ (0xA4 ∷ 9 ∷ 0 ∷ 0 ∷ 0 ∷ 1 ∷ 0x42 ∷ []) ∷ (0xAF ∷ 0 ∷ 0 ∷ []) ∷ [];
    }

-- an image between an addition and its number
unfoldable pub t12between : Example
t12between =
    record {
      given = add 2 (0x41 ∷ []) ∷ asks 1 ∷ [];
      replies = ok ∷ says_prefix (0x4D ∷ 0x53 ∷ []) ∷ [];
      image = (0xA0 ∷ 1 ∷ 0 ∷ 0 ∷ 0 ∷ 0 ∷ 0x1E ∷ 0xFC ∷ 2 ∷ 0x4D ∷ 0x53 ∷ [])
          ∷ (0xA4 ∷ 0 ∷ 0 ∷ 0 ∷ 0 ∷ 2 ∷ 0x4D ∷ 0x53 ∷ []) ∷ (0xA4 ∷ 2 ∷ 0 ∷ 0 ∷ 0 ∷ 1 ∷ 0x41 ∷ [])
          ∷ (0xAF ∷ 0 ∷ 0 ∷ []) ∷ [];
    }

-- so many additions of an empty prefix, with the numbers from n on
unfoldable pub additions : ℕ → ℕ → List Given
additions zero n = []
additions (suc k) n = add n [] ∷ additions k (suc n)

-- prefix 33 and 32; 32 and 33 editions; 15 before 14, 14 before 13
unfoldable pub t12limits : Example
t12limits =
    record {
      given = add 0 (replicate 33 7) ∷ add 1 (replicate 33 7) ∷ add 1 (replicate 32 7)
          ∷ (additions 30 2 ++ (add 32 [] ∷ add 31 [] ∷ add 32 (replicate 33 7) ∷ []));
      replies = refusal 15 ∷ refusal 15 ∷ ok ∷ (replicate 30 ok ++ (refusal 13 ∷ refusal 14 ∷ refusal 15 ∷ []));
      image = [];
    }

unfoldable pub addition_rows : List Example
addition_rows = t12numbers ∷ t12frames ∷ t12between ∷ t12limits ∷ []
