-- Commands and their answers in words (docs/FORMATS.md, What `show` writes: command, Command Complete). Definitions
-- alone.
use Rattle.std.specs.Prelude.{ℕ, ◌+◌, ◌-◌, Bool, false, not, ◌&&◌, ◌||◌, List, [], ◌++◌, leb, ltb, eqb, length, drop}
use Rattle.laws.specs.Tests.{pick}
use Rattle.octets.specs.Numbers.{number_at}
use Rattle.decimals.specs.Decimals.{decimal}
use Rattle.lines.specs.Hex.{hex_of}
use Rattle.model.specs.Quoted.{codes}
use Rattle.words.specs.Pieces.{part_of, number_text}
use Rattle.fields.specs.Names.{status_text, sub_text, switch_text, prefix_text}
use Rattle.fields.specs.Monitors.{condition_text, limits_text, peer_text}

-- parameters that are not of their command's form, where there are any
unfoldable pub raw_text : List ℕ → List ℕ
raw_text s = pick (eqb (length s) 0) [] (codes ", parameters " ++ hex_of s)

-- those of the commands that add a monitor, in both versions, behind the sub-opcode
unfoldable pub add_text : List ℕ → List ℕ
add_text s = pick (ltb (length s) 5) (raw_text s) (codes "," ++ limits_text s ++ condition_text (number_at 1 s 4) (drop 5 s))

unfoldable pub add2_text : List ℕ → List ℕ
add2_text s =
    pick (ltb (length s) 30) (raw_text s)
    (codes "," ++ limits_text s ++ peer_text (drop 4 s) ++ condition_text (number_at 1 s 29) (drop 30 s))

unfoldable pub cancel_text : List ℕ → List ℕ
cancel_text s = pick (eqb (length s) 1) (codes ", handle " ++ decimal (number_at 1 s 0)) (raw_text s)

unfoldable pub enable_text : List ℕ → List ℕ
enable_text s = pick (eqb (length s) 1 && leb (number_at 1 s 0) 1) (codes ", " ++ switch_text (number_at 1 s 0)) (raw_text s)

-- the parameters behind a sub-opcode
unfoldable pub parameters_text : ℕ → List ℕ → List ℕ
parameters_text sub s =
    pick (eqb sub 3) (add_text s)
    (pick (eqb sub 15) (add2_text s) (pick (eqb sub 4) (cancel_text s) (pick (eqb sub 5) (enable_text s) (raw_text s))))

-- a command: opcode, length, parameters
unfoldable pub command_text : List ℕ → List ℕ
command_text s =
    (codes ": opcode 0x" ++ number_text (part_of s 0 2)) ++ codes ", " ++ sub_text (number_at 1 s 3)
    ++ parameters_text (number_at 1 s 3) (drop 4 s)

-- what a Command Complete returns behind status and sub-opcode
unfoldable pub returned_text : ℕ → ℕ → List ℕ → List ℕ
returned_text status sub s =
    pick (eqb status 0) (pick (eqb sub 3 || eqb sub 15) (codes ", handle " ++ decimal (number_at 1 s 0)) (
    pick (eqb sub 0) ((codes ", features 0x" ++ number_text (part_of s 0 8)) ++ prefix_text (drop 9 s)) [])) []

-- a Command Complete: opcode, status, sub-opcode, what is returned
unfoldable pub complete_text : List ℕ → List ℕ
complete_text s =
    (codes "command complete: opcode 0x" ++ number_text (part_of s 3 2)) ++ codes ", " ++ sub_text (number_at 1 s 6)
    ++ codes ", "
    ++ status_text (number_at 1 s 5) ++ returned_text (number_at 1 s 5) (number_at 1 s 6) (drop 7 s)

-- how many octets it has behind status and sub-opcode, by them and by the length of the prefix
unfoldable pub expected_of : ℕ → ℕ → ℕ → ℕ
expected_of status sub prefix =
    pick (eqb sub 3 || eqb sub 15) 1
    (pick (not (eqb status 0) || not (eqb sub 0)) 0 (pick (ltb 32 prefix) 0 (9 + prefix)))

-- whether an event is a Command Complete of an answer
unfoldable pub is_complete : List ℕ → Bool
is_complete s =
    pick (ltb (length s) 7) false ((eqb (length s - 7) (expected_of (number_at 1 s 5) (number_at 1 s 6) (number_at 1 s 15))
    && eqb (number_at 1 s 1) (length s - 2)) && eqb (number_at 1 s 2) 1)
