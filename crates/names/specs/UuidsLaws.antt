-- Laws of the definitions in Uuids.
use Rattle.std.specs.Prelude.{ℕ, ◌≤◌, refl, Bool, true, false, [], eqb, length}
use Rattle.std.proofs.Common.{arith}
use Rattle.laws.specs.Tests.{pick}
use Rattle.laws.specs.Loops.{every}
use Rattle.model.specs.Quoted.{codes}
use Rattle.names.specs.Names.{named}
use Rattle.names.specs.NamesLaws.{is_short, named-most}
use Rattle.names.specs.Uuids.{service_rows, member_rows_fc, member_rows_fd, member_rows_fe, standard_rows, uuid_name}

-- no UUID has a longer name
pub uuid-name-most : (high low : ℕ) → length (uuid_name high low) ≤ 39
unfolding uuid_name pick service_rows member_rows_fc member_rows_fd member_rows_fe standard_rows every is_short codes
uuid-name-most high low = go (eqb high 24) (eqb high 252) (eqb high 253) (eqb high 254) (eqb high 255)
  where
    go : (a b c d e : Bool)
        → length (pick a (named service_rows low) (pick b (named member_rows_fc low) (pick c (named member_rows_fd low) (
        pick d (named member_rows_fe low) (pick e (named standard_rows low) []))))) ≤ 39
    go true b c d e = named-most service_rows 39 low refl
    go false true c d e = named-most member_rows_fc 39 low refl
    go false false true d e = named-most member_rows_fd 39 low refl
    go false false false true e = named-most member_rows_fe 39 low refl
    go false false false false true = named-most standard_rows 39 low refl
    go false false false false false = omega arith
