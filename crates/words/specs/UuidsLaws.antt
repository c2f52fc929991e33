-- Laws of the definitions in Uuids.
use Rattle.std.specs.Prelude.{ℕ, ◌≡◌, true, false, List, [], ◌++◌, eqb}
use Rattle.std.proofs.Common.{append_assoc}
use Rattle.laws.specs.Tests.{pick}
use Rattle.names.specs.Names.{named}
use Rattle.names.specs.Uuids.{service_rows, member_rows_fc, member_rows_fd, member_rows_fe, standard_rows, uuid_name}
use Rattle.words.specs.Says.{Says}
use Rattle.words.specs.SaysLaws.{same, then}
use Rattle.words.specs.Pieces.{uuid_number}
use Rattle.words.specs.Uuids.{behind_uuid, uuid_text}

-- the name by the octet that chooses the table
module _ (high low : ℕ) where
  pub in-services : eqb high 24 ≡ true → named service_rows low ≡ uuid_name high low
  unfolding uuid_name pick
  in-services a = rw a

  module _ (a : eqb high 24 ≡ false) where
    pub in-fc : eqb high 252 ≡ true → named member_rows_fc low ≡ uuid_name high low
    unfolding uuid_name pick
    in-fc b = rw (a, b)

    module _ (b : eqb high 252 ≡ false) where
      pub in-fd : eqb high 253 ≡ true → named member_rows_fd low ≡ uuid_name high low
      unfolding uuid_name pick
      in-fd d = rw (a, b, d)

      module _ (d : eqb high 253 ≡ false) where
        pub in-fe : eqb high 254 ≡ true → named member_rows_fe low ≡ uuid_name high low
        unfolding uuid_name pick
        in-fe e = rw (a, b, d, e)

        module _ (e : eqb high 254 ≡ false) where
          pub in-standards : eqb high 255 ≡ true → named standard_rows low ≡ uuid_name high low
          unfolding uuid_name pick
          in-standards f = rw (a, b, d, e, f)

          pub in-none : eqb high 255 ≡ false → [] ≡ uuid_name high low
          unfolding uuid_name pick
          in-none f = rw (a, b, d, e, f)

-- words, a UUID's number and its name
pub with-name : (w s : List ℕ) {out out' out'' : List ℕ} {at r q : ℕ} → Says out at (w ++ uuid_number s) out' r
    → Says out' r (behind_uuid s) out'' q → Says out at (w ++ uuid_text s) out'' q
unfolding uuid_text
with-name w s a b = same (append_assoc w (uuid_number s) (behind_uuid s)) (then a b)
