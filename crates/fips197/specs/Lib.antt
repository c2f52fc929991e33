-- AES-128 after FIPS 197 (sections, algorithms and tables are numbered as in the edition of 2023): the field of 256
-- elements and the substitution rule, words of four octets, the cipher, the key schedule, the rules of tables, laws,
-- an example.
pub mod Field
pub mod Words
pub mod WordsLaws
pub mod Cipher
pub mod Tables
pub mod TablesLaws
pub mod Laws
pub mod Computed
pub mod ExamplesLaws
