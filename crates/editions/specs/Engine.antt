-- The engine with editions, as a machine of the crate sessions, and what is added to it. Document 02, T-12.
-- Definitions alone.
use Rattle.std.specs.Prelude.{ℕ, ◌≤◌, ◌≡◌, true}
use Rattle.laws.specs.Loops.{every}
use Rattle.octets.specs.Little.{is_octet}
use Rattle.sessions.specs.Machine.{Machine, last_number}
use Rattle.model.specs.Frames.{Body, read, write}
use Rattle.editions.specs.Editions.{Edition, Gateway, sound_gateway, act_on, image_on, read_on}

abbrev pub gateways : Machine
gateways =
    record {
      S = Gateway;
      Body = Body;
      pos = λ g. g.core.position;
      sound = sound_gateway;
      read = read;
      write = write;
      act = act_on;
      encode = image_on;
      decode = read_on;
    }

-- what is given to be added: a number of 4 octets, and octets
pub record Addition : Type 0 where
  pub edition : Edition
  pub fits : edition.from ≤ last_number
  pub octets : every is_octet edition.prefix ≡ true
