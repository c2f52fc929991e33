-- What an example of a resolved address computes with. A theorem that names `computed` on its unfolding line unfolds
-- every definition that is named here, the cipher's too. Assumes nothing.
use Rattle.std.specs.Prelude.{ℕ}
use Rattle.octets.specs.Little.{octets_of, value}
use Rattle.fips197.specs.Computed.{computed as cipher_computed}
use Rattle.resolve.specs.Resolve.{big_octets, big_value, e, ah, key_of, hash_of, prand_of, resolvable, resolves_by}

-- The number says nothing; the names under it do.
unfoldable pub computed : ℕ
unfolding octets_of value big_octets big_value e ah key_of hash_of prand_of resolvable resolves_by cipher_computed
computed = 0
