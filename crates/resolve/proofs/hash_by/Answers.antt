use Rattle.resolve.specs.Laws.{hash-of}
use Rattle.resolve.proofs.hash_by.Goals as goal

pub returns : goal.returns
returns c = let s = c.encrypt-s in
    let k = c.key_block.ensures in
    let p = c.prand_block.ensures in
    rw (c.octet3.ensures.0, c.octet2.ensures.0, c.octet1.ensures.0)
    (hash-of _ _ s.result (rw (k, p) at s.ensures))
