use Rattle.std.proofs.Common.{arith}
use Rattle.state.specs.StartLaws.{refused-in, fresh-not, fresh_in_lem, settings-in, settings-low, settings-long, octets-known}
use Rattle.state.proofs.put_fresh.Goals as goal

pub returns-then-opcode-lt-LEAST_OPCODE : goal.returns-then-opcode-lt-LEAST_OPCODE
returns-then-opcode-lt-LEAST_OPCODE c = let a = c.args in
    refused-in a.block.now a.opcode a.prefix.now
    (settings-low a.opcode a.prefix.now c.if-opcode-lt-LEAST_OPCODE.true) c.put_blank.ensures

pub returns-then-prefix-gt-PREFIX : goal.returns-then-prefix-gt-PREFIX
returns-then-prefix-gt-PREFIX c = let a = c.args in
    refused-in a.block.now a.opcode a.prefix.now
    (settings-long a.opcode a.prefix.now c.if-prefix-gt-PREFIX.true) c.put_blank-then-prefix-gt-PREFIX.ensures

pub returns-then-block-eq-SIZE : goal.returns-then-block-eq-SIZE
returns-then-block-eq-SIZE c = let a = c.args in
    fresh_in_lem a.block.now a.opcode a.prefix.now
    (settings-in a.opcode a.prefix.now (omega arith) (omega arith) (omega arith)
    (octets-known a.prefix.now (λ i. omega (
      arith,
      c.shared_slice_known-1.given i,
    )))) (omega arith) (omega arith) c.fill.ensures.0
    c.fill.ensures.1 c.set_settings.ensures

pub returns-else-block-eq-SIZE : goal.returns-else-block-eq-SIZE
returns-else-block-eq-SIZE c = let a = c.args in
    fresh-not a.block.now a.opcode a.prefix.now
    (settings-in a.opcode a.prefix.now (omega arith) (omega arith) (omega arith)
    (octets-known a.prefix.now (λ i. omega (arith, c.shared_slice_known-1.given i))))
    (λ e. c.if-block-eq-SIZE.false e)
