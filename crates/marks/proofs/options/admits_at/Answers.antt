use Rattle.marks.proofs.OptionsLaws.{admits-first, admits-any, admits-peer, admits-key}
use Rattle.marks.proofs.options.admits_at.Goals as goal

pub returns-then-options-eq0 : goal.returns-then-options-eq0
returns-then-options-eq0 c = let a = c.args in
    admits-first a.s.now a.h a.payload.now c.if-options-eq0.true

pub returns-then-options-eq1 : goal.returns-then-options-eq1
returns-then-options-eq1 c = let a = c.args in
    admits-any a.s.now a.h a.payload.now c.if-options-eq0.false c.if-options-eq1.true

pub returns-then-is_peer_at : goal.returns-then-is_peer_at
returns-then-is_peer_at c = let a = c.args in
    admits-peer a.s.now a.h a.payload.now c.if-options-eq0.false c.if-options-eq1.false
    c.is_peer_at.ensures c.if-is_peer_at.true

pub returns : goal.returns
returns c = let a = c.args in
    admits-key a.s.now a.h a.payload.now c.if-options-eq0.false c.if-options-eq1.false
    c.is_peer_at.ensures c.if-is_peer_at.false c.is_owner_at.ensures
