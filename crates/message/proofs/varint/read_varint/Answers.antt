use Rattle.std.proofs.Common.{arith}
use Rattle.std.proofs.lemmas.Bool.Decides.{nat_tests}
use Rattle.message.proofs.Varints.{at_more, at_last, at_end}
use Rattle.message.proofs.varint.read_varint.Goals as goal

pub loop-at-preserved : goal.loop-at-preserved
loop-at-preserved c =
    at_more _ _ _ _ c.loop-at.invariant _ c.if-at-ge5.false c.if-at-bytes.false c.if-b-lt128.false (omega (arith, c.type_inv.bytes c.loop-at.at)) c.from-in-loop-at.ensures

pub returns-then-v-lt4294967296 : goal.returns-then-v-lt4294967296
returns-then-v-lt4294967296 c = rw (at_last _ _ _ _ c.loop-at.invariant c.if-at-bytes.false c.if-b-lt128.true) (grind (arith, nat_tests))

pub returns-then-at-ge5 : goal.returns-then-at-ge5
returns-then-at-ge5 c = at_end _ _ _ _ c.loop-at.invariant c.then-at-ge5.either

pub returns-then-at-gt0 : goal.returns-then-at-gt0
returns-then-at-gt0 c = rw (at_last _ _ _ _ c.loop-at.invariant c.if-at-bytes.false c.if-b-lt128.true) (grind (arith, nat_tests))

pub returns-else-v-lt4294967296 : goal.returns-else-v-lt4294967296
returns-else-v-lt4294967296 c = rw (at_last _ _ _ _ c.loop-at.invariant c.if-at-bytes.false c.if-b-lt128.true) (grind (arith, nat_tests))
