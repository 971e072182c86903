use Rattle.sst_program.proofs.EntryTexts.EntryParts.{line-without_space, line-with_one_space, line-with_two_spaces, line-with_parts}
use Rattle.sst_program.proofs.lines.parts_of.Goals as goal

pub returns-in_err-letter-clause-none : goal.returns-in_err-letter-clause-none
returns-in_err-letter-clause-none c =
    rw c.from_residual.ensures (line-without_space c.args.line.now c.in_err-letter.ensures.none)

pub returns-in_err-seqno-clause-none : goal.returns-in_err-seqno-clause-none
returns-in_err-seqno-clause-none c =
    rw c.from_residual-in_err-seqno.ensures
    (line-with_one_space c.args.line.now c.in_ok-letter.letter.now c.in_ok-letter.rest.now
    c.in_ok-letter.ensures.joined c.in_ok-letter.ensures.first c.in_err-seqno.ensures.none)

pub returns-in_err-key-clause-none : goal.returns-in_err-key-clause-none
returns-in_err-key-clause-none c =
    rw c.from_residual-in_err-key.ensures
    (line-with_two_spaces c.args.line.now c.in_ok-letter.letter.now c.in_ok-letter.rest.now c.in_ok-seqno.seqno.now c.in_ok-seqno.rest.now
    c.in_ok-letter.ensures.joined c.in_ok-letter.ensures.first c.in_ok-seqno.ensures.joined c.in_ok-seqno.ensures.first c.in_err-key.ensures.none)

pub returns-clause-some : goal.returns-clause-some
returns-clause-some c =
    line-with_parts c.args.line.now c.in_ok-letter.letter.now c.in_ok-letter.rest.now c.in_ok-seqno.seqno.now c.in_ok-seqno.rest.now c.in_ok-key.key.now c.in_ok-key.value.now
    c.in_ok-letter.ensures.joined c.in_ok-letter.ensures.first c.in_ok-seqno.ensures.joined c.in_ok-seqno.ensures.first c.in_ok-key.ensures.joined c.in_ok-key.ensures.first
