use Rattle.std.proofs.Common.{arith}
use Rattle.flatten.specs.Ways.{refused-so, read_no, read_right, was_read, flatten-is}
use Rattle.std.proofs.lemmas.Result.{err_from_is_err_and}
use Rattle.flatten.proofs.flatten_clean.Goals as goal

pub returns-in_err-program : goal.returns-in_err-program
returns-in_err-program c =
    let p = err_from_is_err_and c.from_residual.result c.from_residual.ensures.1 in
    rw (p.1, p.2) (refused-so _ _ _ _ _ c.requires (read_no _ _ _ _ (omega arith) c.in_err-program.was c.read_program.ensures))

pub flatten_read-requires : goal.flatten_read-requires
flatten_read-requires c =
    (was_read (read_right _ _ _ c.in_ok-program.was c.read_program.ensures), c.requires, (omega arith))

pub returns : goal.returns
returns c =
    let r = read_right _ _ _ c.in_ok-program.was c.read_program.ensures in
    flatten-is _ _ _ _ _ (r.is _ (omega arith)) (c.flatten_read.ensures _ r.reads r.holds)
