use Rattle.std.proofs.Common.{ℕ, Vec, Global, arith}
use Rattle.std.proofs.lemmas.Result.{err_from_is_err_and}
use Rattle.dn_io.proofs.WholeLemmas.{read_err}
use Rattle.dn_io.proofs.reading.read_whole.Goals as goal

pub returns-in_err-read_piece-clause-bytes : goal.returns-in_err-read_piece-clause-bytes
returns-in_err-read_piece-clause-bytes g c =
    let p = err_from_is_err_and c.from_residual.result c.from_residual.ensures.1 in
    rw (p.1, p.2)
    (read_err {T = Vec ℕ Global} (λ v. v.items) _ _ _ _ _ c.args.limit _ c.loop-bytes.bytes.items _ _ c.loop-bytes.invariant (omega arith) (omega arith) c.in_err-read_piece.ensures.bytes)
