use Rattle.std.proofs.Common.{arith, ap, ◌∙◌, ◌-◌, length}
use Rattle.dn_records.specs.Records.{statement_bytes}
use Rattle.dn_seal.specs.Signer.{heading}
use Rattle.dn_seal.proofs.EnvelopeLemmas.{envelope_parts, length-envelope, middle}
use Rattle.dn_seal.proofs.said.statement_part.Goals as goal

pub overflow_sub-result : goal.overflow_sub-result
overflow_sub-result c =
    let e = c.args.envelope.now in
    omega (arith, length-envelope e.signer e.statement e.signature, ap length c.requires.1, ap length c.get.ensures)

pub slice_bounds-result-count : goal.slice_bounds-result-count
slice_bounds-result-count c =
    let e = c.args.envelope.now in
    omega (arith, length-envelope e.signer e.statement e.signature, ap length c.requires.1, ap length c.get.ensures)

pub slice_bounds-result-start : goal.slice_bounds-result-start
slice_bounds-result-start c =
    let e = c.args.envelope.now in
    omega (arith, length-envelope e.signer e.statement e.signature, ap length c.requires.1, ap length c.get.ensures)

pub returns : goal.returns
returns c =
    let e = c.args.envelope.now in
    middle c.args.bytes.now (heading e.signer (length (statement_bytes e.statement))) (statement_bytes e.statement) e.signature 9 (length c.args.bytes.now - length c.get.result.now - 9) (c.requires.1 ∙ envelope_parts e.signer e.statement e.signature) (omega arith)
    (omega (arith, length-envelope e.signer e.statement e.signature, ap length c.requires.1, ap length c.get.ensures))
