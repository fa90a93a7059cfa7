use Rattle.std.proofs.Common.{arith}
use Rattle.dn_cert.proofs.SpelledBody.{body_few, room_for_body, number_of_bytes, body_there}
use Rattle.dn_cert.proofs.checking.body_part.Goals as goal

pub body_length-requires : goal.body_length-requires
body_length-requires c = omega (arith, room_for_body c.args.bytes.now c.args.body.now c.args.signatures.now c.requires.spelled)

pub slice_bounds-result-end : goal.slice_bounds-result-end
slice_bounds-result-end c =
    let bytes = c.args.bytes.now in
    let b = c.args.body.now in
    let signatures = c.args.signatures.now in
    omega (
      arith,
      c.body_length.ensures,
      number_of_bytes bytes b signatures c.requires.spelled (body_few b signatures c.requires.fits),
      room_for_body bytes b signatures c.requires.spelled,
    )

pub returns : goal.returns
returns c =
    let bytes = c.args.bytes.now in
    let b = c.args.body.now in
    let signatures = c.args.signatures.now in
    body_there bytes b signatures c.requires.spelled _
    (omega (arith, c.body_length.ensures, number_of_bytes bytes b signatures c.requires.spelled (body_few b signatures c.requires.fits)))
