use Rattle.std.proofs.Common.{◌≡◌, ◌<◌, eqb, [], length, get_or, Some, sym, ap, ◌∙◌, arith}
use Rattle.std.specs.Prelude.{slice_get}
use Rattle.std.proofs.lemmas.Option.{slice_get-get_or, same_Some}
use Rattle.std.proofs.lemmas.Slice.Eq.{bytes_eq-Decides}
use Rattle.std.specs.Cmp.Lexicographic.{pointwise}
use Rattle.dn_hash.specs.Digests.{server_digest_of}
use Rattle.dn_trace.specs.Trial.{round_of}
use Rattle.dn_trace.proofs.showing.has_digest.Goals as goal

pub returns : goal.returns
returns c =
    let trial = c.args.case.now in
    let j = c.args.j.0 in
    let due = server_digest_of (round_of trial).0 j c.args.bytes.now in
    let digests : c.get.result.now ≡ trial.body.digests = c.get.ensures ∙ ap (λ b. b.digests) c.body-body.ensures.value in
    let within : j < length trial.body.digests = omega (arith, c.body-body.ensures.fits.digests, c.requires) in
    let kept = get_or trial.body.digests j [] in
    let there : slice_get trial.body.digests j ≡ Some kept = slice_get-get_or trial.body.digests j [] within in
    let own : c.server_digest.result ≡ due = c.server_digest.ensures ∙ ap (λ r. server_digest_of r.0 j c.args.bytes.now) c.round.ensures in
    let compared : c.eq.result ≡ pointwise eqb due kept = c.eq.ensures ∙ (λ i. pointwise eqb (own i) (get_or (digests i) j [])) in
    let decides = bytes_eq-Decides due kept in
    ((λ t. there ∙ ap Some (sym (decides.0 (sym compared ∙ t)))), (λ e. compared ∙ decides.1 (same_Some due kept (sym e ∙ there))))
