use Rattle.std.proofs.Common.{subst}
use Rattle.std.proofs.lemmas.Result.{IfOk-weaker}
use Rattle.dn_state.specs.Inside.{parts_of}
use Rattle.dn_state.specs.Acting.{TellsCertified}
use Rattle.dn_state.specs.Telling.{TellsRound}
use Rattle.dn_state.proofs.acting.tell_certified.Goals as goal

pub returns-clause-tells : goal.returns-clause-tells
returns-clause-tells c =
    let given = parts_of record c.state.inside { chain = c.follow.new.chain } in
    IfOk-weaker c.tell_round.result _ _
    (λ _ told. (
      told.0,
      subst (λ v. TellsCertified c.args.certificate.now v c.tell_round.new.state told.0) c.state.view_is (record {
        chain = c.follow.new.chain;
        given = c.in_ok-follow.ensures;
        tells = subst (λ b. TellsRound given b c.tell_round.new.state told.0) c.body.ensures.value told.1;
      }),
      told.2,
    ))
    c.tell_round.ensures.tells
