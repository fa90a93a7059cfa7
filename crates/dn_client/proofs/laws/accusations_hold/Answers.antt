use Rattle.std.proofs.lemmas.List.Elements.{All-contains}
use Rattle.dn_client.specs.Client.{IsAccused}
use Rattle.dn_client.proofs.laws.accusations_hold.Goals as goal

pub returns : goal.returns
returns c = λ v a is there.
    let made = All-contains (IsAccused v.who v.chain v.signed_as_slot) v.accused a is.accused there in
    (made.body, made.lengths, made.held, made.after, made.valid)
